use Rattle.dn_live.proofs.Words.{Err, Ok, ap, sym, ◌∙◌}
use Rattle.dn_config.specs.Line.{answer}
use Rattle.dn_live.proofs.Commands.{no_text, said_is}
use Rattle.dn_live.proofs.read_line.read_command.Goals as goal

pub returns-in_default : goal.returns-in_default
returns-in_default c = sym (no_text c.args.line.now c.in_default.ensures.cases.0)

pub returns-in-Ok-parse_line : goal.returns-in-Ok-parse_line
returns-in-Ok-parse_line c =
    let line = c.in-Ok.ensures.cases in
    sym (said_is c.args.line.now (Ok c.in-Ok-parse_line.command) line.1 (ap answer (sym line.0) ∙ sym c.in-Ok-parse_line.ensures))

pub returns-in-Err : goal.returns-in-Err
returns-in-Err c =
    let line = c.in-Ok.ensures.cases in
    sym (said_is c.args.line.now (Err c.in-Err.fault) line.1 (ap answer (sym line.0) ∙ sym c.in-Err.ensures))
