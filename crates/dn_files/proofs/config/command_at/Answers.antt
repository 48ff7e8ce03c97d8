use Rattle.dn_files.proofs.Words.{Err, Ok, answer, ap, sym, ◌∙◌}
use Rattle.dn_files.proofs.Commands.{no_text, said}
use Rattle.dn_files.proofs.config.command_at.Goals as goal

pub returns-in_default-clause-value : goal.returns-in_default-clause-value
returns-in_default-clause-value c = sym (no_text c.args.number c.args.line.now c.in_default.ensures.cases.0)

pub returns-in-Ok-parse_line-clause-value : goal.returns-in-Ok-parse_line-clause-value
returns-in-Ok-parse_line-clause-value c =
    let line = c.in-Ok.ensures.cases in
    sym (said c.args.number c.args.line.now (Ok c.in-Ok-parse_line.command) line.1 (ap answer (sym line.0) ∙ sym c.in-Ok-parse_line.ensures))

pub returns-in-Err-clause-value : goal.returns-in-Err-clause-value
returns-in-Err-clause-value c =
    let line = c.in-Ok.ensures.cases in
    rw c.line_fault.ensures (sym (said c.args.number c.args.line.now (Err c.in-Err.fault) line.1 (ap answer (sym line.0) ∙ sym c.in-Err.ensures)))
