use Rattle.dn_files.proofs.Words.{IfErr-weaker, IfOk-weaker, commands_in, config_limit}
use Rattle.dn_files.specs.declared.source.Source.TheVariants.{Config}
use Rattle.dn_files.proofs.Inputs.{refused}
use Rattle.dn_files.proofs.config.read_config.Goals as goal

pub returns-clause-ok : goal.returns-clause-ok
returns-clause-ok g c =
    let text = c.in_ok-text.text.items in
    IfOk-weaker c.commands_of_text.result _ _ (λ commands read. (text, c.in_ok-text.ensures.text, rw c.in_ok-text.ensures.within (rw c.as_slice.ensures.value at read))) c.commands_of_text.ensures.ok

pub returns-clause-err : goal.returns-clause-err
returns-clause-err g c =
    let text = c.in_ok-text.text.items in
    IfErr-weaker c.commands_of_text.result _ _ (λ fault own. refused Config config_limit commands_in (g.I.Inlet.remaining c.args.reader.now) (g.I.Inlet.has_failed c.read_input.new.reader) text fault
    c.in_ok-text.ensures.sound c.in_ok-text.ensures.text c.in_ok-text.ensures.within (rw c.as_slice.ensures.value at own)) c.commands_of_text.ensures.err
