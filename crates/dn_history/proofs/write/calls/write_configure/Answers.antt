use Rattle.dn_history.proofs.Words.{◌∙◌}
use Rattle.dn_history.proofs.write.calls.write_configure.Goals as goal

pub returns : goal.returns
returns c = rw (c.number.ensures, c.as_str.ensures.value ∙ c.in_ok-text.ensures.text) at c.write.ensures.ok
