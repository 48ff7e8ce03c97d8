use Rattle.dn_config.proofs.Vocabulary.{is_line_feed}
use Rattle.dn_config.proofs.Prefixes.{no_position}
use Rattle.dn_config.proofs.tokens.lines.line_len.Goals as goal

pub returns-clause-value : goal.returns-clause-value
returns-clause-value c = no_position is_line_feed _ _ c.loop-i-test.false c.loop-i.auto.i-end c.loop-i.invariant
