use Rattle.dn_config.proofs.Vocabulary.{is_separator}
use Rattle.dn_config.proofs.Prefixes.{whole_prefix}
use Rattle.dn_config.proofs.tokens.words.gap_len.Goals as goal

pub returns-clause-value : goal.returns-clause-value
returns-clause-value c = whole_prefix is_separator _ _ c.loop-i-test.false c.loop-i.auto.i-end c.loop-i.invariant
