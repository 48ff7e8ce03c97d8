use Rattle.dn_config.proofs.Vocabulary.{is_ascii_digit}
use Rattle.dn_config.proofs.Prefixes.{whole_prefix}
use Rattle.dn_config.proofs.tokens.digits.digits_len.Goals as goal

pub returns-clause-value : goal.returns-clause-value
returns-clause-value c = whole_prefix is_ascii_digit _ _ c.loop-i-test.false c.loop-i.auto.i-end c.loop-i.invariant
