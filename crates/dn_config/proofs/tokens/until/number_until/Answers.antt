use Rattle.dn_config.proofs.Capping.{digits_are_digits}
use Rattle.dn_config.proofs.tokens.until.number_until.Goals as goal

pub ranged-requires-clause-all_digits : goal.ranged-requires-clause-all_digits
ranged-requires-clause-all_digits c = rw (c.split_at.ensures.front, c.in-Some.ensures.count) (digits_are_digits c.args.text.now)
