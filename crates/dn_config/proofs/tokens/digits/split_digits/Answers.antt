use Rattle.dn_config.proofs.Capping.{digits_are_digits}
use Rattle.dn_config.proofs.tokens.digits.split_digits.Goals as goal

pub returns-clause-all_digits : goal.returns-clause-all_digits
returns-clause-all_digits c = rw (c.split_at.ensures.front, c.digits_len.ensures.value) (digits_are_digits c.args.text.now)
