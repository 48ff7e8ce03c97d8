use Rattle.dn_config.proofs.Vocabulary.{arith, sym}
use Rattle.dn_config.proofs.LongDigits.{none-until}
use Rattle.dn_config.proofs.tokens.until.long_number_until.Goals as goal

pub returns-then-has_too_many_digits-clause-value : goal.returns-then-has_too_many_digits-clause-value
returns-then-has_too_many_digits-clause-value c = sym (none-until c.args.end c.args.least c.args.greatest c.args.text.now (omega arith) (c.has_too_many_digits.ensures c.if-has_too_many_digits.true))
