use Rattle.dn_config.proofs.Vocabulary.{arith, is_ascii_digit, length-take, ltb-true, prefix_len, take}
use Rattle.dn_config.proofs.LongDigits.{prefix-part}
use Rattle.dn_config.proofs.tokens.until.has_too_many_digits.Goals as goal

pub returns : goal.returns
returns c e =
    let many = ltb-true _ _ (rw c.split_digits.ensures.digits at e) in
    let count = length-take (prefix_len is_ascii_digit (take 21 c.args.text.now)) (take 21 c.args.text.now) in
    omega (arith, many, count, prefix-part is_ascii_digit 21 c.args.text.now)
