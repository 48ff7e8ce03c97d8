-- The last digit stands behind the others.
use Rattle.dn_config.proofs.Vocabulary.{[], arith, common_steps, digit_char, refl, suc, zero, zero_padded, ℕ, ◌%◌, ◌++◌, ◌-◌, ◌/◌, ◌∷◌, ◌≡◌, ◌≢◌}
use Rattle.dn_config.proofs.pieces.+push_padded.Goals as goal

padded-none : (radix width number : ℕ) → width ≡ 0 → zero_padded radix width number ≡ []
unfolding zero_padded
padded-none radix zero number e = refl
padded-none radix (suc width) number e = absurd (omega arith)

padded-more : (radix width number : ℕ) → width ≢ 0 → zero_padded radix width number ≡ zero_padded radix (width - 1) (number / radix) ++ digit_char (number % radix) ∷ []
unfolding zero_padded
padded-more radix zero number some = absurd (some refl)
padded-more radix (suc width) number some =
    let less : suc width - 1 ≡ width = omega arith in
    rw less refl

pub returns-then-width-eq0 : goal.returns-then-width-eq0
returns-then-width-eq0 t c =
    let none = padded-none c.args.radix c.args.width c.args.number c.if-width-eq0.true in
    grind (arith, common_steps)

pub returns : goal.returns
returns t c =
    let more = padded-more c.args.radix c.args.width c.args.number c.if-width-eq0.false in
    grind (arith, common_steps)
