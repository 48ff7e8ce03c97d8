-- The value of digits, where they are few.
use Rattle.dn_config.proofs.Vocabulary.{List, add-one, ap, arith, digit_value, digits_value, digits_value_more, false, get_or, get_or-take, is_ascii_digit, length, length-take, nat_tests}
use Rattle.dn_config.proofs.Vocabulary.{pow-le-pow_right, pow-suc, prefix_len, prefix_len_is, refl, sym, take, take-take, true, ℕ, ◌*◌, ◌+◌, ◌-◌, ◌<◌, ◌^◌, ◌∙◌, ◌≡◌, ◌≤◌}
use Rattle.dn_config.specs.Tokens.Numbers.{digits}

-- a digit of ASCII has the value that it stands for
digit_is : (b : ℕ) → is_ascii_digit b ≡ true → digit_value b ≡ b - 48
digit_is b h = grind (arith, nat_tests)

pub digit_small : (b : ℕ) → is_ascii_digit b ≡ true → b - 48 ≤ 9
digit_small b h = grind (arith, nat_tests)

-- one digit more
pub value_grows : (ds : List ℕ) (i v d : ℕ) → i < length ds → is_ascii_digit (get_or ds i 0) ≡ true → v ≡ digits_value 10 (take i ds) → d ≡ get_or ds i 0 - 48
    → v * 10 + d ≡ digits_value 10 (take (i + 1) ds)
value_grows ds i v d l h e f = rw (digits_value_more 10 ds i l, digit_is (get_or ds i 0) h, e, f) refl

-- the value stays below the power of ten
pub below_power : (v d i : ℕ) → v < 10 ^ i → d ≤ 9 → v * 10 + d < 10 ^ (i + 1)
below_power v d i a b = rw (add-one, pow-suc 10 i) (omega arith)

-- up to 19 digits have a value of 64 bits
pub step_is_small : (v d i : ℕ) → v < 10 ^ i → d ≤ 9 → i < 19 → v * 10 + d < 2 ^ 64
step_is_small v d i a b l = let le : 10 ^ i ≤ 10 ^ 18 = pow-le-pow_right {n = 10} (omega arith) {i = i} {j = 18} (omega arith) in omega arith

module _ (text : List ℕ) (n i : ℕ) (within : i ≤ length (take n text)) (passed : (k : ℕ) → k < i → is_ascii_digit (get_or (take n text) k 0) ≡ true)
    (stops : i < length text → is_ascii_digit (get_or text i 0) ≡ false) where
  -- where the first byte is that is no digit
  pub counted : i ≡ prefix_len is_ascii_digit text
  counted =
      let bound = length-take n text in
      sym (prefix_len_is is_ascii_digit text i 0 (omega arith) (λ k l. ap is_ascii_digit (sym (get_or-take n text k 0 (omega arith))) ∙ passed k l) stops)

  pub valued : (v : ℕ) → v ≡ digits_value 10 (take i (take n text)) → v ≡ digits_value 10 (digits text)
  valued v e =
      let bound = length-take n text in
      e ∙ ap (digits_value 10) (take-take i n text (omega arith) ∙ ap (λ k. take k text) counted)
