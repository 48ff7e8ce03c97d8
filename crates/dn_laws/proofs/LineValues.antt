-- What the values of options write, by the laws' words for them.
use Rattle.dn_laws.proofs.Words.{Bool, Err, Has, IsLimit, IsLoss, IsRate, Kbytes, Limit, List, NumberFault, Ok, Option, OutOfRange, Range, Result, Slots, Some, [], add-mul, and_parts, ap}
use Rattle.dn_laws.proofs.Words.{append-nil, arith, ascii_digits, bandwidth_at, codes, cond, decimal, decimal_is_IsNumeral, delay_at, digit_value, digits_front, digits_of, digits_value}
use Rattle.dn_laws.proofs.Words.{digits_value_after, drop, drop-append_seam, endings, false, inl, inr, is_among, is_ascii_alphabetic, is_ascii_digit, kept, le-leb, length, length-append, limit_at}
use Rattle.dn_laws.proofs.Words.{limited, list_all, list_all-append, loss_at, lt-leb, lt-ltb, map, mul-le-mul_left, mul-le-mul_right, mul-lt-mul_of_pos_right, mul_assoc, mul_right_comm, multiples}
use Rattle.dn_laws.proofs.Words.{nat_le, nat_lt, nat_tests, number_back, number_within, ok_within, placed, pow-add, pow-suc, pow-zero, prefix_len, ranged_back, rate_of, rate_parts_of, refl}
use Rattle.dn_laws.proofs.Words.{slice_index, subst, suc, sym, take-append_seam, take-length, to_ascii_lowercase, true, within, zero, ℕ, ⊎_elim, ◌&&◌, ◌*◌, ◌++◌, ◌+◌, ◌-◌, ◌/◌, ◌<◌, ◌^◌, ◌∙◌, ◌∷◌}
use Rattle.dn_laws.proofs.Words.{◌≡◌, ◌≤◌, ◌⊎◌}

placed-in : (at least most n : ℕ) → least ≤ n → n ≤ most → placed at (within least most (Some n)) ≡ Ok n
placed-in at least most n a b = rw (ok_within least most n a b) refl

-- what is a letter in lower case is no digit
no-digits : (u letters : List ℕ) → map to_ascii_lowercase u ≡ letters → prefix_len is_ascii_digit letters ≡ 0 → prefix_len is_ascii_digit u ≡ 0
no-digits [] letters e h = refl
no-digits (c ∷ u) [] e h = absurd (cc)
no-digits (c ∷ u) (d ∷ letters) e h = by-digit (is_ascii_digit c) refl
  where
    stays : (c : ℕ) → is_ascii_digit c ≡ true → is_ascii_digit (to_ascii_lowercase c) ≡ true
    stays c h = grind (arith, nat_tests)

    by-digit : (b : Bool) → is_ascii_digit c ≡ b → prefix_len is_ascii_digit (c ∷ u) ≡ 0
    by-digit false f = rw f refl
    by-digit true f =
        let same : to_ascii_lowercase c ≡ d = cc in
        let digit : is_ascii_digit d ≡ true = rw (← same) (stays c f) in
        absurd (omega (arith, rw digit at h))

has-multiple : (P : List ℕ × ℕ → Type 0) → P (codes "", 1) → P (codes "k", 1000) → P (codes "m", 1000 * 1000) → P (codes "g", 1000 * 1000 * 1000)
    → (x : List ℕ × ℕ) → Has multiples x → P x
has-multiple P a b c d x h = ⊎_elim (λ e. subst P e a) (λ h. ⊎_elim (λ e. subst P e b) (λ h. ⊎_elim (λ e. subst P e c) (λ h. ⊎_elim (λ e. subst P e d) (λ h. absurd h) h) h) h) h

has-ending : (P : List ℕ × ℕ → Type 0) → P (codes "", 1) → P (codes "bit/s", 1) → P (codes "bits/s", 1) → P (codes "byte/s", 8) → P (codes "bytes/s", 8)
    → (x : List ℕ × ℕ) → Has endings x → P x
has-ending P a b c d f x h =
    ⊎_elim (λ e. subst P e a) (λ h. ⊎_elim (λ e. subst P e b) (λ h. ⊎_elim (λ e. subst P e c) (λ h. ⊎_elim (λ e. subst P e d) (λ h. ⊎_elim (λ e. subst P e f) (λ h. absurd h) h) h) h) h) h

-- a unit that begins with no digit, with its bits a second
abbrev Rates : List ℕ × ℕ → List ℕ × ℕ → Type 0
Rates x y = (rate_of (x.0 ++ y.0) ≡ Some (x.1 * y.1)) × (prefix_len is_ascii_digit (x.0 ++ y.0) ≡ 0)

unit-rates : (x y : List ℕ × ℕ) → Has multiples x → Has endings y → Rates x y
unfolding rate_of
unit-rates x y h g = has-multiple (λ x. Rates x y)
    (has-ending (Rates (codes "", 1)) (refl, refl) (refl, refl) (refl, refl) (refl, refl) (refl, refl) y g)
    (has-ending (Rates (codes "k", 1000)) (refl, refl) (refl, refl) (refl, refl) (refl, refl) (refl, refl) y g)
    (has-ending (Rates (codes "m", 1000 * 1000)) (refl, refl) (refl, refl) (refl, refl) (refl, refl) (refl, refl) y g)
    (has-ending (Rates (codes "g", 1000 * 1000 * 1000)) (refl, refl) (refl, refl) (refl, refl) (refl, refl) (refl, refl) y g) x h

no-letter-first : (ds u : List ℕ) → 0 < length ds → list_all is_ascii_digit ds ≡ true → is_ascii_alphabetic (slice_index (ds ++ u) 0) ≡ false
no-letter-first [] u l h = absurd (omega arith)
no-letter-first (d ∷ ds) u l h = no-letter d (and_parts (is_ascii_digit d) (list_all is_ascii_digit ds) h).0
  where
    no-letter : (d : ℕ) → is_ascii_digit d ≡ true → is_ascii_alphabetic d ≡ false
    no-letter d h = grind (arith, nat_tests)

one-factor : (x y : List ℕ × ℕ) → Has multiples x → Has endings y → 1 ≤ x.1 * y.1
one-factor x y h g = has-multiple (λ x. 1 ≤ x.1 * y.1)
    (has-ending (λ y. 1 ≤ 1 * y.1) (omega arith) (omega arith) (omega arith) (omega arith) (omega arith) y g)
    (has-ending (λ y. 1 ≤ 1000 * y.1) (omega arith) (omega arith) (omega arith) (omega arith) (omega arith) y g)
    (has-ending (λ y. 1 ≤ 1000 * 1000 * y.1) (omega arith) (omega arith) (omega arith) (omega arith) (omega arith) y g)
    (has-ending (λ y. 1 ≤ 1000 * 1000 * 1000 * y.1) (omega arith) (omega arith) (omega arith) (omega arith) (omega arith) y g) x h

pub rate-is : (v : List ℕ) (k : ℕ) → IsRate v k → k ≤ 10 ^ 12 → (at : ℕ) → bandwidth_at at v ≡ Ok k
unfolding bandwidth_at
rate-is v k (n, u, x, y, hx, hy, text, same, product) l at =
    let rates = unit-rates x y hx hy in
    let factor = one-factor x y hx hy in
    let total : k ≡ n * (x.1 * y.1) = product ∙ mul_assoc n x.1 y.1 in
    let few : n * 1 ≤ n * (x.1 * y.1) = mul-le-mul_left n factor in
    let small : n < 2 ^ 64 = omega (arith, few, total, l) in
    let parts = digits_of n u small (no-digits u (x.0 ++ y.0) same rates.1) in
    let is = decimal_is_IsNumeral n small in
    let first = no-letter-first (decimal n) u is.0.0 (ascii_digits (decimal n) is.0.1) in
    rw (text, first, parts.0, parts.1, same, rates.0, number_back n small, ← total) (placed-in at 0 1000000000000 k (omega arith) l)

pub delay-is : (k : ℕ) (u : List ℕ) → Has (codes "" ∷ codes "ms" ∷ []) u → k ≤ 3600000 → (at : ℕ) → delay_at at (decimal k ++ u) ≡ Ok k
unfolding delay_at
delay-is k u h l at = ⊎_elim (λ e. subst (λ u. delay_at at (decimal k ++ u) ≡ Ok k) e (with-unit (codes "") refl refl))
    (λ h. ⊎_elim (λ e. subst (λ u. delay_at at (decimal k ++ u) ≡ Ok k) e (with-unit (codes "ms") refl refl)) (λ h. absurd h) h) h
  where
    with-unit : (u : List ℕ) → prefix_len is_ascii_digit u ≡ 0 → is_among (codes "" ∷ codes "ms" ∷ []) u ≡ true → delay_at at (decimal k ++ u) ≡ Ok k
    with-unit u e among =
        let parts = digits_of k u (omega arith) e in
        rw (parts.0, parts.1, among) (ap (placed at) (ranged_back 0 3600000 k (omega arith) (omega arith) l))

-- a unit of 1,024 bytes: it begins with no digit, is one of its names, and is no empty text
abbrev NamesKbytes : List ℕ → Type 0
NamesKbytes letters = (prefix_len is_ascii_digit letters ≡ 0) × (is_among (codes "k" ∷ codes "kb" ∷ codes "kbyte" ∷ codes "kbytes" ∷ []) letters ≡ true) × (0 < length letters)

names-kbytes : (letters : List ℕ) → Has (codes "k" ∷ codes "kb" ∷ codes "kbyte" ∷ codes "kbytes" ∷ []) letters → NamesKbytes letters
names-kbytes letters h = ⊎_elim (λ e. subst NamesKbytes e (refl, refl, omega arith)) (λ h. ⊎_elim (λ e. subst NamesKbytes e (refl, refl, omega arith))
    (λ h. ⊎_elim (λ e. subst NamesKbytes e (refl, refl, omega arith)) (λ h. ⊎_elim (λ e. subst NamesKbytes e (refl, refl, omega arith)) (λ h. absurd h) h) h) h) h

not-empty : (u : List ℕ) → 0 < length (map to_ascii_lowercase u) → is_among (codes "" ∷ []) u ≡ false
not-empty [] l = absurd (omega arith)
not-empty (c ∷ u) l = refl

pub limit-is : (v : List ℕ) (l : Limit) → IsLimit v l → (at : ℕ) → limit_at at v ≡ Ok l
unfolding limit_at
limit-is v (Slots n) h at =
    let parts = digits_of n [] (omega (arith, h.2)) refl in
    rw (h.0 ∙ sym (append-nil (decimal n)), parts.0, parts.1) (ap (λ r. limited Slots (placed at r)) (ranged_back 1 10000 n (omega (arith, h.2)) h.1 h.2))
limit-is v (Kbytes n) (u, text, low, high, named) at =
    let names = names-kbytes (map to_ascii_lowercase u) named in
    let parts = digits_of n u (omega arith) (no-digits u (map to_ascii_lowercase u) refl names.0) in
    rw (text, parts.0, parts.1, not-empty u names.2, names.1) (ap (λ r. limited Kbytes (placed at r)) (ranged_back 1 1024 n (omega arith) low high))

value-after : (n : ℕ) (ds : List ℕ) → digits_value_after 10 n ds ≡ n * 10 ^ length ds + digits_value 10 ds
value-after n [] = rw pow-zero (omega arith)
value-after n (d ∷ ds) =
    let one = value-after (n * 10 + digit_value d) ds in
    let two = value-after (0 * 10 + digit_value d) ds in
    let power : 10 ^ suc (length ds) ≡ 10 ^ length ds * 10 = pow-suc 10 (length ds) in
    let first = add-mul (n * 10) (digit_value d) (10 ^ length ds) in
    let second = add-mul (0 * 10) (digit_value d) (10 ^ length ds) in
    let moved = mul_right_comm n 10 (10 ^ length ds) in
    let apart = mul_assoc n (10 ^ length ds) 10 in
    let whole : n * 10 ^ suc (length ds) ≡ n * (10 ^ length ds * 10) = ap (λ m. n * m) power in
    omega (arith, one, two, first, second, moved, apart, whole)

value-append : (n : ℕ) (xs ys : List ℕ) → digits_value_after 10 n (xs ++ ys) ≡ digits_value_after 10 (digits_value_after 10 n xs) ys
value-append n [] ys = refl
value-append n (x ∷ xs) ys = value-append (n * 10 + digit_value x) xs ys

both-value : (xs ys : List ℕ) → digits_value 10 (xs ++ ys) ≡ digits_value 10 xs * 10 ^ length ys + digits_value 10 ys
both-value xs ys = value-append 0 xs ys ∙ value-after (digits_value 10 xs) ys

-- the digits over 10 for each place, in units of 10^-18
in-units : (d p places value : ℕ) → places ≤ 18 → value ≡ d * 10 ^ places + p
    → (d * 1000000000000000000 + p * 10 ^ (18 - places) ≡ value * 10 ^ (18 - places)) × (10 ^ places * 10 ^ (18 - places) ≡ 1000000000000000000) × (0 < 10 ^ (18 - places))
in-units d p places value l same =
    let rest = 10 ^ (18 - places) in
    let split : places + (18 - places) ≡ 18 = omega arith in
    let powers : 10 ^ places * rest ≡ 1000000000000000000 = sym (pow-add 10 places (18 - places)) ∙ ap (λ n. 10 ^ n) split in (
      ap (λ m. d * m + p * rest) (sym powers) ∙ ap (λ m. m + p * rest) (sym (mul_assoc d (10 ^ places) rest)) ∙ sym (add-mul (d * 10 ^ places) p rest) ∙ ap (λ m. m * rest) (sym same),
      powers,
      positive (18 - places),
    )
  where
    positive : (n : ℕ) → 0 < 10 ^ n
    positive zero = rw pow-zero (omega arith)
    positive (suc n) = omega (arith, pow-suc 10 n, positive n)

-- and then of 2^-31
kept-is : (at d p places value t : ℕ) → places ≤ 18 → value ≡ d * 10 ^ places + p → value ≤ 10 ^ places → t * 10 ^ places ≤ value * 2 ^ 31 → value * 2 ^ 31 < (t + 1) * 10 ^ places
    → kept (placed at (within 0 (10 ^ 18) (Some (d * 10 ^ 18 + p * 10 ^ (18 - places))))) ≡ Ok t
kept-is at d p places value t l same rate holds less =
    let rest = 10 ^ (18 - places) in
    let (total, powers, some) = in-units d p places value l same in
    let below : value * rest ≤ 10 ^ places * rest = mul-le-mul_right rest rate in
    let low : t * 10 ^ places * rest ≤ value * 2147483648 * rest = mul-le-mul_right rest holds in
    let high : value * 2147483648 * rest < (t + 1) * 10 ^ places * rest = mul-lt-mul_of_pos_right less some in
    let a = mul_assoc t (10 ^ places) rest in
    let b = mul_assoc (t + 1) (10 ^ places) rest in
    let c = mul_right_comm value 2147483648 rest in
    let a' : t * (10 ^ places * rest) ≡ t * 1000000000000000000 = ap (λ m. t * m) powers in
    let b' : (t + 1) * (10 ^ places * rest) ≡ (t + 1) * 1000000000000000000 = ap (λ m. (t + 1) * m) powers in
    let quotient : (value * rest) * 2147483648 / 1000000000000000000 ≡ t = omega (arith, low, high, a, b, c, a', b') in
    rw total (ap kept (placed-in at 0 1000000000000000000 (value * rest) (omega arith) (omega (arith, below, powers))) ∙ ap Ok quotient)

drop-length : (xs : List ℕ) → drop (length xs) xs ≡ []
drop-length [] = refl
drop-length (x ∷ xs) = drop-length xs

loss-text : (at : ℕ) (whole places : List ℕ) (r : Option ℕ) → list_all is_ascii_digit (whole ++ places) ≡ true → rate_parts_of whole (Some places) ≡ r
    → loss_at at (whole ++ 46 ∷ places) ≡ kept (placed at (within 0 (10 ^ 18) r))
unfolding loss_at
loss-text at whole places r h e =
    let all = and_parts (list_all is_ascii_digit whole) (list_all is_ascii_digit places) (sym (list_all-append is_ascii_digit whole places) ∙ h) in
    let front = digits_front whole (46 ∷ places) all.0 refl in
    let back : prefix_len is_ascii_digit places ≡ length places = rw append-nil at (digits_front places [] all.1 refl) in
    rw (front, take-append_seam whole (46 ∷ places), drop-append_seam whole (46 ∷ places), back, take-length places, drop-length places, e) refl

pub loss-is : (v : List ℕ) (t : ℕ) → IsLoss v t → (at : ℕ) → loss_at at v ≡ Ok t
loss-is v t h at =
    let long = length-append h.whole h.places in
    let a : nat_le (length h.whole) 18 ≡ true = le-leb _ _ h.few.1 in
    let b : nat_le (length h.places) 18 ≡ true = le-leb _ _ h.few.2 in
    let c : nat_lt 0 (length h.whole + length h.places) ≡ true = lt-ltb _ _ (rw long at h.few.0) in
    rw h.text (loss-text at h.whole h.places (Some (digits_value 10 h.whole * 10 ^ 18 + digits_value 10 h.places * 10 ^ (18 - length h.places))) h.digits (rw (a, b, c) refl)
    ∙ kept-is at (digits_value 10 h.whole) (digits_value 10 h.places) (length h.places) (digits_value 10 (h.whole ++ h.places)) t h.few.2
    (both-value h.whole h.places) h.rate h.holds h.no_more)

-- ---- Values out of their range

out-of : (at least most n : ℕ) → (n < least) ⊎ (most < n) → placed at (within least most (Some n)) ≡ Err (OutOfRange at)
unfolding within
out-of at least most n (inl below) = let low : nat_le least n ≡ false = lt-leb _ _ below in rw low refl
out-of at least most n (inr above) = let high : nat_le n most ≡ false = lt-leb _ _ above in rw high (either (nat_le least n))
  where
    either : (b : Bool) → placed at (cond {A = Result ℕ NumberFault} (b && false) (Ok n) (Err Range)) ≡ Err (OutOfRange at)
    either true = refl
    either false = refl

module _ (k at : ℕ) (small : k < 2 ^ 64) where
  pub number-out : (least most : ℕ) → (k < least) ⊎ (most < k) → placed at (number_within least most (decimal k)) ≡ Err (OutOfRange at)
  number-out least most out = rw (number_back k small) (out-of at least most k out)

  pub rate-out : 10 ^ 12 < k → bandwidth_at at (decimal k ++ codes "") ≡ Err (OutOfRange at)
  unfolding bandwidth_at rate_of
  rate-out above =
      let parts = digits_of k [] small refl in
      let is = decimal_is_IsNumeral k small in
      let first = no-letter-first (decimal k) [] is.0.0 (ascii_digits (decimal k) is.0.1) in
      rw (first, parts.0, parts.1, number_back k small) (out-of at 0 1000000000000 (k * 1) (inr (omega (arith, above))))

  pub delay-out : 3600000 < k → delay_at at (decimal k ++ codes "") ≡ Err (OutOfRange at)
  unfolding delay_at
  delay-out above = let parts = digits_of k [] small refl in rw (parts.0, parts.1) (number-out 0 3600000 (inr above))

  pub slots-out : (k < 1) ⊎ (10000 < k) → limit_at at (decimal k ++ codes "") ≡ Err (OutOfRange at)
  unfolding limit_at
  slots-out out = let parts = digits_of k [] small refl in rw (parts.0, parts.1) (ap (limited Slots) (number-out 1 10000 out))

  pub kbytes-out : (k < 1) ⊎ (1024 < k) → limit_at at (decimal k ++ codes "K") ≡ Err (OutOfRange at)
  unfolding limit_at
  kbytes-out out = let parts = digits_of k (codes "K") small refl in rw (parts.0, parts.1) (ap (limited Kbytes) (number-out 1 1024 out))

pub loss-out : (whole places : List ℕ) → list_all is_ascii_digit (whole ++ places) ≡ true → 0 < length (whole ++ places) → length whole ≤ 18 → length places ≤ 18
    → 10 ^ length places < digits_value 10 (whole ++ places) → (at : ℕ) → loss_at at (whole ++ 46 ∷ places) ≡ Err (OutOfRange at)
loss-out whole places digits some few fewer above at =
    let long = length-append whole places in
    let a : nat_le (length whole) 18 ≡ true = le-leb _ _ few in
    let b : nat_le (length places) 18 ≡ true = le-leb _ _ fewer in
    let c : nat_lt 0 (length whole + length places) ≡ true = lt-ltb _ _ (rw long at some) in
    let value = digits_value 10 (whole ++ places) in
    let rest = 10 ^ (18 - length places) in
    let (total, powers, positive) = in-units (digits_value 10 whole) (digits_value 10 places) (length places) value fewer (both-value whole places) in
    let over : 10 ^ length places * rest < value * rest = mul-lt-mul_of_pos_right above positive in
    loss-text at whole places (Some (digits_value 10 whole * 10 ^ 18 + digits_value 10 places * rest)) digits (rw (a, b, c) refl)
    ∙ rw total (ap kept (out-of at 0 1000000000000000000 (value * rest) (inr (omega (arith, over, powers)))))
