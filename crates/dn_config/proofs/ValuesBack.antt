-- The values that a canonical text writes, read back.
use Rattle.dn_config.proofs.Vocabulary.{Bool, IsLimit, Kbytes, Limit, List, Ok, Slots, Some, [], add-one, all_digits, and_parts, ap, append-nil, arith, bandwidth_at, behind_point, bits_at, bits_of}
use Rattle.dn_config.proofs.Vocabulary.{buckets_at, codes, cond, decimal, decimal_is_IsNumeral, delay_at, digit_char, digit_value, digit_value-digit_char, digits_value, digits_value_push, div-add-mod'}
use Rattle.dn_config.proofs.Vocabulary.{div-lt_iff_lt-mul, drop, eqb-false, eqb-true, false, is_ascii_alphabetic, is_ascii_digit, kept, length, length-append, limit_at, limit_text, limited, list_all}
use Rattle.dn_config.proofs.Vocabulary.{loss_at, loss_text, lt-ltb, mod-lt, nat_lt, nat_tests, number_within, numeral_of, one-add, pipe_or_queue_at, placed, pow-suc, pow-zero, prefix_len, rate_of}
use Rattle.dn_config.proofs.Vocabulary.{rate_parts_of, rate_up, refl, slice_index, suc, sym, take, true, unit, weight_at, within, zero, zero_padded, ℕ, ◌%◌, ◌*◌, ◌++◌, ◌+◌, ◌/◌, ◌<◌, ◌==◌, ◌^◌, ◌∙◌}
use Rattle.dn_config.proofs.Vocabulary.{◌∷◌, ◌≡◌, ◌≤◌}
use Rattle.dn_config.specs.Tokens.Numbers.{digits}
use Rattle.dn_config.proofs.Capping.{ok_within}
use Rattle.dn_config.proofs.NumbersBack.{ascii_digits, number_back}

-- a loss number below 2^31 is printed as a rate that is kept as that number
pub rate_law : (t : ℕ) → t < 2147483648 → (rate_up t < 1000000000000000000) × (rate_up t * 2147483648 / 1000000000000000000 ≡ t)
rate_law t l = (omega arith, omega arith)

pub length-padded : (radix k n : ℕ) → length (zero_padded radix k n) ≡ k
unfolding zero_padded
length-padded radix zero n = refl
length-padded radix (suc k) n = length-append (zero_padded radix k (n / radix)) _ ∙ ap (λ m. m + 1) (length-padded radix k (n / radix)) ∙ add-one k

div_below : (radix k n : ℕ) → 0 < radix → n < radix ^ suc k → n / radix < radix ^ k
div_below radix k n p l = (div-lt_iff_lt-mul p).1 (rw pow-suc at l)

pub value-padded : (radix k n : ℕ) → 0 < radix → radix ≤ 36 → n < radix ^ k → digits_value radix (zero_padded radix k n) ≡ n
unfolding zero_padded
value-padded radix zero n p h l = let one : n < 1 = rw pow-zero at l in omega arith
value-padded radix (suc k) n p h l =
    let small : n % radix < radix = mod-lt n p in
    let below : n % radix < 36 = omega arith in
    digits_value_push radix (zero_padded radix k (n / radix)) (digit_char (n % radix))
    ∙ rw (value-padded radix k (n / radix) p h (div_below radix k n p l), digit_value-digit_char (n % radix) below) (div-add-mod' n radix)

-- digits before a unit that begins with no digit
pub digits_front : (ds u : List ℕ) → list_all is_ascii_digit ds ≡ true → prefix_len is_ascii_digit u ≡ 0 → prefix_len is_ascii_digit (ds ++ u) ≡ length ds
digits_front [] u h e = e
digits_front (d ∷ ds) u h e =
    let both = and_parts (is_ascii_digit d) (list_all is_ascii_digit ds) h in
    rw (both.0, digits_front ds u both.1 e) (one-add (length ds))

pub digits_of : (n : ℕ) (u : List ℕ) → n < 2 ^ 64 → prefix_len is_ascii_digit u ≡ 0 → (digits (decimal n ++ u) ≡ decimal n) × (unit (decimal n ++ u) ≡ u)
digits_of n u l e =
    let is = decimal_is_IsNumeral n l in
    let len = digits_front (decimal n) u (ascii_digits (decimal n) is.0.1) e in
    (rw len (take_front (decimal n) u), rw len (drop_front (decimal n) u))
  where
    take_front : (xs ys : List ℕ) → take (length xs) (xs ++ ys) ≡ xs
    take_front [] ys = refl
    take_front (x ∷ xs) ys = ap (λ l. x ∷ l) (take_front xs ys)

    drop_front : (xs ys : List ℕ) → drop (length xs) (xs ++ ys) ≡ ys
    drop_front [] ys = refl
    drop_front (x ∷ xs) ys = drop_front xs ys

placed_in : (at low high n : ℕ) → low ≤ n → n ≤ high → placed at (within low high (Some n)) ≡ Ok n
placed_in at low high n a b = rw (ok_within low high n a b) refl

ranged_back : (at low high n : ℕ) → low ≤ n → n ≤ high → n < 2 ^ 64 → placed at (number_within low high (decimal n)) ≡ Ok n
ranged_back at low high n a b l = rw (number_back n l) (placed_in at low high n a b)

-- the values of options read back
pub number_value_back : (at n : ℕ) → 1 ≤ n → n ≤ 65535 → pipe_or_queue_at at (decimal n) ≡ Ok n
number_value_back at n a b = ranged_back at 1 65535 n a b (omega arith)

pub weight_back : (at n : ℕ) → 1 ≤ n → n ≤ 100 → weight_at at (decimal n) ≡ Ok n
weight_back at n a b = ranged_back at 1 100 n a b (omega arith)

pub buckets_back : (at n : ℕ) → 16 ≤ n → n ≤ 65536 → buckets_at at (decimal n) ≡ Ok n
buckets_back at n a b = ranged_back at 16 65536 n a b (omega arith)

pub delay_back : (at n : ℕ) → n ≤ 3600000 → delay_at at (decimal n ++ []) ≡ Ok n
unfolding delay_at
delay_back at n b =
    let parts = digits_of n [] (omega arith) refl in
    rw (parts.0, parts.1) (ranged_back at 0 3600000 n (omega arith) b (omega arith))

first_digit : (ds u : List ℕ) → 0 < length ds → list_all is_ascii_digit ds ≡ true → is_ascii_alphabetic (slice_index (ds ++ u) 0) ≡ false
first_digit [] u l h = absurd (omega arith)
first_digit (d ∷ ds) u l h = let both = and_parts (is_ascii_digit d) (list_all is_ascii_digit ds) h in no_letter d both.0
  where
    no_letter : (d : ℕ) → is_ascii_digit d ≡ true → is_ascii_alphabetic d ≡ false
    no_letter d h = grind (arith, nat_tests)

pub bandwidth_back : (at n : ℕ) → n ≤ 1000000000000 → bandwidth_at at (decimal n ++ codes "bit/s") ≡ Ok n
unfolding bandwidth_at rate_of
bandwidth_back at n b =
    let small : n < 2 ^ 64 = omega arith in
    let parts = digits_of n (codes "bit/s") small refl in
    let is = decimal_is_IsNumeral n small in
    rw (first_digit (decimal n) (codes "bit/s") is.0.0 (ascii_digits (decimal n) is.0.1), parts.0, parts.1, number_back n small)
    (ap (λ m. placed at (within 0 1000000000000 (Some m))) (omega arith) ∙ placed_in at 0 1000000000000 n (omega arith) b)

slots_back : (at n : ℕ) (w : List ℕ) → w ≡ decimal n ++ [] → 1 ≤ n → n ≤ 10000 → limit_at at w ≡ Ok (Slots n)
unfolding limit_at
slots_back at n w e a b =
    let parts = digits_of n [] (omega arith) refl in
    rw (e, parts.0, parts.1) (ap (limited Slots) (ranged_back at 1 10000 n a b (omega arith)))

pub limit_back : (at : ℕ) (l : Limit) → IsLimit l → limit_at at (limit_text l) ≡ Ok l
unfolding limit_at
limit_back at (Slots n) h = slots_back at n (decimal n) (sym (append-nil (decimal n))) h.0 h.1
limit_back at (Kbytes n) h =
    let parts = digits_of n (codes "Kbytes") (omega arith) refl in
    rw (parts.0, parts.1) (ap (limited Kbytes) (ranged_back at 1 1024 n h.0 h.1 (omega arith)))

last_digit : (ds : List ℕ) (d : ℕ) → list_all is_ascii_digit ds ≡ true → is_ascii_digit d ≡ true → list_all is_ascii_digit (ds ++ d ∷ []) ≡ true
last_digit [] d h e = rw e refl
last_digit (x ∷ ds) d h e = let both = and_parts (is_ascii_digit x) (list_all is_ascii_digit ds) h in rw both.0 (last_digit ds d both.1 e)

digit_is : (d : ℕ) → d < 10 → is_ascii_digit (digit_char d) ≡ true
digit_is d l = grind (arith, nat_tests)

padded_digits : (k n : ℕ) → list_all is_ascii_digit (zero_padded 10 k n) ≡ true
unfolding zero_padded
padded_digits zero n = refl
padded_digits (suc k) n = last_digit (zero_padded 10 k (n / 10)) (digit_char (n % 10)) (padded_digits k (n / 10)) (digit_is (n % 10) (omega arith))

fraction_back : (fs : List ℕ) → list_all is_ascii_digit fs ≡ true → behind_point (46 ∷ fs) ≡ Some fs
fraction_back fs h =
    let len = digits_front fs [] h refl in
    let whole : prefix_len is_ascii_digit fs ≡ length fs = rw append-nil at len in
    rw (whole, drop_all fs, take_all fs) refl
  where
    drop_all : (xs : List ℕ) → drop (length xs) xs ≡ []
    drop_all [] = refl
    drop_all (x ∷ xs) = drop_all xs

    take_all : (xs : List ℕ) → take (length xs) xs ≡ xs
    take_all [] = refl
    take_all (x ∷ xs) = ap (λ l. x ∷ l) (take_all xs)

parts_back : (fs : List ℕ) → length fs ≡ 18 → rate_parts_of (48 ∷ []) (Some fs) ≡ Some (digits_value 10 fs)
parts_back fs e = rw e (ap Some (omega arith))

kept_is : (at m t : ℕ) → m < 1000000000000000000 → m * 2147483648 / 1000000000000000000 ≡ t → kept (placed at (within 0 1000000000000000000 (Some m))) ≡ Ok t
kept_is at m t l e = ap kept (placed_in at 0 1000000000000000000 m (omega arith) (omega arith)) ∙ ap Ok e

loss_is : (at t : ℕ) (fs : List ℕ) → list_all is_ascii_digit fs ≡ true → length fs ≡ 18 → digits_value 10 fs < 1000000000000000000 → digits_value 10 fs * 2147483648 / 1000000000000000000 ≡ t
    → loss_at at (48 ∷ 46 ∷ fs) ≡ Ok t
unfolding loss_at
loss_is at t fs h l b e = rw (fraction_back fs h, parts_back fs l) (kept_is at (digits_value 10 fs) t b e)

small_loss : (at t : ℕ) → t < 2147483648 → loss_at at (codes "0." ++ zero_padded 10 18 (rate_up t)) ≡ Ok t
small_loss at t l =
    let law = rate_law t l in
    let value = value-padded 10 18 (rate_up t) (omega arith) (omega arith) law.0 in
    loss_is at t (zero_padded 10 18 (rate_up t)) (padded_digits 18 (rate_up t)) (length-padded 10 18 (rate_up t)) (rw value law.0) (rw value law.1)

one_loss : (at t : ℕ) → t ≡ 2147483648 → loss_at at (codes "1") ≡ Ok t
unfolding loss_at within
one_loss at t e = ap Ok (sym e)

loss_cases : (at t : ℕ) (b : Bool) → t == 2147483648 ≡ b → t ≤ 2147483648 → loss_at at (cond b (codes "1") (codes "0." ++ zero_padded 10 18 (rate_up t))) ≡ Ok t
loss_cases at t true e l = one_loss at t (eqb-true t 2147483648 e)
loss_cases at t false e l = let other = eqb-false t 2147483648 e in small_loss at t (omega (arith, other))

-- a loss number reads back as itself
pub loss_back : (at t : ℕ) → t ≤ 2147483648 → loss_at at (loss_text t) ≡ Ok t
loss_back at t l = loss_cases at t (t == 2147483648) refl l

last_in : (radix : ℕ) (ds : List ℕ) (d : ℕ) → all_digits radix ds ≡ true → digit_value d < radix → all_digits radix (ds ++ d ∷ []) ≡ true
last_in radix [] d h e = let first : nat_lt (digit_value d) radix ≡ true = lt-ltb _ _ e in rw first refl
last_in radix (x ∷ ds) d h e = let both = and_parts (nat_lt (digit_value x) radix) (all_digits radix ds) h in rw both.0 (last_in radix ds d both.1 e)

padded_in : (radix k n : ℕ) → 0 < radix → radix ≤ 36 → all_digits radix (zero_padded radix k n) ≡ true
unfolding zero_padded
padded_in radix zero n p h = refl
padded_in radix (suc k) n p h =
    let small : n % radix < radix = mod-lt n p in
    let below : n % radix < 36 = omega arith in
    last_in radix (zero_padded radix k (n / radix)) (digit_char (n % radix)) (padded_in radix k (n / radix) p h) (rw (digit_value-digit_char (n % radix) below) small)

numeral_is : (radix n : ℕ) (ds : List ℕ) → 0 < length ds → all_digits radix ds ≡ true → digits_value radix ds ≡ n → numeral_of radix ds ≡ Some n
unfolding numeral_of
numeral_is radix n ds l h e = let some : nat_lt 0 (length ds) ≡ true = lt-ltb _ _ l in rw (some, h) (ap Some e)

hex_bits : (ds : List ℕ) (n : ℕ) → numeral_of 16 ds ≡ Some n → bits_of (48 ∷ 120 ∷ ds) ≡ Some n
unfolding bits_of
hex_bits ds n e = e

hex_at : (at high n : ℕ) (ds : List ℕ) → bits_of (48 ∷ 120 ∷ ds) ≡ Some n → n ≤ high → bits_at at high (48 ∷ 120 ∷ ds) ≡ Ok n
unfolding bits_at
hex_at at high n ds e l = rw e (placed_in at 0 high n (omega arith) l)

-- a mask field reads back
pub bits_back : (at high k n : ℕ) → n ≤ high → n < 16 ^ suc k → bits_at at high (codes "0x" ++ zero_padded 16 (suc k) n) ≡ Ok n
bits_back at high k n l b =
    let long : 0 < length (zero_padded 16 (suc k) n) = omega (arith, length-padded 16 (suc k) n) in
    hex_at at high n (zero_padded 16 (suc k) n)
    (hex_bits (zero_padded 16 (suc k) n) n (numeral_is 16 n (zero_padded 16 (suc k) n) long (padded_in 16 (suc k) n (omega arith) (omega arith))
    (value-padded 16 (suc k) n (omega arith) (omega arith) b))) l
