-- The words of a canonical text have no separator and no comment, so a line of them has these words.
use Rattle.dn_config.proofs.Vocabulary.{AreShared, Bool, Command, IsBuckets, IsLimit, IsTyped, Kbytes, Limit, List, Mask, None, Option, Slots, Some, [], and_from, and_parts, append-nil, arith}
use Rattle.dn_config.proofs.Vocabulary.{both_words, buckets_words, codes, cond, decimal, decimal_is_IsNumeral, digit_char, false, field_words, fields_words, has_all_bits, has_no_bits, is_ascii_digit}
use Rattle.dn_config.proofs.Vocabulary.{is_nonempty, length, limit_words, link_words, list_all, loss_text, loss_words, mask_words, mod-lt, nat_tests, number_words, rate_up, refl, share_words, suc}
use Rattle.dn_config.proofs.Vocabulary.{text_words, true, zero, zero_padded, ℕ, ◌%◌, ◌++◌, ◌/◌, ◌<◌, ◌==◌, ◌^◌, ◌∷◌, ◌≡◌, ◌≤◌}
use Rattle.dn_types.specs.declared.command.Command.TheVariants as c
use Rattle.dn_config.proofs.Back.{is_plain_byte, is_plain, all_plain}
use Rattle.dn_config.proofs.NumbersBack.{ascii_digits}

pub all_append : (xs ys : List ℕ) → list_all is_plain_byte xs ≡ true → list_all is_plain_byte ys ≡ true → list_all is_plain_byte (xs ++ ys) ≡ true
all_append [] ys h e = e
all_append (x ∷ xs) ys h e = let both = and_parts (is_plain_byte x) (list_all is_plain_byte xs) h in and_from _ _ both.0 (all_append xs ys both.1 e)

digit_plain : (d : ℕ) → is_ascii_digit d ≡ true → is_plain_byte d ≡ true
digit_plain d h = grind (arith, nat_tests)

digits_plain : (ds : List ℕ) → list_all is_ascii_digit ds ≡ true → list_all is_plain_byte ds ≡ true
digits_plain [] h = refl
digits_plain (d ∷ ds) h = let both = and_parts (is_ascii_digit d) (list_all is_ascii_digit ds) h in and_from _ _ (digit_plain d both.0) (digits_plain ds both.1)

nonempty : (ds u : List ℕ) → 0 < length ds → is_nonempty (ds ++ u) ≡ true
nonempty [] u l = absurd (omega arith)
nonempty (d ∷ ds) u l = refl

-- a number and a unit
decimal_plain : (n : ℕ) (u : List ℕ) → n < 2 ^ 64 → list_all is_plain_byte u ≡ true → is_plain (decimal n ++ u) ≡ true
decimal_plain n u l h =
    let is = decimal_is_IsNumeral n l in
    and_from _ _ (nonempty (decimal n) u is.0.0) (all_append (decimal n) u (digits_plain (decimal n) (ascii_digits (decimal n) is.0.1)) h)

char_plain : (d : ℕ) → d < 36 → is_plain_byte (digit_char d) ≡ true
char_plain d l = grind (arith, nat_tests)

padded_plain : (radix k n : ℕ) → 0 < radix → radix ≤ 36 → list_all is_plain_byte (zero_padded radix k n) ≡ true
unfolding zero_padded
padded_plain radix zero n p h = refl
padded_plain radix (suc k) n p h =
    let small : n % radix < radix = mod-lt n p in
    let char : is_plain_byte (digit_char (n % radix)) ≡ true = char_plain (n % radix) (omega arith) in
    all_append (zero_padded radix k (n / radix)) (digit_char (n % radix) ∷ []) (padded_plain radix k (n / radix) p h) (rw char refl)

-- every word is plain
pub record ArePlain (ws : List (List ℕ)) : Type 0 where
  pub plain : all_plain ws ≡ true

both_plain_words : (xs ys : List (List ℕ)) → all_plain xs ≡ true → all_plain ys ≡ true → all_plain (xs ++ ys) ≡ true
both_plain_words [] ys h e = e
both_plain_words (x ∷ xs) ys h e = let both = and_parts (is_plain x) (all_plain xs) h in and_from _ _ both.0 (both_plain_words xs ys both.1 e)

plain_append : {xs ys : List (List ℕ)} → ArePlain xs → ArePlain ys → ArePlain (xs ++ ys)
plain_append {xs} {ys} h e = record { plain = both_plain_words xs ys h.plain e.plain }

plain_cons : {w : List ℕ} {ws : List (List ℕ)} → is_plain w ≡ true → ArePlain ws → ArePlain (w ∷ ws)
plain_cons {w} {ws} h e = record { plain = and_from (is_plain w) (all_plain ws) h e.plain }

no_words : ArePlain []
no_words = record { plain = refl }

plain_cond : {ws : List (List ℕ)} (b : Bool) → ArePlain ws → ArePlain (cond b [] ws)
plain_cond true h = no_words
plain_cond false h = h

plain_two : (name v : List ℕ) → is_plain name ≡ true → is_plain v ≡ true → ArePlain (name ∷ v ∷ [])
plain_two name v a b = record { plain = rw (a, b) refl }

number_plain : (name unit : List ℕ) (default n : ℕ) → n < 2 ^ 64 → is_plain name ≡ true → list_all is_plain_byte unit ≡ true → ArePlain (number_words name unit default n)
number_plain name unit default n l a b = plain_cond (n == default) (plain_two name (decimal n ++ unit) a (decimal_plain n unit l b))

decimal_alone : (n : ℕ) → n < 2 ^ 64 → is_plain (decimal n) ≡ true
decimal_alone n l = rw append-nil at (decimal_plain n [] l refl)

limit_plain : (limit : Limit) → IsLimit limit → ArePlain (limit_words limit)
limit_plain (Slots n) h = plain_cond (n == 50) (plain_two (codes "queue") (decimal n) refl (decimal_alone n (omega (arith, h))))
limit_plain (Kbytes n) h = plain_two (codes "queue") (decimal n ++ codes "Kbytes") refl (decimal_plain n (codes "Kbytes") (omega (arith, h)) refl)

loss_text_plain : (t : ℕ) (b : Bool) → is_plain (cond b (codes "1") (codes "0." ++ zero_padded 10 18 (rate_up t))) ≡ true
loss_text_plain t true = refl
loss_text_plain t false = all_append (codes "0.") (zero_padded 10 18 (rate_up t)) refl (padded_plain 10 18 (rate_up t) (omega arith) (omega arith))

loss_plain : (t : ℕ) → ArePlain (loss_words t)
loss_plain t = plain_cond (t == 0) (plain_two (codes "plr") (loss_text t) refl (loss_text_plain t (t == 2 ^ 31)))

buckets_plain : (buckets : Option ℕ) → IsBuckets buckets → ArePlain (buckets_words buckets)
buckets_plain None h = no_words
buckets_plain (Some n) h = plain_two (codes "buckets") (decimal n) refl (decimal_alone n (omega (arith, h)))

field_plain : (name : List ℕ) (width n : ℕ) → is_plain name ≡ true → ArePlain (field_words name width n)
field_plain name width n a =
    plain_cond (n == 0) (plain_two name (codes "0x" ++ zero_padded 16 width n) a (all_append (codes "0x") (zero_padded 16 width n) refl (padded_plain 16 width n (omega arith) (omega arith))))

fields_plain : (m : Mask) → ArePlain (fields_words m)
fields_plain m =
    plain_append (field_plain (codes "dst-ip") 8 m.dst refl)
    (plain_append (field_plain (codes "src-ip") 8 m.src refl)
    (plain_append (field_plain (codes "dst-port") 4 m.dport refl)
    (plain_append (field_plain (codes "src-port") 4 m.sport refl) (field_plain (codes "proto") 2 m.proto refl))))

bits_plain : (m : Mask) (b : Bool) → ArePlain (codes "mask" ∷ cond b (codes "all" ∷ []) (fields_words m))
bits_plain m true = record { plain = refl }
bits_plain m false = plain_cons refl (fields_plain m)

mask_plain : (m : Mask) → ArePlain (mask_words m)
mask_plain m = plain_cond (has_no_bits m) (bits_plain m (has_all_bits m))

both_plain : (limit : Limit) (loss : ℕ) (buckets : Option ℕ) (mask : Mask) → AreShared limit loss buckets mask → ArePlain (both_words limit loss buckets mask)
both_plain limit loss buckets mask h =
    plain_append (limit_plain limit h.limit_in_range) (plain_append (loss_plain loss) (plain_append (buckets_plain buckets h.buckets_in_range) (mask_plain mask)))

-- the words of each canonical text
pub text_plain : (command : Command) → IsTyped command → ArePlain (text_words command)
unfolding text_words link_words share_words
text_plain (c.Pipe n bw delay limit loss buckets mask) h =
    plain_cons refl (plain_cons (decimal_alone n (omega (arith, h.0))) (plain_cons refl
    (plain_append (plain_append (number_plain (codes "bw") (codes "bit/s") 0 bw (omega (arith, h.1)) refl refl) (number_plain (codes "delay") [] 0 delay (omega (arith, h.2)) refl refl))
    (both_plain limit loss buckets mask h.3))))
text_plain (c.Queue n pipe weight limit loss buckets mask) h =
    plain_cons refl (plain_cons (decimal_alone n (omega (arith, h.0))) (plain_cons refl (plain_cons refl (plain_cons (decimal_alone pipe (omega (arith, h.1)))
    (plain_append (number_plain (codes "weight") [] 1 weight (omega (arith, h.2)) refl refl) (both_plain limit loss buckets mask h.3))))))
text_plain (c.DeletePipe n) h = plain_cons refl (plain_cons refl (plain_cons (decimal_alone n (omega (arith, h))) no_words))
text_plain (c.DeleteQueue n) h = plain_cons refl (plain_cons refl (plain_cons (decimal_alone n (omega (arith, h))) no_words))
