-- The words of a text, taken off one by one.
use Rattle.dn_config.proofs.Vocabulary.{Bool, List, [], ap, arith, cond, drop, false, filter, is_nonempty, is_separator, length, not, one-add, onto_first, position_or_len, prefix_len, refl}
use Rattle.dn_config.proofs.Vocabulary.{slice_split, sym, take, true, words_of, ℕ, ◌+◌, ◌<◌, ◌∙◌, ◌∷◌, ◌≡◌}

-- what a cut leaves behind its first part
abbrev pub behind : (ℕ → Bool) → List ℕ → List (List ℕ)
behind p [] = []
behind p (y ∷ ys) = slice_split p ys

split_cond : (p : ℕ → Bool) (x : ℕ) (xs : List ℕ) (b : Bool)
    → slice_split p xs ≡ take (position_or_len p xs) xs ∷ behind p (drop (position_or_len p xs) xs)
    → cond b ([] ∷ slice_split p xs) (onto_first x (slice_split p xs))
    ≡ take (cond (not b) (1 + position_or_len p xs) 0) (x ∷ xs) ∷ behind p (drop (cond (not b) (1 + position_or_len p xs) 0) (x ∷ xs))
split_cond p x xs true h = refl
split_cond p x xs false h = rw one-add (ap (onto_first x) h)

pub split_first : (p : ℕ → Bool) (xs : List ℕ) → slice_split p xs ≡ take (position_or_len p xs) xs ∷ behind p (drop (position_or_len p xs) xs)
split_first p [] = refl
split_first p (x ∷ xs) = split_cond p x xs (p x) (split_first p xs)

-- separators before the first word don't count
gap_cond : (x : ℕ) (xs : List ℕ) (b : Bool) → words_of xs ≡ words_of (drop (prefix_len is_separator xs) xs)
    → is_separator x ≡ b → words_of (x ∷ xs) ≡ words_of (drop (cond b (1 + prefix_len is_separator xs) 0) (x ∷ xs))
unfolding words_of
gap_cond x xs true h e = rw e (rw one-add h)
gap_cond x xs false h e = refl

pub skip_gap : (xs : List ℕ) → words_of xs ≡ words_of (drop (prefix_len is_separator xs) xs)
skip_gap [] = refl
skip_gap (x ∷ xs) = gap_cond x xs (is_separator x) (skip_gap xs) refl

-- behind a word the words go on
after_cond : (x : ℕ) (xs : List ℕ) (b : Bool)
    → filter is_nonempty (behind is_separator (drop (position_or_len is_separator xs) xs)) ≡ words_of (drop (position_or_len is_separator xs) xs)
    → is_separator x ≡ b
    → filter is_nonempty (behind is_separator (drop (cond (not b) (1 + position_or_len is_separator xs) 0) (x ∷ xs)))
    ≡ words_of (drop (cond (not b) (1 + position_or_len is_separator xs) 0) (x ∷ xs))
unfolding words_of
after_cond x xs true h e = rw e refl
after_cond x xs false h e = rw one-add h

after_word : (xs : List ℕ) → filter is_nonempty (behind is_separator (drop (position_or_len is_separator xs) xs)) ≡ words_of (drop (position_or_len is_separator xs) xs)
unfolding words_of
after_word [] = refl
after_word (x ∷ xs) = after_cond x xs (is_separator x) (after_word xs) refl

first_word : (x : ℕ) (xs : List ℕ) (b : Bool) → is_separator x ≡ b → b ≡ false
    → words_of (x ∷ xs) ≡ take (position_or_len is_separator (x ∷ xs)) (x ∷ xs) ∷ words_of (drop (position_or_len is_separator (x ∷ xs)) (x ∷ xs))
unfolding words_of
first_word x xs true e f = absurd (cc)
first_word x xs false e f =
    ap (filter is_nonempty) (split_first is_separator (x ∷ xs)) ∙ rw (e, one-add) (ap (λ ws. (x ∷ take (position_or_len is_separator xs) xs) ∷ ws) (after_word xs))

-- the gap ends where a byte is no separator
stops_cond : (x : ℕ) (xs : List ℕ) (y : ℕ) (ys : List ℕ) (b : Bool) → is_separator x ≡ b
    → (y ∷ ys ≡ drop (prefix_len is_separator xs) xs → is_separator y ≡ false)
    → y ∷ ys ≡ drop (cond b (1 + prefix_len is_separator xs) 0) (x ∷ xs) → is_separator y ≡ false
stops_cond x xs y ys true e h g = h (rw one-add at g)
stops_cond x xs y ys false e h g = let same : y ≡ x = cc in ap is_separator same ∙ e

gap_stops : (xs : List ℕ) (y : ℕ) (ys : List ℕ) → y ∷ ys ≡ drop (prefix_len is_separator xs) xs → is_separator y ≡ false
gap_stops [] y ys g = absurd (cc)
gap_stops (x ∷ xs) y ys g = stops_cond x xs y ys (is_separator x) refl (gap_stops xs y ys) g

pub next_words : (xs rest : List ℕ) → rest ≡ drop (prefix_len is_separator xs) xs → 0 < length rest
    → words_of xs ≡ take (position_or_len is_separator rest) rest ∷ words_of (drop (position_or_len is_separator rest) rest)
next_words xs [] e l = absurd (omega arith)
next_words xs (y ∷ ys) e l =
    skip_gap xs ∙ ap words_of (sym e) ∙ first_word y ys (is_separator y) refl (gap_stops xs y ys e)

pub no_words : (xs rest : List ℕ) → rest ≡ drop (prefix_len is_separator xs) xs → length rest ≡ 0 → words_of xs ≡ []
unfolding words_of
no_words xs [] e l = skip_gap xs ∙ ap words_of (sym e)
no_words xs (y ∷ ys) e l = absurd (omega arith)

pub word_nonempty : (xs rest : List ℕ) → rest ≡ drop (prefix_len is_separator xs) xs → 0 < length rest → 0 < position_or_len is_separator rest
word_nonempty xs [] e l = absurd (omega arith)
word_nonempty xs (y ∷ ys) e l = rw (gap_stops xs y ys e) (omega arith)
