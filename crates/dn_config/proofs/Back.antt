-- The words of a spaced text are the words that it was made of.
use Rattle.dn_config.proofs.Vocabulary.{Bool, List, [], and_parts, ap, append-nil, before_first, behind_spaces, false, is_hash, is_nonempty, is_separator, list_all, nat_lt, not, one-add, onto_first}
use Rattle.dn_config.proofs.Vocabulary.{refl, slice_split, spaced, true, words, words_of, ℕ, ◌&&◌, ◌++◌, ◌∙◌, ◌∷◌, ◌≡◌}

-- a byte that a word may have: of ASCII, no separator, and not the one that begins a comment
abbrev pub is_plain_byte : ℕ → Bool
is_plain_byte b = nat_lt b 128 && (not (is_separator b) && not (is_hash b))

abbrev pub is_plain : List ℕ → Bool
is_plain w = is_nonempty w && list_all is_plain_byte w

abbrev pub all_plain : List (List ℕ) → Bool
all_plain [] = true
all_plain (w ∷ ws) = is_plain w && all_plain ws

plain_byte : (b : ℕ) → is_plain_byte b ≡ true → (is_separator b ≡ false) × (is_hash b ≡ false)
plain_byte b h = two (is_separator b) (is_hash b) (and_parts (nat_lt b 128) (not (is_separator b) && not (is_hash b)) h).1
  where
    two : (x y : Bool) → not x && not y ≡ true → (x ≡ false) × (y ≡ false)
    two true true e = absurd (cc)
    two true false e = absurd (cc)
    two false true e = absurd (cc)
    two false false e = (refl, refl)

-- a word before a space, or at the end
split_word : (w rest : List ℕ) → list_all is_plain_byte w ≡ true → slice_split is_separator (w ++ (32 ∷ rest)) ≡ w ∷ slice_split is_separator rest
split_word [] rest h = refl
split_word (b ∷ w) rest h =
    let both = and_parts (is_plain_byte b) (list_all is_plain_byte w) h in
    rw (plain_byte b both.0).0 (ap (onto_first b) (split_word w rest both.1))

split_last : (w : List ℕ) → list_all is_plain_byte w ≡ true → slice_split is_separator w ≡ w ∷ []
split_last [] h = refl
split_last (b ∷ w) h =
    let both = and_parts (is_plain_byte b) (list_all is_plain_byte w) h in
    rw (plain_byte b both.0).0 (ap (onto_first b) (split_last w both.1))

words_spaced : (w : List ℕ) (ws : List (List ℕ)) → all_plain (w ∷ ws) ≡ true → words_of (w ++ behind_spaces ws) ≡ w ∷ ws
unfolding words_of
words_spaced w [] h =
    let plain = and_parts (is_plain w) true h in
    let parts = and_parts (is_nonempty w) (list_all is_plain_byte w) plain.0 in
    rw (append-nil, split_last w parts.1, parts.0) refl
words_spaced w (v ∷ vs) h =
    let plain = and_parts (is_plain w) (all_plain (v ∷ vs)) h in
    let parts = and_parts (is_nonempty w) (list_all is_plain_byte w) plain.0 in
    rw (split_word w (v ++ behind_spaces vs) parts.1, parts.0) (ap (λ l. w ∷ l) (words_spaced v vs plain.1))

no_hash_word : (w rest : List ℕ) → list_all is_plain_byte w ≡ true → before_first is_hash rest ≡ rest → before_first is_hash (w ++ rest) ≡ w ++ rest
no_hash_word [] rest h e = e
no_hash_word (b ∷ w) rest h e =
    let both = and_parts (is_plain_byte b) (list_all is_plain_byte w) h in
    rw ((plain_byte b both.0).1, one-add) (ap (λ l. b ∷ l) (no_hash_word w rest both.1 e))

no_hash_behind : (ws : List (List ℕ)) → all_plain ws ≡ true → before_first is_hash (behind_spaces ws) ≡ behind_spaces ws
no_hash_behind [] h = refl
no_hash_behind (w ∷ ws) h =
    let plain = and_parts (is_plain w) (all_plain ws) h in
    let parts = and_parts (is_nonempty w) (list_all is_plain_byte w) plain.0 in
    rw one-add (ap (λ l. 32 ∷ l) (no_hash_word w (behind_spaces ws) parts.1 (no_hash_behind ws plain.1)))

-- a text of plain words has these words
pub words_back : (ws : List (List ℕ)) → all_plain ws ≡ true → words (spaced ws) ≡ ws
unfolding words words_of
words_back [] h = refl
words_back (w ∷ ws) h =
    let plain = and_parts (is_plain w) (all_plain ws) h in
    let parts = and_parts (is_nonempty w) (list_all is_plain_byte w) plain.0 in
    ap words_of (no_hash_word w (behind_spaces ws) parts.1 (no_hash_behind ws plain.1)) ∙ words_spaced w ws h
