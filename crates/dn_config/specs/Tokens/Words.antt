-- The words of a text: what stands between spaces, tabs and carriage returns.
use Rattle.std.specs.Prelude.{◌≡◌, ℕ, Bool, true, false, ◌||◌, ◌==◌, List, [], ◌∷◌, filter, MatchOption, Option}
use Rattle.std.specs.List.{slice_split}
use Rattle.std.specs.Borrow.{Bor}

-- A space, a tab or a carriage return.
abbrev pub is_separator : ℕ → Bool
is_separator byte = byte == 32 || byte == 9 || byte == 13

-- Whether a text has a byte.
abbrev pub is_nonempty : List ℕ → Bool
is_nonempty [] = false
is_nonempty (byte ∷ rest) = true

-- The words of a text: its parts between separators, without the empty ones.
unfoldable pub words_of : List ℕ → List (List ℕ)
words_of text = filter is_nonempty (slice_split is_separator text)

-- The text has no word, or it has this word and then those of the rest.
abbrev pub BeginsWords : List ℕ → Option (Bor (List ℕ) × Bor (List ℕ)) → Type 0
BeginsWords text r = MatchOption r (words_of text ≡ []) (λ p. words_of text ≡ p.0.now ∷ words_of p.1.now)
