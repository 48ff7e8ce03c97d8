-- The lines of a text.
use Rattle.std.specs.Prelude.{ℕ, Bool, ◌==◌, List, [], ◌∷◌, filter}
use Rattle.std.specs.List.{slice_split}
use Rattle.dn_config.specs.Tokens.Words.{is_nonempty}

-- The byte that ends a line.
abbrev pub is_line_feed : ℕ → Bool
is_line_feed byte = byte == 10

-- The parts of a text without the last one, where that is empty.
abbrev pub without_empty_end : List (List ℕ) → List (List ℕ)
without_empty_end [] = []
without_empty_end (last ∷ []) = filter is_nonempty (last ∷ [])
without_empty_end (line ∷ next ∷ more) = line ∷ without_empty_end (next ∷ more)

-- The lines of a text: its parts between line feeds. What follows the last line feed is a line if it isn't empty.
unfoldable pub lines_of : List ℕ → List (List ℕ)
lines_of text = without_empty_end (slice_split is_line_feed text)
