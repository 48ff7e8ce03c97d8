-- What may stand before and behind the lines of a text: a byte order mark before the first, and behind each a line feed, or a carriage
-- return and a line feed.
use Rattle.std.specs.Prelude.{ℕ, List, [], ◌∷◌, length, take, drop, Option, Some, None, bytes_eq, if◌then◌else◌, unwrap_or}
use Rattle.std.specs.Option.{option_or}
use Rattle.dn_config.specs.Tokens.Addresses.{◌>>=◌}
use Rattle.dn_config.specs.Tokens.Until.{number_until}

-- What stands behind a word at the front of a text.
abbrev pub behind_word : List ℕ → List ℕ → Option (List ℕ)
behind_word word text = if bytes_eq (take (length word) text) word then Some (drop (length word) text) else None

-- What stands behind a byte order mark at the front of a text, and else the text.
unfoldable pub past_mark : List ℕ → List ℕ
past_mark text = unwrap_or (behind_word (239 ∷ 187 ∷ 191 ∷ []) text) text

-- What stands behind the end of a line at the front of a text.
unfoldable pub behind_end : List ℕ → Option (List ℕ)
behind_end text = option_or (behind_word (10 ∷ []) text) (behind_word (13 ∷ 10 ∷ []) text)

-- What stands behind the first line of a text, where it has these words. A byte order mark may stand before it.
unfoldable pub behind_first : List ℕ → List ℕ → Option (List ℕ)
behind_first words text = do
  rest ← behind_word words (past_mark text)
  behind_end rest

-- The number of a range whose digits a text begins with, and what stands behind the carriage return and the line feed that end it.
unfoldable pub number_before_return : ℕ → ℕ → List ℕ → Option (ℕ × List ℕ)
number_before_return least greatest text = do
  number ← number_until 13 least greatest text
  rest ← behind_word (10 ∷ []) number.1
  Some (number.0, rest)

-- The number of a range whose digits a text begins with, and what stands behind the end of the line that follows them.
unfoldable pub number_at_end : ℕ → ℕ → List ℕ → Option (ℕ × List ℕ)
number_at_end least greatest text = option_or (number_until 10 least greatest text) (number_before_return least greatest text)
