-- The words of a configuration line. A line is the list of its bytes.
use Rattle.std.specs.Prelude.{ℕ, Bool, ◌==◌, List}
use Rattle.std.specs.List.{before_first}
use Rattle.dn_config.specs.Tokens.Words.{words_of}

-- The byte that begins a comment.
abbrev pub is_hash : ℕ → Bool
is_hash byte = byte == 35

-- The words of a line: those before its first comment.
unfoldable pub words : List ℕ → List (List ℕ)
words line = words_of (before_first is_hash line)
