-- Lines that are written plainly, without quotes, at the front of a text.
use Rattle.std.specs.Prelude.{◌≡◌, ℕ, ◌==◌, ◌||◌, ◌⊎◌, Bool, false, List, ◌∷◌, ◌++◌}
use Rattle.std.specs.List.{list_any}

-- Whether a line has a quote or a carriage return, which mean something to CSV.
abbrev pub has_quotes : List ℕ → Bool
has_quotes line = list_any (λ b. b == 34) line || list_any (λ b. b == 13) line

-- A text begins with a line, whose end is a line feed, or a carriage return and a line feed.
pub record BeginsBare (text line rest : List ℕ) : Type 0 where
  pub one : list_any (λ b. b == 10) line ≡ false
  pub ends : (text ≡ line ++ 10 ∷ rest) ⊎ (text ≡ line ++ 13 ∷ 10 ∷ rest)

-- The rest of a text stands behind a line feed.
pub record StandsBehindLine (text rest : List ℕ) : Type 0 where
  pub line : List ℕ
  pub stands : text ≡ line ++ 10 ∷ rest
