-- The two parts of a joined input.
use Rattle.std.specs.Prelude.{ℕ, ◌==◌, ◌&&◌, List, [], ◌∷◌, Bool, true, Option, None, Some, if◌then◌else◌, is_some, unwrap_or}

-- what stands after a line feed at the front of a text, or after a carriage return and a line feed; a text that ends here has nothing after it
abbrev pub after_end : List ℕ → Option (List ℕ)
after_end [] = Some []
after_end (c ∷ []) = if c == 10 then Some [] else None
after_end (c ∷ d ∷ rest) = if c == 10 then Some (d ∷ rest) else if (c == 13) && (d == 10) then Some rest else None

-- what stands after a line `--` at the front of a text
abbrev pub after_mark : List ℕ → Option (List ℕ)
after_mark [] = None
after_mark (a ∷ []) = None
after_mark (a ∷ b ∷ rest) = if (a == 45) && (b == 45) then after_end rest else None

-- the text up to the first line `--` and what stands after that line, where the text starts a line or not
unfoldable pub parts_from : Bool → List ℕ → List ℕ × List ℕ
parts_from start [] = ([], [])
parts_from start (c ∷ rest) =
    if start && is_some (after_mark (c ∷ rest)) then ([], unwrap_or (after_mark (c ∷ rest)) [])
    else (c ∷ (parts_from (c == 10) rest).0, (parts_from (c == 10) rest).1)

-- the configuration and the packet file of a joined input
abbrev pub joined_parts : List ℕ → List ℕ × List ℕ
joined_parts text = parts_from true text
