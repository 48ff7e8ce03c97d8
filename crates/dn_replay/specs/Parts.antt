-- A text that is written in parts: a front of it was written, and what follows stands in a buffer.
use Rattle.std.specs.Prelude.{◌≡◌, ℕ, List, ◌++◌, Option}
use Rattle.std.specs.Io.KnownBytes.{Appends}
use Rattle.dn_records.specs.Devices.{AppendsPart}

-- Of the text so far a front was appended to what was there at the start, and the buffer holds the rest.
pub record IsUnderWay (start now : Option (List ℕ)) (buffer text : List ℕ) : Type 0 where
  pub front : List ℕ
  pub written : Appends start now front
  pub whole : text ≡ front ++ buffer

-- Whatever text was under way is so still, with another front written.
abbrev pub GoesOn : Option (List ℕ) → List ℕ → Option (List ℕ) → List ℕ → Type 0
GoesOn old buffer new left = (start : Option (List ℕ)) (text : List ℕ) → IsUnderWay start old buffer text → IsUnderWay start new left text

-- The same, and this was added to the text.
abbrev pub Adds : Option (List ℕ) → List ℕ → Option (List ℕ) → List ℕ → List ℕ → Type 0
Adds old buffer new left added =
    (start : Option (List ℕ)) (before : List ℕ) → IsUnderWay start old buffer before → IsUnderWay start new left (before ++ added)

-- Whatever text was under way, a part of it was written before a write failed, whatever was to follow.
abbrev pub BreaksOff : Option (List ℕ) → List ℕ → Option (List ℕ) → Type 0
BreaksOff old buffer new = (start : Option (List ℕ)) (text rest : List ℕ) → IsUnderWay start old buffer text → AppendsPart start new (text ++ rest)

-- The same while this was added to the text.
abbrev pub BreaksOffIn : List ℕ → Option (List ℕ) → List ℕ → Option (List ℕ) → Type 0
BreaksOffIn added old buffer new =
    (start : Option (List ℕ)) (before rest : List ℕ) → IsUnderWay start old buffer before → AppendsPart start new ((before ++ added) ++ rest)
