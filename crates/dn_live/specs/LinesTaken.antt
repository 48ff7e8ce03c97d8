-- Lines that are taken off an input one by one, each with its line feed.
use Rattle.std.specs.Prelude.{◌≡◌, ℕ, ◌<◌, ◌≤◌, Bool, true, false, List, [], ◌∷◌, ◌++◌, Option, IfSome, length}
use Rattle.std.specs.List.{All}
use Rattle.std.specs.Io.KnownBytes.{Consumes, IsAtEnd, Keeps}
use Rattle.dn_config.specs.Tokens.Lines.{is_line_feed}
use Rattle.dn_records.specs.Records.{Fields}
use Rattle.dn_files.specs.declared.replay_fault.ReplayFault.{ReplayFault}
use Rattle.dn_files.specs.declared.replay_fault.ReplayFault.TheVariants.{Read, TooLong, OutOfMemory}
use Rattle.dn_files.specs.declared.source.Source.TheVariants.{Input}

-- The greatest length of a line in bytes, without its line feed.
abbrev pub line_limit : ℕ
line_limit = 65536

-- No byte of it is a line feed.
abbrev pub IsOneLine : List ℕ → Type 0
IsOneLine line = All (λ b. is_line_feed b ≡ false) line

-- A line, without its line feed, that isn't too long.
abbrev pub IsLine : List ℕ → Type 0
IsLine line = IsOneLine line × (length line ≤ line_limit)

-- The input begins with this text.
abbrev pub HasFront : Option (List ℕ) → List ℕ → Type 0
HasFront known front = IfSome known (λ bytes. (rest : List ℕ) × (bytes ≡ front ++ rest))

-- Behind this text the input goes on with more bytes than a line can have, and none of them is a line feed.
abbrev pub IsTooLong : Option (List ℕ) → List ℕ → Type 0
IsTooLong known front = (piece : List ℕ) × HasFront known (front ++ piece) × IsOneLine piece × (line_limit < length piece)

-- The bytes up to the next line feed and those behind it, or all where there is none.
abbrev pub TakesPiece : List ℕ → List ℕ → Bool → List ℕ → Type 0
TakesPiece old new true piece = old ≡ piece ++ 10 ∷ new
TakesPiece old new false piece = (old ≡ piece) × (new ≡ [])

-- A line was taken with its line feed, or what stands behind the last line feed of an input that has ended.
abbrev pub TakesLine : Option (List ℕ) → Option (List ℕ) → Bool → List ℕ → Type 0
TakesLine old new true line = Consumes old new (line ++ 10 ∷ [])
TakesLine old new false line = Consumes old new line × IsAtEnd new

-- The bytes that are left stay as they were. Some of them are there, or the input has ended.
abbrev pub IsFilled : Option (List ℕ) → Option (List ℕ) → Bool → List ℕ → Type 0
IsFilled old new true bytes = Keeps old new × (0 < length bytes)
IsFilled old new false bytes = Keeps old new × IsAtEnd new

-- Why no bytes were read: a read failed, or memory was refused.
abbrev pub IsNotRead : Bool → ReplayFault → Type 0
IsNotRead failed (Read what) = (what ≡ Input) × (failed ≡ true)
IsNotRead failed OutOfMemory = failed ≡ false
IsNotRead failed fault = ⊥

-- Why no line was taken: no bytes were read, or the line is too long.
abbrev pub IsNotTaken : Option (List ℕ) → Bool → ReplayFault → Type 0
IsNotTaken known failed (TooLong what) = (what ≡ Input) × (failed ≡ false) × IsTooLong known []
IsNotTaken known failed fault = IsNotRead failed fault

-- Whether there is no record.
abbrev pub has_none : List Fields → Bool
has_none [] = true
has_none (first ∷ rest) = false

-- The fields of the first of some records were read, and whether there is no more than one is told.
abbrev pub IsRead : List Fields → Bool → Fields → Type 0
IsRead [] one fields = (one ≡ true) × (fields ≡ [])
IsRead (first ∷ []) one fields = (one ≡ true) × (fields ≡ first)
IsRead (first ∷ more ∷ rest) one fields = (one ≡ false) × (fields ≡ first)
