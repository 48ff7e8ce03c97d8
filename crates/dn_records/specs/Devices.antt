-- A device is seen as the bytes that it has left to give, or has taken, where those are known, and as whether a call
-- of it has failed.
use Rattle.std.specs.Prelude.{◌≡◌, ℕ, ◌<◌, ◌≤◌, zero, suc, Bool, true, false, List, [], ◌∷◌, length, take, Option, None, Some, IfSome}
use Rattle.std.specs.Io.KnownBytes.{Consumes, Appends, Keeps, IsAtEnd}
use Rattle.dn_records.specs.declared.read_fault.ReadFault.{ReadFault}
use Rattle.dn_records.specs.declared.read_fault.ReadFault.TheVariants as fault

-- A read gave bytes into the front of the buffer, and none only at the end or with no room. A failed read left the
-- known bytes as they were.
abbrev pub ReadsBytes : Option (List ℕ) → Option (List ℕ) → Option ℕ → List ℕ → Type 0
ReadsBytes old new None buf = Keeps old new
ReadsBytes old new (Some n) buf = (n ≤ length buf) × Consumes old new (take n buf) × (n ≡ 0 → 0 < length buf → IsAtEnd new)

-- A write took bytes from the front of the buffer. A failed write left the known bytes as they were.
abbrev pub Writes : Option (List ℕ) → Option (List ℕ) → Option ℕ → List ℕ → Type 0
Writes old new None buf = Keeps old new
Writes old new (Some n) buf = (n ≤ length buf) × Appends old new (take n buf)

-- A read fails where it answers nothing.
abbrev pub read_fails : Option ℕ → Bool
read_fails None = true
read_fails (Some n) = false

-- A write fails where it answers nothing, or takes 0 of at least one byte.
abbrev pub write_fails : Option ℕ → List ℕ → Bool
write_fails None buf = true
write_fails (Some zero) [] = false
write_fails (Some zero) (b ∷ rest) = true
write_fails (Some (suc n)) buf = false

-- A text is all that was left of an input, within the limit, and the input is now at its end.
abbrev pub IsWhole : Option (List ℕ) → Option (List ℕ) → ℕ → List ℕ → Type 0
IsWhole old new limit text = (length text ≤ limit) × IfSome old (λ bytes. text ≡ bytes) × IsAtEnd new

-- Why an input was not read whole, by the bytes that it had left, the limit, and whether a read failed. An input without
-- a byte needs no memory.
abbrev pub Refuses : Option (List ℕ) → ℕ → Bool → ReadFault → Type 0
Refuses old limit failed fault.TooLong = (failed ≡ false) × IfSome old (λ bytes. limit < length bytes)
Refuses old limit failed fault.Read = failed ≡ true
Refuses old limit failed fault.OutOfMemory = (failed ≡ false) × IfSome old (λ bytes. 0 < length bytes)

-- The outlet took a front of the text, and not the whole of it.
abbrev pub AppendsPart : Option (List ℕ) → Option (List ℕ) → List ℕ → Type 0
AppendsPart old new text = (k : ℕ) × (k < length text) × Appends old new (take k text)
