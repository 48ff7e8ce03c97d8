-- What is read: a value, or the first fault.
use Rattle.std.specs.Prelude.{◌≡◌, ℕ, Bool, true, false, cond, nat_le, List, length, Option, IfSome, Result, Ok, Err, ⊤}
use Rattle.dn_files.specs.declared.replay_fault.ReplayFault.{ReplayFault}
use Rattle.dn_files.specs.declared.replay_fault.ReplayFault.TheVariants.{Read, Write, TooLong, OutOfMemory}
use Rattle.dn_files.specs.declared.source.Source.{Source}

-- What follows a value is read where there is one, and a fault stays.
infixl 10 ◌>>=◌
abbrev pub ◌>>=◌ : {A B E : Type 0} → Result A E → (A → Result B E) → Result B E
(Ok x) >>= read = read x
(Err fault) >>= read = Err fault

-- The text of an input that has a limit.
abbrev pub within_limit : ℕ → Source → List ℕ → Result (List ℕ) ReplayFault
within_limit limit source text = cond (nat_le (length text) limit) (Ok text) (Err (TooLong source))

-- Why a text was refused: memory was refused, or it is the text's own fault.
abbrev pub IsFaultOf : {A : Type 0} → Result A ReplayFault → ReplayFault → Type 0
IsFaultOf read OutOfMemory = ⊤
IsFaultOf read (Read source) = ⊥
IsFaultOf read (Write source) = ⊥
IsFaultOf read fault = read ≡ Err fault

-- A text that an input may have held: where the bytes that it had left are known, those.
abbrev pub IsTextOf : Option (List ℕ) → List ℕ → Type 0
IsTextOf known text = IfSome known (λ bytes. text ≡ bytes)

-- An input, of which these bytes were left, is read as a value.
abbrev pub ReadsAs : {A : Type 0} → (List ℕ → Result A ReplayFault) → Option (List ℕ) → A → Type 0
ReadsAs read known value = (text : List ℕ) × IsTextOf known text × (read text ≡ Ok value)

-- An input is refused for a fault of its text.
abbrev pub IsRefusedFor : {A : Type 0} → (List ℕ → Result A ReplayFault) → Option (List ℕ) → ReplayFault → Type 0
IsRefusedFor read known fault = (text : List ℕ) × IsTextOf known text × (read text ≡ Err fault)

-- Why an input was refused, by its bytes and by whether a read of it failed: a read failed, memory was refused, or it is
-- the own fault of its text.
abbrev pub IsRefusal : {A : Type 0} → Source → (List ℕ → Result A ReplayFault) → Option (List ℕ) → Bool → ReplayFault → Type 0
IsRefusal source read known failed (Read what) = (what ≡ source) × (failed ≡ true)
IsRefusal source read known failed (Write what) = ⊥
IsRefusal source read known failed OutOfMemory = failed ≡ false
IsRefusal source read known failed fault = (failed ≡ false) × IsRefusedFor read known fault
