-- A line as the command that it is, and what is wrong with it, in C's words.
use Rattle.std.specs.Prelude.{◌≡◌, ◌≢◌, ℕ, IsUtf8, List, Ok, Err, Some}
use Rattle.dn_config.specs.Line.{answer}
use Rattle.dn_config.specs.Faults.{word_of}
use Rattle.dn_config.specs.declared.fault.LineFault.{LineFault}
use Rattle.dn_config.specs.declared.fault.LineFault.TheVariants.{UnknownWord, MissingValue, BadNumber, OutOfRange, LeftOut, NeedsPipe, OutOfMemory}
use Rattle.dn_types.specs.declared.command.Command.{Command}
use Rattle.hingetulip_c.specs.declared.records.c_fault.CFault.{CFault}

-- If the line is a command, this is so of it. If it has a fault, this is so of that.
abbrev pub IfCommand : List ℕ → (Command → Type 0) → Type 0
IfCommand line is = (command : Command) → answer line ≡ Ok (Some command) → is command

abbrev pub IfFault : List ℕ → (LineFault → Type 0) → Type 0
IfFault line is = (found : LineFault) → answer line ≡ Err found → is found

-- The number of a fault's kind in the header.
abbrev pub kind_of : LineFault → ℕ
kind_of (UnknownWord at) = 1
kind_of (MissingValue at) = 2
kind_of (BadNumber at) = 3
kind_of (OutOfRange at) = 4
kind_of (LeftOut at) = 5
kind_of (NeedsPipe at) = 6
kind_of OutOfMemory = 7

-- The fault of a line, and that of a text that is no UTF-8.
abbrev pub fault_of : LineFault → CFault
fault_of found = record { word = word_of found; kind = kind_of found; reserved = 0 }

abbrev pub no_text : CFault
no_text = record { word = 0; kind = 0; reserved = 0 }

-- If the line is no command, the status says so (8), and its first fault is written. No other status writes one.
pub record TellsFault (line : List ℕ) (status : ℕ) (old new : CFault) : Type 0 where
  pub garbled : ¬ (IsUtf8 line) → (status ≡ 8) × (new ≡ no_text)
  pub fault : IsUtf8 line → IfFault line (λ found. (status ≡ 8) × (new ≡ fault_of found))
  pub no_fault : status ≢ 8 → new ≡ old
