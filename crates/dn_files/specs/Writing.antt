-- Whether a text was written, and why it wasn't.
use Rattle.std.specs.Prelude.{◌≡◌, ℕ, Bool, true, false, List, Option}
use Rattle.std.specs.Io.KnownBytes.{Keeps}
use Rattle.dn_records.specs.Devices.{AppendsPart}
use Rattle.dn_files.specs.declared.replay_fault.ReplayFault.{ReplayFault}
use Rattle.dn_files.specs.declared.replay_fault.ReplayFault.TheVariants.{Write, OutOfMemory}
use Rattle.dn_files.specs.declared.source.Source.{Source}

-- Nothing was written, and no write failed.
abbrev pub NothingWritten : Option (List ℕ) → Option (List ℕ) → Bool → Type 0
NothingWritten old new failed = (failed ≡ false) × Keeps old new

-- A write failed after a part of the text from its front, or memory was refused before anything was written.
abbrev pub IsUnwritten : Source → List ℕ → Option (List ℕ) → Option (List ℕ) → Bool → ReplayFault → Type 0
IsUnwritten source text old new failed (Write what) = (what ≡ source) × (failed ≡ true) × AppendsPart old new text
IsUnwritten source text old new failed OutOfMemory = NothingWritten old new failed
IsUnwritten source text old new failed _ = ⊥
