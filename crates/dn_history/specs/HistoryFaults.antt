-- The faults that the reading of a history file has.
use Rattle.std.specs.Prelude.{◌≡◌, ⊤}
use Rattle.dn_files.specs.declared.replay_fault.ReplayFault.{ReplayFault}
use Rattle.dn_files.specs.declared.replay_fault.ReplayFault.TheVariants.{BadRecord, OutOfMemory, Read, TooLong}
use Rattle.dn_files.specs.declared.source.Source.TheVariants.{History}

-- A read failed, the file is too long, a record is bad, or memory was refused. No other fault comes.
abbrev pub IsHistoryFault : ReplayFault → Type 0
IsHistoryFault (Read what) = what ≡ History
IsHistoryFault (TooLong what) = what ≡ History
IsHistoryFault (BadRecord number) = ⊤
IsHistoryFault OutOfMemory = ⊤
IsHistoryFault fault = ⊥
