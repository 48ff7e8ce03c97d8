-- The status of each fault, and the names of what is read or written.
use Rattle.std.specs.Prelude.{ℕ, List, codes}
use Rattle.dn_files.specs.declared.replay_fault.ReplayFault.{ReplayFault}
use Rattle.dn_files.specs.declared.replay_fault.ReplayFault.TheVariants.{Config, ConfigText, NoSuchPipe, BadRow, BadRecord, TooLong, Read, Write, OutOfMemory, BadCount, PipeHasQueues, NoSuchQueue}
use Rattle.dn_files.specs.declared.source.Source.{Source}
use Rattle.dn_files.specs.declared.source.Source.TheVariants as source

-- The status with which the program ends: 2 for usage, 3 for a configuration line, 4 for a packet row or a history
-- record, 5 for memory, and 6 for reading, writing and length.
abbrev pub fault_status : ReplayFault → ℕ
fault_status BadCount = 2
fault_status (Config line fault) = 3
fault_status (ConfigText line) = 3
fault_status (NoSuchPipe line) = 3
fault_status (PipeHasQueues line) = 3
fault_status (NoSuchQueue line) = 3
fault_status (BadRow row field) = 4
fault_status (BadRecord number) = 4
fault_status OutOfMemory = 5
fault_status (TooLong what) = 6
fault_status (Read what) = 6
fault_status (Write what) = 6

-- The names under which fault lines speak of what is read or written.
abbrev pub source_name : Source → List ℕ
source_name source.Input = codes "input"
source_name source.Config = codes "config"
source_name source.Packets = codes "packets"
source_name source.History = codes "history"
source_name source.Report = codes "report"
