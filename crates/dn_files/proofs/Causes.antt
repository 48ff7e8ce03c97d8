-- Why a text isn't written, as the two cases of a proof: no other fault comes.
use Rattle.dn_files.proofs.Words.{BadCount, BadRecord, BadRow, Bool, ConfigText, IsUnwritten, List, NoSuchPipe, NoSuchQueue, NothingWritten, Option, OutOfMemory, PipeHasQueues, ReplayFault}
use Rattle.dn_files.proofs.Words.{Source, TooLong, Write, ℕ}
use Rattle.dn_files.specs.declared.replay_fault.ReplayFault.TheVariants.{Config, Read}

pub unwritten-cases : (P : ReplayFault → Type 0) (source : Source) (text : List ℕ) (old new : Option (List ℕ)) (failed : Bool) (fault : ReplayFault)
    → ((what : Source) → IsUnwritten source text old new failed (Write what) → P (Write what)) → (NothingWritten old new failed → P OutOfMemory)
    → IsUnwritten source text old new failed fault → P fault
unwritten-cases P source text old new failed (Write what) write memory h = write what h
unwritten-cases P source text old new failed OutOfMemory write memory h = memory h
unwritten-cases P source text old new failed (Read what) write memory h = absurd h
unwritten-cases P source text old new failed (Config line fault) write memory h = absurd h
unwritten-cases P source text old new failed (ConfigText line) write memory h = absurd h
unwritten-cases P source text old new failed (NoSuchPipe line) write memory h = absurd h
unwritten-cases P source text old new failed (BadRow row field) write memory h = absurd h
unwritten-cases P source text old new failed (BadRecord number) write memory h = absurd h
unwritten-cases P source text old new failed (TooLong what) write memory h = absurd h
unwritten-cases P source text old new failed BadCount write memory h = absurd h
unwritten-cases P source text old new failed (PipeHasQueues line) write memory h = absurd h
unwritten-cases P source text old new failed (NoSuchQueue line) write memory h = absurd h
