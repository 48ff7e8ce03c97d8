use Rattle.dn_files.proofs.Words.{HasRead, List, [], length, ℕ}
use Rattle.dn_files.proofs.packet_reader.PacketReader.all_rows.Given as goal

abbrev pub invariant-loop-row : goal.invariant-loop-row
invariant-loop-row l = (text : List ℕ) → HasRead l.fn.self text [] → HasRead l.self text l.rows.items

abbrev pub decreases-loop-row : goal.decreases-loop-row
decreases-loop-row l = length l.self.text
