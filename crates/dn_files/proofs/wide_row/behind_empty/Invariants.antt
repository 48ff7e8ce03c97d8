use Rattle.dn_files.proofs.Words.{length, records_after, ◌≡◌}
use Rattle.csv.specs.declared.parser.State.TheVariants as st
use Rattle.dn_files.proofs.wide_row.behind_empty.Given as goal

abbrev pub invariant-loop-left : goal.invariant-loop-left
invariant-loop-left l = records_after st.StartRecord l.text ≡ records_after st.StartRecord l.left

abbrev pub decreases-loop-left : goal.decreases-loop-left
decreases-loop-left l = length l.left
