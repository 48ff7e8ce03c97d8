use Rattle.dn_history.proofs.Words.{AreRead, length, records_after, records_of, ◌<◌, ◌^◌, ◌≡◌}
use Rattle.csv.specs.declared.parser.State.TheVariants as st
use Rattle.dn_history.proofs.read.batch.read_batch.Given as goal

abbrev pub invariant-loop-entry : goal.invariant-loop-entry
invariant-loop-entry l = record {
  read : AreRead l.version l.given (record { number = l.number; records = records_of l.text }) l.batch.entries.items l.batch.given l.records;
  left : l.records ≡ record { number = l.batch.number; records = records_after st.StartRecord l.batch.left.now };
  few : (l.batch.given < 2 ^ 62) × (l.batch.number < 2 ^ 62);
}

abbrev pub decreases-loop-entry : goal.decreases-loop-entry
decreases-loop-entry l = length l.records.records
