-- The lists so far go on to those of all entries.
use Rattle.hingetulip_c.proofs.Words.{lists_in, nothing, ◌≡◌}
use Rattle.hingetulip_c.proofs.EntryLists.{lists_after}
use Rattle.hingetulip_c.proofs.entry_lists.lists_left.Given as goal

abbrev pub invariant-loop-entry : goal.invariant-loop-entry
invariant-loop-entry l = (lists_after (lists_in l.lists) l.reader.entries ≡ lists_after nothing l.fn.reader.entries) × (l.reader.rule ≡ l.fn.reader.rule)

abbrev pub decreases-loop-entry : goal.decreases-loop-entry
decreases-loop-entry l = l.reader.records
