use Rattle.dn_history.proofs.Words.{Entry, HasAudited, List, Rule, length, ◌++◌, ◌+◌, ◌≡◌}
use Rattle.dn_history.proofs.HistoryReading.{after_front}
use Rattle.dn_history.proofs.file_audit.entries.audit_entries.Given as goal

-- A front of the entries that were left was audited behind those before.
abbrev pub invariant-loop-entry : goal.invariant-loop-entry
invariant-loop-entry l =
    (front : List Entry)
    × (after_front front l.reader.entries ≡ l.fn.reader.entries)
    × (l.reader.given ≡ l.fn.reader.given + length front)
    × (l.reader.rule ≡ l.fn.reader.rule)
    × ((rule : Rule) (before : List Entry) → HasAudited rule l.fn.audit before → l.fn.reader.given ≡ length before → HasAudited rule l.audit (before ++ front))

abbrev pub decreases-loop-entry : goal.decreases-loop-entry
decreases-loop-entry l = l.reader.records
