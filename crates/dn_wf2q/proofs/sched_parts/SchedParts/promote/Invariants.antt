use Rattle.dn_wf2q.proofs.Words.{IsSchedKept, OnlyHeaps, length}
use Rattle.dn_wf2q.proofs.sched_parts.SchedParts.promote.Given as goal

abbrev pub invariant-loop : goal.invariant-loop
invariant-loop l = IsSchedKept l.self × OnlyHeaps l.initial.self l.self

abbrev pub decreases-loop : goal.decreases-loop
decreases-loop l = length l.self.waiting.keys
