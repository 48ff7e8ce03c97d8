use Rattle.dn_wf2q.proofs.Words.{IsExtended, vec_capacity, vec_len, ◌-◌, ◌<◌, ◌≤◌}
use Rattle.dn_wf2q.proofs.reserve.add_queues.Given as goal

abbrev pub invariant-blanks : goal.invariant-blanks
invariant-blanks l = IsExtended l.initial.flows.items l.flows.items × (vec_len l.flows ≤ l.slot) × (l.slot < vec_capacity l.flows)

abbrev pub decreases-blanks : goal.decreases-blanks
decreases-blanks l = l.slot - vec_len l.flows
