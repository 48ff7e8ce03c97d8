use Rattle.dn_wf2q.proofs.Words.{IsMore, vec_capacity, vec_len, ◌-◌, ◌<◌, ◌≤◌}
use Rattle.dn_wf2q.proofs.packet_queues.add_queues.Given as goal

abbrev pub invariant-blanks : goal.invariant-blanks
invariant-blanks l = IsMore l.initial.queues.items l.queues.items × (vec_len l.queues ≤ l.slot) × (l.slot < vec_capacity l.queues)

abbrev pub decreases-blanks : goal.decreases-blanks
decreases-blanks l = l.slot - vec_len l.queues
