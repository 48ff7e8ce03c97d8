use Rattle.dn_flows.proofs.Words.{AreListed, KeepQueues, length, list_of, reservations, ◌≡◌, ◌≤◌}
use Rattle.dn_flows.proofs.listed.last_active.Given as goal

abbrev pub invariant-entries : goal.invariant-entries
invariant-entries l = record {
  listed : AreListed l.keys.keys l.queues.items l.members;
  counted : l.reserved ≡ reservations l.queues.items;
  fewer : l.reserved ≤ l.initial.reserved;
  keeps : KeepQueues l.initial.queues.items l.queues.items;
}

abbrev pub decreases-entries : goal.decreases-entries
decreases-entries l = length (list_of l.target l.members)
