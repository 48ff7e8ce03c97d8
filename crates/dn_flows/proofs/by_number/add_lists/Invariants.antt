use Rattle.dn_flows.proofs.Words.{list_at, map, vec_capacity, vec_items, vec_len, ℕ, ◌+◌, ◌-◌, ◌<◌, ◌≡◌}
use Rattle.dn_flows.proofs.by_number.add_lists.Given as goal

abbrev pub invariant-empty : goal.invariant-empty
invariant-empty l = record {
  room : l.place < vec_capacity l.lists;
  kept : (other : ℕ) → list_at (map vec_items l.lists.items) other ≡ list_at (map vec_items l.initial.lists.items) other;
}

abbrev pub decreases-empty : goal.decreases-empty
decreases-empty l = l.place + 1 - vec_len l.lists
