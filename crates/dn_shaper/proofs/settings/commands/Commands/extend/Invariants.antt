-- The new places have none under them, and there is room for those that are left.
use Rattle.dn_shaper.proofs.Words.{at_number, unboxed, vec_capacity, vec_len, ℕ, ◌-◌, ◌≡◌, ◌≤◌}
use Rattle.dn_shaper.proofs.settings.commands.Commands.extend.Given as goal

abbrev pub invariant-loop-self : goal.invariant-loop-self
invariant-loop-self l = record {
  same : (n : ℕ) → at_number (unboxed l.self-inside.places.items) n ≡ at_number (unboxed l.initial.self-inside.places.items) n;
  room : l.wanted ≤ vec_capacity l.self-inside.places;
}

abbrev pub decreases-loop-self : goal.decreases-loop-self
decreases-loop-self l = l.wanted - vec_len l.self-inside.places
