use Rattle.dn_service.proofs.Words.{length, take, vec_capacity, vec_len, ◌≡◌, ◌≤◌}
use Rattle.dn_service.proofs.room.filled.Given as goal

abbrev pub invariant-loop-item : goal.invariant-loop-item
invariant-loop-item g l = (l.room.items ≡ take l.item-index l.items) × (vec_len l.room ≡ l.item-index) × (length l.items ≤ vec_capacity l.room)
