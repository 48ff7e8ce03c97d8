use Rattle.dn_service.proofs.Words.{[], keeping, new_accounts, new_callers, vec_capacity, vec_len, ◌-◌, ◌≡◌, ◌≤◌}
use Rattle.dn_service.proofs.hand_out.hand_out.Given as goal

abbrev pub invariant-loop-number : goal.invariant-loop-number
invariant-loop-number l =
    (l.seat.table_id ≡ l.initial.seat.table_id)
    × (l.seat.me ≡ (keeping l.count [] (new_accounts l.number (l.count - l.number)), []))
    × (l.callers.items ≡ new_callers (record { table = l.initial.seat.table_id; callers = l.count }) 0 l.number)
    × (vec_len l.callers ≡ l.number)
    × (l.count ≤ vec_capacity l.callers)
