use Rattle.dn_wf2q.proofs.Words.{arith, flows_of, seen, ◌+◌}
use Rattle.dn_wf2q.proofs.BySlot.{length-by_slot}
use Rattle.dn_wf2q.proofs.Rooms.{keeps-told, known, on_ok, room_listed}
use Rattle.dn_wf2q.proofs.head_sched.HeadSched.reserve_flow.Goals as goal

pub invariant_of-self : goal.invariant_of-self
invariant_of-self c =
    let r = c.reserve_flow.ensures in
    record { kept = r.kept; none_due = rw (r.reserves.virtual_time, r.keeps_waiting) c.self.invariant.none_due }

pub returns-clause-succeeds : goal.returns-clause-succeeds
returns-clause-succeeds c = λ reserved.
    let p = c.self.inside.parts in
    let room = rw (← c.self.view_is) at reserved in
    c.reserve_flow.ensures.succeeds (omega (arith, room_listed (λ fl. 1) (flows_of p) c.args.slot room, length-by_slot (seen p.busy_from) p.flows.items))

pub returns-clause-reserved : goal.returns-clause-reserved
returns-clause-reserved c =
    let p = c.reserve_flow.new.self in
    on_ok c.reserve_flow.result _ _
    (λ listed. known (flows_of p) c.args.slot (omega (arith, listed, length-by_slot (seen p.busy_from) p.flows.items))) c.reserve_flow.ensures.listed

pub returns-clause-keeps_room : goal.returns-clause-keeps_room
returns-clause-keeps_room c =
    rw (← c.self.view_is) (keeps-told c.reserve_flow.result (flows_of c.self.inside.parts) _ (c.args.slot + 1) c.reserve_flow.ensures.ok c.reserve_flow.ensures.err)
