use Rattle.dn_wf2q.proofs.Words.{arith, flows_of, seen}
use Rattle.dn_wf2q.proofs.BySlot.{length-by_slot}
use Rattle.dn_wf2q.proofs.Rooms.{keeps-set, room_listed}
use Rattle.dn_wf2q.proofs.head_sched.HeadSched.arrive.Goals as goal

pub invariant_of-self : goal.invariant_of-self
invariant_of-self c = record { kept = c.arrive.ensures.kept; none_due = c.arrive.ensures.none_due c.self.invariant.none_due }

pub arrive-requires-clause-listed : goal.arrive-requires-clause-listed
arrive-requires-clause-listed c =
    let p = c.self.inside.parts in
    let room = rw (← c.self.view_is) at c.requires.reserved in
    omega (arith, room_listed (λ fl. 1) (flows_of p) c.args.slot room, length-by_slot (seen p.busy_from) p.flows.items)

pub returns-clause-keeps_room : goal.returns-clause-keeps_room
returns-clause-keeps_room c = rw (← c.self.view_is) (keeps-set (flows_of c.self.inside.parts) _ c.args.slot _ c.arrive.ensures.arrived.flows)
