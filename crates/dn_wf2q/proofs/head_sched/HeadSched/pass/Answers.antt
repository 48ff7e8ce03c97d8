use Rattle.dn_wf2q.proofs.Words.{Passes, arith, flows_of, schedule_of, seen, subst, ℕ}
use Rattle.dn_wf2q.proofs.BySlot.{length-by_slot}
use Rattle.dn_wf2q.proofs.Passed.{passes}
use Rattle.dn_wf2q.proofs.Rooms.{keeps-forgotten, room_listed}
use Rattle.dn_wf2q.proofs.head_sched.HeadSched.pass.Goals as goal

pub invariant_of-self : goal.invariant_of-self
invariant_of-self c = record { kept = c.pass.ensures.kept; none_due = c.pass.ensures.none_due }

pub returns-clause-passes : goal.returns-clause-passes
returns-clause-passes c =
    let idle = rw (← c.self.view_is) at c.requires.idle in
    let it = passes c.args.slot c.get.result c.get-2.result c.self.inside.parts c.pass.new.self idle c.pass.ensures.passes in
    rw (← c.self.view_is)
    (subst (λ (x : ℕ × ℕ). Passes c.args.slot x.0 x.1 (schedule_of c.self.inside.parts) (schedule_of c.pass.new.self)) (λ i. (c.get.ensures.value i, c.get-2.ensures.value i)) it)

pub pass-requires-clause-listed : goal.pass-requires-clause-listed
pass-requires-clause-listed c =
    let p = c.self.inside.parts in
    let room = rw (← c.self.view_is) at c.requires.reserved in
    omega (arith, room_listed (λ fl. 1) (flows_of p) c.args.slot room, length-by_slot (seen p.busy_from) p.flows.items)

pub returns-clause-keeps_room : goal.returns-clause-keeps_room
returns-clause-keeps_room c = rw (← c.self.view_is) (keeps-forgotten (flows_of c.self.inside.parts) _ c.args.slot _ c.pass.ensures.passes.flows)
