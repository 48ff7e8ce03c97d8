-- An own link is left as it is, and the block of a shared one holds the scheduler after its step.
use Rattle.dn_shaper.proofs.Words.{IsIdle, Passes, SharedLink, ap, room_at, subst, sym, with_value, ◌<◌, ◌^◌}
use Rattle.dn_wf2q.specs.Schedule.{KeepsRoom}
use Rattle.dn_shaper.proofs.Passing.{can-shared, own-passes, shared-passes}
use Rattle.dn_shaper.proofs.links.pass.pass_link.Goals as goal

pub pass-requires-clause-idle : goal.pass-requires-clause-idle
pass-requires-clause-idle c = subst (λ (x : SharedLink). IsIdle x.sched.flows) (sym c.deref_mut.ensures.value) (can-shared c.args.link.now c.in-Shared.is c.args.slot c.requires).0

pub pass-requires-clause-reserved : goal.pass-requires-clause-reserved
pass-requires-clause-reserved c =
    subst (λ (x : SharedLink). 0 < room_at x.sched.room c.args.slot) (sym c.deref_mut.ensures.value) (can-shared c.args.link.now c.in-Shared.is c.args.slot c.requires).1.0

pub pass-requires-clause-few : goal.pass-requires-clause-few
pass-requires-clause-few c = subst (λ (x : SharedLink). x.sched.arrivals < 2 ^ 62) (sym c.deref_mut.ensures.value) (can-shared c.args.link.now c.in-Shared.is c.args.slot c.requires).1.1

pub returns-in-Own : goal.returns-in-Own
returns-in-Own c = own-passes c.in-Own.is

pub returns-in-Shared : goal.returns-in-Shared
returns-in-Shared c =
    shared-passes c.args.link.now c.in-Shared.is c.args.slot (with_value c.in-Shared.shared (record { sched = c.pass.new.self; flows = c.deref_mut.result.now.flows }))
    (subst (λ (x : SharedLink). Passes c.args.slot c.args.len c.args.weight x.sched c.pass.new.self) c.deref_mut.ensures.value c.pass.ensures.passes)
    (subst (λ (x : SharedLink). KeepsRoom x.sched c.pass.new.self) c.deref_mut.ensures.value c.pass.ensures.keeps_room)
    (ap (λ (x : SharedLink). x.flows) c.deref_mut.ensures.value)
