use Rattle.dn_wf2q.proofs.Words.{Flow, ap, forgotten, map, spare}
use Rattle.dn_wf2q.proofs.Passed.{idle_at}
use Rattle.dn_wf2q.proofs.Rooms.{room_listed}
use Rattle.dn_wf2q.proofs.Stored.{begun, has_room, passed, passes_with}
use Rattle.dn_wf2q.proofs.sched.Sched.pass.Goals as goal

pub pass-requires-clause-reserved : goal.pass-requires-clause-reserved
pass-requires-clause-reserved c =
    let qs = c.self.inside.queues.items in
    has_room c.self.inside.heads qs c.self.invariant c.args.slot (room_listed spare qs c.args.slot (rw (← c.self.view_is) at c.requires.reserved))

pub invariant_of-self : goal.invariant_of-self
invariant_of-self c =
    let flows = c.self.inside.heads.flows in
    let qs = c.self.inside.queues.items in
    let idle = rw (← c.self.view_is) at c.requires.idle in
    let p = c.pass.ensures.passes in
    record {
      stored =
          rw (p.picks.flows, p.here)
          (passed (forgotten flows) qs (begun flows qs c.self.invariant.stored) c.args.slot 0 c.args.len c.args.weight
          (room_listed spare qs c.args.slot (rw (← c.self.view_is) at c.requires.reserved)) (ap (λ (fl : Flow). fl.backlog) (idle_at flows idle c.args.slot)));
      rooms = c.pass.ensures.rooms;
    }

pub returns-clause-passes : goal.returns-clause-passes
returns-clause-passes c =
    let room = map spare c.self.inside.queues.items in
    rw (← c.self.view_is) (passes_with room room c.args.slot c.args.len c.args.weight c.self.inside.heads c.pass.new.self c.pass.ensures.passes)
