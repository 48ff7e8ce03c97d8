use Rattle.dn_wf2q.proofs.Words.{arith, get_or_read, spare}
use Rattle.dn_wf2q.proofs.Rooms.{room_grows}
use Rattle.dn_wf2q.proofs.Stored.{cleared}
use Rattle.dn_wf2q.proofs.sched.Sched.discard.Goals as goal

pub invariant_of-self-2 : goal.invariant_of-self-2
invariant_of-self-2 c =
    let qs = c.self.inside.queues in
    record {
      stored =
          rw c.discard.ensures.flows
          (cleared c.self.inside.heads.flows qs.items c.self.invariant.stored c.args.slot c.index_mut.result.now (omega (arith, qs.ok.0)) c.index_mut.ensures.value
          c.clear.new.self c.clear.ensures.items);
      rooms = c.discard.ensures.rooms;
    }

pub returns-clause-keeps_room : goal.returns-clause-keeps_room
returns-clause-keeps_room c =
    let qs = c.self.inside.queues.items in
    let room = c.clear.ensures.capacity in
    let none = c.clear.ensures.len in
    rw (← c.self.view_is)
    (room_grows spare qs c.args.slot c.clear.new.self
    (λ d l. let e = get_or_read qs c.args.slot c.index_mut.result.now l c.index_mut.ensures.value d in rw (← e) (omega arith)))
