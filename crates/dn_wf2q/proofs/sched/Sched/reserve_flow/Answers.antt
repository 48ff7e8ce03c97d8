use Rattle.dn_wf2q.proofs.Words.{arith, get_or_read, spare, ◌+◌}
use Rattle.dn_wf2q.proofs.Rooms.{on_ok, room_grows}
use Rattle.dn_wf2q.proofs.Stored.{extended, regrown, room_here}
use Rattle.dn_wf2q.proofs.sched.Sched.reserve_flow.Goals as goal

pub invariant_of-self : goal.invariant_of-self
invariant_of-self c =
    let qs = c.self.inside.queues in
    record {
      stored =
          regrown c.self.inside.heads.flows qs.items c.self.invariant.stored c.args.slot c.index_mut.result.now (omega (arith, qs.ok.0)) c.index_mut.ensures.value
          c.reserve.new.self c.reserve.ensures.items;
      rooms = c.self.invariant.rooms;
    }

pub returns-then-slot-len-clause-reserved : goal.returns-then-slot-len-clause-reserved
returns-then-slot-len-clause-reserved c =
    let qs = c.self.inside.queues in
    on_ok c.reserve.result _ _ (λ fits. rw (room_here qs.items c.args.slot c.reserve.new.self (omega (arith, qs.ok.0))) (omega (arith, fits))) c.reserve.ensures.ok

pub returns-then-slot-len-clause-keeps_room : goal.returns-then-slot-len-clause-keeps_room
returns-then-slot-len-clause-keeps_room c =
    let qs = c.self.inside.queues.items in
    let room = c.reserve.ensures.capacity in
    let same = c.reserve.ensures.len in
    rw (← c.self.view_is)
    (room_grows spare qs c.args.slot c.reserve.new.self
    (λ d l. let e = get_or_read qs c.args.slot c.index_mut.result.now l c.index_mut.ensures.value d in rw (← e) (omega arith)))

pub invariant_of-self-2 : goal.invariant_of-self-2
invariant_of-self-2 c =
    let qs = c.self.inside.queues.items in
    record {
      stored =
          rw c.in_ok-reserve_flow.ensures.ok
          (extended c.self.inside.heads.flows qs c.self.invariant.stored (c.args.slot + 1) c.add_queues.new.queues.items
          (rw c.reserve_queue.ensures.items at c.add_queues.ensures.more) c.add_queues.ensures.len);
      rooms = c.reserve_flow.ensures.rooms;
    }
