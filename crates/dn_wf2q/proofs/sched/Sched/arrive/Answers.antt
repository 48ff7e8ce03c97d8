use Rattle.dn_wf2q.proofs.Words.{arith, spare}
use Rattle.dn_wf2q.proofs.Rooms.{room_listed, room_of_others}
use Rattle.dn_wf2q.proofs.Stored.{has_place, has_room, joined}
use Rattle.dn_wf2q.proofs.sched.Sched.arrive.Goals as goal

pub index_mut-requires : goal.index_mut-requires
index_mut-requires c = let qs = c.self.inside.queues in omega (arith, qs.ok.0, room_listed spare qs.items c.args.slot (rw (← c.self.view_is) at c.requires.reserved))

pub push_back_reserved-requires : goal.push_back_reserved-requires
push_back_reserved-requires c =
    has_place c.self.inside.queues.items c.args.slot c.index_mut.result.now c.index_mut.ensures.value (rw (← c.self.view_is) at c.requires.reserved)

pub arrive-requires-clause-reserved : goal.arrive-requires-clause-reserved
arrive-requires-clause-reserved c =
    let qs = c.self.inside.queues.items in
    has_room c.self.inside.heads qs c.self.invariant c.args.slot (room_listed spare qs c.args.slot (rw (← c.self.view_is) at c.requires.reserved))

pub invariant_of-self : goal.invariant_of-self
invariant_of-self c =
    let qs = c.self.inside.queues.items in
    record {
      stored =
          rw c.arrive.ensures.flows
          (joined c.self.inside.heads.flows qs c.self.invariant.stored c.args.slot c.index_mut.result.now
          (room_listed spare qs c.args.slot (rw (← c.self.view_is) at c.requires.reserved)) c.index_mut.ensures.value
          c.self.inside.heads.virtual_time c.args.len c.args.weight c.push_back_reserved.new.self c.push_back_reserved.ensures.items);
      rooms = c.arrive.ensures.rooms;
    }

pub returns-clause-keeps_room : goal.returns-clause-keeps_room
returns-clause-keeps_room c = rw (← c.self.view_is) (λ other apart. room_of_others spare c.self.inside.queues.items c.args.slot c.push_back_reserved.new.self other apart)
