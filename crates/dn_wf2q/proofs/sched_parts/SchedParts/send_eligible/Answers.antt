use Rattle.dn_wf2q.proofs.Words.{IsFirst, ap, arith, drop, finishing, flow_at, flows_of, length, packets_of, refl, sym, ◌+◌, ◌∙◌}
use Rattle.dn_wf2q.proofs.Payable.{payable}
use Rattle.dn_wf2q.proofs.Ranks.{zero_from_none}
use Rattle.dn_wf2q.proofs.Heads.{next_is_none}
use Rattle.dn_wf2q.proofs.Own.{own_slots}
use Rattle.dn_wf2q.proofs.Steps.{picked_is, picked_none, picked_slot, popped_ready}
use Rattle.dn_wf2q.proofs.Sent.{listed, at_slot, has_head, next_is, head_is, weighs, sends, last_kept, more_kept}
use Rattle.dn_wf2q.proofs.sched_parts.SchedParts.send_eligible.Goals as goal

-- The eligible heap is empty, so that no head is eligible.
pub returns-in_default-clause-some : goal.returns-in_default-clause-some
returns-in_default-clause-some c =
    let z = zero_from_none (length c.args.self.now.eligible.keys) c.in_default.ensures.some.1 in
    let e = picked_none c.requires.kept.kept z c.requires.promoted in
    rw e tt

pub index_mut-requires : goal.index_mut-requires
index_mut-requires c =
    let l = listed c.args.self.now c.requires.kept (record { tag = c.in-Some.first.tag; slot = c.slot-slot.result }) c.pop.new.self (rw c.slot-slot.ensures.value c.in-Some.ensures.keys) in
    omega (arith, c.args.self.now.flows.ok.0)

pub take_head-next-requires : goal.take_head-next-requires
take_head-next-requires c = record {
  payable = payable c.args.self.now c.requires.kept c.slot-slot.result (listed c.args.self.now c.requires.kept
      (record { tag = c.in-Some.first.tag; slot = c.slot-slot.result }) c.pop.new.self
      (rw c.slot-slot.ensures.value c.in-Some.ensures.keys)) c.index_mut.result.now c.index_mut.ensures.value;
  some =
      has_head c.args.self.now c.requires.kept (record { tag = c.in-Some.first.tag; slot = c.slot-slot.result }) c.pop.new.self
      (rw c.slot-slot.ensures.value c.in-Some.ensures.keys) c.index_mut.result.now c.index_mut.ensures.value;
  next =
      next_is c.args.self.now c.requires.kept (record { tag = c.in-Some.first.tag; slot = c.slot-slot.result }) c.pop.new.self
      (rw c.slot-slot.ensures.value c.in-Some.ensures.keys) c.index_mut.result.now c.index_mut.ensures.value c.args.next
      (at_slot (λ slot. IsFirst c.args.next (drop 1 (flow_at (flows_of c.args.self.now) slot).backlog)) c.slot-slot.result _
      (picked_slot c.requires.kept.kept (own_slots c.args.self.now) (record { tag = c.in-Some.first.tag; slot = c.slot-slot.result })
      (popped_ready c.requires.kept.kept (record { tag = c.in-Some.first.tag; slot = c.slot-slot.result }) c.pop.new.self.keys (rw c.slot-slot.ensures.value c.in-Some.ensures.keys))
      (rw c.slot-slot.ensures.value c.in-Some.ensures.least) c.requires.promoted) c.requires.next);
}

pub growth-requires : goal.growth-requires
growth-requires c =
    let t = c.take_head-next.ensures in
    let w =
    weighs c.args.self.now c.requires.kept (record { tag = c.in-Some.first.tag; slot = c.slot-slot.result }) c.pop.new.self
    (rw c.slot-slot.ensures.value c.in-Some.ensures.keys) c.index_mut.result.now c.index_mut.ensures.value
    c.take_head-next.new.self (finishing c.index_mut.result.now.finish_tag c.take_head-next.result.0) t.sent t.last_finish_tag t.arrived t.kept in
    let w0 = w.0 in
    let w1 = w.1 in
    record { some = omega arith }

pub overflow_sub-self : goal.overflow_sub-self
overflow_sub-self c =
    let t = c.take_head-next.ensures in
    (weighs c.args.self.now c.requires.kept (record { tag = c.in-Some.first.tag; slot = c.slot-slot.result }) c.pop.new.self
    (rw c.slot-slot.ensures.value c.in-Some.ensures.keys) c.index_mut.result.now c.index_mut.ensures.value c.take_head-next.new.self
    (finishing c.index_mut.result.now.finish_tag c.take_head-next.result.0) t.sent t.last_finish_tag t.arrived t.kept).1

-- The next packet of the flow is its head.
pub enter-requires : goal.enter-requires
enter-requires c =
    let t = c.take_head-next.ensures in
    record {
      kept =
          more_kept c.args.self.now c.requires.kept
          (record { tag = c.in-Some.first.tag; slot = c.slot-slot.result }) c.pop.new.self
          (rw c.slot-slot.ensures.value c.in-Some.ensures.keys) c.index_mut.result.now c.index_mut.ensures.value
          c.take_head-next.new.self (finishing c.index_mut.result.now.finish_tag c.take_head-next.result.0) t.sent t.last_finish_tag t.arrived t.kept
          c.growth.result _ c.growth.ensures.value c.pop.ensures.keeps_moves c.in-Some.ensures.room c.in-Some-next.head (sym t.next ∙ c.in-Some-next.is);
    }

pub returns-in-Some-next-clause-some : goal.returns-in-Some-next-clause-some
returns-in-Some-next-clause-some c =
    let t = c.take_head-next.ensures in
    let h =
    head_is c.args.self.now c.requires.kept (record { tag = c.in-Some.first.tag; slot = c.slot-slot.result }) c.pop.new.self
    (rw c.slot-slot.ensures.value c.in-Some.ensures.keys) c.index_mut.result.now c.index_mut.ensures.value
    c.take_head-next.new.self (finishing c.index_mut.result.now.finish_tag c.take_head-next.result.0) t.sent t.last_finish_tag t.arrived t.kept in
    let e =
    picked_is c.requires.kept.kept (own_slots c.args.self.now) (record { tag = c.in-Some.first.tag; slot = c.slot-slot.result })
    (popped_ready c.requires.kept.kept (record { tag = c.in-Some.first.tag; slot = c.slot-slot.result }) c.pop.new.self.keys (rw c.slot-slot.ensures.value c.in-Some.ensures.keys))
    (rw c.slot-slot.ensures.value c.in-Some.ensures.least) c.requires.promoted _ h in
    let s = c.enter.ensures.same in
    rw e (sends c.args.self.now c.requires.kept (record { tag = c.in-Some.first.tag; slot = c.slot-slot.result }) c.pop.new.self
    (rw c.slot-slot.ensures.value c.in-Some.ensures.keys) c.index_mut.result.now c.index_mut.ensures.value c.take_head-next.new.self
    (finishing c.index_mut.result.now.finish_tag c.take_head-next.result.0) t.sent t.last_finish_tag t.arrived t.kept c.enter.new.self (rw s.flows refl) s.busy_from
    (s.virtual_time ∙ ap (λ g. c.args.self.now.virtual_time + g) c.growth.ensures.value) s.arrivals s.picks)

pub returns-in_default-next-clause-some : goal.returns-in_default-next-clause-some
returns-in_default-next-clause-some c =
    let t = c.take_head-next.ensures in
    let h =
    head_is c.args.self.now c.requires.kept (record { tag = c.in-Some.first.tag; slot = c.slot-slot.result }) c.pop.new.self
    (rw c.slot-slot.ensures.value c.in-Some.ensures.keys) c.index_mut.result.now c.index_mut.ensures.value
    c.take_head-next.new.self (finishing c.index_mut.result.now.finish_tag c.take_head-next.result.0) t.sent t.last_finish_tag t.arrived t.kept in
    let e =
    picked_is c.requires.kept.kept (own_slots c.args.self.now) (record { tag = c.in-Some.first.tag; slot = c.slot-slot.result })
    (popped_ready c.requires.kept.kept (record { tag = c.in-Some.first.tag; slot = c.slot-slot.result }) c.pop.new.self.keys (rw c.slot-slot.ensures.value c.in-Some.ensures.keys))
    (rw c.slot-slot.ensures.value c.in-Some.ensures.least) c.requires.promoted _ h in
    rw e (sends c.args.self.now c.requires.kept (record { tag = c.in-Some.first.tag; slot = c.slot-slot.result }) c.pop.new.self
    (rw c.slot-slot.ensures.value c.in-Some.ensures.keys) c.index_mut.result.now c.index_mut.ensures.value c.take_head-next.new.self
    (finishing c.index_mut.result.now.finish_tag c.take_head-next.result.0) t.sent t.last_finish_tag t.arrived t.kept _ refl refl
    (ap (λ g. c.args.self.now.virtual_time + g) c.growth.ensures.value) refl refl)

pub returns-in_default-next-clause-kept : goal.returns-in_default-next-clause-kept
returns-in_default-next-clause-kept c =
    let t = c.take_head-next.ensures in
    last_kept c.args.self.now c.requires.kept
    (record { tag = c.in-Some.first.tag; slot = c.slot-slot.result }) c.pop.new.self
    (rw c.slot-slot.ensures.value c.in-Some.ensures.keys) c.index_mut.result.now c.index_mut.ensures.value c.take_head-next.new.self
    (finishing c.index_mut.result.now.finish_tag c.take_head-next.result.0) t.sent t.last_finish_tag t.arrived t.kept
    c.growth.result _ c.growth.ensures.value c.pop.ensures.keeps_moves c.in-Some.ensures.room
    (next_is_none (packets_of c.take_head-next.new.self) (sym t.next ∙ c.in_default-next.is))
