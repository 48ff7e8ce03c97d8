use Rattle.dn_wf2q.proofs.Words.{RankView, ap, arith, nat_tests, seen, tagged, ◌<◌}
use Rattle.dn_wf2q.proofs.BySlot.{length-by_slot}
use Rattle.dn_wf2q.proofs.Payable.{head_fits}
use Rattle.dn_wf2q.proofs.Steps.{weights-le}
use Rattle.dn_wf2q.proofs.Entered.{enter_room, entered_waiting, entered_eligible, free_in_eligible, free_in_waiting, numbered}
use Rattle.dn_wf2q.proofs.Calm.{entered_late}
use Rattle.dn_wf2q.proofs.sched_parts.SchedParts.enter.Goals as goal

-- At most 100 for each flow, of which there are fewer than 2^63.
pub overflow_add-self : goal.overflow_add-self
overflow_add-self c =
    let w = weights-le c.requires.kept.0.kept in
    let l = length-by_slot (seen c.args.self.now.busy_from) c.args.self.now.flows.items in
    let n = c.args.self.now.flows.ok.0 in
    let k = c.args.self.now.flows.ok.1 in
    let s = c.args.self.now.flows.small in
    omega arith

-- The slot and the tags fit a key.
pub new-requires-clause-tag : goal.new-requires-clause-tag
new-requires-clause-tag c = (head_fits c.args.self.now c.args.slot c.args.head c.requires.kept).finish_fits

pub new-requires-clause-slot : goal.new-requires-clause-slot
new-requires-clause-slot c = (head_fits c.args.self.now c.args.slot c.args.head c.requires.kept).slot_fits

pub new-requires-else-head-self-clause-tag : goal.new-requires-else-head-self-clause-tag
new-requires-else-head-self-clause-tag c = (head_fits c.args.self.now c.args.slot c.args.head c.requires.kept).start_fits

pub new-requires-else-head-self-clause-slot : goal.new-requires-else-head-self-clause-slot
new-requires-else-head-self-clause-slot c = (head_fits c.args.self.now c.args.slot c.args.head c.requires.kept).slot_fits

pub push_reserved-requires-clause-reserved : goal.push_reserved-requires-clause-reserved
push_reserved-requires-clause-reserved c = (enter_room c.args.slot (tagged c.args.slot c.args.head) c.requires.kept.0.kept c.requires.kept.1 c.requires.kept.0.few).0

pub push_reserved-requires-else-head-self-clause-reserved : goal.push_reserved-requires-else-head-self-clause-reserved
push_reserved-requires-else-head-self-clause-reserved c = (enter_room c.args.slot (tagged c.args.slot c.args.head) c.requires.kept.0.kept c.requires.kept.1 c.requires.kept.0.few).1

pub push_reserved-requires-clause-numbered : goal.push_reserved-requires-clause-numbered
push_reserved-requires-clause-numbered c = rw c.new.ensures.value (numbered c.args.slot (tagged c.args.slot c.args.head) c.requires.kept.0.kept c.requires.kept.1).0

pub push_reserved-requires-clause-free : goal.push_reserved-requires-clause-free
push_reserved-requires-clause-free c = rw c.new.ensures.value (free_in_eligible c.args.slot (tagged c.args.slot c.args.head) c.requires.kept.0.kept c.requires.kept.1)

pub push_reserved-requires-else-head-self-clause-numbered : goal.push_reserved-requires-else-head-self-clause-numbered
push_reserved-requires-else-head-self-clause-numbered c = rw c.new-else-head-self.ensures.value (numbered c.args.slot (tagged c.args.slot c.args.head) c.requires.kept.0.kept c.requires.kept.1).1

pub push_reserved-requires-else-head-self-clause-free : goal.push_reserved-requires-else-head-self-clause-free
push_reserved-requires-else-head-self-clause-free c = rw c.new-else-head-self.ensures.value (free_in_waiting c.args.slot (tagged c.args.slot c.args.head) c.requires.kept.0.kept c.requires.kept.1)

-- The head is eligible.
pub returns-then-head-self-clause-kept : goal.returns-then-head-self-clause-kept
returns-then-head-self-clause-kept c = record {
  kept =
      entered_eligible c.args.slot (tagged c.args.slot c.args.head) c.requires.kept.0.kept c.requires.kept.1 c.new.result
      c.push_reserved.new.self (grind (arith, nat_tests)) (ap (λ (r : RankView). r.slot) c.new.ensures.value)
      (ap (λ (r : RankView). r.tag) c.new.ensures.value) c.push_reserved.ensures.keys c.push_reserved.ensures.moves
      c.push_reserved.ensures.room;
  few = c.requires.kept.0.few;
  began = c.requires.kept.0.began;
  arrived = c.requires.kept.0.arrived;
  queues = c.requires.kept.0.queues;
  slots = c.requires.kept.0.slots;
}

pub returns-else-head-self-clause-kept : goal.returns-else-head-self-clause-kept
returns-else-head-self-clause-kept c = record {
  kept =
      entered_waiting c.args.slot (tagged c.args.slot c.args.head) c.requires.kept.0.kept c.requires.kept.1 c.new-else-head-self.result
      c.push_reserved-else-head-self.new.self (ap (λ (r : RankView). r.slot) c.new-else-head-self.ensures.value)
      (ap (λ (r : RankView). r.tag) c.new-else-head-self.ensures.value) c.push_reserved-else-head-self.ensures.keys
      c.push_reserved-else-head-self.ensures.moves c.push_reserved-else-head-self.ensures.room;
  few = c.requires.kept.0.few;
  began = c.requires.kept.0.began;
  arrived = c.requires.kept.0.arrived;
  queues = c.requires.kept.0.queues;
  slots = c.requires.kept.0.slots;
}

-- A head that waits is not eligible.
pub returns-else-head-self-clause-none_due : goal.returns-else-head-self-clause-none_due
returns-else-head-self-clause-none_due c = λ before.
    let tag = ap (λ (r : RankView). r.tag) c.new-else-head-self.ensures.value in
    let late : c.args.self.now.virtual_time < c.args.head.start_tag = grind (arith, nat_tests) in
    entered_late c.args.self.now.virtual_time c.new-else-head-self.result c.args.self.now.waiting.keys c.push_reserved-else-head-self.new.self.keys
    c.push_reserved-else-head-self.ensures.keys (omega arith) before
