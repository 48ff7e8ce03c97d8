use Rattle.dn_wf2q.proofs.Words.{ap, arith, nat_tests, packets_of, refl, sym, ◌+◌, ◌<◌, ◌∙◌, ◌≤◌}
use Rattle.dn_wf2q.proofs.Heads.{next_is_none}
use Rattle.dn_wf2q.proofs.Calm.{left_late}
use Rattle.dn_wf2q.proofs.Payable.{payable}
use Rattle.dn_wf2q.proofs.Discarded.{Took, beyond, discards, eligible_left, idle_left, took_eligible, took_waiting, waiting_left, weighs}
use Rattle.dn_wf2q.proofs.sched_parts.SchedParts.discard.Goals as goal
use Rattle.dn_wf2q.proofs.sched_parts.SchedParts.discard.Goals.{After-take_number, After-take_number-else-head-self}

pub returns-then-len-slot-clause-discarded : goal.returns-then-len-slot-clause-discarded
returns-then-len-slot-clause-discarded c = beyond c.args.self.now c.args.slot (omega (arith, c.args.self.now.flows.ok.0))

pub head-head-requires : goal.head-head-requires
head-head-requires c = record {
  payable = payable c.args.self.now c.requires.kept c.args.slot (omega (arith, c.args.self.now.flows.ok.0)) c.index_mut-q.result.now c.index_mut-q.ensures.value;
}

pub overflow_sub-self : goal.overflow_sub-self
overflow_sub-self c =
    weighs c.args.self.now c.requires.kept c.args.slot (omega (arith, c.args.self.now.flows.ok.0)) c.index_mut-q.result.now
    c.index_mut-q.ensures.value c.clear.new.self c.clear.ensures.packets c.clear.ensures.last_finish_tag c.clear.ensures.arrived c.clear.ensures.kept c.in-Some.head (sym c.head-head.ensures.head ∙ c.in-Some.is)

-- No packet waited.
pub returns-in_default-clause-discarded : goal.returns-in_default-clause-discarded
returns-in_default-clause-discarded c =
    discards c.args.self.now c.requires.kept c.args.slot (omega (arith, c.args.self.now.flows.ok.0)) c.index_mut-q.result.now
    c.index_mut-q.ensures.value c.clear.new.self c.clear.ensures.packets c.clear.ensures.last_finish_tag c.clear.ensures.arrived c.clear.ensures.kept _ refl refl refl refl refl refl

pub returns-in_default-clause-kept : goal.returns-in_default-clause-kept
returns-in_default-clause-kept c =
    idle_left c.args.self.now c.requires.kept c.args.slot (omega (arith, c.args.self.now.flows.ok.0)) c.index_mut-q.result.now
    c.index_mut-q.ensures.value c.clear.new.self c.clear.ensures.packets c.clear.ensures.last_finish_tag c.clear.ensures.arrived c.clear.ensures.kept (next_is_none (packets_of c.index_mut-q.result.now) (sym c.head-head.ensures.head ∙ c.in_default.is))

-- The head was eligible.
from_eligible : (c : After-take_number) → Took c.args.slot c.args.self.now.eligible c.take_number.new.self
from_eligible c =
    let early : c.in-Some.head.start_tag ≤ c.args.self.now.virtual_time = grind (arith, nat_tests) in
    let t = c.take_number.ensures in
    took_eligible c.args.self.now c.requires.kept c.args.slot (omega (arith, c.args.self.now.flows.ok.0)) c.index_mut-q.result.now
    c.index_mut-q.ensures.value c.clear.new.self c.clear.ensures.packets c.clear.ensures.last_finish_tag c.clear.ensures.arrived c.clear.ensures.kept
    c.in-Some.head (sym c.head-head.ensures.head ∙ c.in-Some.is) c.requires.none_due early c.take_number.new.self c.take_number.result t.taken t.keys t.room t.absent

pub returns-then-head-self-clause-discarded : goal.returns-then-head-self-clause-discarded
returns-then-head-self-clause-discarded c =
    discards c.args.self.now c.requires.kept c.args.slot (omega (arith, c.args.self.now.flows.ok.0)) c.index_mut-q.result.now
    c.index_mut-q.ensures.value c.clear.new.self c.clear.ensures.packets c.clear.ensures.last_finish_tag c.clear.ensures.arrived c.clear.ensures.kept _ refl refl refl refl refl (ap (λ m. m + c.args.self.now.waiting.moves) c.take_number.ensures.keeps_moves)

pub returns-then-head-self-clause-kept : goal.returns-then-head-self-clause-kept
returns-then-head-self-clause-kept c =
    eligible_left c.args.self.now c.requires.kept c.args.slot (omega (arith, c.args.self.now.flows.ok.0)) c.index_mut-q.result.now
    c.index_mut-q.ensures.value c.clear.new.self c.clear.ensures.packets c.clear.ensures.last_finish_tag c.clear.ensures.arrived c.clear.ensures.kept c.in-Some.head (sym c.head-head.ensures.head ∙ c.in-Some.is)
    c.take_number.new.self (from_eligible c) c.take_number.ensures.keeps_moves

-- It waited to be eligible.
from_waiting : (c : After-take_number-else-head-self) → Took c.args.slot c.args.self.now.waiting c.take_number-else-head-self.new.self
from_waiting c =
    let late : c.args.self.now.virtual_time < c.in-Some.head.start_tag = grind (arith, nat_tests) in
    let t = c.take_number-else-head-self.ensures in
    took_waiting c.args.self.now c.requires.kept c.args.slot (omega (arith, c.args.self.now.flows.ok.0)) c.index_mut-q.result.now
    c.index_mut-q.ensures.value c.clear.new.self c.clear.ensures.packets c.clear.ensures.last_finish_tag c.clear.ensures.arrived c.clear.ensures.kept
    c.in-Some.head (sym c.head-head.ensures.head ∙ c.in-Some.is) c.requires.none_due late c.take_number-else-head-self.new.self c.take_number-else-head-self.result t.taken t.keys t.room t.absent

pub returns-else-head-self-clause-discarded : goal.returns-else-head-self-clause-discarded
returns-else-head-self-clause-discarded c =
    discards c.args.self.now c.requires.kept c.args.slot (omega (arith, c.args.self.now.flows.ok.0)) c.index_mut-q.result.now
    c.index_mut-q.ensures.value c.clear.new.self c.clear.ensures.packets c.clear.ensures.last_finish_tag c.clear.ensures.arrived c.clear.ensures.kept _ refl refl refl refl refl (ap (λ m. c.args.self.now.eligible.moves + m) c.take_number-else-head-self.ensures.keeps_moves)

pub returns-else-head-self-clause-kept : goal.returns-else-head-self-clause-kept
returns-else-head-self-clause-kept c =
    waiting_left c.args.self.now c.requires.kept c.args.slot (omega (arith, c.args.self.now.flows.ok.0)) c.index_mut-q.result.now
    c.index_mut-q.ensures.value c.clear.new.self c.clear.ensures.packets c.clear.ensures.last_finish_tag c.clear.ensures.arrived c.clear.ensures.kept c.in-Some.head (sym c.head-head.ensures.head ∙ c.in-Some.is)
    c.take_number-else-head-self.new.self (from_waiting c) c.take_number-else-head-self.ensures.keeps_moves

pub returns-else-head-self-clause-none_due : goal.returns-else-head-self-clause-none_due
returns-else-head-self-clause-none_due c =
    let t = from_waiting c in
    left_late c.args.self.now.virtual_time t.key c.args.self.now.waiting.keys c.take_number-else-head-self.new.self.keys t.keys c.requires.none_due
