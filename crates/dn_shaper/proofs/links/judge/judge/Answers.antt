-- The verdict after the settling.
use Rattle.dn_shaper.proofs.Words.{FlowKey, List, length, subst, sym, treatment_of, ◌<◌}
use Rattle.dn_shaper.proofs.Submitting.{within-settled, can-see, can-accept, answers-lost, answers-full, answers-taken}
use Rattle.dn_shaper.proofs.links.judge.judge.Goals as goal

-- ---- What is known of the parts is known after the settling

pub note_lost-requires-clause-few : goal.note_lost-requires-clause-few
note_lost-requires-clause-few c = within-settled c.settle.ensures.only c.requires.few

pub note_lost-requires-clause-seen : goal.note_lost-requires-clause-seen
note_lost-requires-clause-seen c = can-see c.args.flow c.settle.ensures.only c.settle.ensures.settled c.requires.seen

pub note_full-requires-clause-few : goal.note_full-requires-clause-few
note_full-requires-clause-few c = within-settled c.settle.ensures.only c.requires.few

pub note_full-requires-clause-seen : goal.note_full-requires-clause-seen
note_full-requires-clause-seen c = can-see c.args.flow c.settle.ensures.only c.settle.ensures.settled c.requires.seen

pub accept-packet-requires-clause-may : goal.accept-packet-requires-clause-may
accept-packet-requires-clause-may c = record {
  kept = c.settle.ensures.kept;
  within = subst (λ (ks : List FlowKey). c.args.flow < length ks) (sym c.settle.ensures.only.keys) c.requires.within;
  ready = c.settle.ensures.only.ready c.args.flow c.requires.ready;
  few = within-settled c.settle.ensures.only c.requires.few;
  settled = can-accept c.args.flow c.settle.ensures.only c.settle.ensures.settled c.requires.seen;
}

-- ---- The packet is lost

pub returns-in-Lost-clause-answers : goal.returns-in-Lost-clause-answers
returns-in-Lost-clause-answers c = answers-lost c.args.flow c.settle.ensures.only c.settle.ensures.settled c.args.packet.now
    (treatment_of c.args.how.now) c.note_lost.new.parts c.in-Lost.ensures.value c.note_lost.ensures.sees

pub returns-in-Lost-clause-kept : goal.returns-in-Lost-clause-kept
returns-in-Lost-clause-kept c = c.note_lost.ensures.kept c.settle.new.heap c.settle.ensures.kept

pub returns-in-Lost-clause-within : goal.returns-in-Lost-clause-within
returns-in-Lost-clause-within c = λ n w. c.note_lost.ensures.within n (c.settle.ensures.only.within n w)

pub returns-in-Lost-clause-leaves : goal.returns-in-Lost-clause-leaves
returns-in-Lost-clause-leaves c = λ other ne ready. c.note_lost.ensures.leaves other (c.settle.ensures.only.ready other ready)

-- ---- Its queue is full

pub returns-in-Full-clause-answers : goal.returns-in-Full-clause-answers
returns-in-Full-clause-answers c = answers-full c.args.flow c.settle.ensures.only c.settle.ensures.settled c.args.packet.now
    (treatment_of c.args.how.now) c.note_full.new.parts c.in-Full.ensures.value c.note_full.ensures.sees

pub returns-in-Full-clause-kept : goal.returns-in-Full-clause-kept
returns-in-Full-clause-kept c = c.note_full.ensures.kept c.settle.new.heap c.settle.ensures.kept

pub returns-in-Full-clause-within : goal.returns-in-Full-clause-within
returns-in-Full-clause-within c = λ n w. c.note_full.ensures.within n (c.settle.ensures.only.within n w)

pub returns-in-Full-clause-leaves : goal.returns-in-Full-clause-leaves
returns-in-Full-clause-leaves c = λ other ne ready. c.note_full.ensures.leaves other (c.settle.ensures.only.ready other ready)

-- ---- It is accepted

pub returns-in-Take-clause-answers : goal.returns-in-Take-clause-answers
returns-in-Take-clause-answers c = answers-taken c.args.flow c.settle.ensures.only c.settle.ensures.settled c.args.packet.now
    (treatment_of c.args.how.now) c.accept-packet.new.parts c.in-Take.ensures.value c.accept-packet.ensures.accepts c.accept-packet.ensures.number

pub returns-in-Take-clause-within : goal.returns-in-Take-clause-within
returns-in-Take-clause-within c = λ n w. c.accept-packet.ensures.within n (c.settle.ensures.only.within n w)

pub returns-in-Take-clause-leaves : goal.returns-in-Take-clause-leaves
returns-in-Take-clause-leaves c = λ other ne ready. c.accept-packet.ensures.leaves other ne (c.settle.ensures.only.ready other ready)
