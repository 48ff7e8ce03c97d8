-- What the verdict makes of the parts, or what they stay where memory is refused.
use Rattle.dn_shaper.proofs.Words.{NoTarget, State, Target, ap, flow_number, key_of, on_err_always, refl, settings_of, treatment, treatment_of, with_key, ◌∙◌}
use Rattle.dn_shaper.proofs.Rooms.{keeps-room, others-all, others-some}
use Rattle.dn_shaper.proofs.Sending.{submits-does, submits-none, submits-some, sound-settled, sound-then, still-stands}
use Rattle.dn_shaper.proofs.calls.submit.send_packet.Goals as goal

pub returns-in_err-flow-in-Some-clause-err : goal.returns-in_err-flow-in-Some-clause-err
returns-in_err-flow-in-Some-clause-err c = on_err_always c.from_residual.result _ (still-stands c.args.state.now c.prepare.new.state c.prepare.ensures.keeps c.in_err-flow-in-Some.ensures.err)

pub returns-in-None-clause-does : goal.returns-in-None-clause-does
returns-in-None-clause-does c =
    let old = c.args.state.now in
    let new : State = record { parts = c.settle.new.parts; heap = c.settle.new.heap; shared = old.shared; configured = old.configured; now = old.now; calls = old.calls } in
    submits-does old new c.args.target.now c.args.packet.now c.args.at (NoTarget c.args.at) refl refl
    (submits-none c.args.target.now c.args.packet.now c.args.at old c.settle.new.parts c.settle.new.heap c.settle.ensures.settled c.settle.ensures.only
    (treatment (settings_of old.configured c.args.target.now)) c.in-None.ensures.value)

pub returns-in-None-clause-sound : goal.returns-in-None-clause-sound
returns-in-None-clause-sound c = sound-settled c.args.state.now c.settle.new.parts c.settle.new.heap c.args.at c.requires.early c.requires.sound
    c.settle.ensures.kept c.settle.ensures.only.names c.settle.ensures.only.within c.settle.ensures.only.moves

pub returns-in_ok-flow-in-Some-clause-does : goal.returns-in_ok-flow-in-Some-clause-does
returns-in_ok-flow-in-Some-clause-does c =
    let new : State = record {
      parts = c.judge-reply.new.parts;
      heap = c.judge-reply.new.heap;
      shared = c.prepare.new.state.shared;
      configured = c.prepare.new.state.configured;
      now = c.prepare.new.state.now;
      calls = c.prepare.new.state.calls;
    } in
    let made = c.in_ok-flow-in-Some.ensures in
    let key_is = c.key.ensures ∙ ap (λ (t : Target). key_of t c.args.packet.now.tuple (treatment_of c.in-Some.how)) c.in-Some.ensures.target in
    submits-does c.args.state.now new c.args.target.now c.args.packet.now c.args.at c.judge-reply.result c.prepare.ensures.keeps.configured c.prepare.ensures.keeps.calls
    (submits-some c.args.target.now c.args.packet.now (treatment_of c.in-Some.how) c.args.at c.in_ok-flow-in-Some.flow c.args.state.now c.prepare.new.state c.judge-reply.new.parts c.judge-reply.result
    (made.number ∙ ap (flow_number c.args.state.now.parts.flows.keys) key_is)
    (made.keys ∙ ap (λ k. with_key k c.args.state.now.parts.flows.keys) key_is)
    made.prepares c.prepare.ensures.keeps c.judge-reply.ensures.keeps c.judge-reply.ensures.answers
    (treatment (settings_of c.args.state.now.configured c.args.target.now)) c.in-Some.ensures.value)

-- ---- Room that was made for other flows

pub returns-in_ok-flow-in-Some-clause-leaves : goal.returns-in_ok-flow-in-Some-clause-leaves
returns-in_ok-flow-in-Some-clause-leaves c =
    let old = c.args.state.now in
    let mid = c.prepare.new.state in
    let new : State = record { parts = c.judge-reply.new.parts; heap = c.judge-reply.new.heap; shared = mid.shared; configured = mid.configured; now = mid.now; calls = mid.calls } in
    let made = c.in_ok-flow-in-Some.ensures in
    let key_is = c.key.ensures ∙ ap (λ (t : Target). key_of t c.args.packet.now.tuple (treatment_of c.in-Some.how)) c.in-Some.ensures.target in
    let number_is = made.number ∙ ap (flow_number old.parts.flows.keys) key_is in
    others-some old new c.args.target.now c.args.packet.now.tuple (treatment_of c.in-Some.how) c.in-Some.ensures.value c.prepare.ensures.keeps.configured
    (c.judge-reply.ensures.keeps.keys ∙ made.keys ∙ ap (λ k. with_key k old.parts.flows.keys) key_is)
    (λ other ne ready. c.judge-reply.ensures.leaves other (λ same. ne (same ∙ number_is)) (c.prepare.ensures.leaves other ready))

pub returns-in_err-flow-in-Some-clause-leaves : goal.returns-in_err-flow-in-Some-clause-leaves
returns-in_err-flow-in-Some-clause-leaves c =
    let old = c.args.state.now in
    let new = c.prepare.new.state in
    others-all old new c.args.target.now c.args.packet.now.tuple (keeps-room old new c.prepare.ensures.keeps.configured c.in_err-flow-in-Some.ensures.err.keys c.prepare.ensures.leaves)

pub returns-in-None-clause-leaves : goal.returns-in-None-clause-leaves
returns-in-None-clause-leaves c =
    let old = c.args.state.now in
    let new : State = record { parts = c.settle.new.parts; heap = c.settle.new.heap; shared = old.shared; configured = old.configured; now = old.now; calls = old.calls } in
    others-all old new c.args.target.now c.args.packet.now.tuple (keeps-room old new refl c.settle.ensures.only.keys c.settle.ensures.only.ready)

pub returns-in_ok-flow-in-Some-clause-sound : goal.returns-in_ok-flow-in-Some-clause-sound
returns-in_ok-flow-in-Some-clause-sound c =
    let s = c.prepare.new.state in
    sound-then s c.judge-reply.new.parts c.judge-reply.new.heap c.args.at c.requires.early c.prepare.ensures.sound c.judge-reply.ensures.kept c.judge-reply.ensures.keeps.names
    (c.judge-reply.ensures.within s.calls c.prepare.ensures.sound.within) c.judge-reply.ensures.moves
