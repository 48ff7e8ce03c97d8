-- The reply is the held shaper's.
use Rattle.hingetulip_c.proofs.Words.{State, [], ap, sym, ◌∙◌, ◌∷◌}
use Rattle.hingetulip_c.proofs.Answering.{answers_held}
use Rattle.hingetulip_c.proofs.handle.Handle.apply.Goals as goal

pub returns-in-Ok-clause-ok : goal.returns-in-Ok-clause-ok
returns-in-Ok-clause-ok c =
    answers_held c.deref_mut.result.now c.apply-reply.new.self c.args.self.now.held c.put-none.new.self.held c.args.call.now c.in-Ok.reply
    (c.in-Some.ensures.taken ∙ ap (λ (s : State). s ∷ []) (sym c.deref_mut.ensures.value)) c.put-none.ensures c.in-Ok.ensures.ok
