-- The reply is the held shaper's.
use Rattle.hingetulip_c.proofs.Words.{Collect, State, [], ap, sym, ◌∙◌, ◌∷◌}
use Rattle.hingetulip_c.proofs.Answering.{answers_held}
use Rattle.hingetulip_c.proofs.handle.Handle.collect.Goals as goal

pub returns-in-Ok-clause-ok : goal.returns-in-Ok-clause-ok
returns-in-Ok-clause-ok c =
    let same = c.deref_mut-2.ensures.value ∙ c.lend-list.ensures ∙ c.deref_mut.ensures.value in
    answers_held c.deref_mut-2.result.now c.collect_lent-reply.new.self c.args.self.now.held c.put-none.new.self.held (Collect c.args.moment) c.in-Ok.reply
    (c.in-Some.ensures.taken ∙ ap (λ (s : State). s ∷ []) (sym same)) c.put-none.ensures c.in-Ok.ensures.ok
