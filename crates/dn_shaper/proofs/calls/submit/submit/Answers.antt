-- The clock moves and the call counts once the packet was sent.
use Rattle.dn_shaper.proofs.Words.{ap, max, on_err_always, ◌∙◌}
use Rattle.dn_shaper.proofs.calls.submit.submit.Goals as goal

pub returns-clause-does : goal.returns-clause-does
returns-clause-does c = c.in_ok-reply.ensures.does c.args.moment (c.max-at.ensures ∙ ap (λ n. max c.args.state.now.now n) c.get.ensures.value)

pub returns-in_err-reply-clause-err : goal.returns-in_err-reply-clause-err
returns-in_err-reply-clause-err c = on_err_always c.from_residual.result _ c.in_err-reply.ensures.err
