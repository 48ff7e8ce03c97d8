use Rattle.dn_replay.proofs.Words.{Delivery, List, Ordered, ap, delivered, ◌++◌, ◌∙◌}
use Rattle.dn_replay.proofs.replays.passing.collect.Goals as goal

pub returns : goal.returns
returns c = λ calls stands.
    let step = c.in_ok-reply.ensures.ok Ordered calls stands in
    (step.1, c.in_ok-extend_from_slice.ensures.items ∙ ap (λ (ds : List Delivery). c.args.given.now.items ++ ds) (c.delivered_by.ensures ∙ ap delivered step.0))
