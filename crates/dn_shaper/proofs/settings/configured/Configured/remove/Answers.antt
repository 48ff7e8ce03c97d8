-- A queue that is taken out leaves the count of its pipe.
use Rattle.dn_shaper.proofs.Words.{InForce, None, ap, arith, named_pipe, refl, ◌∙◌}
use Rattle.dn_shaper.proofs.Putting.{counted-before, counts-queue}
use Rattle.dn_shaper.proofs.settings.configured.Configured.remove.Goals as goal

pub discount-requires : goal.discount-requires
discount-requires c =
    let old : InForce = record { pipes = c.self.inside.pipes; queues = c.self.inside.queues } in
    let small = c.get-number.ensures in
    let left-is = c.named_pipe.ensures ∙ ap named_pipe (c.as_ref.ensures.value ∙ c.take-removed.ensures.taken) in
    record {
      counted = counted-before c.in-Queue.number (omega (arith, small.value, small.in_range)) None old c.take-removed.new.self c.self.inside.counts c.self.invariant c.take-removed.ensures.rest
          c.named_pipe.result left-is;
    }

pub invariant_of-self-in-Queue : goal.invariant_of-self-in-Queue
invariant_of-self-in-Queue c =
    let old : InForce = record { pipes = c.self.inside.pipes; queues = c.self.inside.queues } in
    let small = c.get-number.ensures in
    let left-is = c.named_pipe.ensures ∙ ap named_pipe (c.as_ref.ensures.value ∙ c.take-removed.ensures.taken) in
    counts-queue c.in-Queue.number (omega (arith, small.value, small.in_range)) None old c.take-removed.new.self c.self.inside.counts c.self.invariant c.take-removed.ensures.rest
    c.named_pipe.result left-is c.discount.new.self c.discount.ensures.counts c.discount.ensures.places None refl c.discount.new.self
    (λ p. omega arith) refl
