-- Nothing is in force, and no queue is counted.
use Rattle.dn_shaper.proofs.Words.{Command, CountsQueues, List, Option, subst, sym, ℕ}
use Rattle.dn_shaper.proofs.Putting.{no-queues}
use Rattle.dn_shaper.proofs.settings.configured.Configured.new.Goals as goal

pub invariant_of-result : goal.invariant_of-result
invariant_of-result c =
    subst (λ (x : List (Option Command) × List (Option Command) × List ℕ). CountsQueues (record { pipes = x.0; queues = x.1 }) x.2)
    (λ i. (sym c.new.ensures i, sym c.new-2.ensures i, sym c.new-3.ensures i)) no-queues
