-- The kept count is above 0 exactly if one of the queues names the pipe.
use Rattle.dn_shaper.proofs.Words.{InForce, List, Lists, has_queues, nat_lt, settings_of, subst, ℕ, ◌∙◌, ◌≡◌}
use Rattle.dn_shaper.proofs.QueueCounts.{has-queues-by}
use Rattle.dn_shaper.proofs.settings.configured.Configured.has_queues.Goals as goal

pub returns : goal.returns
returns c =
    let old : InForce = record { pipes = c.self.inside.pipes; queues = c.self.inside.queues } in
    subst (λ (v : InForce). (queues : List ℕ) → Lists (settings_of v) queues → nat_lt 0 c.of.result ≡ has_queues (settings_of v) queues c.args.pipe) c.self.view_is
    (has-queues-by c.args.pipe old c.self.invariant.numbers c.of.result (c.of.ensures ∙ c.self.invariant.counts_are c.args.pipe))
