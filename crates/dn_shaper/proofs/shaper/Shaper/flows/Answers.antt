-- The flows are those of the calls, and a Show has one item for each.
use Rattle.dn_shaper.proofs.Words.{Show, StandsAt, State, counted, items_in, reply, subst, sym, ◌∙◌, ◌≤◌}
use Rattle.dn_shaper.proofs.Holding.{flows-are, shows-few}
use Rattle.dn_shaper.proofs.shaper.Shaper.flows.Goals as goal

pub returns-clause-value : goal.returns-clause-value
returns-clause-value c rule calls stands =
    c.len.ensures.keys ∙ flows-are rule (counted calls) c.self.inside.state c.self.invariant.0
    (subst (λ (s : State). StandsAt rule s (counted calls)) (sym c.self.view_is) stands)

pub returns-clause-room : goal.returns-clause-room
returns-clause-room c rule calls stands =
    let value = c.len.ensures.keys ∙ flows-are rule (counted calls) c.self.inside.state c.self.invariant.0
    (subst (λ (s : State). StandsAt rule s (counted calls)) (sym c.self.view_is) stands) in
    subst (λ n. items_in (reply rule calls Show) ≤ n) (sym value) (shows-few rule calls)
