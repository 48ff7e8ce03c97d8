-- What is held is what the calls lead to, and no Collect's list is longer.
use Rattle.dn_shaper.proofs.Words.{Collect, StandsAt, State, counted, items_in, reply, subst, sym, ◌∙◌, ◌≤◌}
use Rattle.dn_shaper.proofs.Holding.{held-is, collects-few}
use Rattle.dn_shaper.proofs.shaper.Shaper.held.Goals as goal

pub returns-clause-value : goal.returns-clause-value
returns-clause-value c rule calls stands =
    held-is rule (counted calls) c.self.inside.state c.self.invariant.0
    (subst (λ (s : State). StandsAt rule s (counted calls)) (sym c.self.view_is) stands) c.len.result c.len.ensures

pub returns-clause-room : goal.returns-clause-room
returns-clause-room c rule calls stands moment =
    let value = held-is rule (counted calls) c.self.inside.state c.self.invariant.0
    (subst (λ (s : State). StandsAt rule s (counted calls)) (sym c.self.view_is) stands) c.len.result c.len.ensures in
    subst (λ n. items_in (reply rule calls (Collect moment)) ≤ n) (sym value) (collects-few rule calls moment)
