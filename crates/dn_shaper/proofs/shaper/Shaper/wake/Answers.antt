use Rattle.dn_shaper.proofs.Words.{IfSome, Option, StandsAt, State, counted, effective_moment, max, next_starts, subst, sym, views_of, ℕ, ◌<◌, ◌∙◌}
use Rattle.dn_shaper.proofs.Wakes.{wakes}
use Rattle.dn_shaper.proofs.Waking.{wake-is, quiet}
use Rattle.dn_shaper.proofs.shaper.Shaper.wake.Goals as goal

pub returns-clause-value : goal.returns-clause-value
returns-clause-value c rule calls stands =
    let s = c.self.inside.state in
    let sound = c.self.invariant.0 in
    c.earlier.ensures
    ∙ wake-is s rule (counted calls) sound (subst (λ (t : State). StandsAt rule t (counted calls)) (sym c.self.view_is) stands) c.first_due-due.result c.first_free.result
    (record { value = c.first_due-due.ensures.value; least = c.first_due-due.ensures.least })
    (c.first_free.ensures (next_starts (views_of s.parts)) sound.kept.held)

pub returns-clause-quiet : goal.returns-clause-quiet
returns-clause-quiet c rule calls stands moment before =
    let is = returns-clause-value c rule calls stands in
    quiet c.self.inside.state rule calls c.self.invariant.0 (subst (λ (t : State). StandsAt rule t (counted calls)) (sym c.self.view_is) stands) moment
    (subst (λ (o : Option ℕ). IfSome o (λ next. max (effective_moment (counted calls)) moment < next)) is before)

pub returns-clause-wakes : goal.returns-clause-wakes
returns-clause-wakes c rule calls stands few next is same = wakes rule calls few next (sym (returns-clause-value c rule calls stands) ∙ is) same
