-- The target's list loses its last flow, if it is the one.
use Rattle.dn_flows.proofs.Words.{Bool, KeepsOthers, List, Members, Some, Target, ap, arith, false, last_of, length, list_any, list_of, nat_eq, refl, sym, target_eq, target_eq-refl}
use Rattle.dn_flows.proofs.Words.{target_eq-true, true, ℕ, ◌+◌, ◌∙◌, ◌≡◌}
use Rattle.dn_flows.proofs.Lists.{in-rest, less_last, one-fewer}
use Rattle.dn_flows.proofs.members.Members.take_out.Goals as goal

module _ (old new : Members) (target : Target) (flow : ℕ) (pop : (other : Target) → list_of other new ≡ less_last (target_eq target other) (list_of other old))
    (last : last_of (list_of target old) ≡ Some flow) where
  pub keeps-others : KeepsOthers flow old new
  keeps-others other g ne h = by (target_eq target other) refl
    where
      by : (b : Bool) → target_eq target other ≡ b → list_any (nat_eq g) (list_of other new) ≡ true
      by true e =
          let same = target_eq-true target other e in
          ap (λ (l : List ℕ). list_any (nat_eq g) l) (pop other ∙ ap (λ b. less_last b (list_of other old)) e)
          ∙ in-rest g flow (list_of other old) (ap (λ (t : Target). last_of (list_of t old)) (sym same) ∙ last) ne h
      by false e = ap (λ (l : List ℕ). list_any (nat_eq g) l) (pop other ∙ ap (λ b. less_last b (list_of other old)) e) ∙ h

  pub one-less : length (list_of target new) + 1 ≡ length (list_of target old)
  one-less =
      let is = ap (λ (l : List ℕ). length l) (pop target ∙ ap (λ b. less_last b (list_of target old)) (target_eq-refl target)) in
      let fewer = one-fewer flow (list_of target old) last in
      omega arith

pub returns-then-last-flow-clause-keeps : goal.returns-then-last-flow-clause-keeps
returns-then-last-flow-clause-keeps c = keeps-others c.args.self.now c.pop.new.self c.args.target.now c.args.flow c.pop.ensures
    (sym c.last.ensures ∙ c.in-Some.is ∙ ap (λ (n : ℕ). Some n) c.if-last-flow.true)
