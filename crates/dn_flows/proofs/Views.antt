-- What a call on one flow leaves of each flow, as dn_shaper reads it off the clauses.
use Rattle.dn_flows.proofs.Words.{FlowState, List, Waiting, [], ap, arith, cases_eq, cond, drop, false, flow_at, get_or-set_other, get_or-set_same, inl, inr, length, nat_eq, nat_tests, new_flow}
use Rattle.dn_flows.proofs.Words.{popped, popped_from, refl, slice_set, sym, true, ℕ, ◌<◌, ◌∙◌, ◌∷◌, ◌≡◌}

-- Each flow after one of them was set.
pub flow_after_set : (flows : List FlowState) (flow f : ℕ) (s : FlowState) → flow < length flows → flow_at (slice_set flows flow s) f ≡ cond (nat_eq flow f) s (flow_at flows f)
flow_after_set flows flow f s within = elim (cases_eq flow f) [
  | inl same ↦
      let test : nat_eq flow f ≡ true = grind (arith, nat_tests) in
      rw (test, ← same) (get_or-set_same flows flow s new_flow within)
  | inr other ↦
      let test : nat_eq flow f ≡ false = grind (arith, nat_tests) in
      rw test (get_or-set_other flows flow f s new_flow (λ e. other (sym e)))
]

-- A start takes the first of the packets that wait, if there is one.
pub popped_backlog : (s : FlowState) → (popped s).backlog ≡ drop 1 s.backlog
popped_backlog s = by s.backlog refl
  where
    by : (ws : List Waiting) → s.backlog ≡ ws → (popped_from ws s).backlog ≡ drop 1 ws
    by [] e = e
    by (w ∷ ws) e = refl

-- The packets that wait in each flow after a start of one of them.
pub backlog_after_pop : (flows : List FlowState) (flow f : ℕ) → flow < length flows
    → (flow_at (slice_set flows flow (popped (flow_at flows flow))) f).backlog ≡ cond (nat_eq flow f) (drop 1 (flow_at flows f).backlog) (flow_at flows f).backlog
backlog_after_pop flows flow f within = ap (λ s. s.backlog) (flow_after_set flows flow f (popped (flow_at flows flow)) within) ∙ elim (cases_eq flow f) [
  | inl same ↦
      let test : nat_eq flow f ≡ true = grind (arith, nat_tests) in
      rw (test, ← same) (popped_backlog (flow_at flows flow))
  | inr other ↦
      let test : nat_eq flow f ≡ false = grind (arith, nat_tests) in
      rw test refl
]
