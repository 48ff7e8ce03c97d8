-- One link or one flow is set: what is so of it and of all others is so of each.
use Rattle.dn_shaper.proofs.Words.{AgreesWith, Delivery, Event, FlowKey, FlowState, Home, IsAt, Link, LinkView, List, Parts, Rule, Some, ap, cases_eq, cond, eq-no, eq-yes, flow_after_set, flow_at}
use Rattle.dn_shaper.proofs.Words.{get-set, get-set-other, homes_of, inl, inr, length, nat_eq, set, slice_get, subst, sym, views_of, ℕ, ◌<◌, ◌∙◌, ◌≡◌, ◌⊎◌}

pub each-set : {X : Type 0} (P : ℕ → X → Type 0) (xs : List X) (k : ℕ) (x : X) → slice_get xs k ≡ Some x → (y : X) → P k y →
    ((j : ℕ) (w : X) → slice_get xs j ≡ Some w → (j ≡ k → ⊥) → P j w) → (j : ℕ) (w : X) → slice_get (set xs k y) j ≡ Some w → P j w
each-set {X = X} P xs k x there y here other j w e = by (cases_eq j k)
  where
    by : (j ≡ k) ⊎ (j ≡ k → ⊥) → P j w
    by (inl same) =
        let both : Some y ≡ Some w = sym (get-set xs k x y there) ∙ ap (slice_get (set xs k y)) (sym same) ∙ e in
        let is : y ≡ w = cc in
        subst (λ (z : ℕ × X). P z.0 z.1) (λ i. (sym same i, is i)) here
    by (inr ne) = other j w (sym (get-set-other xs k j y ne) ∙ e) ne

pub each-flow : (P : ℕ → FlowState → Type 0) (flows : List FlowState) (flow : ℕ) (s : FlowState) → flow < length flows → P flow s →
    ((g : ℕ) → (flow ≡ g → ⊥) → P g (flow_at flows g)) → (g : ℕ) → P g (flow_at (set flows flow s) g)
each-flow P flows flow s inside here other g = by (cases_eq flow g)
  where
    now : flow_at (set flows flow s) g ≡ cond (nat_eq flow g) s (flow_at flows g)
    now = flow_after_set flows flow g s inside

    by : (flow ≡ g) ⊎ (flow ≡ g → ⊥) → P g (flow_at (set flows flow s) g)
    by (inl same) = subst (λ (z : ℕ × FlowState). P z.0 z.1) (λ i. (same i, sym (now ∙ ap (λ b. cond b s (flow_at flows g)) (eq-yes flow g same)) i)) here
    by (inr ne) = subst (P g) (sym (now ∙ ap (λ b. cond b s (flow_at flows g)) (eq-no flow g ne))) (other g ne)

-- Parts agree with a trace if what they hold does.
pub agrees-as : (p : Parts) {rule : Rule} {accepted : ℕ} {keys : List FlowKey} {homes : List Home} {views : List LinkView} {flows : List FlowState} {pending : List Delivery}
    {more : List Link} {trace : List Event} → p.rule ≡ rule → p.accepted ≡ accepted → p.flows.keys ≡ keys → (homes_of p.flows.flows) ≡ homes → views_of p ≡ views →
    p.flows.flows ≡ flows → p.line.pending ≡ pending → IsAt rule accepted keys homes views flows pending more trace → AgreesWith p more trace
agrees-as p {more = more} {trace = trace} rule accepted keys homes views flows pending a =
    subst (λ (x : Rule × ℕ × List FlowKey × List Home × List LinkView × List FlowState × List Delivery). IsAt x.0 x.1 x.2 x.3 x.4 x.5 x.6 more trace)
    (λ i. (sym rule i, sym accepted i, sym keys i, sym homes i, sym views i, sym flows i, sym pending i)) a
