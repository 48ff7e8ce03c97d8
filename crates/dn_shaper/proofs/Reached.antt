-- The flows that a delete reaches are discarded one by one.
use Rattle.dn_shaper.proofs.Words.{Command, DiscardsFlow, DiscardsReached, DiscardsSome, FlowKey, FlowState, KeepsFlows, List, NoneActive, OnlyMakesRoom, Parts, ReadsSame, Some, [], ap, arith}
use Rattle.dn_shaper.proofs.Words.{cond, count_by, discard_reached, discarded, emptied, flow_at, homes_of, is_active, length, reaches, refl, set, slice_get, subst, suc, sum_by-cons, sym, true}
use Rattle.dn_shaper.proofs.Words.{views_of, zero, ℕ, ◌+◌, ◌<◌, ◌∙◌, ◌∷◌, ◌≡◌}
use Rattle.dn_shaper.proofs.Reordered.{agrees-same, none-active-reads, reached-once, same-reads, then-reads}
use Rattle.dn_shaper.proofs.Reserved.{reserved-names, reserves-agree}

-- ---- Active flows are discarded one after another, in any order

module _ (command : Command) (keys : List FlowKey) where
  pub none-done : (p : Parts) → DiscardsSome command keys p p
  none-done p more trace a = (trace, a, same-reads _)

  pub then-done : (old mid new : Parts) → DiscardsSome command keys old mid → DiscardsSome command keys mid new → DiscardsSome command keys old new
  then-done old mid new first then more trace a =
      let d = first more trace a in
      let e = then more d.0 d.1 in
      (e.0, e.1, then-reads _ _ _ e.2 d.2)

  pub room-done : (old new : Parts) → OnlyMakesRoom old new → DiscardsSome command keys old new
  room-done old new r more trace a = (trace, reserves-agree old new r more trace a, same-reads _)

  pub one-done : (flow : ℕ) (key : FlowKey) (mid new : Parts) → slice_get keys flow ≡ Some key → reaches command key ≡ true → DiscardsFlow flow mid new → DiscardsSome command keys mid new
  one-done flow key mid new there reaches-it discards more trace a =
      let from-0 : 0 + flow ≡ flow = omega arith in
      let same = subst (λ (n : ℕ). ReadsSame (discard_reached command 0 keys (discarded n ∷ trace)) (discard_reached command 0 keys trace)) from-0
      (reached-once command 0 flow key keys trace there reaches-it) in
      (discarded flow ∷ trace, discards more trace a, same)

-- Where no flow is active any more, all that the delete reaches are discarded.
pub all-done : (command : Command) (old new : Parts) → new.flows.keys ≡ old.flows.keys → DiscardsSome command old.flows.keys old new → NoneActive command new → DiscardsReached command old new
all-done command old new keys done none more trace a =
    let d = done more trace a in
    let from-0 : (place : ℕ) → 0 + place ≡ place = λ place. omega arith in
    let idle = λ (place : ℕ) (key : FlowKey) (there : slice_get old.flows.keys place ≡ Some key) (reaches-it : reaches command key ≡ true).
    ap (λ (n : ℕ). is_active n d.0) (from-0 place) ∙ sym (d.1.flows_are place).active_is ∙ none place key (ap (λ (ks : List FlowKey). slice_get ks place) keys ∙ there) reaches-it in
    agrees-same new.rule new.accepted new.flows.keys (homes_of new.flows.flows) (views_of new) new.flows.flows new.line.pending more
    (discard_reached command 0 old.flows.keys d.0) (discard_reached command 0 old.flows.keys trace) d.2
    (agrees-same new.rule new.accepted new.flows.keys (homes_of new.flows.flows) (views_of new) new.flows.flows new.line.pending more d.0 (discard_reached command 0 old.flows.keys d.0)
    (none-active-reads command 0 old.flows.keys d.0 idle) d.1)

-- ---- How many flows are active

-- Each flow is as active as before.
pub as-active : (old new : List FlowState) → length new ≡ length old → ((flow : ℕ) → (flow_at new flow).active ≡ (flow_at old flow).active)
    → count_by (λ (s : FlowState). s.active) new ≡ count_by (λ (s : FlowState). s.active) old
as-active [] [] many same = refl
as-active [] (s ∷ new) many same = absurd (omega arith)
as-active (s ∷ old) [] many same = absurd (omega arith)
as-active (s ∷ old) (t ∷ new) many same =
    let rest = as-active old new (omega arith) (λ flow. same (suc flow)) in
    let a = sum_by-cons (λ (x : FlowState). cond x.active 1 0) s old in
    let b = sum_by-cons (λ (x : FlowState). cond x.active 1 0) t new in
    let one = ap {B = ℕ} (λ c. cond c 1 0) (same 0) in
    omega (arith, rest, a, b, one)

abbrev active_in : List FlowState → ℕ
active_in flows = count_by (λ (s : FlowState). s.active) flows

fewer-first : (s : FlowState) (flows : List FlowState) → s.active ≡ true → active_in (emptied s ∷ flows) + 1 ≡ active_in (s ∷ flows)
fewer-first s flows is =
    let a : active_in (s ∷ flows) ≡ cond s.active 1 0 + active_in flows = sum_by-cons (λ (x : FlowState). cond x.active 1 0) s flows in
    let b : active_in (emptied s ∷ flows) ≡ 0 + active_in flows = sum_by-cons (λ (x : FlowState). cond x.active 1 0) (emptied s) flows in
    let one : ◌≡◌ {A = ℕ} (cond s.active 1 0) 1 = ap {B = ℕ} (λ c. cond c 1 0) is in
    omega arith

fewer-rest : (s : FlowState) (old new : List FlowState) → active_in new + 1 ≡ active_in old → active_in (s ∷ new) + 1 ≡ active_in (s ∷ old)
fewer-rest s old new rest =
    let a : active_in (s ∷ old) ≡ cond s.active 1 0 + active_in old = sum_by-cons (λ (x : FlowState). cond x.active 1 0) s old in
    let b : active_in (s ∷ new) ≡ cond s.active 1 0 + active_in new = sum_by-cons (λ (x : FlowState). cond x.active 1 0) s new in
    omega arith

pub fewer-active : (flows : List FlowState) (flow : ℕ) → flow < length flows → (flow_at flows flow).active ≡ true
    → active_in (set flows flow (emptied (flow_at flows flow))) + 1 ≡ active_in flows
fewer-active [] flow lt is = absurd (omega arith)
fewer-active (s ∷ flows) zero lt is = fewer-first s flows is
fewer-active (s ∷ flows) (suc flow) lt is = fewer-rest s flows (set flows flow (emptied (flow_at flows flow))) (fewer-active flows flow (omega arith) is)

-- ---- Only room changes

pub room-keeps : (old new : Parts) → OnlyMakesRoom old new → KeepsFlows old new
room-keeps old new r = record { rule = r.rule; keys = r.keys; homes = r.homes; names = reserved-names old new r }

pub keeps-none : (p : Parts) → KeepsFlows p p
keeps-none p = record { rule = refl; keys = refl; homes = refl; names = refl }

pub keeps-more : (old mid new : Parts) → KeepsFlows old mid → KeepsFlows mid new → KeepsFlows old new
keeps-more old mid new a b = record { rule = b.rule ∙ a.rule; keys = b.keys ∙ a.keys; homes = b.homes ∙ a.homes; names = b.names ∙ a.names }
