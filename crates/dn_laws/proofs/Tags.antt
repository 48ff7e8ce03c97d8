-- What moves the last finish tag of a flow, and when a busy period begins.
use Rattle.dn_laws.proofs.Words.{All, All-head, All-tail, BusyPeriodsBegin, List, TagsAreKept, [], and-left, and-right, and_from, ap, arith, backlog-above, cond, eq-eqb, eqb-true, leb_tells}
use Rattle.dn_laws.proofs.Words.{length, link_eq-refl, link_eq-true, nat_eq, refl, suc, true, zero, ℕ, ⊎_elim, ◌++◌, ◌<◌, ◌∙◌, ◌∷◌, ◌≡◌, ◌≤◌}
use Rattle.dn_laws.proofs.LawWords.{trace_of, effective_moment, free, IsApart, waiting, last_finish_tag, Link, link_eq, Accepted, Event, opened, arrived, discarded, is_of, backlog, flow_bound, total}
use Rattle.dn_laws.proofs.Begun.{adds-among}
use Rattle.dn_laws.proofs.Comes.{Comes, call-comes}
use Rattle.dn_laws.proofs.Isolation.{false-if, none-left}

module _ (link : Link) (flow : ℕ) where
  -- An event apart leaves the tag.
  left : (e : Event) (t : List Event) → IsApart link flow e → last_finish_tag link flow (e ∷ t) ≡ last_finish_tag link flow t
  left (opened l) t h = ap {B = ℕ} (λ b. cond b 0 (last_finish_tag link flow t)) (false-if (link_eq l link) (λ same. h (link_eq-true l link same)))
  left (arrived p) t h = ap {B = ℕ} (λ b. cond b p.stamped.finish_tag (last_finish_tag link flow t))
      (false-if (is_of link flow p) (λ mine. h (link_eq-true p.link link (and-left (link_eq p.link link) (nat_eq p.stamped.flow flow) mine))
      (eqb-true p.stamped.flow flow (and-right (link_eq p.link link) (nat_eq p.stamped.flow flow) mine))))
  left (discarded f) t h = ap {B = ℕ} (λ b. cond b 0 (last_finish_tag link flow t)) (false-if (nat_eq f flow) (λ same. h (eqb-true f flow same)))
  left _ t h = refl

  all-left : (later t : List Event) → All (IsApart link flow) later → last_finish_tag link flow (later ++ t) ≡ last_finish_tag link flow t
  all-left [] t h = refl
  all-left (e ∷ later) t h = left e (later ++ t) (All-head (IsApart link flow) e later h) ∙ all-left later t (All-tail (IsApart link flow) e later h)

  none-yet : (later : List Event) → All (IsApart link flow) later → last_finish_tag link flow later ≡ 0
  none-yet [] h = refl
  none-yet (e ∷ later) h = left e later (All-head (IsApart link flow) e later h) ∙ none-yet later (All-tail (IsApart link flow) e later h)

pub tags-are-kept : TagsAreKept
tags-are-kept link flow later earlier h = (
  λ p on of. all-left link flow later (arrived p ∷ earlier) h ∙ ap {B = ℕ} (λ b. cond b p.stamped.finish_tag (last_finish_tag link flow earlier)) (mine p on of),
  all-left link flow later (opened link ∷ earlier) h ∙ ap {B = ℕ} (λ b. cond b 0 (last_finish_tag link flow earlier)) (link_eq-refl link),
  all-left link flow later (discarded flow ∷ earlier) h ∙ ap {B = ℕ} (λ b. cond b 0 (last_finish_tag link flow earlier)) (eq-eqb flow flow refl),
  none-yet link flow later h,
)
  where
    mine : (p : Accepted) → p.link ≡ link → p.stamped.flow ≡ flow → is_of link flow p ≡ true
    mine p on of = and_from (link_eq p.link link) (nat_eq p.stamped.flow flow) (ap (λ (l : Link). link_eq l link) on ∙ link_eq-refl link) (eq-eqb p.stamped.flow flow of)

empty-below : (n : ℕ) (q : ℕ → List Accepted) → total n q ≡ 0 → (flow : ℕ) → flow < n → length (q flow) ≡ 0
empty-below zero q h flow lt = absurd (omega (arith, lt))
empty-below (suc n) q h flow lt = ⊎_elim (λ last. this (omega (arith, lt, last.1))) (λ below. empty-below n q (omega (arith, h)) flow below.1) (leb_tells n flow)
  where
    here : length (q n) ≡ 0
    here = omega (arith, h)

    this : flow ≡ n → length (q flow) ≡ 0
    this e = let same = ap (λ (m : ℕ). length (q m)) e in let none = here in omega (arith, same, none)

pub busy-periods-begin : BusyPeriodsBegin
busy-periods-begin calls c later between link e = (idle.0, λ flow. empty flow)
  where
    idle : (free link (between ++ trace_of calls) ≤ effective_moment (c ∷ calls)) × (waiting link (between ++ trace_of calls) ≡ 0)
    idle = adds-among (Comes calls c) (trace_of calls) (trace_of (c ∷ calls)) later between (opened link) (call-comes calls c) e

    empty : (flow : ℕ) → backlog link flow (between ++ trace_of calls) ≡ []
    empty flow =
        let t = between ++ trace_of calls in
        ⊎_elim (λ high. backlog-above link flow t high.1)
        (λ low. none-left (backlog link flow t) (λ some. let none = empty-below (flow_bound t) (λ f. backlog link f t) idle.1 flow low.1 in omega (arith, some, none)))
        (leb_tells (flow_bound t) flow)
