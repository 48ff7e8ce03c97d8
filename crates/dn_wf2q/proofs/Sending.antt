-- A schedule's pick in two calls: `first` raises virtual time, and then `send` sends.
use Rattle.dn_wf2q.proofs.Words.{Flow, IfSome, KeepsRoom, List, None, Option, Picks, Schedule, SendsFirst, Some, Stamped, [], after_pick, ap, arith, filter, first_to_go, flow_at, grown, heads_of}
use Rattle.dn_wf2q.proofs.Words.{is_eligible, option_map, pick, raised, refl, room_at, scaled, subst, sym, take, waiting_of, weight_sum, ℕ, ◌+◌, ◌∙◌, ◌∷◌, ◌≡◌, ◌≤◌}
use Rattle.dn_wf2q.proofs.Calm.{if_some}

-- Raising virtual time twice is raising it once.
raised_twice : (v : ℕ) (hs : List Stamped) → raised (raised v hs) hs ≡ raised v hs
raised_twice v [] = refl
raised_twice v (h ∷ hs) = omega arith

pick_twice : (v : ℕ) (hs : List Stamped) → pick (raised v hs) hs ≡ pick v hs
pick_twice v hs = ap (λ n. first_to_go (filter (is_eligible n) hs)) (raised_twice v hs)

grown_twice : (v : ℕ) (hs : List Stamped) (len : ℕ) → grown (raised v hs) hs len ≡ grown v hs len
grown_twice v hs len = ap (λ n. n + scaled len (weight_sum hs)) (raised_twice v hs)

-- Nothing is picked where no slot is answered.
pub mapped_none : (o : Option Stamped) → option_map (λ h. h.flow) o ≡ None → o ≡ None
mapped_none None e = refl
mapped_none (Some h) e = absurd cc

-- What holds of the slot holds of the pick's.
pub from_first : (P : ℕ → Type 0) (slot : ℕ) (s : Schedule) → SendsFirst slot s → P slot → IfSome (pick s.virtual_time (heads_of s.flows)) (λ h. P h.flow)
from_first P slot s first h = subst (λ (o : Option Stamped). IfSome o (λ x. P x.flow)) (sym first.picked) (subst P (sym first.here) h)

-- What holds of the pick.
pub at_first : (P : Stamped → Type 0) (slot : ℕ) (s : Schedule) (first : SendsFirst slot s) → IfSome (pick s.virtual_time (heads_of s.flows)) P → P first.packet
at_first P slot s first h = subst (λ (o : Option Stamped). IfSome o P) first.picked h

-- `first` led from old to mid, and `send` from mid to new.
module _ (old mid new : Schedule) (first : mid ≡ record old { virtual_time = raised old.virtual_time (heads_of old.flows); moves = mid.moves }) where
  pub flows_were : mid.flows ≡ old.flows
  flows_were = ap (λ (s : Schedule). s.flows) first

  time_was : mid.virtual_time ≡ raised old.virtual_time (heads_of old.flows)
  time_was = ap (λ (s : Schedule). s.virtual_time) first

  picked_same : pick mid.virtual_time (heads_of mid.flows) ≡ pick old.virtual_time (heads_of old.flows)
  picked_same = (λ i. pick (time_was i) (heads_of (flows_were i))) ∙ pick_twice old.virtual_time (heads_of old.flows)

  -- The answer of `first` is what `send` requires.
  pub sends_first : (slot : ℕ) → Some slot ≡ option_map (λ h. h.flow) (pick old.virtual_time (heads_of old.flows)) → SendsFirst slot mid
  sends_first slot answer = at (pick old.virtual_time (heads_of old.flows)) refl
    where
      at : (o : Option Stamped) → pick old.virtual_time (heads_of old.flows) ≡ o → SendsFirst slot mid
      at None e = let none : Some slot ≡ None = rw e at answer in absurd cc
      at (Some h) e =
          let one : Some slot ≡ Some h.flow = rw e at answer in
          record { packet = h; picked = picked_same ∙ e; here = cc }

  picks_from : (h : Stamped) → Picks h mid new → Picks h old new
  picks_from h p = record {
    head = subst (λ (fs : List Flow). take 1 (flow_at fs h.flow).backlog ≡ h ∷ []) flows_were p.head;
    flows = p.flows ∙ ap (λ (fs : List Flow). after_pick fs h.flow) flows_were;
    virtual_time = p.virtual_time ∙ (λ i. grown (time_was i) (heads_of (flows_were i)) h.len) ∙ grown_twice old.virtual_time (heads_of old.flows) h.len;
    picks = p.picks ∙ ap (λ (s : Schedule). s.picks + 1) first;
    one_fewer = p.one_fewer ∙ ap waiting_of flows_were;
  }

  -- Both calls are one pick.
  pub picks_first : IfSome (pick mid.virtual_time (heads_of mid.flows)) (λ h. Picks h mid new) → IfSome (pick old.virtual_time (heads_of old.flows)) (λ h. Picks h old new)
  picks_first sends =
      subst (λ (o : Option Stamped). IfSome o (λ h. Picks h old new)) picked_same
      (if_some (pick mid.virtual_time (heads_of mid.flows)) (λ h. Picks h mid new) (λ h. Picks h old new) picks_from sends)

  pub keeps_room_first : KeepsRoom mid new → KeepsRoom old new
  keeps_room_first keeps = subst (λ (room : List ℕ). (slot : ℕ) → room_at room slot ≤ room_at new.room slot) (ap (λ (s : Schedule). s.room) first) keeps

  -- The packets at a slot stay.
  pub backlog_first : (slot : ℕ) → (flow_at mid.flows slot).backlog ≡ (flow_at old.flows slot).backlog
  backlog_first slot = ap (λ (fs : List Flow). (flow_at fs slot).backlog) flows_were
