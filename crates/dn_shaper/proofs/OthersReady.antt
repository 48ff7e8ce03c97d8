-- A packet uses up the room of its own flow alone.
use Rattle.dn_shaper.proofs.Words.{Agrees, ArrivesAt, ArrivesOn, Bool, FlowState, Heap, Home, IsReady, KeepsOthersReady, Link, LinkView, List, MayAccept, NextStart, Parts, Schedule, Settings}
use Rattle.dn_shaper.proofs.Words.{Some, StartsAt, ap, arith, flow_at, homes_of, length, own, pushed, refl, reserved-below, room_at, shared, slice_get, subst, sym, true, views_of, ℕ, ◌<◌, ◌∙◌}
use Rattle.dn_shaper.proofs.Words.{◌≡◌, ◌≤◌}
use Rattle.dn_shaper.proofs.Accepting.{may-agree}
use Rattle.dn_shaper.proofs.HomeRead.{home-of, in-table}
use Rattle.dn_shaper.proofs.OnePlace.{each-flow, each-set}
use Rattle.dn_shaper.proofs.Starting.{starts-ready}

-- A flow with a reserved place is known.
pub known-ready : (p : Parts) → Agrees p → (flow : ℕ) → IsReady flow p → flow < length p.flows.keys
known-ready p agrees flow ready =
    let below = reserved-below p.flows.flows flow ready.place in
    let many = agrees.2.as_many in
    omega arith

-- No two flows have a slot of a shared link.
slots-apart : (p : Parts) (agrees : Agrees p) (flow other : ℕ) (h k : Home) (v : LinkView) (pipe : ℕ) → flow < length p.flows.keys → other < length p.flows.keys
    → slice_get (homes_of p.flows.flows) flow ≡ Some h → slice_get (homes_of p.flows.flows) other ≡ Some k → h.place ≡ k.place → slice_get (views_of p) h.place ≡ Some v → v.link ≡ shared pipe
    → k.slot ≡ h.slot → other ≡ flow
slots-apart p agrees flow other h k v pipe within within' at at' place there is slot =
    let its = home-of p agrees.2 within at in
    let others = home-of p agrees.2 within' at' in
    let one : Some its.view ≡ Some v = sym its.there ∙ there in
    let two : Some others.view ≡ Some v = sym others.there ∙ ap (slice_get (views_of p)) (sym place) ∙ there in
    let one_is : its.view ≡ v = cc in
    let two_is : others.view ≡ v = cc in
    let first = its.slot_is pipe (sym its.link_is ∙ ap (λ (x : LinkView). x.link) one_is ∙ is) in
    let second = others.slot_is pipe (sym others.link_is ∙ ap (λ (x : LinkView). x.link) two_is ∙ is) in
    let both : Some other ≡ Some flow =
    sym second ∙ (λ i. slice_get (two_is i).slots (slot i)) ∙ ap (λ (x : LinkView). slice_get x.slots h.slot) (sym one_is) ∙ first in
    cc

module _ {settings : Settings} {at : ℕ} {h : Home} {flow len weight : ℕ} {idle : Bool} {old mid : Parts} {heap : Heap NextStart} (may : MayAccept settings at flow old heap)
    (at_home : slice_get (homes_of old.flows.flows) flow ≡ Some h) (s : ArrivesAt at h flow len weight idle old mid) where
  more-room : (l : Link) → ArrivesOn h.slot len weight idle s.view s.view' l → (slot : ℕ) → ((pipe : ℕ) → l ≡ shared pipe → slot ≡ h.slot → ⊥)
      → room_at s.view.schedule.room slot ≤ room_at s.view'.schedule.room slot
  more-room (own pipe f) r slot ne = let e = ap {B = ℕ} (λ (x : Schedule). room_at x.room slot) r in omega arith
  more-room (shared pipe) r slot ne = r.room slot (ne pipe refl)

  pub arrives-leaves : KeepsOthersReady flow old mid
  arrives-leaves other ne ready = record {
    place = subst (λ (fs : List FlowState). (flow_at fs other).reserved ≡ true) (sym s.flows_are)
        (each-flow (λ (g : ℕ) (x : FlowState). (g ≡ flow → ⊥) → (flow_at old.flows.flows g).reserved ≡ true → x.reserved ≡ true) old.flows.flows flow
        (pushed (record { packet = old.accepted; len = len; weight = weight }) (flow_at old.flows.flows flow)) (in-table old (may-agree may) may.within)
        (λ n had. absurd (n refl)) (λ g n apart had. had) other ne ready.place);
    slot = λ k v pipe there e is.
        let before : slice_get (homes_of old.flows.flows) other ≡ Some k = (λ i. slice_get (sym s.homes i) other) ∙ there in
        each-set (λ (j : ℕ) (x : LinkView). j ≡ k.place → x.link ≡ shared pipe → 0 < room_at x.schedule.room k.slot) (views_of old) h.place s.view s.there s.view'
        (λ here on.
        let was = ready.slot k s.view pipe before (ap (slice_get (views_of old)) (sym here) ∙ s.there) (sym s.joins.link ∙ on) in
        let more = more-room s.view.link s.joins.arrives k.slot (λ q shares same.
        ne (slots-apart old (may-agree may) flow other h k s.view q may.within (known-ready old (may-agree may) other ready) at_home before here s.there shares same)) in
        omega arith)
        (λ j x there' apart here on. ready.slot k x pipe before (ap (slice_get (views_of old)) (sym here) ∙ there') on) k.place v
        (ap (λ (vs : List LinkView). slice_get vs k.place) (sym s.views_are) ∙ e) refl is;
  }

  pub passes-leaves : {bandwidth delay : ℕ} {new : Parts} → StartsAt h.place at bandwidth delay mid new → KeepsOthersReady flow old new
  passes-leaves {bandwidth = bandwidth} {delay = delay} {new = new} t other ne ready = starts-ready h.place at bandwidth delay mid new t other (arrives-leaves other ne ready)
