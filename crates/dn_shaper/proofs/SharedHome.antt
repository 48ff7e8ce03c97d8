-- The home of a new flow is the next slot of a link that is there.
use Rattle.dn_shaper.proofs.Words.{AgreesWith, Event, FlowKey, GivesHome, Holds, IsIndexed, IsMade, IsReady, IsSound, KeepsReady, Link, LinkView, List, None, Option, Shares, Some, State, Table}
use Rattle.dn_shaper.proofs.Words.{Within, [], ap, arith, at_number, cond, get-set, homes_of, length, length-more, length-set, link_eq, link_names, link_of, list_any, map-set-same, nat_lt}
use Rattle.dn_shaper.proofs.Words.{next_start_of, next_starts, place_for, refl, room_at, set, shared, slice_get, subst, sum-set, sym, views_of, waits_in_all, ℕ, ◌++◌, ◌<◌, ◌∙◌, ◌∷◌, ◌≡◌, ◌≤◌}
use Rattle.dn_shaper.proofs.Indexed.{noted-found}
use Rattle.dn_shaper.proofs.Made.{joined-agrees}
use Rattle.dn_shaper.proofs.OnePlace.{each-set}
use Rattle.dn_shaper.proofs.Preparing.{IsOneMore, seen-made, with_flows}
use Rattle.dn_shaper.proofs.Sharing.{named-at}
use Rattle.dn_shaper.proofs.Housed.{keys-are, same-flows, many-flows, ready-by, within-by, sound-by, agrees-by, leaves-by}

module _ (old new : State) (t : Table) (key : FlowKey) (one : IsOneMore key old.parts.flows t)
    (g : GivesHome key (length old.parts.flows.keys) (with_flows old t) new) (as_many : length old.parts.flows.flows ≡ length old.parts.flows.keys) where
  abbrev flow : ℕ
  flow = length old.parts.flows.keys

  abbrev link : Link
  link = link_of key.target flow key.pipe

  module _ (place : ℕ) (noted : place_for key old.shared ≡ Some place) (s : Shares flow place g.home (views_of old.parts) (views_of new.parts))
      (unnoted : new.shared ≡ old.shared) (index : IsIndexed old (link_names (views_of old.parts))) where
    found : (slice_get (link_names (views_of old.parts)) place ≡ Some (shared key.pipe)) × (link ≡ shared key.pipe)
    found = noted-found old (link_names (views_of old.parts)) index key.target flow key.pipe place noted

    here : s.view.link ≡ link
    here =
        let v = named-at (views_of old.parts) place (shared key.pipe) found.0 in
        let both : Some s.view ≡ Some v.0 = sym s.there ∙ v.1 in
        let same : s.view ≡ v.0 = cc in
        ap (λ (x : LinkView). x.link) same ∙ v.2 ∙ sym found.1

    names-same : link_names (views_of new.parts) ≡ link_names (views_of old.parts)
    names-same = ap link_names s.views_are ∙ map-set-same (λ (x : LinkView). x.link) (views_of old.parts) place s.view s.view' s.there s.takes.link

    pub shared-agrees : (trace : List Event) → AgreesWith old.parts [] trace → AgreesWith new.parts [] trace
    shared-agrees trace a =
        agrees-by old new t key one g as_many [] trace (record { place = place; slot = length s.view.slots })
        (set (views_of old.parts) place (record { link = s.view.link; value = s.view.value; waits = s.view.waits; schedule = s.view'.schedule; slots = s.view.slots ++ flow ∷ [] }))
        (λ i. record { place = s.place_is i; slot = s.slot_is i })
        (s.views_are ∙ (λ i. set (views_of old.parts) place (record { link = s.takes.link i; value = s.takes.value i; waits = s.takes.waits i; schedule = s.view'.schedule; slots = s.takes.slots i })))
        (joined-agrees old.parts.rule old.parts.accepted old.parts.flows.keys (homes_of old.parts.flows.flows)
        (views_of old.parts) old.parts.flows.flows old.parts.line.pending trace a key new.parts.flows.flows (same-flows old new t key one g as_many)
        (many-flows old new t key one g as_many) place s.view s.there here s.view'.schedule s.takes.schedule.virtual_time s.takes.schedule.flows)

    pub shared-prepares : (trace : List Event) → AgreesWith old.parts [] trace → (more : List Link) × AgreesWith new.parts more trace × IsMade flow new.parts trace
    shared-prepares trace a =
        let b = shared-agrees trace a in
        let m = ap {B = ℕ} (λ (ks : List FlowKey). length ks) (keys-are old new t key one g) ∙ length-more old.parts.flows.keys key in
        ([], b, seen-made new.parts trace flow b (omega arith))

    view-now : (v : LinkView) → slice_get (views_of new.parts) place ≡ Some v → s.view' ≡ v
    view-now v e =
        let both : Some s.view' ≡ Some v = sym (get-set (views_of old.parts) place s.view s.view' s.there) ∙ ap (λ (vs : List LinkView). slice_get vs place) (sym s.views_are) ∙ e in
        cc

    pub shared-ready : length (homes_of old.parts.flows.flows) ≡ flow → IsReady flow new.parts
    shared-ready many = ready-by old new t key one g as_many
        (λ v pipe e is. subst (λ (x : LinkView × ℕ). 0 < room_at x.0.schedule.room x.1)
        (λ i. (view-now v (ap (slice_get (views_of new.parts)) (sym s.place_is) ∙ e) i, sym s.slot_is i)) s.takes.room) many

    pub shared-leaves : (trace : List Event) → AgreesWith old.parts [] trace → KeepsReady old.parts new.parts
    shared-leaves trace a = leaves-by old new t key one g as_many [] trace a (λ k v below e.
        each-set (λ (k : ℕ) (v : LinkView). (w : LinkView) × (slice_get (views_of old.parts) k ≡ Some w) × (v.link ≡ w.link) × ((slot : ℕ) → room_at w.schedule.room slot ≤ room_at v.schedule.room slot))
        (views_of old.parts) place s.view s.there s.view' (s.view, s.there, s.takes.link, s.takes.schedule.room)
        (λ k v there ne. (v, there, refl, λ slot. omega arith)) k v (ap (λ (vs : List LinkView). slice_get vs k) (sym s.views_are) ∙ e))

    waits-same : waits_in_all (views_of new.parts) ≡ waits_in_all (views_of old.parts)
    waits-same =
        let sum = sum-set (λ (x : LinkView). x.waits) (views_of old.parts) place s.view s.view' s.there in
        let w = s.takes.waits in
        ap waits_in_all s.views_are ∙ (omega arith)

    arrivals-below : (n : ℕ) → Within n old.parts → (k : ℕ) (v : LinkView) → slice_get (views_of new.parts) k ≡ Some v → v.schedule.arrivals ≤ n
    arrivals-below n w k v e =
        each-set (λ (k : ℕ) (v : LinkView). v.schedule.arrivals ≤ n) (views_of old.parts) place s.view s.there s.view'
        (let same = s.takes.schedule.arrivals in let le = w.arrivals place s.view s.there in omega arith)
        (λ k v e ne. w.arrivals k v e) k v (ap (λ (vs : List LinkView). slice_get vs k) (sym s.views_are) ∙ e)

    nexts-same : next_starts (views_of new.parts) ≡ next_starts (views_of old.parts)
    nexts-same = ap next_starts s.views_are ∙ map-set-same next_start_of (views_of old.parts) place s.view s.view' s.there (λ i. cond (nat_lt 0 (s.takes.waits i)) (Some (s.takes.value i).free) None)

    pub shared-sound : (trace : List Event) → AgreesWith old.parts [] trace → IsSound old → IsSound new
    shared-sound trace a sound =
        sound-by old new t key one g as_many ([], trace, shared-agrees trace a) (within-by old new t key one g as_many waits-same arrivals-below)
        (subst (λ (ds : List (Option ℕ)). Holds ds old.heap.keys) (sym nexts-same) sound.kept.held)
        (let l = ap {B = ℕ} (λ (vs : List LinkView). length vs) s.views_are ∙ length-set (views_of old.parts) place s.view' in let p = sound.kept.places in let r = g.heap.room in omega arith)
        (record {
          found = λ pipe k e. ap (λ (ls : List Link). slice_get ls k) names-same ∙ index.found pipe k (ap (λ (es : List (Option ℕ)). at_number es pipe) (sym unnoted) ∙ e);
          missing = λ pipe e. ap (λ (ls : List Link). list_any (link_eq (shared pipe)) ls) names-same ∙ index.missing pipe (ap (λ (es : List (Option ℕ)). at_number es pipe) (sym unnoted) ∙ e);
        }) sound
