-- The home of a new flow is a link that is made.
use Rattle.dn_shaper.proofs.Words.{AgreesWith, Ascends, Event, FlowKey, GivesHome, HasSlotRoom, Holds, IsIndexed, IsMade, IsReady, IsSound, KeepsReady, Link, LinkView, List, NextStart, None}
use Rattle.dn_shaper.proofs.Words.{NotesFor, Opens, Option, Some, State, Table, Within, [], ap, append-nil, arith, cond, false, get-last, get-more, home, home_by, homes_of, inl, inr, is_some}
use Rattle.dn_shaper.proofs.Words.{length, length-map, length-more, link_eq, link_names, link_of, links, list_any, map-append, nat_lt, next_at, next_start_of, next_starts, place_for}
use Rattle.dn_shaper.proofs.Words.{queue_lengths, refl, room_at, slice_get, slice_index_or, subst, suc, sum-more, sym, top, views_of, waits_in_all, with_link, zero, ℕ, ◌++◌, ◌<◌, ◌∙◌, ◌∷◌, ◌≡◌}
use Rattle.dn_shaper.proofs.Words.{◌≤◌, ◌⊎◌}
use Rattle.dn_shaper.proofs.Indexed.{noted-more, unnoted-unknown}
use Rattle.dn_shaper.proofs.Made.{linked-agrees}
use Rattle.dn_shaper.proofs.Preparing.{IsOneMore, with_flows}
use Rattle.dn_shaper.proofs.Housed.{keys-are, same-flows, many-flows, ready-by, within-by, sound-by, agrees-by, leaves-by}

-- ---- The links with a backlog, and one more without

next-more : (ds : List (Option ℕ)) (place : ℕ) → next_at (ds ++ None ∷ []) place ≡ next_at ds place
next-more [] zero = refl
next-more [] (suc place) = refl
next-more (d ∷ ds) zero = refl
next-more (d ∷ ds) (suc place) = next-more ds place

holds-more : (ds : List (Option ℕ)) (keys : List NextStart) → Holds ds keys → Holds (ds ++ None ∷ []) keys
holds-more ds keys h = record {
  once = λ place. h.once place ∙ ap {B = ℕ} (λ (o : Option ℕ). cond (is_some o) 1 0) (sym (next-more ds place));
  moments = λ i d lt. next-more ds (slice_index_or keys i d).place ∙ h.moments i d lt;
}

no-next : (v : LinkView) → v.waits ≡ 0 → next_start_of v ≡ None
no-next v e = ap (λ n. cond (nat_lt 0 n) (Some v.value.free) None) e

module _ (old new : State) (t : Table) (key : FlowKey) (one : IsOneMore key old.parts.flows t)
    (g : GivesHome key (length old.parts.flows.keys) (with_flows old t) new) (as_many : length old.parts.flows.flows ≡ length old.parts.flows.keys) where
  abbrev flow : ℕ
  flow = length old.parts.flows.keys

  abbrev link : Link
  link = link_of key.target flow key.pipe

  module _ (noted : place_for key old.shared ≡ None) (s : Opens link flow g.home (views_of old.parts) (views_of new.parts) new.heap)
      (notes : NotesFor key.target key.pipe g.home.place old.shared new.shared) (index : IsIndexed old (link_names (views_of old.parts))) where
    module _ (trace : List Event) (a : AgreesWith old.parts [] trace) where
      unknown : list_any (link_eq link) (link_names (views_of old.parts)) ≡ false
      unknown = unnoted-unknown old (queue_lengths old.parts.flows.flows) old.parts.links.items index key.target flow key.pipe (λ k v e. (a.views_are k v e).below) noted

      pub opened-agrees : AgreesWith new.parts (link ∷ []) trace
      opened-agrees =
          agrees-by old new t key one g as_many (link ∷ []) trace (record { place = length (views_of old.parts); slot = 0 }) (views_of old.parts ++ s.view ∷ [])
          (λ i. record { place = s.place_is i; slot = s.slot_is i }) s.views_are
          (linked-agrees old.parts.rule old.parts.accepted old.parts.flows.keys (homes_of old.parts.flows.flows)
          (views_of old.parts) old.parts.flows.flows old.parts.line.pending trace a key new.parts.flows.flows (same-flows old new t key one g as_many)
          (many-flows old new t key one g as_many) s.view s.is_new.link_is unknown s.is_new.free s.is_new.last_due s.is_new.waits s.is_new.schedule.virtual_time s.is_new.schedule.flows
          (λ slot f e. only-one slot f (ap (λ (fs : List ℕ). slice_get fs slot) (sym s.is_new.slots) ∙ e))
          (λ pipe e. ap (λ (fs : List ℕ). slice_get fs 0) s.is_new.slots)
          (subst (λ (fs : List ℕ). Ascends 0 fs) (sym s.is_new.slots) (omega arith, tt))
          (let e = ap {B = ℕ} (λ (fs : List ℕ). top 0 fs) s.is_new.slots in omega arith))
        where
          only-one : (slot f : ℕ) → slice_get (flow ∷ []) slot ≡ Some f → f ≡ flow
          only-one zero f e = let same : flow ≡ f = cc in sym same
          only-one (suc slot) f e = absurd cc

      pub opened-prepares : (more : List Link) × AgreesWith new.parts more trace × IsMade flow new.parts trace
      opened-prepares =
          let b = opened-agrees in
          let names : link_names (views_of old.parts) ≡ links trace = a.links_are ∙ append-nil (links trace) in
          let unseen : list_any (link_eq link) (links trace) ≡ false = ap (λ (ls : List Link). list_any (link_eq link) ls) (sym names) ∙ unknown in
          let home_is : home new.parts.flows.keys flow ≡ link = ap (λ (ks : List FlowKey). home ks flow) (keys-are old new t key one g) ∙ ap (home_by flow) (get-last old.parts.flows.keys key) in (
            link ∷ [],
            b,
            b.links_are ∙ sym (ap (λ x. cond x (links trace) (links trace ++ link ∷ [])) unseen) ∙ ap (λ (l : Link). with_link l (links trace)) (sym home_is),
          )

    view-last : (v : LinkView) → slice_get (views_of new.parts) (length (views_of old.parts)) ≡ Some v → s.view ≡ v
    view-last v e =
        let both : Some s.view ≡ Some v = sym (get-last (views_of old.parts) s.view) ∙ ap (λ (vs : List LinkView). slice_get vs (length (views_of old.parts))) (sym s.views_are) ∙ e in
        cc

    pub opened-ready : length (homes_of old.parts.flows.flows) ≡ flow → IsReady flow new.parts
    opened-ready many = ready-by old new t key one g as_many (λ v pipe e is.
        let same = view-last v (ap (slice_get (views_of new.parts)) (sym s.place_is) ∙ e) in
        let room : HasSlotRoom 0 v v.link = subst (λ (x : LinkView). HasSlotRoom 0 x x.link) same s.is_new.room in
        let here : 0 < room_at v.schedule.room 0 = subst (λ (l : Link). HasSlotRoom 0 v l) is room in
        subst (λ n. 0 < room_at v.schedule.room n) (sym s.slot_is) here) many

    pub opened-leaves : (trace : List Event) → AgreesWith old.parts [] trace → KeepsReady old.parts new.parts
    opened-leaves trace a = leaves-by old new t key one g as_many [] trace a (λ k v below e. by k v below (get-more (views_of old.parts) s.view v k (ap (λ (vs : List LinkView). slice_get vs k) (sym s.views_are) ∙ e)))
      where
        by : (k : ℕ) (v : LinkView) → k < length (views_of old.parts) → (slice_get (views_of old.parts) k ≡ Some v) ⊎ ((k ≡ length (views_of old.parts)) × (v ≡ s.view))
            → (w : LinkView) × (slice_get (views_of old.parts) k ≡ Some w) × (v.link ≡ w.link) × ((slot : ℕ) → room_at w.schedule.room slot ≤ room_at v.schedule.room slot)
        by k v below (inl there) = (v, there, refl, λ slot. omega arith)
        by k v below (inr last) = absurd (let is = last.0 in omega arith)

    waits-more : waits_in_all (views_of new.parts) ≡ waits_in_all (views_of old.parts)
    waits-more =
        let sum = sum-more (λ (x : LinkView). x.waits) (views_of old.parts) s.view in
        let w = s.is_new.waits in
        ap waits_in_all s.views_are ∙ (omega arith)

    arrivals-more : (n : ℕ) → Within n old.parts → (k : ℕ) (v : LinkView) → slice_get (views_of new.parts) k ≡ Some v → v.schedule.arrivals ≤ n
    arrivals-more n w k v e = by (get-more (views_of old.parts) s.view v k (ap (λ (vs : List LinkView). slice_get vs k) (sym s.views_are) ∙ e))
      where
        by : (slice_get (views_of old.parts) k ≡ Some v) ⊎ ((k ≡ length (views_of old.parts)) × (v ≡ s.view)) → v.schedule.arrivals ≤ n
        by (inl there) = w.arrivals k v there
        by (inr last) =
            let is = ap {B = ℕ} (λ (x : LinkView). x.schedule.arrivals) last.1 in
            let a = s.is_new.schedule.arrivals in
            omega arith

    nexts-more : next_starts (views_of new.parts) ≡ next_starts (views_of old.parts) ++ None ∷ []
    nexts-more = ap next_starts s.views_are ∙ map-append next_start_of (views_of old.parts) (s.view ∷ [])
        ∙ ap (λ (o : Option ℕ). next_starts (views_of old.parts) ++ o ∷ []) (no-next s.view s.is_new.waits)

    names-more : link_names (views_of new.parts) ≡ link_names (views_of old.parts) ++ link ∷ []
    names-more = ap link_names s.views_are ∙ map-append (λ (x : LinkView). x.link) (views_of old.parts) (s.view ∷ []) ∙ ap (λ (l : Link). link_names (views_of old.parts) ++ l ∷ []) s.is_new.link_is

    pub opened-sound : (trace : List Event) → AgreesWith old.parts [] trace → IsSound old → IsSound new
    opened-sound trace a sound =
        sound-by old new t key one g as_many (link ∷ [], trace, opened-agrees trace a) (within-by old new t key one g as_many waits-more arrivals-more)
        (subst (λ (ds : List (Option ℕ)). Holds ds old.heap.keys) (sym nexts-more) (holds-more (next_starts (views_of old.parts)) old.heap.keys sound.kept.held))
        (let l = ap {B = ℕ} (λ (vs : List LinkView). length vs) s.views_are ∙ length-more (views_of old.parts) s.view in let r = s.room in omega arith)
        (subst (λ (ls : List Link). IsIndexed new ls) (sym names-more)
        (noted-more old new (link_names (views_of old.parts)) index key.target flow key.pipe g.home.place (s.place_is ∙ sym (length-map (views_of old.parts) (λ v. v.link))) noted notes)) sound
