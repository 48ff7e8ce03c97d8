-- All parts agree with a flow that is made before any event of it.
use Rattle.dn_shaper.proofs.Words.{Accepted, AreDistinct, AreSlotsAtHome, Ascends, Delivery, Event, FlowKey, FlowState, Home, IsAt, IsFlowAt, IsHomeOf, IsLinkAt, IsScheduleAt, IsSlotAt, Link}
use Rattle.dn_shaper.proofs.Words.{LinkView, List, Rule, SameFlow, Some, [], ap, append-nil, arith, as_queued, backlog, backlog-above, backlog-unknown, cases_eq, cases_lt, discarded_count, false}
use Rattle.dn_shaper.proofs.Words.{flow_at, flow_bound, get-kept, get-last, get-more, get-set, home, home_by, inl, inr, length, length-more, link_eq, link_names, link_of, links, list_any, map}
use Rattle.dn_shaper.proofs.Words.{map-append, map-set-same, refl, set, shared, slice_get, slotted, stamped_of, subst, suc, sym, top, waiting, zero, ℕ, ⊎_elim, ◌++◌, ◌+◌, ◌<◌, ◌∙◌, ◌∷◌, ◌≡◌, ◌≤◌}
use Rattle.dn_shaper.proofs.Words.{◌⊎◌}
use Rattle.dn_wf2q.specs.Schedule.{Flow, Schedule, flow_at as slot_at, no_packets}
use Rattle.dn_shaper.proofs.Above.{last_finish-above, discarded-above}
use Rattle.dn_shaper.proofs.Distinct.{distinct-more}
use Rattle.dn_shaper.proofs.Homes.{home-set}
use Rattle.dn_shaper.proofs.Next.{total-zero}
use Rattle.dn_shaper.proofs.OnePlace.{each-set}
use Rattle.dn_shaper.proofs.Slots.{ascends-more, top-more, below-top}

get-more-other : {X : Type 0} (xs : List X) (y : X) (k : ℕ) → (k ≡ length xs → ⊥) → slice_get (xs ++ y ∷ []) k ≡ slice_get xs k
get-more-other [] y zero ne = absurd (ne refl)
get-more-other [] y (suc k) ne = refl
get-more-other (x ∷ xs) y zero ne = refl
get-more-other (x ∷ xs) y (suc k) ne = get-more-other xs y k (λ e. ne (ap suc e))

module _ (rule : Rule) (accepted : ℕ) (keys : List FlowKey) (homes : List Home) (views : List LinkView) (flows : List FlowState) (pending : List Delivery)
    (trace : List Event) (a : IsAt rule accepted keys homes views flows pending [] trace) where
  module _ (key : FlowKey) where
    abbrev pub flow : ℕ
    flow = length keys

    abbrev pub link : Link
    link = link_of key.target flow key.pipe

    abbrev pub keys_now : List FlowKey
    keys_now = keys ++ key ∷ []

    home-new : home keys_now flow ≡ link
    home-new = ap (home_by flow) (get-last keys key)

    home-other : (g : ℕ) → (g ≡ flow → ⊥) → home keys_now g ≡ home keys g
    home-other g ne = ap (home_by g) (get-more-other keys key g ne)

    many : length keys_now ≡ length keys + 1
    many = length-more keys key

    empty-new : (l : Link) → backlog l flow trace ≡ []
    empty-new l = backlog-above l flow trace a.bound

    module _ (flows' : List FlowState) (flows_same : (g : ℕ) → SameFlow (flow_at flows g) (flow_at flows' g)) (as_many' : length flows' ≡ length keys + 1) where
      flows_now : (g : ℕ) → IsFlowAt (home keys_now g) g trace (flow_at flows' g)
      flows_now g = by (cases_eq g flow)
        where
          s : SameFlow (flow_at flows g) (flow_at flows' g)
          s = flows_same g

          b : IsFlowAt (home keys g) g trace (flow_at flows g)
          b = a.flows_are g

          same_rest : (bk : (flow_at flows' g).backlog ≡ map as_queued (backlog (home keys_now g) g trace)) →
              (dc : (flow_at flows' g).discarded ≡ discarded_count (home keys_now g) g trace) → IsFlowAt (home keys_now g) g trace (flow_at flows' g)
          same_rest bk dc = record {
            backlog_is = bk;
            lost_is = s.lost ∙ b.lost_is;
            full_is = s.full ∙ b.full_is;
            started_is = s.started ∙ b.started_is;
            discarded_is = dc;
            active_is = s.active ∙ b.active_is;
          }

          by : (g ≡ flow) ⊎ (g ≡ flow → ⊥) → IsFlowAt (home keys_now g) g trace (flow_at flows' g)
          by (inl e) =
              let le : flow_bound trace ≤ g = let x = a.bound in omega arith in
              same_rest
              (s.backlog ∙ b.backlog_is ∙ ap (λ (q : List Accepted). map as_queued q) (backlog-above (home keys g) g trace le ∙ sym (backlog-above (home keys_now g) g trace le)))
              (s.discarded ∙ b.discarded_is ∙ discarded-above (home keys g) g trace le ∙ sym (discarded-above (home keys_now g) g trace le))
          by (inr ne) =
              same_rest
              (s.backlog ∙ b.backlog_is ∙ ap (λ (l : Link). map as_queued (backlog l g trace)) (sym (home-other g ne)))
              (s.discarded ∙ b.discarded_is ∙ ap (λ (l : Link). discarded_count l g trace) (sym (home-other g ne)))

      elsewhere_now : (g : ℕ) (l : Link) → link_eq (home keys_now g) l ≡ false → backlog l g trace ≡ []
      elsewhere_now g l e = ⊎_elim (λ same. ap (λ i. backlog l i trace) same ∙ empty-new l) (λ ne. a.elsewhere g l (ap (λ (m : Link). link_eq m l) (sym (home-other g ne)) ∙ e)) (cases_eq g flow)

      module _ (views' : List LinkView) (h : Home) (more' : List Link) (links' : link_names views' ≡ links trace ++ more') (distinct' : AreDistinct (link_names views'))
          (views_now : (k : ℕ) (v : LinkView) → slice_get views' k ≡ Some v → IsLinkAt rule (length keys + 1) trace v)
          (homes_kept : (g : ℕ) (x : Home) → IsHomeOf g (home keys g) views x → IsHomeOf g (home keys g) views' x)
          (home_now : IsHomeOf flow link views' h) (slots_now : AreSlotsAtHome keys_now views') where
        homes_now : (g : ℕ) → g < length keys_now → (x : Home) × (slice_get (homes ++ h ∷ []) g ≡ Some x) × IsHomeOf g (home keys_now g) views' x
        homes_now g lt = by (cases_eq g flow)
          where
            by : (g ≡ flow) ⊎ (g ≡ flow → ⊥) → (x : Home) × (slice_get (homes ++ h ∷ []) g ≡ Some x) × IsHomeOf g (home keys_now g) views' x
            by (inl e) = (
              h,
              ap (slice_get (homes ++ h ∷ [])) (e ∙ sym a.as_many_homes) ∙ get-last homes h,
              subst (λ (x : ℕ × Link). IsHomeOf x.0 x.1 views' h) (λ i. (sym e i, (sym home-new ∙ ap (home keys_now) (sym e)) i)) home_now,
            )
            by (inr ne) =
                let x = a.homes_are g (let m = many in strict g lt ne) in
                (x.0, get-kept homes h x.0 g x.1, subst (λ (l : Link). IsHomeOf g l views' x.0) (sym (home-other g ne)) (homes_kept g x.0 x.2))
              where
                strict : (g : ℕ) → g < length keys_now → (g ≡ flow → ⊥) → g < length keys
                strict g lt ne = ⊎_elim (λ below. below) (λ above. absurd (ne (let m = many in omega arith))) (cases_lt g (length keys))

        pub made-agrees : IsAt rule accepted keys_now (homes ++ h ∷ []) views' flows' pending more' trace
        made-agrees = record {
          links_are = links';
          distinct = distinct';
          views_are = λ k v e. subst (λ n. IsLinkAt rule n trace v) (sym many) (views_now k v e);
          untouched = a.untouched;
          flows_are = flows_now;
          as_many = as_many' ∙ sym many;
          elsewhere = elsewhere_now;
          bound = let b = a.bound in let m = many in omega arith;
          homes_are = homes_now;
          as_many_homes = length-more homes h ∙ ap (λ n. n + 1) a.as_many_homes ∙ sym many;
          slots_home = slots_now;
          pending_is = a.pending_is;
          accepted_is = a.accepted_is;
        }

      wider : (v : LinkView) → IsLinkAt rule (length keys) trace v → IsLinkAt rule (length keys + 1) trace v
      wider v b = record { free_is = b.free_is; last_due_is = b.last_due_is; waits_are = b.waits_are; schedule_is = b.schedule_is; ascends = b.ascends; below = let x = b.below in omega arith }

      old-flow : (k : ℕ) (v : LinkView) → slice_get views k ≡ Some v → (slot g : ℕ) → slice_get v.slots slot ≡ Some g → g ≡ flow → ⊥
      old-flow k v e slot g at same = let b = a.views_are k v e in let lt = below-top 0 v.slots slot g b.ascends at in let le = b.below in absurd (omega arith)

      home-old : (k : ℕ) (v : LinkView) → slice_get views k ≡ Some v → (slot g : ℕ) → slice_get v.slots slot ≡ Some g → home keys_now g ≡ v.link
      home-old k v e slot g at = home-other g (old-flow k v e slot g at) ∙ a.slots_home k v e slot g at

      -- ---- On a link that is there

      module _ (k : ℕ) (v : LinkView) (there : slice_get views k ≡ Some v) (here : v.link ≡ link) (schedule : Schedule)
          (time_same : schedule.virtual_time ≡ v.schedule.virtual_time)
          (slots_same : (slot : ℕ) → slot_at schedule.flows slot ≡ slot_at v.schedule.flows slot) where
        abbrev pub joined : LinkView
        joined = record { link = v.link; value = v.value; waits = v.waits; schedule = schedule; slots = v.slots ++ flow ∷ [] }

        schedule_joined : (pipe : ℕ) → v.link ≡ shared pipe → IsScheduleAt v.link trace schedule (v.slots ++ flow ∷ [])
        schedule_joined pipe is =
            let c = (a.views_are k v there).schedule_is pipe is in
            record {
              virtual_time_is = time_same ∙ c.virtual_time_is;
              slots_are = λ slot g e. slot_joined c slot g (get-more v.slots flow g slot e);
              beyond = λ slot le. let m = length-more v.slots flow in slots_same slot ∙ c.beyond slot (omega arith);
            }
          where
            slot_joined : IsScheduleAt v.link trace v.schedule v.slots → (slot g : ℕ) →
                (slice_get v.slots slot ≡ Some g) ⊎ ((slot ≡ length v.slots) × (g ≡ flow)) → IsSlotAt v.link g slot trace (slot_at schedule.flows slot)
            slot_joined c slot g (inl e) = let s = c.slots_are slot g e in record {
              backlog_is = ap (λ (f : Flow). f.backlog) (slots_same slot) ∙ s.backlog_is;
              last_finish_is = ap (λ (f : Flow). f.last_finish_tag) (slots_same slot) ∙ s.last_finish_is;
            }
            slot_joined c slot g (inr e) =
                let le : flow_bound trace ≤ g = let b = a.bound in let s = e.1 in omega arith in
                let empty : slot_at schedule.flows slot ≡ no_packets = slots_same slot ∙ c.beyond slot (let s = e.0 in omega arith) in
                record {
                  backlog_is = ap (λ (f : Flow). f.backlog) empty ∙ ap (λ (q : List Accepted). map (slotted slot) (stamped_of q)) (sym (backlog-above v.link g trace le));
                  last_finish_is = ap (λ (f : Flow). f.last_finish_tag) empty ∙ sym (last_finish-above v.link g trace le);
                }

        joined_at : IsLinkAt rule (length keys + 1) trace joined
        joined_at = let b = a.views_are k v there in record {
          free_is = b.free_is;
          last_due_is = b.last_due_is;
          waits_are = b.waits_are;
          schedule_is = schedule_joined;
          ascends = ascends-more 0 v.slots flow b.ascends b.below;
          below = let t = top-more 0 v.slots flow in omega arith;
        }

        views_joined : (j : ℕ) (w : LinkView) → slice_get (set views k joined) j ≡ Some w → IsLinkAt rule (length keys + 1) trace w
        views_joined = each-set (λ j w. IsLinkAt rule (length keys + 1) trace w) views k v there joined joined_at (λ j w e ne. wider w (a.views_are j w e))

        homes_joined : (g : ℕ) (x : Home) → IsHomeOf g (home keys g) views x → IsHomeOf g (home keys g) (set views k joined) x
        homes_joined g x is = home-set views k v there joined refl is (get-kept v.slots flow g x.slot)

        slots_joined : AreSlotsAtHome keys_now (set views k joined)
        slots_joined = each-set (λ (j : ℕ) (w : LinkView). (slot g : ℕ) → slice_get w.slots slot ≡ Some g → home keys_now g ≡ w.link) views k v there joined
            (λ slot g at. last slot g (get-more v.slots flow g slot at)) (λ j w e ne. home-old j w e)
          where
            last : (slot g : ℕ) → (slice_get v.slots slot ≡ Some g) ⊎ ((slot ≡ length v.slots) × (g ≡ flow)) → home keys_now g ≡ v.link
            last slot g (inl old) = home-old k v there slot g old
            last slot g (inr new) = ap (home keys_now) new.1 ∙ home-new ∙ sym here

        names_joined : link_names (set views k joined) ≡ link_names views
        names_joined = map-set-same (λ (x : LinkView). x.link) views k v joined there refl

        -- The flow takes the next slot of the link.
        pub joined-agrees : IsAt rule accepted keys_now (homes ++ record { place = k; slot = length v.slots } ∷ []) (set views k joined) flows' pending [] trace
        joined-agrees =
            made-agrees (set views k joined) (record { place = k; slot = length v.slots }) [] (names_joined ∙ a.links_are) (subst AreDistinct (sym names_joined) a.distinct) views_joined homes_joined
            (record { view = joined; there = get-set views k v joined there; link_is = here; slot_is = λ pipe e. get-last v.slots flow }) slots_joined

      -- ---- With a link of its own, or the first of a shared one

      module _ (v : LinkView) (here : v.link ≡ link) (unknown : list_any (link_eq link) (link_names views) ≡ false) (no_free : v.value.free ≡ 0)
          (no_due : v.value.last_due ≡ 0) (no_waits : v.waits ≡ 0)
          (no_time : v.schedule.virtual_time ≡ 0) (no_slots : (slot : ℕ) → slot_at v.schedule.flows slot ≡ no_packets)
          (only : (slot g : ℕ) → slice_get v.slots slot ≡ Some g → g ≡ flow) (first : (pipe : ℕ) → link ≡ shared pipe → slice_get v.slots 0 ≡ Some flow)
          (ascends : Ascends 0 v.slots) (below : top 0 v.slots ≤ flow + 1) where
        links_now : link_names views ≡ links trace
        links_now = a.links_are ∙ append-nil (links trace)

        unseen_link : list_any (link_eq v.link) (links trace) ≡ false
        unseen_link = (λ i. list_any (link_eq (here i)) (sym links_now i)) ∙ unknown

        none_wait : waiting v.link trace ≡ 0
        none_wait = total-zero (flow_bound trace) (λ g. backlog v.link g trace) (λ g. ap {B = ℕ} (λ (q : List Accepted). length q) (backlog-unknown v.link g trace unseen_link))

        link_at : IsLinkAt rule (length keys + 1) trace v
        link_at = let u = a.untouched v.link unseen_link in record {
          free_is = no_free ∙ sym u.free_is;
          last_due_is = no_due ∙ sym u.last_due_is;
          waits_are = no_waits ∙ sym none_wait;
          schedule_is = λ pipe is. record {
            virtual_time_is = no_time ∙ sym u.virtual_time_is;
            slots_are = λ slot g e.
                let le : flow_bound trace ≤ g = let b = a.bound in let s = only slot g e in omega arith in
                record {
                  backlog_is = ap (λ (f : Flow). f.backlog) (no_slots slot) ∙ ap (λ (q : List Accepted). map (slotted slot) (stamped_of q)) (sym (backlog-above v.link g trace le));
                  last_finish_is = ap (λ (f : Flow). f.last_finish_tag) (no_slots slot) ∙ sym (last_finish-above v.link g trace le);
                };
            beyond = λ slot le. no_slots slot;
          };
          ascends = ascends;
          below = below;
        }

        views_more : (j : ℕ) (w : LinkView) → slice_get (views ++ v ∷ []) j ≡ Some w → IsLinkAt rule (length keys + 1) trace w
        views_more j w e = by (get-more views v w j e)
          where
            by : (slice_get views j ≡ Some w) ⊎ ((j ≡ length views) × (w ≡ v)) → IsLinkAt rule (length keys + 1) trace w
            by (inl old) = wider w (a.views_are j w old)
            by (inr new) = subst (λ (x : LinkView). IsLinkAt rule (length keys + 1) trace x) (sym new.1) link_at

        slots_more : AreSlotsAtHome keys_now (views ++ v ∷ [])
        slots_more j w e slot g at = by (get-more views v w j e)
          where
            by : (slice_get views j ≡ Some w) ⊎ ((j ≡ length views) × (w ≡ v)) → home keys_now g ≡ w.link
            by (inl old) = home-old j w old slot g at
            by (inr new) =
                let g_is = only slot g (ap (λ (x : LinkView). slice_get x.slots slot) (sym new.1) ∙ at) in
                ap (home keys_now) g_is ∙ home-new ∙ sym here ∙ ap (λ (x : LinkView). x.link) (sym new.1)

        names_more : link_names (views ++ v ∷ []) ≡ links trace ++ link ∷ []
        names_more = map-append (λ (x : LinkView). x.link) views (v ∷ []) ∙ (λ i. links_now i ++ here i ∷ [])

        distinct_more : AreDistinct (link_names (views ++ v ∷ []))
        distinct_more = subst AreDistinct (sym (map-append (λ (x : LinkView). x.link) views (v ∷ []) ∙ (λ i. link_names views ++ here i ∷ [])))
            (distinct-more (link_names views) link a.distinct unknown)

        -- The flow's link is the last.
        pub linked-agrees : IsAt rule accepted keys_now (homes ++ record { place = length views; slot = 0 } ∷ []) (views ++ v ∷ []) flows' pending (link ∷ []) trace
        linked-agrees =
            made-agrees (views ++ v ∷ []) (record { place = length views; slot = 0 }) (link ∷ []) names_more distinct_more views_more
            (λ g x is. record { view = is.view; there = get-kept views v is.view x.place is.there; link_is = is.link_is; slot_is = is.slot_is })
            (record { view = v; there = get-last views v; link_is = here; slot_is = first }) slots_more
