-- All parts agree with a start of the next packet of a link.
use Rattle.dn_shaper.proofs.Words.{Accepted, AreDistinct, Ascends, Bool, Delivery, Event, FlowKey, FlowState, HasSentNothing, Home, IsAt, IsFlowAt, IsLinkAt, IsNextToSend, IsScheduleAt, Link}
use Rattle.dn_shaper.proofs.Words.{LinkView, List, None, Rule, Some, Stamped, Start, Waiting, [], and-no, and_parts, ap, arith, arrival_time, as_queued, backlog, backlog-elsewhere}
use Rattle.dn_shaper.proofs.Words.{backlog-unknown, cases_eq, cond, delivery_of, drop, drop-map, due_by, eq-no, eq-yes, false, flow_at, flow_bound, free, free-elsewhere, get_or-set_same, grown}
use Rattle.dn_shaper.proofs.Words.{home, in_order, inl, inr, is_arrival, is_loss_of, is_of, is_of-start, is_refusal_of, is_start_of, last_due, last_due-elsewhere, length, length-set, link_eq}
use Rattle.dn_shaper.proofs.Words.{link_eq-refl, link_eq-true, link_heads, link_names, links, list_any, map, map-set-same, nat_eq, popped, popped_backlog, popped_from, refl, set, shared}
use Rattle.dn_shaper.proofs.Words.{slice_get, slotted, stamped_of, started, subst, suc, sym, top, total, true, true_or_false, virtual_time, virtual_time-elsewhere, waiting, waiting-start, zero, ℕ}
use Rattle.dn_shaper.proofs.Words.{⊎_elim, ◌+◌, ◌<◌, ◌∙◌, ◌∷◌, ◌≡◌, ◌⊎◌}
use Rattle.dn_wf2q.specs.Schedule.{Flow, flow_at as slot_at, heads_of, no_packets, without_head}
use Rattle.dn_shaper.proofs.Events.{uncounted, counted-once}
use Rattle.dn_shaper.proofs.Homes.{home-after, slots_home-after}
use Rattle.dn_shaper.proofs.Heads.{first-picked, packet-picked, grown-agree}
use Rattle.dn_shaper.proofs.Next.{front, listed, schedule-at, distinct_views}
use Rattle.dn_shaper.proofs.OnePlace.{each-flow, each-set}
use Rattle.dn_shaper.proofs.OneSlot.{slot-set}

pub popped_started : (s : FlowState) (w : Waiting) → slice_get s.backlog 0 ≡ Some w → (popped s).started ≡ s.started + 1
popped_started s w e = by s.backlog e
  where
    by : (ws : List Waiting) → slice_get ws 0 ≡ Some w → (popped_from ws s).started ≡ s.started + 1
    by [] h = absurd cc
    by (x ∷ ws) h = refl

pub popped_rest : (s : FlowState) → ((popped s).lost ≡ s.lost) × ((popped s).full ≡ s.full) × ((popped s).discarded ≡ s.discarded) × ((popped s).active ≡ s.active)
popped_rest s = by s.backlog
  where
    by : (ws : List Waiting) → ((popped_from ws s).lost ≡ s.lost) × ((popped_from ws s).full ≡ s.full) × ((popped_from ws s).discarded ≡ s.discarded) × ((popped_from ws s).active ≡ s.active)
    by [] = (refl, refl, refl, refl)
    by (x ∷ ws) = (refl, refl, refl, refl)

module _ (rule : Rule) (accepted : ℕ) (keys : List FlowKey) (homes : List Home) (views : List LinkView) (flows : List FlowState) (pending : List Delivery)
    (more : List Link) (trace : List Event) (a : IsAt rule accepted keys homes views flows pending more trace)
    (k : ℕ) (v : LinkView) (there : slice_get views k ≡ Some v)
    (flow : ℕ) (s : Start) (first : slice_get (backlog v.link flow trace) 0 ≡ Some s.packet)
    (v' : LinkView) (same_link : v'.link ≡ v.link) (same_slots : v'.slots ≡ v.slots) (sends : IsNextToSend flow v v' v.link)
    (free_now : v'.value.free ≡ s.moment + s.transmission) (due_now : v'.value.last_due ≡ due_by rule (arrival_time s) v.value.last_due) (waits_now : v'.waits + 1 ≡ v.waits) where
  abbrev fr : (slice_get (flow_at flows flow).backlog 0 ≡ Some (as_queued s.packet)) × (flow < length flows) × (home keys flow ≡ v.link) × (s.packet.stamped.flow ≡ flow)
  fr = front rule accepted keys homes views flows pending more trace a k v there flow s.packet first

  is_here : is_of v.link flow s.packet ≡ true
  is_here = is_of-start v.link flow s trace first

  on_link : s.packet.link ≡ v.link
  on_link = link_eq-true s.packet.link v.link (and_parts (link_eq s.packet.link v.link) (nat_eq s.packet.stamped.flow flow) is_here).0

  same_test : (g : ℕ) → is_of (home keys g) g s.packet ≡ nat_eq flow g
  same_test g = by (cases_eq flow g)
    where
      by : (flow ≡ g) ⊎ (flow ≡ g → ⊥) → is_of (home keys g) g s.packet ≡ nat_eq flow g
      by (inl e) =
          let here : home keys g ≡ v.link = ap (home keys) (sym e) ∙ fr.2 in
          (λ i. is_of (here i) (sym e i) s.packet) ∙ is_here ∙ sym (eq-yes flow g e)
      by (inr ne) = and-no (link_eq s.packet.link (home keys g)) (nat_eq s.packet.stamped.flow g) (ap (λ x. nat_eq x g) fr.3 ∙ eq-no flow g ne) ∙ sym (eq-no flow g ne)

  -- ---- The link

  schedule_after : (pipe : ℕ) → v.link ≡ shared pipe → IsNextToSend flow v v' (shared pipe) → IsScheduleAt v.link (started s ∷ trace) v'.schedule v.slots
  schedule_after pipe is h =
      let c = schedule-at rule accepted keys homes views flows pending more trace a k v there pipe is in
      let up = (a.views_are k v there).ascends in
      let l = listed rule accepted keys homes views flows pending more trace a k v there pipe is in
      let p = packet-picked v.link trace v.schedule v.slots c up l h.0 h.1 flow h.2 in
      let same : Some p.0 ≡ Some s.packet = sym p.1 ∙ first in
      let packet : p.0 ≡ s.packet = cc in
      let stamps : slotted h.0.flow s.packet.stamped ≡ h.0 = ap (λ (x : Accepted). slotted h.0.flow x.stamped) (sym packet) ∙ p.2 in
      let within = in_range (v.schedule.flows) h.0.flow h.0 (first-picked v.link trace v.schedule v.slots c up l h.0 h.1) in
      let left = without_head (slot_at v.schedule.flows h.0.flow) in
      let now_at = ap (λ (fs : List Flow). slot_at fs h.0.flow) h.3.flows ∙ get_or-set_same v.schedule.flows h.0.flow left no_packets within in
      slot-set c up h.2 (started s ∷ trace) v'.schedule left h.3.flows
      (h.3.virtual_time
      ∙ ap (λ (x : Stamped). grown v.schedule.virtual_time (heads_of v.schedule.flows) x.len) (sym stamps)
      ∙ grown-agree v.link trace v.schedule v.slots c up l s.packet.stamped.len
      ∙ sym
      (ap (λ b. cond b (grown (virtual_time v.link trace) (link_heads v.link trace) s.packet.stamped.len) (virtual_time v.link trace))
      (ap (λ (m : Link). link_eq m v.link) on_link ∙ link_eq-refl v.link)))
      (record {
        backlog_is =
            ap (λ (f : Flow). f.backlog) now_at
            ∙ ap (λ (q : List Stamped). drop 1 q) (c.slots_are h.0.flow flow h.2).backlog_is
            ∙ drop-map (slotted h.0.flow) 1 (stamped_of (backlog v.link flow trace))
            ∙ ap (λ (q : List Stamped). map (slotted h.0.flow) q) (drop-map (λ (p : Accepted). p.stamped) 1 (backlog v.link flow trace))
            ∙ ap (λ b. map (slotted h.0.flow) (stamped_of (cond b (drop 1 (backlog v.link flow trace)) (backlog v.link flow trace)))) (sym is_here);
        last_finish_is = ap (λ (f : Flow). f.last_finish_tag) now_at ∙ (c.slots_are h.0.flow flow h.2).last_finish_is;
      })
      (λ slot g ne x. record {
        backlog_is = x.backlog_is
            ∙ ap (λ b. map (slotted slot) (stamped_of (cond b (drop 1 (backlog v.link g trace)) (backlog v.link g trace))))
            (sym (and-no (link_eq s.packet.link v.link) (nat_eq s.packet.stamped.flow g) (ap (λ n. nat_eq n g) fr.3 ∙ eq-no flow g ne)));
        last_finish_is = x.last_finish_is;
      })
    where
      in_range : (fs : List Flow) (slot : ℕ) (x : Stamped) → slice_get (slot_at fs slot).backlog 0 ≡ Some x → slot < length fs
      in_range [] slot x e = absurd cc
      in_range (f ∷ fs) zero x e = omega arith
      in_range (f ∷ fs) (suc slot) x e = let r = in_range fs slot x e in omega arith

  on_new : link_eq s.packet.link v'.link ≡ true
  on_new = ap (link_eq s.packet.link) same_link ∙ ap (λ (m : Link). link_eq m v.link) on_link ∙ link_eq-refl v.link

  made : IsLinkAt rule (length keys) (started s ∷ trace) v'
  made = let b = a.views_are k v there in record {
    free_is = free_now ∙ sym (ap (λ t. cond t (s.moment + s.transmission) (free v'.link trace)) on_new);
    last_due_is =
        due_now
        ∙ ap (λ d. due_by rule (arrival_time s) d) b.last_due_is
        ∙ ap (λ (l : Link). due_by rule (arrival_time s) (last_due rule l trace)) (sym same_link)
        ∙ sym (ap (λ t. cond t (due_by rule (arrival_time s) (last_due rule v'.link trace)) (last_due rule v'.link trace)) on_new);
    waits_are =
        let one = waiting-start v.link flow s trace first in
        let l = ap {B = ℕ} (λ (l : Link). waiting l (started s ∷ trace)) same_link in
        let w = b.waits_are in
        omega arith;
    schedule_is = λ pipe e.
        let is : v.link ≡ shared pipe = sym same_link ∙ e in
        subst (λ (x : Link × List ℕ). IsScheduleAt x.0 (started s ∷ trace) v'.schedule x.1) (λ i. (sym same_link i, sym same_slots i))
        (schedule_after pipe is (subst (λ (l : Link). IsNextToSend flow v v' l) is sends));
    ascends = subst (λ (fs : List ℕ). Ascends 0 fs) (sym same_slots) b.ascends;
    below = let t = ap {B = ℕ} (top 0) same_slots in let le = b.below in omega arith;
  }

  other_view : (j : ℕ) (w : LinkView) → slice_get views j ≡ Some w → (j ≡ k → ⊥) → IsLinkAt rule (length keys) (started s ∷ trace) w
  other_view j w e ne =
      let apart : link_eq s.packet.link w.link ≡ false = ap (λ (m : Link). link_eq m w.link) on_link ∙ distinct_views rule accepted keys homes views flows pending more trace a k v there j w e ne in
      let b = a.views_are j w e in
      record {
        free_is = b.free_is ∙ sym (free-elsewhere w.link s trace apart);
        last_due_is = b.last_due_is ∙ sym (last_due-elsewhere w.link s trace apart rule);
        waits_are = b.waits_are ∙ (λ i. total (flow_bound trace) (λ g. sym (backlog-elsewhere w.link s trace apart g) i));
        schedule_is = λ pipe is.
            let c = b.schedule_is pipe is in
            record {
              virtual_time_is = c.virtual_time_is ∙ sym (virtual_time-elsewhere w.link s trace apart);
              slots_are = λ slot g eg. record {
                backlog_is = (c.slots_are slot g eg).backlog_is ∙ ap (λ (q : List Accepted). map (slotted slot) (stamped_of q)) (sym (backlog-elsewhere w.link s trace apart g));
                last_finish_is = (c.slots_are slot g eg).last_finish_is;
              };
              beyond = c.beyond;
            };
        ascends = b.ascends;
        below = b.below;
      }

  names_same : link_names (set views k v') ≡ link_names views
  names_same = map-set-same (λ (x : LinkView). x.link) views k v v' there same_link

  known : list_any (link_eq v.link) (links trace) ≡ true
  known = ⊎_elim (λ t. t)
      (λ f. let none = ap (λ (q : List Accepted). slice_get q 0) (backlog-unknown v.link flow trace f) in let t : Some s.packet ≡ None = sym first ∙ none in absurd cc)
      (true_or_false (list_any (link_eq v.link) (links trace)))

  still_untouched : (link : Link) → list_any (link_eq link) (links trace) ≡ false → HasSentNothing rule (started s ∷ trace) link
  still_untouched link e =
      let apart : link_eq s.packet.link link ≡ false = ⊎_elim
      (λ same. let t : true ≡ false = sym known ∙ ap (λ (l : Link). list_any (link_eq l) (links trace)) (sym on_link ∙ link_eq-true s.packet.link link same) ∙ e in absurd cc)
      (λ f. f) (true_or_false (link_eq s.packet.link link)) in
      let u = a.untouched link e in
      record {
        free_is = free-elsewhere link s trace apart ∙ u.free_is;
        last_due_is = last_due-elsewhere link s trace apart rule ∙ u.last_due_is;
        virtual_time_is = virtual_time-elsewhere link s trace apart ∙ u.virtual_time_is;
      }

  abbrev flows' : List FlowState
  flows' = set flows flow (popped (flow_at flows flow))

  flow_after : (g : ℕ) → IsFlowAt (home keys g) g (started s ∷ trace) (flow_at flows' g)
  flow_after = each-flow (λ g x. IsFlowAt (home keys g) g (started s ∷ trace) x) flows flow (popped (flow_at flows flow)) fr.1
      (let b = a.flows_are flow in let rest = popped_rest (flow_at flows flow) in record {
        backlog_is =
            popped_backlog (flow_at flows flow)
            ∙ ap (λ (q : List Waiting). drop 1 q) b.backlog_is
            ∙ drop-map as_queued 1 (backlog (home keys flow) flow trace)
            ∙ ap (λ t. map as_queued (cond t (drop 1 (backlog (home keys flow) flow trace)) (backlog (home keys flow) flow trace))) (sym (same_test flow ∙ eq-yes flow flow refl));
        lost_is = rest.0 ∙ b.lost_is ∙ sym (uncounted (is_loss_of flow) (started s) trace refl);
        full_is = rest.1 ∙ b.full_is ∙ sym (uncounted (is_refusal_of flow) (started s) trace refl);
        started_is =
            popped_started (flow_at flows flow) (as_queued s.packet) fr.0
            ∙ ap (λ n. n + 1) b.started_is
            ∙ sym (counted-once (is_start_of flow) (started s) trace (ap (λ x. nat_eq x flow) fr.3 ∙ eq-yes flow flow refl));
        discarded_is = rest.2 ∙ b.discarded_is;
        active_is = rest.3 ∙ b.active_is;
      })
      (λ g ne. let b = a.flows_are g in record {
        backlog_is =
            b.backlog_is ∙ ap (λ t. map as_queued (cond t (drop 1 (backlog (home keys g) g trace)) (backlog (home keys g) g trace))) (sym (same_test g ∙ eq-no flow g ne));
        lost_is = b.lost_is ∙ sym (uncounted (is_loss_of g) (started s) trace refl);
        full_is = b.full_is ∙ sym (uncounted (is_refusal_of g) (started s) trace refl);
        started_is = b.started_is ∙ sym (uncounted (is_start_of g) (started s) trace (ap (λ x. nat_eq x g) fr.3 ∙ eq-no flow g ne));
        discarded_is = b.discarded_is;
        active_is = b.active_is;
      })

  pub start-agrees : IsAt rule accepted keys homes (set views k v') flows'
      (in_order (record { due = v'.value.last_due; packet = s.packet.packet; flow = flow; start = s.moment }) pending) more (started s ∷ trace)
  start-agrees = record {
    links_are = names_same ∙ a.links_are;
    distinct = subst AreDistinct (sym names_same) a.distinct;
    views_are = each-set (λ j w. IsLinkAt rule (length keys) (started s ∷ trace) w) views k v there v' made other_view;
    untouched = still_untouched;
    flows_are = flow_after;
    as_many = length-set flows flow (popped (flow_at flows flow)) ∙ a.as_many;
    elsewhere = λ g l e. ap (λ (q : List Accepted). cond (is_of l g s.packet) (drop 1 q) q) (a.elsewhere g l e) ∙ still (is_of l g s.packet);
    bound = a.bound;
    homes_are = λ g lt. let h = a.homes_are g lt in (h.0, h.1, home-after keys views k v there v' same_link same_slots g h.0 h.2);
    as_many_homes = a.as_many_homes;
    slots_home = slots_home-after keys views k v there v' same_link same_slots a.slots_home;
    pending_is = (λ i. in_order (delivery i) (a.pending_is i));
    accepted_is = a.accepted_is ∙ sym (uncounted is_arrival (started s) trace refl);
  }
    where
      still : (b : Bool) → cond {A = List Accepted} b (drop 1 []) [] ≡ []
      still true = refl
      still false = refl

      due_is : v'.value.last_due ≡ due_by rule (arrival_time s) (last_due rule s.packet.link trace)
      due_is = due_now ∙ ap (λ d. due_by rule (arrival_time s) d) (a.views_are k v there).last_due_is ∙ ap (λ (l : Link). due_by rule (arrival_time s) (last_due rule l trace)) (sym on_link)

      delivery : (record { due = v'.value.last_due; packet = s.packet.packet; flow = flow; start = s.moment }) ≡ delivery_of rule s (last_due rule s.packet.link trace)
      delivery = λ i. record { due = due_is i; packet = s.packet.packet; flow = sym fr.3 i; start = s.moment }
