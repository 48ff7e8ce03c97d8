-- All parts agree with the arrival of a packet at its flow's queue.
use Rattle.dn_shaper.proofs.Words.{Accepted, AreDistinct, Ascends, Delivery, Event, FlowKey, FlowState, Home, IsAt, IsFlowAt, IsLinkAt, IsScheduleAt, Link, LinkView, List, Rule, Some, Stamped}
use Rattle.dn_shaper.proofs.Words.{Waiting, [], and-no, and_from, ap, append-nil, arith, arrived, as_queued, backlog, cases_eq, cond, eq-no, eq-yes, false, flow_at, free, get_or-set_same, home}
use Rattle.dn_shaper.proofs.Words.{inl, inr, is_active, is_arrival, is_loss_of, is_of, is_refusal_of, is_start_of, last_due, last_finish_tag, length, length-set, link_eq, link_eq-refl, link_names}
use Rattle.dn_shaper.proofs.Words.{links, map, map-append, map-set-same, nat_eq, pushed, refl, set, shared, slice_get, slotted, stamped_of, subst, sym, top, true, waiting, with_link, ℕ, ◌&&◌}
use Rattle.dn_shaper.proofs.Words.{◌++◌, ◌+◌, ◌<◌, ◌||◌, ◌∙◌, ◌∷◌, ◌≡◌, ◌⊎◌}
use Rattle.dn_shaper.proofs.Events.{uncounted, counted-once}
use Rattle.dn_shaper.proofs.Unseen.{not_with}
use Rattle.dn_wf2q.specs.Schedule.{Flow, flow_at as slot_at, no_packets, joined_by}
use Rattle.dn_shaper.proofs.Homes.{home-after, slots_home-after}
use Rattle.dn_shaper.proofs.Next.{distinct_views}
use Rattle.dn_shaper.proofs.OnePlace.{each-flow, each-set}
use Rattle.dn_shaper.proofs.OneSlot.{slot-set}
use Rattle.dn_shaper.proofs.Waiting.{waiting-arrived, waiting-other}

module _ (rule : Rule) (accepted : ℕ) (keys : List FlowKey) (homes : List Home) (views : List LinkView) (flows : List FlowState) (pending : List Delivery)
    (more : List Link) (trace : List Event) (a : IsAt rule accepted keys homes views flows pending more trace) where
  module _ (k : ℕ) (v : LinkView) (there : slice_get views k ≡ Some v) (flow : ℕ) (within : flow < length keys) (here : home keys flow ≡ v.link)
      (made : link_names views ≡ with_link v.link (links trace))
      (p : Accepted) (on : p.link ≡ v.link) (flow_is : p.stamped.flow ≡ flow) (number_is : p.packet ≡ accepted)
      (v' : LinkView) (same_link : v'.link ≡ v.link) (same_value : v'.value ≡ v.value) (one_more : v'.waits ≡ v.waits + 1) (same_slots : v'.slots ≡ v.slots)
      (arrival : (pipe : ℕ) → v.link ≡ shared pipe →
      (slot : ℕ) × (slice_get v.slots slot ≡ Some flow) × (slot < length v.schedule.flows) ×
      (v'.schedule.flows ≡ set v.schedule.flows slot (joined_by (slot_at v.schedule.flows slot) (slotted slot p.stamped))) ×
      (v'.schedule.virtual_time ≡ v.schedule.virtual_time)) where
    is_here : is_of v.link flow p ≡ true
    is_here = (λ i. link_eq (on i) v.link && nat_eq (flow_is i) flow) ∙ and_from (link_eq v.link v.link) (nat_eq flow flow) (link_eq-refl v.link) (eq-yes flow flow refl)

    not_flow : (l : Link) (g : ℕ) → (flow ≡ g → ⊥) → is_of l g p ≡ false
    not_flow l g ne = and-no (link_eq p.link l) (nat_eq p.stamped.flow g) (ap (λ x. nat_eq x g) flow_is ∙ eq-no flow g ne)

    same_test : (g : ℕ) → is_of (home keys g) g p ≡ nat_eq flow g
    same_test g = by (cases_eq flow g)
      where
        by : (flow ≡ g) ⊎ (flow ≡ g → ⊥) → is_of (home keys g) g p ≡ nat_eq flow g
        by (inl e) = (λ i. is_of ((ap (home keys) (sym e) ∙ here) i) (sym e i) p) ∙ is_here ∙ sym (eq-yes flow g e)
        by (inr ne) = not_flow (home keys g) g ne ∙ sym (eq-no flow g ne)

    schedule_after : (pipe : ℕ) → v.link ≡ shared pipe → IsScheduleAt v.link (arrived p ∷ trace) v'.schedule v.slots
    schedule_after pipe is =
        let c = (a.views_are k v there).schedule_is pipe is in
        let r = arrival pipe is in
        let joined = joined_by (slot_at v.schedule.flows r.0) (slotted r.0 p.stamped) in
        let now_at = ap (λ (fs : List Flow). slot_at fs r.0) r.3 ∙ get_or-set_same v.schedule.flows r.0 joined no_packets r.2 in
        slot-set c (a.views_are k v there).ascends r.1 (arrived p ∷ trace) v'.schedule joined r.3 (r.4 ∙ c.virtual_time_is)
        (record {
          backlog_is =
              ap (λ (f : Flow). f.backlog) now_at
              ∙ ap (λ (q : List Stamped). q ++ slotted r.0 p.stamped ∷ []) (c.slots_are r.0 flow r.1).backlog_is
              ∙ sym (map-append (slotted r.0) (stamped_of (backlog v.link flow trace)) (p.stamped ∷ []))
              ∙ ap (λ (q : List Stamped). map (slotted r.0) q) (sym (map-append (λ (x : Accepted). x.stamped) (backlog v.link flow trace) (p ∷ [])))
              ∙ ap (λ b. map (slotted r.0) (stamped_of (cond b (backlog v.link flow trace ++ p ∷ []) (backlog v.link flow trace)))) (sym is_here);
          last_finish_is = ap (λ (f : Flow). f.last_finish_tag) now_at ∙ sym (ap (λ b. cond b p.stamped.finish_tag (last_finish_tag v.link flow trace)) is_here);
        })
        (λ slot g ne s. let apart = not_flow v.link g ne in record {
          backlog_is = s.backlog_is ∙ ap (λ b. map (slotted slot) (stamped_of (cond b (backlog v.link g trace ++ p ∷ []) (backlog v.link g trace)))) (sym apart);
          last_finish_is = s.last_finish_is ∙ sym (ap (λ b. cond b p.stamped.finish_tag (last_finish_tag v.link g trace)) apart);
        })

    made_view : IsLinkAt rule (length keys) (arrived p ∷ trace) v'
    made_view = let b = a.views_are k v there in record {
      free_is = ap (λ x. x.free) same_value ∙ b.free_is ∙ ap (λ (l : Link). free l trace) (sym same_link);
      last_due_is = ap (λ x. x.last_due) same_value ∙ b.last_due_is ∙ ap (λ (l : Link). last_due rule l trace) (sym same_link);
      waits_are = one_more ∙ ap (λ n. n + 1) b.waits_are ∙ sym (waiting-arrived v.link p trace on) ∙ ap (λ (l : Link). waiting l (arrived p ∷ trace)) (sym same_link);
      schedule_is = λ pipe e.
          subst (λ (x : Link × List ℕ). IsScheduleAt x.0 (arrived p ∷ trace) v'.schedule x.1) (λ i. (sym same_link i, sym same_slots i)) (schedule_after pipe (sym same_link ∙ e));
      ascends = subst (λ (fs : List ℕ). Ascends 0 fs) (sym same_slots) b.ascends;
      below = let t = ap {B = ℕ} (top 0) same_slots in let le = b.below in omega arith;
    }

    other_view : (j : ℕ) (w : LinkView) → slice_get views j ≡ Some w → (j ≡ k → ⊥) → IsLinkAt rule (length keys) (arrived p ∷ trace) w
    other_view j w e ne =
        let apart : link_eq p.link w.link ≡ false = ap (λ (m : Link). link_eq m w.link) on ∙ distinct_views rule accepted keys homes views flows pending more trace a k v there j w e ne in
        let b = a.views_are j w e in
        record {
          free_is = b.free_is;
          last_due_is = b.last_due_is;
          waits_are = b.waits_are ∙ sym (waiting-other w.link p trace apart);
          schedule_is = λ pipe is. let c = b.schedule_is pipe is in record {
            virtual_time_is = c.virtual_time_is;
            slots_are = λ slot g eg. let s = c.slots_are slot g eg in record {
              backlog_is = s.backlog_is ∙ sym (ap (λ t. map (slotted slot) (stamped_of (cond (t && nat_eq p.stamped.flow g) (backlog w.link g trace ++ p ∷ []) (backlog w.link g trace)))) apart);
              last_finish_is = s.last_finish_is ∙ sym (ap (λ t. cond (t && nat_eq p.stamped.flow g) p.stamped.finish_tag (last_finish_tag w.link g trace)) apart);
            };
            beyond = c.beyond;
          };
          ascends = b.ascends;
          below = b.below;
        }

    names_same : link_names (set views k v') ≡ link_names views
    names_same = map-set-same (λ (x : LinkView). x.link) views k v v' there same_link

    flow_after : (g : ℕ) → IsFlowAt (home keys g) g (arrived p ∷ trace) (flow_at (set flows flow (pushed (as_queued p) (flow_at flows flow))) g)
    flow_after = each-flow (λ g x. IsFlowAt (home keys g) g (arrived p ∷ trace) x) flows flow (pushed (as_queued p) (flow_at flows flow)) (let m = a.as_many in omega arith)
        (let b = a.flows_are flow in record {
          backlog_is =
              ap (λ (q : List Waiting). q ++ as_queued p ∷ []) b.backlog_is
              ∙ sym (map-append as_queued (backlog (home keys flow) flow trace) (p ∷ []))
              ∙ ap (λ t. map as_queued (cond t (backlog (home keys flow) flow trace ++ p ∷ []) (backlog (home keys flow) flow trace))) (sym (same_test flow ∙ eq-yes flow flow refl));
          lost_is = b.lost_is ∙ sym (uncounted (is_loss_of flow) (arrived p) trace refl);
          full_is = b.full_is ∙ sym (uncounted (is_refusal_of flow) (arrived p) trace refl);
          started_is = b.started_is ∙ sym (uncounted (is_start_of flow) (arrived p) trace refl);
          discarded_is = b.discarded_is;
          active_is = sym (ap (λ t. t || is_active flow trace) (ap (λ n. nat_eq n flow) flow_is ∙ eq-yes flow flow refl));
        })
        (λ g ne. let b = a.flows_are g in record {
          backlog_is = b.backlog_is ∙ ap (λ t. map as_queued (cond t (backlog (home keys g) g trace ++ p ∷ []) (backlog (home keys g) g trace))) (sym (same_test g ∙ eq-no flow g ne));
          lost_is = b.lost_is ∙ sym (uncounted (is_loss_of g) (arrived p) trace refl);
          full_is = b.full_is ∙ sym (uncounted (is_refusal_of g) (arrived p) trace refl);
          started_is = b.started_is ∙ sym (uncounted (is_start_of g) (arrived p) trace refl);
          discarded_is = b.discarded_is;
          active_is = b.active_is ∙ sym (ap (λ t. t || is_active g trace) (ap (λ n. nat_eq n g) flow_is ∙ eq-no flow g ne));
        })

    elsewhere_after : (g : ℕ) (l : Link) → link_eq (home keys g) l ≡ false → backlog l g (arrived p ∷ trace) ≡ []
    elsewhere_after g l e = ap (λ t. cond t (backlog l g trace ++ p ∷ []) (backlog l g trace)) (apart (cases_eq flow g)) ∙ a.elsewhere g l e
      where
        apart : (flow ≡ g) ⊎ (flow ≡ g → ⊥) → is_of l g p ≡ false
        apart (inl same) = ap (λ b. b && nat_eq p.stamped.flow g) (ap (λ (m : Link). link_eq m l) (on ∙ sym here ∙ ap (home keys) same) ∙ e)
        apart (inr ne) = not_flow l g ne

    pub arrived-agrees : IsAt rule (accepted + 1) keys homes (set views k v') (set flows flow (pushed (as_queued p) (flow_at flows flow))) pending [] (arrived p ∷ trace)
    arrived-agrees = record {
      links_are = names_same ∙ made ∙ ap (λ (l : Link). with_link l (links trace)) (sym on) ∙ sym (append-nil (with_link p.link (links trace)));
      distinct = subst AreDistinct (sym names_same) a.distinct;
      views_are = each-set (λ j w. IsLinkAt rule (length keys) (arrived p ∷ trace) w) views k v there v' made_view other_view;
      untouched = λ l e. let u = a.untouched l (not_with l p.link (links trace) e).0 in record { free_is = u.free_is; last_due_is = u.last_due_is; virtual_time_is = u.virtual_time_is };
      flows_are = flow_after;
      as_many = length-set flows flow (pushed (as_queued p) (flow_at flows flow)) ∙ a.as_many;
      elsewhere = elsewhere_after;
      bound = let b = a.bound in let f = flow_is in omega arith;
      homes_are = λ g lt. let h = a.homes_are g lt in (h.0, h.1, home-after keys views k v there v' same_link same_slots g h.0 h.2);
      as_many_homes = a.as_many_homes;
      slots_home = slots_home-after keys views k v there v' same_link same_slots a.slots_home;
      pending_is = a.pending_is;
      accepted_is = ap (λ n. n + 1) a.accepted_is ∙ sym (counted-once is_arrival (arrived p) trace refl);
    }
