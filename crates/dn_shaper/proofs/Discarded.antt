-- All parts agree with the discarding of a flow's packets.
use Rattle.dn_shaper.proofs.Words.{Accepted, AreDistinct, Ascends, Delivery, Event, FlowKey, FlowState, Home, IsAt, IsFlowAt, IsLinkAt, IsScheduleAt, Link, LinkView, List, Rule, Some, Waiting, []}
use Rattle.dn_shaper.proofs.Words.{ap, arith, as_queued, backlog, clear-none, cond, discarded, discarded_count, emptied, eq-no, eq-yes, false, flow_at, free, home, is_active, is_arrival}
use Rattle.dn_shaper.proofs.Words.{is_loss_of, is_refusal_of, is_start_of, last_due, last_finish_tag, length, length-map, length-set, link_eq, link_eq-refl, link_names, map, map-set-same, nat_eq}
use Rattle.dn_shaper.proofs.Words.{refl, set, shared, slice_get, slotted, stamped_of, subst, suc, sym, top, true, waiting, zero, ℕ, ◌+◌, ◌<◌, ◌∙◌, ◌∷◌, ◌≡◌}
use Rattle.dn_shaper.proofs.Events.{uncounted}
use Rattle.dn_wf2q.specs.Schedule.{Flow, flow_at as slot_at, no_packets, after_discard}
use Rattle.dn_shaper.proofs.Homes.{home-after, slots_home-after}
use Rattle.dn_shaper.proofs.Next.{distinct_views}
use Rattle.dn_shaper.proofs.OnePlace.{each-flow, each-set}
use Rattle.dn_shaper.proofs.OneSlot.{slot-set}
use Rattle.dn_shaper.proofs.Waiting.{waiting-discarded}

module _ (rule : Rule) (accepted : ℕ) (keys : List FlowKey) (homes : List Home) (views : List LinkView) (flows : List FlowState) (pending : List Delivery)
    (more : List Link) (trace : List Event) (a : IsAt rule accepted keys homes views flows pending more trace) where
  module _ (k : ℕ) (v : LinkView) (there : slice_get views k ≡ Some v) (flow : ℕ) (within : flow < length keys) (here : home keys flow ≡ v.link)
      (v' : LinkView) (same_link : v'.link ≡ v.link) (same_value : v'.value ≡ v.value) (fewer : v'.waits + length (flow_at flows flow).backlog ≡ v.waits) (same_slots : v'.slots ≡ v.slots)
      (discards : (pipe : ℕ) → v.link ≡ shared pipe →
      (slot : ℕ) × (slice_get v.slots slot ≡ Some flow) × (v'.schedule.flows ≡ after_discard v.schedule.flows slot) × (v'.schedule.virtual_time ≡ v.schedule.virtual_time)) where
    elsewhere_for : (w : Link) → link_eq v.link w ≡ false → backlog w flow trace ≡ []
    elsewhere_for w apart = a.elsewhere flow w (ap (λ (l : Link). link_eq l w) here ∙ apart)

    -- A slot beyond the list stays without a packet.
    discard-here : (fs : List Flow) (i : ℕ) → slot_at (after_discard fs i) i ≡ no_packets
    discard-here [] i = refl
    discard-here (f ∷ fs) zero = refl
    discard-here (f ∷ fs) (suc i) = discard-here fs i

    schedule_after : (pipe : ℕ) → v.link ≡ shared pipe → IsScheduleAt v.link (discarded flow ∷ trace) v'.schedule v.slots
    schedule_after pipe is =
        let c = (a.views_are k v there).schedule_is pipe is in
        let r = discards pipe is in
        let now_at = ap (λ (fs : List Flow). slot_at fs r.0) r.2 ∙ discard-here v.schedule.flows r.0 in
        slot-set c (a.views_are k v there).ascends r.1 (discarded flow ∷ trace) v'.schedule no_packets r.2 (r.3 ∙ c.virtual_time_is)
        (record {
          backlog_is = ap (λ (f : Flow). f.backlog) now_at ∙ sym (ap (λ b. map (slotted r.0) (stamped_of (cond b [] (backlog v.link flow trace)))) (eq-yes flow flow refl));
          last_finish_is = ap (λ (f : Flow). f.last_finish_tag) now_at ∙ sym (ap (λ b. cond b 0 (last_finish_tag v.link flow trace)) (eq-yes flow flow refl));
        })
        (λ slot g ne s. record {
          backlog_is = s.backlog_is ∙ sym (ap (λ b. map (slotted slot) (stamped_of (cond b [] (backlog v.link g trace)))) (eq-no flow g ne));
          last_finish_is = s.last_finish_is ∙ sym (ap (λ b. cond b 0 (last_finish_tag v.link g trace)) (eq-no flow g ne));
        })

    count_is : length (flow_at flows flow).backlog ≡ length (backlog v.link flow trace)
    count_is = ap (λ (q : List Waiting). length q) (a.flows_are flow).backlog_is ∙ length-map (backlog (home keys flow) flow trace) as_queued ∙ ap (λ (l : Link). length (backlog l flow trace)) here

    made_view : IsLinkAt rule (length keys) (discarded flow ∷ trace) v'
    made_view = let b = a.views_are k v there in record {
      free_is = ap (λ x. x.free) same_value ∙ b.free_is ∙ ap (λ (l : Link). free l trace) (sym same_link);
      last_due_is = ap (λ x. x.last_due) same_value ∙ b.last_due_is ∙ ap (λ (l : Link). last_due rule l trace) (sym same_link);
      waits_are =
          let w = waiting-discarded v.link flow trace in
          let c = count_is in
          let e = b.waits_are in
          let f = ap {B = ℕ} (λ (l : Link). waiting l (discarded flow ∷ trace)) same_link in
          omega arith;
      schedule_is = λ pipe e.
          subst (λ (x : Link × List ℕ). IsScheduleAt x.0 (discarded flow ∷ trace) v'.schedule x.1) (λ i. (sym same_link i, sym same_slots i)) (schedule_after pipe (sym same_link ∙ e));
      ascends = subst (λ (fs : List ℕ). Ascends 0 fs) (sym same_slots) b.ascends;
      below = let t = ap {B = ℕ} (top 0) same_slots in let le = b.below in omega arith;
    }

    -- On another link the flow has no packets and no finish tag of this busy period.
    other_view : (j : ℕ) (w : LinkView) → slice_get views j ≡ Some w → (j ≡ k → ⊥) → IsLinkAt rule (length keys) (discarded flow ∷ trace) w
    other_view j w e ne =
        let apart = distinct_views rule accepted keys homes views flows pending more trace a k v there j w e ne in
        let b = a.views_are j w e in
        let none = elsewhere_for w.link apart in
        record {
          free_is = b.free_is;
          last_due_is = b.last_due_is;
          waits_are = let x = waiting-discarded w.link flow trace in let z = ap (λ (q : List Accepted). length q) none in let y = b.waits_are in omega arith;
          schedule_is = λ pipe is. let c = b.schedule_is pipe is in record {
            virtual_time_is = c.virtual_time_is;
            slots_are = λ slot g eg. let s = c.slots_are slot g eg in
                let other = not_flow j w e ne pipe is slot g eg apart in record {
                  backlog_is = s.backlog_is ∙ sym (ap (λ t. map (slotted slot) (stamped_of (cond t [] (backlog w.link g trace)))) other);
                  last_finish_is = s.last_finish_is ∙ sym (ap (λ t. cond t 0 (last_finish_tag w.link g trace)) other);
                };
            beyond = c.beyond;
          };
          ascends = b.ascends;
          below = b.below;
        }
      where
        not_flow : (j : ℕ) (w : LinkView) → slice_get views j ≡ Some w → (j ≡ k → ⊥) → (pipe : ℕ) → w.link ≡ shared pipe → (slot g : ℕ) →
            slice_get w.slots slot ≡ Some g → link_eq v.link w.link ≡ false → nat_eq flow g ≡ false
        not_flow j w e ne pipe is slot g eg apart = eq-no flow g (λ same.
            let homed = a.slots_home j w e slot g eg in
            let t : true ≡ false = sym (link_eq-refl w.link) ∙ ap (λ (l : Link). link_eq l w.link) (sym homed ∙ ap (home keys) (sym same) ∙ here) ∙ apart in
            cc)

    names_same : link_names (set views k v') ≡ link_names views
    names_same = map-set-same (λ (x : LinkView). x.link) views k v v' there same_link

    flow_after : (g : ℕ) → IsFlowAt (home keys g) g (discarded flow ∷ trace) (flow_at (set flows flow (emptied (flow_at flows flow))) g)
    flow_after = each-flow (λ g x. IsFlowAt (home keys g) g (discarded flow ∷ trace) x) flows flow (emptied (flow_at flows flow)) (let m = a.as_many in omega arith)
        (let b = a.flows_are flow in
        let count = ap (λ (q : List Waiting). length q) b.backlog_is ∙ length-map (backlog (home keys flow) flow trace) as_queued in
        let d = b.discarded_is in
        let after = ap {B = ℕ} (λ t. cond t (length (backlog (home keys flow) flow trace)) 0 + discarded_count (home keys flow) flow trace) (eq-yes flow flow refl) in
        record {
          backlog_is = sym (ap (λ t. map as_queued (cond t [] (backlog (home keys flow) flow trace))) (eq-yes flow flow refl));
          lost_is = b.lost_is ∙ sym (uncounted (is_loss_of flow) (discarded flow) trace refl);
          full_is = b.full_is ∙ sym (uncounted (is_refusal_of flow) (discarded flow) trace refl);
          started_is = b.started_is ∙ sym (uncounted (is_start_of flow) (discarded flow) trace refl);
          discarded_is = omega arith;
          active_is = sym (ap (λ t. cond t false (is_active flow trace)) (eq-yes flow flow refl));
        })
        (λ g ne. let b = a.flows_are g in
        let d = b.discarded_is in
        let after = ap {B = ℕ} (λ t. cond t (length (backlog (home keys g) g trace)) 0 + discarded_count (home keys g) g trace) (eq-no flow g ne) in
        record {
          backlog_is = b.backlog_is ∙ sym (ap (λ t. map as_queued (cond t [] (backlog (home keys g) g trace))) (eq-no flow g ne));
          lost_is = b.lost_is ∙ sym (uncounted (is_loss_of g) (discarded flow) trace refl);
          full_is = b.full_is ∙ sym (uncounted (is_refusal_of g) (discarded flow) trace refl);
          started_is = b.started_is ∙ sym (uncounted (is_start_of g) (discarded flow) trace refl);
          discarded_is = omega arith;
          active_is = b.active_is ∙ sym (ap (λ t. cond t false (is_active g trace)) (eq-no flow g ne));
        })

    pub discarded-agrees : IsAt rule accepted keys homes (set views k v') (set flows flow (emptied (flow_at flows flow))) pending more (discarded flow ∷ trace)
    discarded-agrees = record {
      links_are = names_same ∙ a.links_are;
      distinct = subst AreDistinct (sym names_same) a.distinct;
      views_are = each-set (λ j w. IsLinkAt rule (length keys) (discarded flow ∷ trace) w) views k v there v' made_view other_view;
      untouched = λ l e. let u = a.untouched l e in record { free_is = u.free_is; last_due_is = u.last_due_is; virtual_time_is = u.virtual_time_is };
      flows_are = flow_after;
      as_many = length-set flows flow (emptied (flow_at flows flow)) ∙ a.as_many;
      elsewhere = λ g l e. clear-none (nat_eq flow g) (backlog l g trace) (a.elsewhere g l e);
      bound = a.bound;
      homes_are = λ g lt. let h = a.homes_are g lt in (h.0, h.1, home-after keys views k v there v' same_link same_slots g h.0 h.2);
      as_many_homes = a.as_many_homes;
      slots_home = slots_home-after keys views k v there v' same_link same_slots a.slots_home;
      pending_is = a.pending_is;
      accepted_is = a.accepted_is ∙ sym (uncounted is_arrival (discarded flow) trace refl);
    }
