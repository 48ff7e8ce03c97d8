-- All parts agree with the beginning of a busy period of a link.
use Rattle.dn_shaper.proofs.Words.{AreDistinct, Ascends, Bool, Delivery, Event, FlowKey, FlowState, Home, IsAt, IsLinkAt, IsScheduleAt, Link, LinkView, List, Rule, Some, ap, arith, cond, false}
use Rattle.dn_shaper.proofs.Words.{forgotten_at, free, is_arrival, is_loss_of, is_refusal_of, is_start_of, last_due, last_finish_tag, length, link_eq, link_eq-refl, link_names, map-set-same}
use Rattle.dn_shaper.proofs.Words.{opened, refl, set, shared, slice_get, subst, sym, top, true, virtual_time, waiting, ℕ, ◌∙◌, ◌∷◌, ◌≡◌}
use Rattle.dn_shaper.proofs.Events.{uncounted}
use Rattle.dn_wf2q.specs.Schedule.{Flow, flow_at as slot_at, forgotten, without_tag}
use Rattle.dn_shaper.proofs.Homes.{home-after, slots_home-after}
use Rattle.dn_shaper.proofs.Next.{distinct_views}
use Rattle.dn_shaper.proofs.OnePlace.{each-set}

module _ (rule : Rule) (accepted : ℕ) (keys : List FlowKey) (homes : List Home) (views : List LinkView) (flows : List FlowState) (pending : List Delivery)
    (more : List Link) (trace : List Event) (a : IsAt rule accepted keys homes views flows pending more trace) where
  module _ (k : ℕ) (v : LinkView) (there : slice_get views k ≡ Some v) (v' : LinkView) (same_link : v'.link ≡ v.link) (same_value : v'.value ≡ v.value)
      (same_waits : v'.waits ≡ v.waits) (same_slots : v'.slots ≡ v.slots)
      (begun : (pipe : ℕ) → v.link ≡ shared pipe → (v'.schedule.flows ≡ forgotten v.schedule.flows) × (v'.schedule.virtual_time ≡ 0)) where
    schedule_after : (pipe : ℕ) → v.link ≡ shared pipe → IsScheduleAt v.link (opened v.link ∷ trace) v'.schedule v.slots
    schedule_after pipe is =
        let c = (a.views_are k v there).schedule_is pipe is in
        let b = begun pipe is in
        record {
          virtual_time_is = b.1 ∙ sym (ap (λ t. cond t 0 (virtual_time v.link trace)) (link_eq-refl v.link));
          slots_are = λ slot g e. let s = c.slots_are slot g e in let now_at = ap (λ (fs : List Flow). slot_at fs slot) b.0 ∙ forgotten_at v.schedule.flows slot in record {
            backlog_is = ap (λ (f : Flow). f.backlog) now_at ∙ s.backlog_is;
            last_finish_is = ap (λ (f : Flow). f.last_finish_tag) now_at ∙ sym (ap (λ t. cond t 0 (last_finish_tag v.link g trace)) (link_eq-refl v.link));
          };
          beyond = λ slot le. ap (λ (fs : List Flow). slot_at fs slot) b.0 ∙ forgotten_at v.schedule.flows slot ∙ ap without_tag (c.beyond slot le);
        }

    made : IsLinkAt rule (length keys) (opened v.link ∷ trace) v'
    made = let b = a.views_are k v there in record {
      free_is = ap (λ x. x.free) same_value ∙ b.free_is ∙ ap (λ (l : Link). free l trace) (sym same_link);
      last_due_is = ap (λ x. x.last_due) same_value ∙ b.last_due_is ∙ ap (λ (l : Link). last_due rule l trace) (sym same_link);
      waits_are = same_waits ∙ b.waits_are ∙ ap (λ (l : Link). waiting l trace) (sym same_link);
      schedule_is = λ pipe e.
          subst (λ (x : Link × List ℕ). IsScheduleAt x.0 (opened v.link ∷ trace) v'.schedule x.1) (λ i. (sym same_link i, sym same_slots i)) (schedule_after pipe (sym same_link ∙ e));
      ascends = subst (λ (fs : List ℕ). Ascends 0 fs) (sym same_slots) b.ascends;
      below = let t = ap {B = ℕ} (top 0) same_slots in let le = b.below in omega arith;
    }

    other_view : (j : ℕ) (w : LinkView) → slice_get views j ≡ Some w → (j ≡ k → ⊥) → IsLinkAt rule (length keys) (opened v.link ∷ trace) w
    other_view j w e ne =
        let apart = distinct_views rule accepted keys homes views flows pending more trace a k v there j w e ne in
        let b = a.views_are j w e in
        record {
          free_is = b.free_is;
          last_due_is = b.last_due_is;
          waits_are = b.waits_are;
          schedule_is = λ pipe is. let c = b.schedule_is pipe is in record {
            virtual_time_is = c.virtual_time_is ∙ sym (ap (λ t. cond t 0 (virtual_time w.link trace)) apart);
            slots_are = λ slot g eg. let s = c.slots_are slot g eg in record {
              backlog_is = s.backlog_is;
              last_finish_is = s.last_finish_is ∙ sym (ap (λ t. cond t 0 (last_finish_tag w.link g trace)) apart);
            };
            beyond = c.beyond;
          };
          ascends = b.ascends;
          below = b.below;
        }

    names_same : link_names (set views k v') ≡ link_names views
    names_same = map-set-same (λ (x : LinkView). x.link) views k v v' there same_link

    pub opened-agrees : IsAt rule accepted keys homes (set views k v') flows pending more (opened v.link ∷ trace)
    opened-agrees = record {
      links_are = names_same ∙ a.links_are;
      distinct = subst AreDistinct (sym names_same) a.distinct;
      views_are = each-set (λ j w. IsLinkAt rule (length keys) (opened v.link ∷ trace) w) views k v there v' made other_view;
      untouched = λ l e. let u = a.untouched l e in record { free_is = u.free_is; last_due_is = u.last_due_is; virtual_time_is = zero_if (link_eq v.link l) u.virtual_time_is };
      flows_are = λ g. let b = a.flows_are g in record {
        backlog_is = b.backlog_is;
        lost_is = b.lost_is ∙ sym (uncounted (is_loss_of g) (opened v.link) trace refl);
        full_is = b.full_is ∙ sym (uncounted (is_refusal_of g) (opened v.link) trace refl);
        started_is = b.started_is ∙ sym (uncounted (is_start_of g) (opened v.link) trace refl);
        discarded_is = b.discarded_is;
        active_is = b.active_is;
      };
      as_many = a.as_many;
      elsewhere = a.elsewhere;
      bound = a.bound;
      homes_are = λ g lt. let h = a.homes_are g lt in (h.0, h.1, home-after keys views k v there v' same_link same_slots g h.0 h.2);
      as_many_homes = a.as_many_homes;
      slots_home = slots_home-after keys views k v there v' same_link same_slots a.slots_home;
      pending_is = a.pending_is;
      accepted_is = a.accepted_is ∙ sym (uncounted is_arrival (opened v.link) trace refl);
    }
      where
        zero_if : {n : ℕ} (b : Bool) → n ≡ 0 → cond b 0 n ≡ 0
        zero_if true e = refl
        zero_if false e = e
