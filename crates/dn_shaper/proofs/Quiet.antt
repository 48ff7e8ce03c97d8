-- All parts agree with the loss or the refusal of a packet, and with what a Collect gives.
use Rattle.dn_shaper.proofs.Words.{Accepted, Delivery, Event, FlowKey, FlowState, Home, IsAt, IsFlowAt, Link, LinkView, List, Rule, [], accepted_count, ap, append-nil, arith, backlog, collected}
use Rattle.dn_shaper.proofs.Words.{eq-no, eq-yes, false, filter, flow_at, flow_bound, free, home, is_arrival, is_loss_of, is_refusal_of, is_start_of, last_due, last_finish_tag, length, length-set}
use Rattle.dn_shaper.proofs.Words.{link_eq, link_names, links, list_any, lost, map, nat_lt, one_full, one_lost, refl, refused, set, slotted, stamped_of, sym, undelivered, virtual_time, waiting}
use Rattle.dn_shaper.proofs.Words.{with_link, ℕ, ◌++◌, ◌+◌, ◌<◌, ◌∙◌, ◌∷◌, ◌≡◌}
use Rattle.dn_shaper.proofs.Events.{uncounted, counted-once}
use Rattle.dn_shaper.proofs.OnePlace.{each-flow}
use Rattle.dn_shaper.proofs.Unseen.{not_with}

-- No packet joins, starts or leaves by the event, and no link sends longer.
record IsQuiet (e : Event) (trace : List Event) : Type 0 where
  pub free_is : (l : Link) → free l (e ∷ trace) ≡ free l trace
  pub last_due_is : (rule : Rule) (l : Link) → last_due rule l (e ∷ trace) ≡ last_due rule l trace
  pub waits_are : (l : Link) → waiting l (e ∷ trace) ≡ waiting l trace
  pub virtual_time_is : (l : Link) → virtual_time l (e ∷ trace) ≡ virtual_time l trace
  pub backlog_is : (l : Link) (flow : ℕ) → backlog l flow (e ∷ trace) ≡ backlog l flow trace
  pub last_finish_is : (l : Link) (flow : ℕ) → last_finish_tag l flow (e ∷ trace) ≡ last_finish_tag l flow trace
  pub bound : flow_bound (e ∷ trace) ≡ flow_bound trace

module _ (rule : Rule) (accepted : ℕ) (keys : List FlowKey) (homes : List Home) (views : List LinkView) (flows : List FlowState) (pending : List Delivery)
    (more : List Link) (trace : List Event) (a : IsAt rule accepted keys homes views flows pending more trace) where
  -- The parts agree with a quiet event if the flows, what is pending and the count of arrivals do.
  quiet-agrees : {e : Event} → IsQuiet e trace → {flows' : List FlowState} {pending' : List Delivery} {more' : List Link} → link_names views ≡ links (e ∷ trace) ++ more'
      → ((l : Link) → list_any (link_eq l) (links (e ∷ trace)) ≡ false → list_any (link_eq l) (links trace) ≡ false)
      → ((g : ℕ) → IsFlowAt (home keys g) g (e ∷ trace) (flow_at flows' g)) → length flows' ≡ length keys → pending' ≡ undelivered rule (e ∷ trace) → accepted_count (e ∷ trace) ≡ accepted_count trace
      → IsAt rule accepted keys homes views flows' pending' more' (e ∷ trace)
  quiet-agrees q names unseen flows-are many pending-is arrivals = record {
    links_are = names;
    distinct = a.distinct;
    views_are = λ k w e. let b = a.views_are k w e in record {
      free_is = b.free_is ∙ sym (q.free_is w.link);
      last_due_is = b.last_due_is ∙ sym (q.last_due_is rule w.link);
      waits_are = b.waits_are ∙ sym (q.waits_are w.link);
      schedule_is = λ pipe is. let c = b.schedule_is pipe is in record {
        virtual_time_is = c.virtual_time_is ∙ sym (q.virtual_time_is w.link);
        slots_are = λ slot g eg. let s = c.slots_are slot g eg in record {
          backlog_is = s.backlog_is ∙ ap (λ (ps : List Accepted). map (slotted slot) (stamped_of ps)) (sym (q.backlog_is w.link g));
          last_finish_is = s.last_finish_is ∙ sym (q.last_finish_is w.link g);
        };
        beyond = c.beyond;
      };
      ascends = b.ascends;
      below = b.below;
    };
    untouched = λ l e. let u = a.untouched l (unseen l e) in record {
      free_is = q.free_is l ∙ u.free_is;
      last_due_is = q.last_due_is rule l ∙ u.last_due_is;
      virtual_time_is = q.virtual_time_is l ∙ u.virtual_time_is;
    };
    flows_are = flows-are;
    as_many = many;
    elsewhere = λ g l e. q.backlog_is l g ∙ a.elsewhere g l e;
    bound = let b = a.bound in let s = q.bound in omega arith;
    homes_are = a.homes_are;
    as_many_homes = a.as_many_homes;
    slots_home = a.slots_home;
    pending_is = pending-is;
    accepted_is = a.accepted_is ∙ sym arrivals;
  }

  module _ (flow : ℕ) (within : flow < length keys) (made : link_names views ≡ with_link (home keys flow) (links trace)) where
    inside : flow < length flows
    inside = let m = a.as_many in omega arith

    -- A packet of the flow is lost.
    pub lost-agrees : IsAt rule accepted keys homes views (set flows flow (one_lost (flow_at flows flow))) pending [] (lost (home keys flow) flow ∷ trace)
    lost-agrees =
        let e = lost (home keys flow) flow in
        quiet-agrees {e = e}
        (record { free_is = λ l. refl; last_due_is = λ r l. refl; waits_are = λ l. refl; virtual_time_is = λ l. refl; backlog_is = λ l f. refl; last_finish_is = λ l f. refl; bound = refl })
        (made ∙ sym (append-nil (with_link (home keys flow) (links trace)))) (λ l e. (not_with l (home keys flow) (links trace) e).0)
        (each-flow (λ g s. IsFlowAt (home keys g) g (lost (home keys flow) flow ∷ trace) s) flows flow (one_lost (flow_at flows flow)) inside
        (let b = a.flows_are flow in record {
          backlog_is = b.backlog_is;
          lost_is = ap (λ n. n + 1) b.lost_is ∙ sym (counted-once (is_loss_of flow) e trace (eq-yes flow flow refl));
          full_is = b.full_is ∙ sym (uncounted (is_refusal_of flow) e trace refl);
          started_is = b.started_is ∙ sym (uncounted (is_start_of flow) e trace refl);
          discarded_is = b.discarded_is;
          active_is = b.active_is;
        })
        (λ g ne. let b = a.flows_are g in record {
          backlog_is = b.backlog_is;
          lost_is = b.lost_is ∙ sym (uncounted (is_loss_of g) e trace (eq-no flow g ne));
          full_is = b.full_is ∙ sym (uncounted (is_refusal_of g) e trace refl);
          started_is = b.started_is ∙ sym (uncounted (is_start_of g) e trace refl);
          discarded_is = b.discarded_is;
          active_is = b.active_is;
        }))
        (length-set flows flow (one_lost (flow_at flows flow)) ∙ a.as_many) a.pending_is (uncounted is_arrival e trace refl)

    -- A packet of the flow is refused.
    pub refused-agrees : IsAt rule accepted keys homes views (set flows flow (one_full (flow_at flows flow))) pending [] (refused (home keys flow) flow ∷ trace)
    refused-agrees =
        let e = refused (home keys flow) flow in
        quiet-agrees {e = e}
        (record { free_is = λ l. refl; last_due_is = λ r l. refl; waits_are = λ l. refl; virtual_time_is = λ l. refl; backlog_is = λ l f. refl; last_finish_is = λ l f. refl; bound = refl })
        (made ∙ sym (append-nil (with_link (home keys flow) (links trace)))) (λ l e. (not_with l (home keys flow) (links trace) e).0)
        (each-flow (λ g s. IsFlowAt (home keys g) g (refused (home keys flow) flow ∷ trace) s) flows flow (one_full (flow_at flows flow)) inside
        (let b = a.flows_are flow in record {
          backlog_is = b.backlog_is;
          lost_is = b.lost_is ∙ sym (uncounted (is_loss_of flow) e trace refl);
          full_is = ap (λ n. n + 1) b.full_is ∙ sym (counted-once (is_refusal_of flow) e trace (eq-yes flow flow refl));
          started_is = b.started_is ∙ sym (uncounted (is_start_of flow) e trace refl);
          discarded_is = b.discarded_is;
          active_is = b.active_is;
        })
        (λ g ne. let b = a.flows_are g in record {
          backlog_is = b.backlog_is;
          lost_is = b.lost_is ∙ sym (uncounted (is_loss_of g) e trace refl);
          full_is = b.full_is ∙ sym (uncounted (is_refusal_of g) e trace (eq-no flow g ne));
          started_is = b.started_is ∙ sym (uncounted (is_start_of g) e trace refl);
          discarded_is = b.discarded_is;
          active_is = b.active_is;
        }))
        (length-set flows flow (one_full (flow_at flows flow)) ∙ a.as_many) a.pending_is (uncounted is_arrival e trace refl)

  -- What is due is given.
  pub collected-agrees : (at : ℕ) (rest : List Delivery) → rest ≡ filter (λ d. nat_lt at d.due) pending → IsAt rule accepted keys homes views flows rest more (collected at ∷ trace)
  collected-agrees at rest is =
      quiet-agrees {e = collected at}
      (record { free_is = λ l. refl; last_due_is = λ r l. refl; waits_are = λ l. refl; virtual_time_is = λ l. refl; backlog_is = λ l f. refl; last_finish_is = λ l f. refl; bound = refl })
      a.links_are (λ l e. e)
      (λ g. let b = a.flows_are g in record {
        backlog_is = b.backlog_is;
        lost_is = b.lost_is ∙ sym (uncounted (is_loss_of g) (collected at) trace refl);
        full_is = b.full_is ∙ sym (uncounted (is_refusal_of g) (collected at) trace refl);
        started_is = b.started_is ∙ sym (uncounted (is_start_of g) (collected at) trace refl);
        discarded_is = b.discarded_is;
        active_is = b.active_is;
      })
      a.as_many (is ∙ ap (λ (ds : List Delivery). filter (λ d. nat_lt at d.due) ds) a.pending_is) (uncounted is_arrival (collected at) trace refl)
