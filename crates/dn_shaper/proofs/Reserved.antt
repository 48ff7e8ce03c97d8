-- All parts agree with the same trace after room was made, and what is kept stays kept.
use Rattle.dn_shaper.proofs.Words.{AgreesWith, AreDistinct, AreInStep, Ascends, Delivery, Event, Flow, Heap, Holds, Home, IsAt, IsHomeOf, IsLinkAt, IsScheduleAt, KeepsAt, KeepsLink, KeepsPlaces}
use Rattle.dn_shaper.proofs.Words.{KeepsReady, Link, LinkView, List, NextStart, None, OnlyMakesRoom, Option, Parts, Rule, Some, Within, [], ap, arith, cond, free, home, homes_of, last_due, length}
use Rattle.dn_shaper.proofs.Words.{length-map, link_names, map, nat_lt, next_start_of, next_starts, refl, slice_get, subst, suc, sum_by-cons, sym, top, views_of, waiting, waits_in_all, ℕ, ◌^◌}
use Rattle.dn_shaper.proofs.Words.{◌∙◌, ◌∷◌, ◌≡◌}
use Rattle.dn_shaper.proofs.OnePlace.{agrees-as}
use Rattle.dn_shaper.proofs.Reserving.{same-within}

-- ---- Lists of links that are the same but for room

-- A function of what room leaves is the same at each place.
same-map : {X : Type 0} (f : LinkView → X) → ((v w : LinkView) → KeepsLink v w → f w ≡ f v) → (vs ws : List LinkView) → ((k : ℕ) → KeepsAt (slice_get vs k) (slice_get ws k)) → map f ws ≡ map f vs
same-map {X = X} f same [] [] h = refl
same-map {X = X} f same [] (w ∷ ws) h = absurd (h 0)
same-map {X = X} f same (v ∷ vs) [] h = absurd (h 0)
same-map {X = X} f same (v ∷ vs) (w ∷ ws) h = λ i. same v w (h 0) i ∷ same-map f same vs ws (λ k. h (suc k)) i

was-there : (o p : Option LinkView) → KeepsAt o p → (w : LinkView) → p ≡ Some w → (v : LinkView) × (o ≡ Some v) × KeepsLink v w
was-there None None h w e = absurd cc
was-there None (Some y) h w e = absurd h
was-there (Some v) None h w e = absurd h
was-there (Some v) (Some y) h w e = let same : y ≡ w = cc in (v, refl, subst (λ (x : LinkView). KeepsLink v x) same h)

is-there : (o p : Option LinkView) → KeepsAt o p → (v : LinkView) → o ≡ Some v → (w : LinkView) × (p ≡ Some w) × KeepsLink v w
is-there None None h v e = absurd cc
is-there None (Some y) h v e = absurd h
is-there (Some y) None h v e = absurd h
is-there (Some y) (Some w) h v e = let same : y ≡ v = cc in (w, refl, subst (λ (x : LinkView). KeepsLink x w) same h)

module _ (old new : Parts) (r : OnlyMakesRoom old new) where
  pub reserved-names : link_names (views_of new) ≡ link_names (views_of old)
  reserved-names = same-map (λ v. v.link) (λ v w k. k.link) (views_of old) (views_of new) r.views

  reserved-waits : waits_in_all (views_of new) ≡ waits_in_all (views_of old)
  reserved-waits = sums (views_of old) (views_of new) r.views
    where
      sums : (vs ws : List LinkView) → ((k : ℕ) → KeepsAt (slice_get vs k) (slice_get ws k)) → waits_in_all ws ≡ waits_in_all vs
      sums [] [] h = refl
      sums [] (w ∷ ws) h = absurd (h 0)
      sums (v ∷ vs) [] h = absurd (h 0)
      sums (v ∷ vs) (w ∷ ws) h =
          let rest = sums vs ws (λ k. h (suc k)) in
          let here = (h 0).waits in
          let a = sum_by-cons (λ (x : LinkView). x.waits) v vs in
          let b = sum_by-cons (λ (x : LinkView). x.waits) w ws in
          omega arith

  pub reserved-nexts : next_starts (views_of new) ≡ next_starts (views_of old)
  reserved-nexts = same-map next_start_of (λ v w k. (λ i. cond (nat_lt 0 (k.waits i)) (Some (k.value i).free) None)) (views_of old) (views_of new) r.views

  reserved-link : (rule : Rule) (flows : ℕ) (trace : List Event) (v w : LinkView) → KeepsLink v w → IsLinkAt rule flows trace v → IsLinkAt rule flows trace w
  reserved-link rule flows trace v w k b = record {
    free_is = ap (λ x. x.free) k.value ∙ b.free_is ∙ ap (λ (l : Link). free l trace) (sym k.link);
    last_due_is = ap (λ x. x.last_due) k.value ∙ b.last_due_is ∙ ap (λ (l : Link). last_due rule l trace) (sym k.link);
    waits_are = k.waits ∙ b.waits_are ∙ ap (λ (l : Link). waiting l trace) (sym k.link);
    schedule_is = λ pipe is.
        let c = b.schedule_is pipe (sym k.link ∙ is) in
        let made : IsScheduleAt v.link trace w.schedule v.slots = record {
          virtual_time_is = k.schedule.virtual_time ∙ c.virtual_time_is;
          slots_are = λ slot g e. let s = c.slots_are slot g e in record {
            backlog_is = ap (λ (f : Flow). f.backlog) (k.schedule.flows slot) ∙ s.backlog_is;
            last_finish_is = ap (λ (f : Flow). f.last_finish_tag) (k.schedule.flows slot) ∙ s.last_finish_is;
          };
          beyond = λ slot le. k.schedule.flows slot ∙ c.beyond slot le;
        } in
        subst (λ (x : Link × List ℕ). IsScheduleAt x.0 trace w.schedule x.1) (λ i. (sym k.link i, sym k.slots i)) made;
    ascends = subst (λ (fs : List ℕ). Ascends 0 fs) (sym k.slots) b.ascends;
    below = let t = ap {B = ℕ} (top 0) k.slots in let le = b.below in omega arith;
  }

  pub reserves-agree : (more : List Link) (trace : List Event) → AgreesWith old more trace → AgreesWith new more trace
  reserves-agree more trace a = agrees-as new r.rule r.accepted r.keys r.homes refl refl r.pending base
    where
      home_now : (flow : ℕ) (h : Home) → IsHomeOf flow (home old.flows.keys flow) (views_of old) h → IsHomeOf flow (home old.flows.keys flow) (views_of new) h
      home_now flow h is =
          let w = is-there (slice_get (views_of old) h.place) (slice_get (views_of new) h.place) (r.views h.place) is.view is.there in
          record { view = w.0; there = w.1; link_is = w.2.link ∙ is.link_is; slot_is = λ pipe e. ap (λ (fs : List ℕ). slice_get fs h.slot) w.2.slots ∙ is.slot_is pipe e }

      base : IsAt old.rule old.accepted old.flows.keys (homes_of old.flows.flows) (views_of new) new.flows.flows old.line.pending more trace
      base = record {
        links_are = reserved-names ∙ a.links_are;
        distinct = subst AreDistinct (sym reserved-names) a.distinct;
        views_are = λ k w e. let v = was-there (slice_get (views_of old) k) (slice_get (views_of new) k) (r.views k) w e in
            reserved-link old.rule (length old.flows.keys) trace v.0 w v.2 (a.views_are k v.0 v.1);
        untouched = a.untouched;
        flows_are = λ g. let s = r.flows g in let b = a.flows_are g in record {
          backlog_is = s.backlog ∙ b.backlog_is;
          lost_is = s.lost ∙ b.lost_is;
          full_is = s.full ∙ b.full_is;
          started_is = s.started ∙ b.started_is;
          discarded_is = s.discarded ∙ b.discarded_is;
          active_is = s.active ∙ b.active_is;
        };
        as_many = r.many ∙ a.as_many;
        elsewhere = a.elsewhere;
        bound = a.bound;
        homes_are = λ g lt. let h = a.homes_are g lt in (h.0, h.1, home_now g h.0 h.2);
        as_many_homes = a.as_many_homes;
        slots_home = λ k w e slot g at.
            let v = was-there (slice_get (views_of old) k) (slice_get (views_of new) k) (r.views k) w e in
            a.slots_home k v.0 v.1 slot g (ap (λ (fs : List ℕ). slice_get fs slot) (sym v.2.slots) ∙ at) ∙ sym v.2.link;
        pending_is = a.pending_is;
        accepted_is = a.accepted_is;
      }

  pub reserves-within : (n : ℕ) → Within n old → Within n new
  reserves-within n w = record {
    waiting_is = r.waiting ∙ w.waiting_is ∙ sym reserved-waits;
    room = r.holds w.room;
    pushed = let a = w.pushed in let b = r.waiting in let c = r.pushed in omega arith;
    sums = let a = w.sums in let b = r.waiting in let c = ap {B = ℕ} (λ (ds : List Delivery). length ds) r.pending in omega arith;
    flows_are = λ g. same-within (r.flows g) (w.flows_are g);
    arrivals = λ k v e. let o = was-there (slice_get (views_of old) k) (slice_get (views_of new) k) (r.views k) v e in let a = w.arrivals k o.0 o.1 in let b = o.2.schedule.arrivals in omega arith;
    accepted = let a = w.accepted in let b = r.accepted in omega arith;
  }

  pub reserves-ready : KeepsPlaces old.flows.flows new.flows.flows → KeepsReady old new
  reserves-ready placed flow ready = record {
    place = placed flow ready.place;
    slot = λ h w pipe at there is.
        let v = was-there (slice_get (views_of old) h.place) (slice_get (views_of new) h.place) (r.views h.place) w there in
        let before = ready.slot h v.0 pipe (ap (λ (hs : List Home). slice_get hs flow) (sym r.homes) ∙ at) v.1 (sym v.2.link ∙ is) in
        let more = v.2.schedule.room h.slot in
        omega arith;
  }

  pub reserves-kept : (heap : Heap NextStart) → AreInStep old heap → AreInStep new heap
  reserves-kept heap k = record {
    agrees = let a = k.agrees in (a.0, a.1, reserves-agree a.0 a.1 a.2);
    within = reserves-within (2 ^ 62) k.within;
    held = subst (λ (d : List (Option ℕ)). Holds d heap.keys) (sym reserved-nexts) k.held;
    places = let a = k.places in let b = lengths in omega arith;
  }
    where
      lengths : length (views_of new) ≡ length (views_of old)
      lengths = sym (length-map (views_of new) (λ v. v.link)) ∙ ap (λ (ls : List Link). length ls) reserved-names ∙ length-map (views_of old) (λ v. v.link)
