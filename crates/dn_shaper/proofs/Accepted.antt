-- A packet was accepted: all parts agree, and the heap and the counts follow.
use Rattle.dn_shaper.proofs.Words.{Accepts, Agrees, AgreesWith, AreInStep, ArrivesAt, Bool, Event, GivesRates, Heap, Holds, Home, IsPermutation, KeepsFlows, Link, LinkParts, LinkView, List}
use Rattle.dn_shaper.proofs.Words.{MayAccept, NextStart, None, Option, Packet, Parts, Settings, Slots, Some, StartsAt, Treatment, Within, [], accept, and_parts, ap, arith, arrived, cond, eqb-true}
use Rattle.dn_shaper.proofs.Words.{false, get-below, get-map, get-set, home, homes_of, is_idle, join, length, length-map, length-set, length_permutation, link_names, links, map-set-same, nat_eq}
use Rattle.dn_shaper.proofs.Words.{nat_le, nat_tests, next_packet, next_start, next_start_of, next_starts, opening, pipe_of, queue_lengths, refl, set, set-set, slice_get, start_at, started, subst}
use Rattle.dn_shaper.proofs.Words.{sym, true, view_of, views_of, with_link, ℕ, ◌+◌, ◌<◌, ◌^◌, ◌∙◌, ◌∷◌, ◌≡◌, ◌≤◌}
use Rattle.dn_shaper.proofs.Arriving.{set-self, link-home, arrives-agree, next-alone, starts-at-once, arrives-nexts, arrives-names, arrives-within}
use Rattle.dn_shaper.proofs.Starting.{starts-agree, starts-within, starts-nexts}
use Rattle.dn_shaper.proofs.Accepting.{within-more, holds_pushed, backlogged-one, next-listed, next-some, next-none, may-agree}
use Rattle.dn_shaper.proofs.HeldCounts.{counted-held}
use Rattle.dn_shaper.proofs.HomeRead.{in-table}
use Rattle.dn_shaper.proofs.Settles.{pipe-carried}

-- No packet waits for an idle link, and it is free.
pub idle-is : (at : ℕ) (v : LinkView) → is_idle at v ≡ true → (v.waits ≡ 0) × (v.value.free ≤ at)
idle-is at v is =
    let e = and_parts (nat_eq v.waits 0) (nat_le v.value.free at) is in
    (eqb-true v.waits 0 e.0, low v.value.free e.1)
  where
    low : (m : ℕ) → nat_le m at ≡ true → m ≤ at
    low m e = grind (arith, nat_tests)

pub same-view : {at : ℕ} {h : Home} {flow len weight : ℕ} {idle : Bool} {old mid : Parts} (s : ArrivesAt at h flow len weight idle old mid) {v : LinkView} →
    slice_get (views_of old) h.place ≡ Some v → s.view ≡ v
same-view s {v = v} there = let both : Some s.view ≡ Some v = sym s.there ∙ there in cc

module _ {settings : Settings} {at : ℕ} {h : Home} {flow len weight : ℕ} {idle : Bool} {old mid : Parts} {heap : Heap NextStart} (may : MayAccept settings at flow old heap)
    (at_home : slice_get (homes_of old.flows.flows) flow ≡ Some h) (s : ArrivesAt at h flow len weight idle old mid) where
  home-is : home old.flows.keys flow ≡ s.view.link
  home-is = link-home settings at h flow len weight idle old mid s may.settled.0 may.settled.1 may.settled.2 may.within at_home

  -- The link that was read before the packet arrived is the one that it arrived at.
  module _ (link : LinkParts) (read-link : slice_get (views_of old) h.place ≡ Some (view_of (queue_lengths old.flows.flows) link)) where
    pub same-link : s.view ≡ view_of (queue_lengths old.flows.flows) link
    same-link = same-view s read-link

    pub same-rates : {bandwidth delay : ℕ} → GivesRates settings link.pipe bandwidth delay → GivesRates settings (pipe_of s.view.link) bandwidth delay
    same-rates {bandwidth = bandwidth} {delay = delay} rates =
        subst (λ n. GivesRates settings n bandwidth delay) (sym (pipe-carried link.pipe link.carries) ∙ ap (λ (x : LinkView). pipe_of x.link) (sym same-link)) rates

  abbrev some_packet : Packet
  some_packet = record { tuple = record { src = 0; dst = 0; proto = 0; sport = 0; dport = 0 }; len = len; word = 0 }

  abbrev some_treatment : Treatment
  some_treatment = record { pipe = 0; weight = weight; mask = record { src = 0; dst = 0; proto = 0; sport = 0; dport = 0 }; loss = 0; limit = Slots 0 }

  abbrev l : Link
  l = s.view.link

  pub made-there : (trace : List Event) → link_names (views_of old) ≡ with_link (home old.flows.keys flow) (links trace) → link_names (views_of old) ≡ with_link l (links trace)
  made-there trace made = made ∙ ap (λ (x : Link). with_link x (links trace)) home-is

  pub arrived-at : (packet : Packet) (how : Treatment) (more : List Link) (trace : List Event) → AgreesWith old more trace → packet.len ≡ len →
      how.weight ≡ weight → link_names (views_of old) ≡ with_link (home old.flows.keys flow) (links trace) →
      AgreesWith mid [] (arrived (accept l packet flow how (opening l at trace)) ∷ opening l at trace)
  arrived-at packet how more trace a len_is weight_is made = arrives-agree settings at h flow len weight idle old mid s more trace a may.within at_home packet how len_is weight_is
      (made-there trace made)

  pub mid-agrees : Agrees mid
  mid-agrees = (
    [],
    arrived
        (accept l some_packet flow some_treatment
        (opening l at may.settled.1)) ∷ opening l at may.settled.1,
    arrived-at some_packet some_treatment may.settled.0 may.settled.1 may.settled.2 refl refl may.settled.3,
  )

  pub mid-within : (n : ℕ) → Within n old → Within (n + 1) mid
  mid-within n w = arrives-within at h flow len weight idle old mid s n (in-table old (may-agree may) may.within) may.ready.place w

  pub mid-all : Within (2 ^ 62) mid
  mid-all = within-more (may.few.0 + 1) (2 ^ 62) mid (let a = may.few.1 in omega arith) (mid-within may.few.0 may.few.2)

  pub mid-there : slice_get (views_of mid) h.place ≡ Some s.view'
  mid-there = ap (λ (vs : List LinkView). slice_get vs h.place) s.views_are ∙ get-set (views_of old) h.place s.view s.view' s.there

  length-mid : length (views_of mid) ≡ length (views_of old)
  length-mid = ap (λ (vs : List LinkView). length vs) s.views_are ∙ length-set (views_of old) h.place s.view'

  pub mid-keeps : KeepsFlows old mid
  mid-keeps = record { rule = s.rule; keys = s.keys; homes = s.homes; names = arrives-names at h flow len weight idle old mid s }

  next-then : slice_get (next_starts (views_of old)) h.place ≡ Some (next_start_of s.view)
  next-then = get-map next_start_of (views_of old) h.place s.view s.there

  -- ---- The packet starts at once

  module _ (yes' : idle ≡ true) where
    was_idle : (s.view.waits ≡ 0) × (s.view.value.free ≤ at)
    was_idle = idle-is at s.view (sym s.idle_is ∙ yes')

    module _ {bandwidth delay : ℕ} {new : Parts} (t : StartsAt h.place at bandwidth delay mid new) (rates : GivesRates settings (pipe_of l) bandwidth delay) where
      same_view : t.view ≡ s.view'
      same_view = let both : Some t.view ≡ Some s.view' = sym t.there ∙ mid-there in cc

      rates-mid : GivesRates settings (pipe_of t.view.link) bandwidth delay
      rates-mid = subst (λ (x : Link). GivesRates settings (pipe_of x) bandwidth delay) (sym (ap (λ (v : LinkView). v.link) same_view ∙ s.joins.link)) rates

      link-mid : t.view.link ≡ l
      link-mid = ap (λ (v : LinkView). v.link) same_view ∙ s.joins.link

      nexts-same : next_starts (views_of new) ≡ next_starts (views_of old)
      nexts-same =
          let w = t.starts.waits in
          let v = ap {B = ℕ} (λ (x : LinkView). x.waits) same_view in
          let j = s.joins.waits in
          let z = was_idle.0 in
          starts-nexts h.place at bandwidth delay mid new t
          ∙ ap (λ (d : List (Option ℕ)). set d h.place (next_start_of t.view')) (arrives-nexts at h flow len weight idle old mid s)
          ∙ set-set (next_starts (views_of old)) h.place (next_start_of s.view') (next_start_of t.view')
          ∙ ap (λ (o : Option ℕ). set (next_starts (views_of old)) h.place o) (next-none t.view' (omega arith) ∙ sym (next-none s.view (omega arith)))
          ∙ set-self (next_starts (views_of old)) h.place (next_start_of s.view) next-then

      pub idle-kept : AreInStep new heap
      idle-kept = record {
        agrees =
            let m = mid-agrees in
            let r = starts-agree h.place at bandwidth delay mid new t settings m.0 m.1 rates-mid m.2 in
            (m.0, started (start_at settings t.view.link r.0 at) ∷ m.1, r.2);
        within = starts-within h.place at bandwidth delay mid new t (2 ^ 62) mid-all;
        held = subst (λ (d : List (Option ℕ)). Holds d heap.keys) (sym nexts-same) may.kept.held;
        places = let a = ap (λ (vs : List LinkView). length vs) t.views_are ∙ length-set (views_of mid) h.place t.view' in let b = length-mid in let c = may.kept.places in omega arith;
      }

      pub idle-within : (n : ℕ) → Within n old → Within (n + 1) new
      idle-within n w = starts-within h.place at bandwidth delay mid new t (n + 1) (mid-within n w)

      pub idle-keeps : KeepsFlows old new
      idle-keeps = record {
        rule = t.rule ∙ s.rule;
        keys = t.keys ∙ s.keys;
        homes = t.homes ∙ s.homes;
        names = ap (λ (vs : List LinkView). link_names vs) t.views_are
            ∙ map-set-same (λ (x : LinkView). x.link) (views_of mid) h.place t.view t.view' t.there t.starts.link
            ∙ arrives-names at h flow len weight idle old mid s;
      }

      idle-accepts-at : (more : List Link) (trace : List Event) (packet : Packet) (how : Treatment) → packet.len ≡ len → how.weight ≡ weight →
          link_names (views_of old) ≡ with_link (home old.flows.keys flow) (links trace) → next_start settings at l trace ≡ None → AgreesWith old more trace →
          AgreesWith new [] (join settings at (accept l packet flow how (opening l at trace)) (opening l at trace))
      idle-accepts-at more trace packet how len_is weight_is made none a =
          let r = starts-agree h.place at bandwidth delay mid new t settings []
          (arrived (accept l packet flow how (opening l at trace)) ∷ opening l at trace) rates-mid
          (arrived-at packet how more trace a len_is weight_is made) in
          let next = ap (λ (x : Link). next_packet x (arrived (accept l packet flow how (opening l at trace)) ∷ opening l at trace)) (sym link-mid) ∙ r.1 in
          let packet_is = next-alone settings at h flow len weight idle old mid s more trace a may.within at_home packet how len_is weight_is (made-there trace made) yes' r.0 next in
          let once = starts-at-once settings at h flow len weight idle old mid s more trace a may.within at_home none ∙ yes' in
          subst (λ (e : List Event). AgreesWith new [] e)
          ((λ i. started (start_at settings (link-mid i) (packet_is i) at) ∷ arrived (accept l packet flow how (opening l at trace)) ∷ opening l at trace)
          ∙ sym
          (ap
          (λ b. cond b
          (started (start_at settings l (accept l packet flow how (opening l at trace)) at) ∷ arrived (accept l packet flow how (opening l at trace)) ∷ opening l at trace)
          (arrived (accept l packet flow how (opening l at trace)) ∷ opening l at trace)) once))
          r.2

      pub idle-accepts : Accepts settings at flow len weight old new
      idle-accepts more trace packet how len_is weight_is made none a =
          subst (λ (x : Link). AgreesWith new [] (join settings at (accept x packet flow how (opening x at trace)) (opening x at trace))) (sym home-is)
          (idle-accepts-at more trace packet how len_is weight_is made (ap (λ (x : Link). next_start settings at x trace) (sym home-is) ∙ none) a)

  -- ---- The packet waits

  module _ (no' : idle ≡ false) where
    waits-accepts-at : (more : List Link) (trace : List Event) (packet : Packet) (how : Treatment) → packet.len ≡ len → how.weight ≡ weight →
        link_names (views_of old) ≡ with_link (home old.flows.keys flow) (links trace) → next_start settings at l trace ≡ None → AgreesWith old more trace →
        AgreesWith mid [] (join settings at (accept l packet flow how (opening l at trace)) (opening l at trace))
    waits-accepts-at more trace packet how len_is weight_is made none a =
        let once = starts-at-once settings at h flow len weight idle old mid s more trace a may.within at_home none ∙ no' in
        subst (λ (e : List Event). AgreesWith mid [] e)
        (sym
        (ap
        (λ b. cond b
        (started (start_at settings l (accept l packet flow how (opening l at trace)) at) ∷ arrived (accept l packet flow how (opening l at trace)) ∷ opening l at trace)
        (arrived (accept l packet flow how (opening l at trace)) ∷ opening l at trace)) once))
        (arrived-at packet how more trace a len_is weight_is made)

    pub waits-accepts : Accepts settings at flow len weight old mid
    waits-accepts more trace packet how len_is weight_is made none a =
        subst (λ (x : Link). AgreesWith mid [] (join settings at (accept x packet flow how (opening x at trace)) (opening x at trace))) (sym home-is)
        (waits-accepts-at more trace packet how len_is weight_is made (ap (λ (x : Link). next_start settings at x trace) (sym home-is) ∙ none) a)

  -- It is the first that waits.
  pub room-first : s.view.waits ≡ 0 → 0 < heap.room
  room-first zero_waits =
      let one = backlogged-one (next_starts (views_of old)) h.place (next-then ∙ ap (λ (o : Option ℕ). Some o) (next-none s.view (omega arith))) in
      let c = counted-held heap.keys (next_starts (views_of old)) may.kept.held in
      let p = may.kept.places in
      let m = length-map (views_of old) next_start_of in
      omega arith

  pub first-kept : s.view.waits ≡ 0 → (heap' : Heap NextStart) → IsPermutation (record { moment = s.view.value.free; place = h.place } ∷ heap.keys) heap'.keys →
      heap'.room + 1 ≡ heap.room → AreInStep mid heap'
  first-kept zero_waits heap' perm room =
      let none : next_start_of s.view ≡ None = next-none s.view (omega arith) in
      let w = s.joins.waits in
      let some : next_start_of s.view' ≡ Some s.view.value.free = next-some s.view' (omega arith) ∙ ap (λ x. Some x.free) s.joins.value in
      let now : next_starts (views_of mid) ≡ set (next_starts (views_of old)) h.place (Some s.view.value.free) = arrives-nexts at h flow len weight idle old mid s
      ∙ ap (λ (o : Option ℕ). set (next_starts (views_of old)) h.place o) some in
      record {
        agrees = mid-agrees;
        within = mid-all;
        held = subst (λ (d : List (Option ℕ)). Holds d heap'.keys) (sym now)
            (holds_pushed (next_starts (views_of old)) heap.keys may.kept.held h.place s.view.value.free
            (get-below (next_starts (views_of old)) h.place (next_start_of s.view) next-then)
            (next-listed (next_starts (views_of old)) h.place None (next-then ∙ ap (λ (o : Option ℕ). Some o) none)) heap'.keys perm);
        places =
            let a = length_permutation (record { moment = s.view.value.free; place = h.place } ∷ heap.keys) heap'.keys perm in
            let b = length-mid in
            let c = may.kept.places in
            omega arith;
      }

  -- Others wait before it.
  pub other-kept : 0 < s.view.waits → AreInStep mid heap
  other-kept some =
      let w = s.joins.waits in
      let same : next_start_of s.view' ≡ next_start_of s.view = next-some s.view' (omega arith) ∙ ap (λ x. Some x.free) s.joins.value ∙ sym (next-some s.view some) in
      let now : next_starts (views_of mid) ≡ next_starts (views_of old) = arrives-nexts at h flow len weight idle old mid s
      ∙ ap (λ (o : Option ℕ). set (next_starts (views_of old)) h.place o) same
      ∙ set-self (next_starts (views_of old)) h.place (next_start_of s.view) next-then in
      record {
        agrees = mid-agrees;
        within = mid-all;
        held = subst (λ (d : List (Option ℕ)). Holds d heap.keys) (sym now) may.kept.held;
        places = let b = length-mid in let c = may.kept.places in omega arith;
      }
