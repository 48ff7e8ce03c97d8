-- A packet joins others on a link of its flow's own: of all links that one alone is seen otherwise, with one packet more.
use Rattle.dn_shaper.proofs.Words.{AgreesWith, ArrivesAt, ArrivesOn, Carries, Event, Home, IsHomeOf, JoinsQueue, Link, LinkParts, LinkView, List, Own, Parts, Shared, Some, Waiting, [], ap, arith}
use Rattle.dn_shaper.proofs.Words.{carried_link, carried_waits, eq-no, false, flow_at, get-map, home, length, map, nat_le, own, pushed, queue_lengths, refl, shared, slice_get, subst, suc, sym}
use Rattle.dn_shaper.proofs.Words.{view_of, views_of, zero, ℕ, ◌&&◌, ◌+◌, ◌<◌, ◌∙◌, ◌∷◌, ◌≡◌}
use Rattle.dn_shaper.proofs.Alone.{is-alone, push-longer, set-seen}
use Rattle.dn_shaper.proofs.Arriving.{set-self}

-- What stands at a place of a list of views is the view of what stands there.
there-under : {X Y : Type 0} (f : X → Y) (xs : List X) (k : ℕ) (y : Y) → slice_get (map f xs) k ≡ Some y → (x : X) × (slice_get xs k ≡ Some x) × (f x ≡ y)
there-under f [] k y e = absurd cc
there-under f (x ∷ xs) zero y e = let same : f x ≡ y = cc in (x, refl, same)
there-under f (x ∷ xs) (suc k) y e = there-under f xs k y e

module _ (at : ℕ) {flow len weight : ℕ} {old new : Parts} (j : JoinsQueue flow len weight old new) {more : List Link} {trace : List Event}
    (a : AgreesWith old more trace) {h : Home} (is : IsHomeOf flow (home old.flows.keys flow) (views_of old) h) {pipe : ℕ}
    (owned : home old.flows.keys flow ≡ own pipe flow)
    (within : flow < length old.flows.flows) (some : 0 < queue_lengths old.flows.flows flow) where
  abbrev before : ℕ → ℕ
  before = queue_lengths old.flows.flows

  abbrev after : ℕ → ℕ
  after = queue_lengths new.flows.flows

  abbrev packet : Waiting
  packet = record { packet = old.accepted; len = len; weight = weight }

  found : (l : LinkParts) × (slice_get old.links.items h.place ≡ Some l) × (view_of before l ≡ is.view)
  found = there-under (view_of before) old.links.items h.place is.view is.there

  abbrev link : LinkParts
  link = found.0

  its-own : carried_link link.pipe link.carries ≡ own pipe flow
  its-own = ap (λ (v : LinkView). v.link) found.2 ∙ is.link_is ∙ owned

  waits-before : (c : Carries) → carried_link link.pipe c ≡ own pipe flow → carried_waits before c ≡ before flow
  waits-before (Own f) e = let same : f ≡ flow = cc in ap before same
  waits-before (Shared s) e = absurd cc

  waits-after : (c : Carries) → carried_link link.pipe c ≡ own pipe flow → carried_waits after c ≡ after flow
  waits-after (Own f) e = let same : f ≡ flow = cc in ap after same
  waits-after (Shared s) e = absurd cc

  longer : after flow ≡ before flow + 1
  longer = push-longer old.flows.flows flow packet within new.flows.flows j.flows_are

  arrives-on : (l : Link) → l ≡ own pipe flow → ArrivesOn h.slot len weight false (view_of before link) (view_of after link) l
  arrives-on (own p f) e = refl
  arrives-on (shared p) e = absurd cc

  pub joins-behind : ArrivesAt at h flow len weight false old new
  joins-behind =
      let there = get-map (view_of before) old.links.items h.place link found.1 in
      let alone = is-alone old more trace a flow h.place (view_of before link) there (sym (ap (λ (v : LinkView). v.link) found.2 ∙ is.link_is)) in
      let w = waits-before link.carries its-own in
      let w' = waits-after link.carries its-own in
      let l = longer in
      record {
        view = view_of before link;
        view' = view_of after link;
        there = there;
        idle_is = sym (ap (λ b. b && nat_le link.times.free at) (eq-no (carried_waits before link.carries) 0 (λ e. absurd (omega arith))));
        views_are =
            ap (λ ls. map (view_of after) ls.items) j.links
            ∙ ap (λ (ls : List LinkParts). map (view_of after) ls) (sym (set-self old.links.items h.place link found.1))
            ∙ set-seen old flow h.place alone within new.flows.flows (pushed packet (flow_at old.flows.flows flow)) j.flows_are link;
        joins = record { link = refl; value = refl; slots = refl; waits = omega arith; arrives = arrives-on (carried_link link.pipe link.carries) its-own };
        flows_are = j.flows_are;
        rule = j.rule;
        accepted = j.accepted;
        keys = j.keys;
        homes = j.homes;
        line = j.line;
        waiting = j.waiting;
      }

  -- The packets that it joins.
  pub others-wait : 0 < joins-behind.view.waits
  unfolding joins-behind found
  others-wait = subst (λ (n : ℕ). 0 < n) (sym (waits-before link.carries its-own)) some
