-- The flow's home has room, and only room was made.
use Rattle.dn_shaper.proofs.Words.{Home, KeepsAt, LinkParts, LinkView, List, Some, ap, arith, common_steps, flow_at, homes_of, length, map, own, places, queue_lengths, refl, room_at, set, shared}
use Rattle.dn_shaper.proofs.Words.{slice_get, subst, sym, view_of, views_of, with_place, ℕ, ◌<◌, ◌∙◌, ◌≡◌}
use Rattle.dn_flows.proofs.Places.{map-set}
use Rattle.dn_shaper.proofs.Alone.{all-seen-same, goes-own}
use Rattle.dn_shaper.proofs.HomeRead.{at-home, in-table, link-there, place-below}
use Rattle.dn_shaper.proofs.HomesOf.{homes-set}
use Rattle.dn_shaper.proofs.Reserving.{flows-placed, lengths-placed, link-reserved, many-placed, on-ok, place-ready, placed-keeps, same-at, slot-has, slot-ready}
use Rattle.dn_shaper.proofs.room.reserve.reserve_known.Goals.{After-index_mut, After-reserve_at, After-reserve_place}
use Rattle.dn_shaper.proofs.room.reserve.reserve_known.Goals as goal

pub index_mut-requires : goal.index_mut-requires
index_mut-requires c =
    let below = place-below c.args.parts.now c.requires.agrees c.requires.within c.home-home.ensures in
    grind (arith, common_steps)

pub home-home-requires : goal.home-home-requires
home-home-requires c = in-table c.args.parts.now c.requires.agrees c.requires.within

-- ---- The flow's place is reserved

inside : (c : After-reserve_place) → c.args.flow < length c.args.parts.now.flows.flows
inside c = in-table c.args.parts.now c.requires.agrees c.requires.within

-- Flows keep their homes.
homes-placed : (c : After-reserve_place)
    → c.reserve_place.new.self.flows ≡ set c.args.parts.now.flows.flows c.args.flow (with_place (flow_at c.args.parts.now.flows.flows c.args.flow))
    → homes_of c.reserve_place.new.self.flows ≡ homes_of c.args.parts.now.flows.flows
homes-placed c placed = ap homes_of placed ∙ homes-set c.args.parts.now.flows.flows c.args.flow (with_place (flow_at c.args.parts.now.flows.flows c.args.flow)) refl

-- Links are seen as they were before that.
seen : (c : After-reserve_place)
    → c.reserve_place.new.self.flows ≡ set c.args.parts.now.flows.flows c.args.flow (with_place (flow_at c.args.parts.now.flows.flows c.args.flow))
    → (links : List LinkParts) → map (view_of (queue_lengths c.reserve_place.new.self.flows)) links ≡ map (view_of (queue_lengths c.args.parts.now.flows.flows)) links
seen c placed links =
    all-seen-same links (queue_lengths c.args.parts.now.flows.flows) (queue_lengths c.reserve_place.new.self.flows) (lengths-placed c.args.parts.now.flows.flows (inside c) placed)

-- ---- On a link of the flow's own only the queue and the delay line get room

pub returns-in-Pipe-clause-only : goal.returns-in-Pipe-clause-only
returns-in-Pipe-clause-only c =
    let old = c.args.parts.now in
    let w = (goal.at.returns-in-Pipe-clause-only c).After-reserve_place in
    let placed = c.in_ok-reserve_place.ensures.reserved in
    record {
      rule = refl;
      accepted = refl;
      keys = c.reserve_place.ensures.keys;
      homes = homes-placed w placed;
      waiting = refl;
      pending = c.reserve.ensures.pending;
      pushed = c.reserve.ensures.pushed;
      room = omega (arith, c.in_ok-reserve.ensures.room);
      holds = λ h. let is = ap {B = ℕ} places placed in omega (arith, c.in_ok-reserve.ensures.room, c.places_with-places.ensures.value, is);
      flows = flows-placed old.flows.flows (inside w) placed;
      many = many-placed old.flows.flows (inside w) placed;
      views = λ place. subst (λ (vs : List LinkView). KeepsAt (slice_get (views_of old) place) (slice_get vs place)) (sym (seen w placed old.links.items)) (same-at (slice_get (views_of old) place));
    }

pub returns-in-Pipe-clause-ready : goal.returns-in-Pipe-clause-ready
returns-in-Pipe-clause-ready c =
    let flow = c.args.flow in
    let w = (goal.at.returns-in-Pipe-clause-ready c).After-reserve_place in
    let t = c.requires.agrees.2.homes_are flow c.requires.within in
    let its = goes-own c.args.parts.now flow c.args.target.now c.requires.goes c.in-Pipe.field-0 c.in-Pipe.is in
    record {
      place = place-ready c.args.parts.now.flows.flows (inside w) c.in_ok-reserve_place.ensures.reserved;
      slot = λ h v pipe at e is_shared.
          let found : Some t.0 ≡ Some h = sym t.1 ∙ ap (λ (hs : List Home). slice_get hs flow) (sym (homes-placed w c.in_ok-reserve_place.ensures.reserved)) ∙ at in
          let h_is : t.0 ≡ h = cc in
          let read : Some t.2.view ≡ Some v = sym t.2.there ∙ ap (λ (vs : List LinkView). slice_get vs t.0.place) (sym (seen w c.in_ok-reserve_place.ensures.reserved c.args.parts.now.links.items))
          ∙ ap (λ (x : Home). slice_get (map (view_of (queue_lengths c.reserve_place.new.self.flows)) c.args.parts.now.links.items) x.place) h_is ∙ e in
          let v_is : t.2.view ≡ v = cc in
          let wrong : own its.0 flow ≡ shared pipe = sym its.1 ∙ sym t.2.link_is ∙ ap (λ (x : LinkView). x.link) v_is ∙ is_shared in
          absurd cc;
    }

pub returns-in-Pipe-clause-placed : goal.returns-in-Pipe-clause-placed
returns-in-Pipe-clause-placed c =
    placed-keeps c.args.parts.now.flows.flows (inside (goal.at.returns-in-Pipe-clause-placed c).After-reserve_place) c.in_ok-reserve_place.ensures.reserved

-- ---- On a shared link its slot gets room too

-- The link at the flow's home was read, and set.
link-read : (c : After-index_mut) → slice_get (views_of c.args.parts.now) c.home-home.result.place ≡ Some (view_of (queue_lengths c.args.parts.now.flows.flows) c.index_mut.result.now)
link-read c = link-there c.args.parts.now c.requires.agrees c.requires.within c.home-home.ensures c.index_mut.ensures.value

seen-set : (c : After-reserve_at)
    (same : (links : List LinkParts) → map (view_of (queue_lengths c.reserve_place.new.self.flows)) links ≡ map (view_of (queue_lengths c.args.parts.now.flows.flows)) links)
    → map (view_of (queue_lengths c.reserve_place.new.self.flows)) (set c.args.parts.now.links.items c.home-home.result.place c.reserve_at.new.link)
    ≡ set (views_of c.args.parts.now) c.home-home.result.place (view_of (queue_lengths c.args.parts.now.flows.flows) c.reserve_at.new.link)
seen-set c same =
    same (set c.args.parts.now.links.items c.home-home.result.place c.reserve_at.new.link)
    ∙ map-set (view_of (queue_lengths c.args.parts.now.flows.flows)) c.args.parts.now.links.items c.home-home.result.place c.reserve_at.new.link

pub returns-in-Queue-clause-only : goal.returns-in-Queue-clause-only
returns-in-Queue-clause-only c =
    let w = goal.at.returns-in-Queue-clause-only c in
    let flows = c.args.parts.now.flows.flows in
    let place = c.home-home.result.place in
    let before = queue_lengths flows in
    let now = seen-set w.After-reserve_at (seen w.After-reserve_place c.in_ok-reserve_place.ensures.reserved) in
    record {
      rule = refl;
      accepted = refl;
      keys = c.reserve_place.ensures.keys;
      homes = homes-placed w.After-reserve_place c.in_ok-reserve_place.ensures.reserved;
      waiting = refl;
      pending = c.reserve.ensures.pending;
      pushed = c.reserve.ensures.pushed;
      room = omega (arith, c.in_ok-reserve.ensures.room);
      holds = λ h. let is = ap {B = ℕ} places c.in_ok-reserve_place.ensures.reserved in omega (arith, c.in_ok-reserve.ensures.room, c.places_with-places.ensures.value, is);
      flows = flows-placed flows (inside w.After-reserve_place) c.in_ok-reserve_place.ensures.reserved;
      many = many-placed flows (inside w.After-reserve_place) c.in_ok-reserve_place.ensures.reserved;
      views = λ k.
          subst (λ (vs : List LinkView). KeepsAt (slice_get (views_of c.args.parts.now) k) (slice_get vs k)) (sym now)
          (link-reserved (views_of c.args.parts.now) place (view_of before c.index_mut.result.now) (view_of before c.reserve_at.new.link)
          (link-read w.After-index_mut) (c.reserve_at.ensures.keeps before) k);
    }

pub returns-in-Queue-clause-placed : goal.returns-in-Queue-clause-placed
returns-in-Queue-clause-placed c =
    placed-keeps c.args.parts.now.flows.flows (inside (goal.at.returns-in-Queue-clause-placed c).After-reserve_place) c.in_ok-reserve_place.ensures.reserved

pub returns-in-Queue-clause-ready : goal.returns-in-Queue-clause-ready
returns-in-Queue-clause-ready c =
    let w = goal.at.returns-in-Queue-clause-ready c in
    let its = c.home-home.result in
    let before = queue_lengths c.args.parts.now.flows.flows in
    let after = queue_lengths c.reserve_place.new.self.flows in
    let links = set c.args.parts.now.links.items its.place c.reserve_at.new.link in
    let same = sym (seen-set w.After-reserve_at (seen w.After-reserve_place c.in_ok-reserve_place.ensures.reserved)) in
    on-ok c.reserve_at.result (λ has. record {
      place = place-ready c.args.parts.now.flows.flows (inside w.After-reserve_place) c.in_ok-reserve_place.ensures.reserved;
      slot = λ h v pipe at e is_shared.
          let kept = homes-placed w.After-reserve_place c.in_ok-reserve_place.ensures.reserved in
          let found : Some its ≡ Some h = sym (at-home c.args.parts.now c.requires.agrees c.requires.within c.home-home.ensures) ∙ ap (λ (hs : List Home). slice_get hs c.args.flow) (sym kept) ∙ at in
          let h_is : its ≡ h = cc in
          let read = ap (λ (vs : List LinkView). slice_get vs its.place) same ∙ ap (λ (x : Home). slice_get (map (view_of after) links) x.place) h_is ∙ e in
          subst (λ (x : Home). 0 < room_at v.schedule.room x.slot) h_is
          (slot-ready (views_of c.args.parts.now) its.place its.slot (view_of before c.index_mut.result.now) (view_of before c.reserve_at.new.link)
          (link-read w.After-index_mut) has v pipe read is_shared);
    }) (c.reserve_at.ensures.ok before)

-- The slot has room where the flow is ready.
pub returns-in-Queue-clause-succeeds : goal.returns-in-Queue-clause-succeeds
returns-in-Queue-clause-succeeds c ready =
    let w = goal.at.returns-in-Queue-clause-succeeds c in
    let before = queue_lengths c.args.parts.now.flows.flows in
    let its = c.home-home.result in
    let v : LinkView = view_of before c.index_mut.result.now in
    c.reserve_at.ensures.succeeds before (slot-has its.slot v v.link (λ pipe is.
    ready.slot its v pipe (at-home c.args.parts.now c.requires.agrees c.requires.within c.home-home.ensures) (link-read w.After-index_mut) is))
