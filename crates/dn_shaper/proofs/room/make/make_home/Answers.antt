-- The flow's place is reserved, which leaves all queues as long as they were, and then its home is made.
use Rattle.dn_shaper.proofs.Words.{FlowState, Houses, KeepsAt, LinkView, List, SameFlow, ap, arith, flow_at, homes_of, length, length-set, map, place_for, places, places-set, queue_lengths, refl}
use Rattle.dn_shaper.proofs.Words.{set, slice_get, subst, sym, view_of, views_of, with_home, with_place, ℕ, ◌∙◌, ◌≡◌}
use Rattle.dn_shaper.proofs.Alone.{all-seen-same, lengths-same}
use Rattle.dn_shaper.proofs.HomesOf.{homes-set, set-housed}
use Rattle.dn_shaper.proofs.Reserving.{place-reserved, placed-keeps}
use Rattle.dn_shaper.proofs.Sharing.{on-err}
use Rattle.dn_shaper.proofs.room.make.make_home.Goals.{After-find_home}
use Rattle.dn_shaper.proofs.room.make.make_home.Goals as goal

pub find_home-requires : goal.find_home-requires
find_home-requires c = record { noted = (queue_lengths c.args.state.now.parts.flows.flows, c.requires.noted) }

-- The links are seen as they were before the place was reserved.
seen : (c : After-find_home) → map (view_of (queue_lengths c.reserve_place.new.self.flows)) c.find_home.new.links.items
    ≡ map (view_of (queue_lengths c.args.state.now.parts.flows.flows)) c.find_home.new.links.items
seen c =
    let flows = c.args.state.now.parts.flows.flows in
    all-seen-same c.find_home.new.links.items (queue_lengths flows) (queue_lengths c.reserve_place.new.self.flows)
    (lengths-same flows c.args.flow c.requires.within (with_place (flow_at flows c.args.flow)) c.reserve_place.new.self.flows c.in_ok-reserve_place.ensures.reserved refl)

pub set_home-requires : goal.set_home-requires
set_home-requires c =
    let flows = c.args.state.now.parts.flows.flows in
    let many = ap {B = ℕ} (λ (fs : List FlowState). length fs) c.in_ok-reserve_place.ensures.reserved ∙ length-set flows c.args.flow (with_place (flow_at flows c.args.flow)) in
    let within = c.requires.within in
    omega arith

pub returns-in_err-home-clause-err : goal.returns-in_err-home-clause-err
returns-in_err-home-clause-err c =
    let flows = c.args.state.now.parts.flows.flows in
    let reserved = c.in_ok-reserve_place.ensures.reserved in
    let same = seen (goal.at.returns-in_err-home-clause-err c).After-find_home in
    on-err c.from_residual-in_err-home.result (record {
      parts = record {
        rule = refl;
        accepted = refl;
        keys = c.reserve_place.ensures.keys;
        homes = ap homes_of reserved ∙ homes-set flows c.args.flow (with_place (flow_at flows c.args.flow)) refl;
        waiting = refl;
        pending = c.reserve.ensures.pending;
        pushed = c.reserve.ensures.pushed;
        room = omega (arith, c.in_ok-reserve.ensures.room);
        holds = λ h. let is = ap {B = ℕ} places reserved in omega (arith, c.in_ok-reserve.ensures.room, c.places_with-places.ensures.value, is);
        flows = λ g. subst (λ (fs : List FlowState). SameFlow (flow_at flows g) (flow_at fs g)) (sym reserved) (place-reserved flows c.args.flow g c.requires.within);
        many = ap (λ (fs : List FlowState). length fs) reserved ∙ length-set flows c.args.flow (with_place (flow_at flows c.args.flow));
        views = λ place.
            subst (λ (vs : List LinkView). KeepsAt (slice_get (views_of c.args.state.now.parts) place) (slice_get vs place)) (sym same) (c.in_err-home.ensures.err (queue_lengths flows) place);
      };
      placed = placed-keeps flows c.requires.within reserved;
      heap = c.find_home.ensures.heap;
      shared = c.in_err-home.ensures.unnoted;
      keeps = record { rule = refl; configured = refl; now = refl; calls = refl };
    })

pub returns-clause-gives : goal.returns-clause-gives
returns-clause-gives c =
    let flows = c.args.state.now.parts.flows.flows in
    let home = c.in_ok-home.home in
    let placed = with_place (flow_at flows c.args.flow) in
    let housed = c.set_home.ensures.flows ∙ ap (λ (fs : List FlowState). set fs c.args.flow (with_home home (flow_at fs c.args.flow))) c.in_ok-reserve_place.ensures.reserved ∙ set-housed flows c.args.flow home in
    let same = all-seen-same c.find_home.new.links.items (queue_lengths flows) (queue_lengths c.set_home.new.self.flows)
    (lengths-same flows c.args.flow c.requires.within (with_home home placed) c.set_home.new.self.flows housed refl) in
    record {
      home = c.in_ok-home.home;
      houses = subst
          (λ (vs : List LinkView). Houses (place_for c.args.key.now c.args.state.now.shared) c.args.key.now c.args.flow c.in_ok-home.home
          (views_of c.args.state.now.parts) vs c.find_home.new.heap c.args.state.now.shared c.find_home.new.shared)
          (sym same) (c.in_ok-home.ensures.houses (queue_lengths c.args.state.now.parts.flows.flows) c.requires.empty);
      flows = housed;
      accepted = refl;
      keys = c.set_home.ensures.keys ∙ c.reserve_place.ensures.keys;
      waiting = refl;
      pending = c.reserve.ensures.pending;
      pushed = c.reserve.ensures.pushed;
      room = omega (arith, c.in_ok-reserve.ensures.room);
      line =
          let is = ap {B = ℕ} places housed in
          let one = places-set flows c.args.flow placed c.requires.within in
          let other = places-set flows c.args.flow (with_home home placed) c.requires.within in
          omega (arith, c.in_ok-reserve.ensures.room, c.places_with-places.ensures.value, is, one, other);
      heap = c.find_home.ensures.heap;
      keeps = record { rule = refl; configured = refl; now = refl; calls = refl };
    }
