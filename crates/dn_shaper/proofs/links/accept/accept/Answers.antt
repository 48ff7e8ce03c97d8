-- The flow's home takes the packet, and it starts at once or waits.
use Rattle.dn_shaper.proofs.Words.{ArrivesAt, GivesRates, Home, IsHomeOf, IsPermutation, LinkView, Some, ap, arith, common_steps, false, get-read, home, homes_of, length, own, pipe_of}
use Rattle.dn_shaper.proofs.Words.{queue_lengths, refl, settings_of, slice_get, subst, sym, view_of, views_of, ℕ, ◌<◌, ◌∙◌, ◌∷◌, ◌≡◌}
use Rattle.dn_shaper.proofs.Accepted.{same-link, same-rates, mid-within, mid-keeps, idle-kept, idle-within, idle-keeps, idle-accepts, waits-accepts, room-first, first-kept, other-kept}
use Rattle.dn_shaper.proofs.Accepting.{can-join, few-accepted, few-waiting, home-at, may-agree, none-waits, seen-there, some-waits}
use Rattle.dn_shaper.proofs.Alone.{goes-own}
use Rattle.dn_shaper.proofs.Behind.{joins-behind, others-wait}
use Rattle.dn_shaper.proofs.HomeRead.{home-alone, home-there, in-table, place-below}
use Rattle.dn_shaper.proofs.OthersReady.{arrives-leaves, passes-leaves}
use Rattle.dn_shaper.proofs.links.accept.accept.Goals.{After-arrive}
use Rattle.dn_shaper.proofs.links.accept.accept.Goals as goal

-- ---- The home and the link there are read

pub home-home-requires : goal.home-home-requires
home-home-requires c =
    in-table c.args.parts.now (may-agree c.requires.may) c.requires.may.within

pub index-link-requires : goal.index-link-requires
index-link-requires c =
    let below = place-below c.args.parts.now (may-agree c.requires.may) c.requires.may.within c.home-home.ensures in
    grind (arith, common_steps)

-- ---- The packet can arrive there

pub arrive-requires-clause-can : goal.arrive-requires-clause-can
arrive-requires-clause-can c = (
  view_of (queue_lengths c.args.parts.now.flows.flows) c.index-link.result.now,
  seen-there c.requires.may c.home-home.ensures c.index-link.ensures,
  can-join c.requires.may c.home-home.ensures c.index-link.ensures,
)

pub arrive-requires-clause-alone : goal.arrive-requires-clause-alone
arrive-requires-clause-alone c = home-alone c.args.parts.now (may-agree c.requires.may) c.requires.may.within c.home-home.ensures

pub arrive-requires-clause-within : goal.arrive-requires-clause-within
arrive-requires-clause-within c = in-table c.args.parts.now (may-agree c.requires.may) c.requires.may.within

pub arrive-requires-clause-accepted : goal.arrive-requires-clause-accepted
arrive-requires-clause-accepted c = few-accepted c.requires.may

pub arrive-requires-clause-waiting : goal.arrive-requires-clause-waiting
arrive-requires-clause-waiting c = few-waiting c.requires.may

-- ---- The link was idle, and the packet starts

pub pass-requires-clause-may : goal.pass-requires-clause-may
pass-requires-clause-may c = (settings_of c.args.configured.now, c.args.heap.now, c.requires.may)

pub pass-requires-clause-idle : goal.pass-requires-clause-idle
pass-requires-clause-idle c = record {
  link = c.index-link.result.now;
  there =
      get-read c.args.parts.now.links.items c.home-home.result.place c.index-link.result.now
      (place-below c.args.parts.now (may-agree c.requires.may) c.requires.may.within c.home-home.ensures) c.index-link.ensures;
  idle = sym c.is_idle-idle.ensures ∙ c.if-idle.true;
}

home-passed : (c : goal.After-pass) → slice_get (homes_of c.args.parts.now.flows.flows) c.args.flow ≡ Some c.home-home.result
home-passed c = home-at c.requires.may c.home-home.ensures

-- The rates that were read are those of the link.
rates : (c : goal.After-pass)
    → GivesRates (settings_of c.args.configured.now) (pipe_of c.pass.ensures.arrives.view.link) c.rates-rates.result.bandwidth c.rates-rates.result.delay
rates c =
    let there = seen-there c.requires.may c.home-home.ensures c.index-link.ensures in
    same-rates c.requires.may (home-passed c) c.pass.ensures.arrives c.index-link.result.now there c.rates-rates.ensures

pub returns-then-idle-clause-accepts : goal.returns-then-idle-clause-accepts
returns-then-idle-clause-accepts c = idle-accepts c.requires.may (home-passed c) c.pass.ensures.arrives refl c.pass.ensures.starts (rates c)

pub returns-then-idle-clause-kept : goal.returns-then-idle-clause-kept
returns-then-idle-clause-kept c = idle-kept c.requires.may (home-passed c) c.pass.ensures.arrives refl c.pass.ensures.starts (rates c)

pub returns-then-idle-clause-within : goal.returns-then-idle-clause-within
returns-then-idle-clause-within c = idle-within c.requires.may (home-passed c) c.pass.ensures.arrives refl c.pass.ensures.starts (rates c)

pub returns-then-idle-clause-keeps : goal.returns-then-idle-clause-keeps
returns-then-idle-clause-keeps c = idle-keeps c.requires.may (home-passed c) c.pass.ensures.arrives refl c.pass.ensures.starts (rates c)

pub returns-then-idle-clause-leaves : goal.returns-then-idle-clause-leaves
returns-then-idle-clause-leaves c = passes-leaves c.requires.may (home-passed c) c.pass.ensures.arrives c.pass.ensures.starts

-- ---- The link still sends, and the packet arrives there

module _ (c : After-arrive) where
  home-read : slice_get (homes_of c.args.parts.now.flows.flows) c.args.flow ≡ Some c.home-home.result
  home-read = home-at c.requires.may c.home-home.ensures

  link-read : slice_get (views_of c.args.parts.now) c.home-home.result.place ≡ Some (view_of (queue_lengths c.args.parts.now.flows.flows) c.index-link.result.now)
  link-read = seen-there c.requires.may c.home-home.ensures c.index-link.ensures

  came : ArrivesAt c.args.at c.home-home.result c.args.flow c.args.len c.args.how.now.weight false c.args.parts.now c.arrive.new.parts
  came = c.arrive.ensures c.args.at _ link-read (sym c.is_idle-idle.ensures ∙ c.if-idle.false)

  same : came.view ≡ view_of (queue_lengths c.args.parts.now.flows.flows) c.index-link.result.now
  same = same-link c.requires.may home-read came c.index-link.result.now link-read

  -- No other packet waits for it.
  none : c.has_backlog-waited.result ≡ false → came.view.waits ≡ 0
  none is =
      ap {B = ℕ} (λ (x : LinkView). x.waits) same
      ∙ none-waits (view_of (queue_lengths c.args.parts.now.flows.flows) c.index-link.result.now).waits c.has_backlog-waited.result c.has_backlog-waited.ensures is

pub push_reserved-requires-clause-reserved : goal.push_reserved-requires-clause-reserved
push_reserved-requires-clause-reserved c =
    let w = (goal.at.push_reserved-requires-clause-reserved c).After-arrive in
    room-first c.requires.may (home-read w) (came w) (none w c.if-not-waited.true)

pub returns-then-not-waited-clause-accepts : goal.returns-then-not-waited-clause-accepts
returns-then-not-waited-clause-accepts c =
    let w = (goal.at.returns-then-not-waited-clause-accepts c).After-arrive in
    waits-accepts c.requires.may (home-read w) (came w) refl

pub returns-then-not-waited-clause-kept : goal.returns-then-not-waited-clause-kept
returns-then-not-waited-clause-kept c =
    let w = (goal.at.returns-then-not-waited-clause-kept c).After-arrive in
    let free = c.free-free.ensures ∙ ap (λ (x : LinkView). x.value.free) (sym (same w)) in
    let keys = subst (λ (m : ℕ). IsPermutation (record { moment = m; place = c.home-home.result.place } ∷ c.args.heap.now.keys) c.push_reserved.new.self.keys) free c.push_reserved.ensures.keys in
    first-kept c.requires.may (home-read w) (came w) (none w c.if-not-waited.true) c.push_reserved.new.self keys c.push_reserved.ensures.room

pub returns-then-not-waited-clause-moves : goal.returns-then-not-waited-clause-moves
returns-then-not-waited-clause-moves c =
    omega (arith, (came (goal.at.returns-then-not-waited-clause-moves c).After-arrive).waiting, c.push_reserved.ensures.moves)

pub returns-then-not-waited-clause-within : goal.returns-then-not-waited-clause-within
returns-then-not-waited-clause-within c =
    let w = (goal.at.returns-then-not-waited-clause-within c).After-arrive in
    mid-within c.requires.may (home-read w) (came w)

pub returns-then-not-waited-clause-keeps : goal.returns-then-not-waited-clause-keeps
returns-then-not-waited-clause-keeps c =
    let w = (goal.at.returns-then-not-waited-clause-keeps c).After-arrive in
    mid-keeps c.requires.may (home-read w) (came w)

pub returns-then-not-waited-clause-leaves : goal.returns-then-not-waited-clause-leaves
returns-then-not-waited-clause-leaves c =
    let w = (goal.at.returns-then-not-waited-clause-leaves c).After-arrive in
    arrives-leaves c.requires.may (home-read w) (came w)

-- ---- Others wait for the link

pub returns-else-not-waited-clause-accepts : goal.returns-else-not-waited-clause-accepts
returns-else-not-waited-clause-accepts c =
    let w = (goal.at.returns-else-not-waited-clause-accepts c).After-arrive in
    waits-accepts c.requires.may (home-read w) (came w) refl

pub returns-else-not-waited-clause-kept : goal.returns-else-not-waited-clause-kept
returns-else-not-waited-clause-kept c =
    let w = (goal.at.returns-else-not-waited-clause-kept c).After-arrive in
    let view = view_of (queue_lengths c.args.parts.now.flows.flows) c.index-link.result.now in
    let some = some-waits view.waits c.has_backlog-waited.result c.has_backlog-waited.ensures c.if-not-waited.false in
    other-kept c.requires.may (home-read w) (came w) (subst (λ (x : LinkView). 0 < x.waits) (sym (same w)) some)

pub returns-else-not-waited-clause-moves : goal.returns-else-not-waited-clause-moves
returns-else-not-waited-clause-moves c = omega (arith, (came (goal.at.returns-else-not-waited-clause-moves c).After-arrive).waiting)

pub returns-else-not-waited-clause-within : goal.returns-else-not-waited-clause-within
returns-else-not-waited-clause-within c =
    let w = (goal.at.returns-else-not-waited-clause-within c).After-arrive in
    mid-within c.requires.may (home-read w) (came w)

pub returns-else-not-waited-clause-keeps : goal.returns-else-not-waited-clause-keeps
returns-else-not-waited-clause-keeps c =
    let w = (goal.at.returns-else-not-waited-clause-keeps c).After-arrive in
    mid-keeps c.requires.may (home-read w) (came w)

pub returns-else-not-waited-clause-leaves : goal.returns-else-not-waited-clause-leaves
returns-else-not-waited-clause-leaves c =
    let w = (goal.at.returns-else-not-waited-clause-leaves c).After-arrive in
    arrives-leaves c.requires.may (home-read w) (came w)

-- ---- The packet joins others on its flow's own link

pub join_queue-requires-clause-within : goal.join_queue-requires-clause-within
join_queue-requires-clause-within c = in-table c.args.parts.now (may-agree c.requires.may) c.requires.may.within

pub join_queue-requires-clause-accepted : goal.join_queue-requires-clause-accepted
join_queue-requires-clause-accepted c = few-accepted c.requires.may

pub join_queue-requires-clause-waiting : goal.join_queue-requires-clause-waiting
join_queue-requires-clause-waiting c = few-waiting c.requires.may

there : (c : goal.After-join_queue) → (h : Home) × (slice_get (homes_of c.args.parts.now.flows.flows) c.args.flow ≡ Some h)
    × IsHomeOf c.args.flow (home c.args.parts.now.flows.keys c.args.flow) (views_of c.args.parts.now) h
there c = home-there c.args.parts.now (may-agree c.requires.may) c.requires.may.within

some : (c : goal.After-join_queue) → 0 < queue_lengths c.args.parts.now.flows.flows c.args.flow
some c = some-waits (queue_lengths c.args.parts.now.flows.flows c.args.flow) c.has_backlog.result c.has_backlog.ensures c.if-has_backlog.true

its-own : (c : goal.After-join_queue) → (pipe : ℕ) × (home c.args.parts.now.flows.keys c.args.flow ≡ own pipe c.args.flow)
its-own c = goes-own c.args.parts.now c.args.flow c.args.how.now.target c.requires.goes c.in-Pipe.field-0 c.in-Pipe.is

inside : (c : goal.After-join_queue) → c.args.flow < length c.args.parts.now.flows.flows
inside c = in-table c.args.parts.now (may-agree c.requires.may) c.requires.may.within

behind : (c : goal.After-join_queue)
    → ArrivesAt c.args.at (there c).0 c.args.flow c.args.len c.args.how.now.weight false c.args.parts.now c.join_queue.new.parts
behind c =
    joins-behind c.args.at c.join_queue.ensures c.requires.may.settled.2 (there c).2 (its-own c).1 (inside c) (some c)

pub returns-clause-accepts : goal.returns-clause-accepts
returns-clause-accepts c = waits-accepts c.requires.may (there c).1 (behind c) refl

pub returns-clause-kept : goal.returns-clause-kept
unfolding behind
returns-clause-kept c =
    other-kept c.requires.may (there c).1 (behind c)
    (others-wait c.args.at c.join_queue.ensures c.requires.may.settled.2 (there c).2 (its-own c).1 (inside c) (some c))

pub returns-clause-within : goal.returns-clause-within
returns-clause-within c = mid-within c.requires.may (there c).1 (behind c)

pub returns-clause-keeps : goal.returns-clause-keeps
returns-clause-keeps c = mid-keeps c.requires.may (there c).1 (behind c)

pub returns-clause-leaves : goal.returns-clause-leaves
returns-clause-leaves c = arrives-leaves c.requires.may (there c).1 (behind c)
