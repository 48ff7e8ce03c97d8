-- One step of the loop is one start of the settling.
use Rattle.dn_shaper.proofs.Words.{GivesRates, IsLeast, IsPermutation, LinkView, NextStart, ap, arith, common_steps, get-below-map, length, length_permutation, next_start_cmp, pipe_of}
use Rattle.dn_shaper.proofs.Words.{queue_lengths, refl, settings_of, subst, view_of, viewed, ℕ, ◌+◌, ◌<◌, ◌∙◌, ◌∷◌, ◌≡◌, ◌≤◌}
use Rattle.dn_shaper.proofs.Accepting.{none-waits, some-waits}
use Rattle.dn_shaper.proofs.NextStarts.{zero_from_none, none_late, all_late}
use Rattle.dn_shaper.proofs.Settles.{none-starts, can-start, first-starts, kept-some, kept-none, least-due, link-after, only-starts, popped-keys, popped-least, popped-room, rates-read}
use Rattle.dn_shaper.proofs.links.settle.settle_one.Goals.{After-index-link, After-start_next, After-unwrap-moment}
use Rattle.dn_shaper.proofs.links.settle.settle_one.Goals as goal

pub returns-in_default-clause-none : goal.returns-in_default-clause-none
returns-in_default-clause-none c = λ _. none-starts (settings_of c.args.configured.now) c.requires.kept (none_late c.args.at _ (zero_from_none _ c.in_default.ensures.some.1))

pub returns-then-at-top-clause-none : goal.returns-then-at-top-clause-none
returns-then-at-top-clause-none c = λ _.
    let top = ap (λ (x : NextStart). x.moment) c.in-Some.top-is in
    let late = c.if-at-top.true in
    none-starts (settings_of c.args.configured.now) c.requires.kept (all_late c.args.at _ _ c.in-Some.ensures.least (omega arith))

-- ---- The start that is popped is due, and its link can start

module _ (c : After-unwrap-moment) where
  popped : IsPermutation c.args.heap.now.keys (c.unwrap-moment.result ∷ c.pop.new.self.keys)
  popped = popped-keys c.args.heap.now c.pop.new.self c.unwrap-moment.ensures c.pop.ensures.keys

  room : c.pop.new.self.room ≡ c.args.heap.now.room + 1
  room = popped-room c.args.heap.now c.pop.new.self c.unwrap-moment.ensures c.pop.ensures.room

  -- The heap has as many places as before.
  places : length c.pop.new.self.keys + c.pop.new.self.room ≡ length c.args.heap.now.keys + c.args.heap.now.room
  places =
      let fewer = length_permutation c.args.heap.now.keys (c.unwrap-moment.result ∷ c.pop.new.self.keys) popped in
      let more = room in
      omega arith

  least : IsLeast next_start_cmp c.unwrap-moment.result c.args.heap.now.keys
  least = popped-least c.args.heap.now c.pop.new.self c.unwrap-moment.ensures c.pop.ensures.least

  due : c.unwrap-moment.result.moment ≤ c.args.at
  due =
      let moment = ap (λ (x : NextStart). x.moment) c.in-Some.top-is in
      let late = c.if-at-top.false in
      least-due c.args.at c.args.heap.now.keys c.unwrap-moment.result c.in-Some.field-0.now least c.in-Some.ensures.held (omega arith)

pub index-requires : goal.index-requires
index-requires c =
    let old = c.args.parts.now in
    let can = can-start c.requires.kept (popped (goal.at.index-requires c).After-unwrap-moment) in
    let below = get-below-map (view_of (queue_lengths old.flows.flows)) old.links.items c.unwrap-moment.result.place _ can.there in
    grind (arith, common_steps)

pub start_next-requires-clause-can : goal.start_next-requires-clause-can
start_next-requires-clause-can c = can-start c.requires.kept (popped (goal.at.start_next-requires-clause-can c).After-unwrap-moment)

pub start_next-requires-clause-early : goal.start_next-requires-clause-early
start_next-requires-clause-early c =
    let soon = due (goal.at.start_next-requires-clause-early c).After-unwrap-moment in
    let early = c.requires.early in
    omega arith

pub index-link-requires : goal.index-link-requires
index-link-requires c =
    let new = c.start_next.new.parts in
    let starts = c.start_next.ensures.starts in
    let below = get-below-map (view_of (queue_lengths new.flows.flows)) new.links.items c.unwrap-moment.result.place starts.view' (link-after starts) in
    grind (arith, common_steps)

-- The rates that were read are those of the link.
rates : (c : After-start_next) → GivesRates (settings_of c.args.configured.now) (pipe_of c.start_next.ensures.starts.view.link) c.rates-rates.result.bandwidth c.rates-rates.result.delay
rates c = rates-read c.start_next.ensures.starts c.index.ensures c.rates-rates.ensures

-- ---- The heap holds the link again where others wait

-- The link that was read is the one that started.
same : (c : After-index-link) → view_of (queue_lengths c.start_next.new.parts.flows.flows) c.index-link.result.now ≡ c.start_next.ensures.starts.view'
same c =
    let new = c.start_next.new.parts in
    let starts = c.start_next.ensures.starts in
    (viewed (view_of (queue_lengths new.flows.flows)) new.links.items c.unwrap-moment.result.place c.index-link.result.now starts.view' (link-after starts) c.index-link.ensures).1

pub returns-then-has_backlog-clause-kept : goal.returns-then-has_backlog-clause-kept
returns-then-has_backlog-clause-kept c =
    let w = goal.at.returns-then-has_backlog-clause-kept c in
    let view = view_of (queue_lengths c.start_next.new.parts.flows.flows) c.index-link.result.now in
    let some = subst (λ (x : LinkView). 0 < x.waits) (same w.After-index-link) (some-waits view.waits c.has_backlog.result c.has_backlog.ensures c.if-has_backlog.true) in
    let free = c.free-moment.ensures ∙ ap (λ (x : LinkView). x.value.free) (same w.After-index-link) in
    let keys = subst (λ (m : ℕ). IsPermutation (record { moment = m; place = c.unwrap-moment.result.place } ∷ c.pop.new.self.keys) c.push_reserved.new.self.keys) free c.push_reserved.ensures.keys in
    let more = room w.After-unwrap-moment in
    let one = c.push_reserved.ensures.room in
    kept-some c.requires.kept (popped w.After-unwrap-moment) c.start_next.ensures.starts (rates w.After-start_next) some c.push_reserved.new.self keys (omega arith)

pub returns-else-has_backlog-clause-kept : goal.returns-else-has_backlog-clause-kept
returns-else-has_backlog-clause-kept c =
    let w = goal.at.returns-else-has_backlog-clause-kept c in
    let view = view_of (queue_lengths c.start_next.new.parts.flows.flows) c.index-link.result.now in
    let waits = ap {B = ℕ} (λ (x : LinkView). x.waits) (same w.After-index-link) in
    let none = none-waits view.waits c.has_backlog.result c.has_backlog.ensures c.if-has_backlog.false in
    kept-none c.requires.kept (popped w.After-unwrap-moment) c.start_next.ensures.starts (rates w.After-start_next) (omega arith) c.pop.new.self refl (room w.After-unwrap-moment)

pub returns-then-has_backlog-clause-only : goal.returns-then-has_backlog-clause-only
returns-then-has_backlog-clause-only c =
    let w = goal.at.returns-then-has_backlog-clause-only c in
    let pushes = c.push_reserved.ensures.moves in
    let one = c.push_reserved.ensures.room in
    let left = places w.After-unwrap-moment in
    let after = length_permutation (record { moment = c.free-moment.result; place = c.unwrap-moment.result.place } ∷ c.pop.new.self.keys) c.push_reserved.new.self.keys c.push_reserved.ensures.keys in
    only-starts c.requires.kept (popped w.After-unwrap-moment) c.start_next.ensures.starts (rates w.After-start_next) c.push_reserved.new.self
    (omega (arith, c.pop.ensures.keeps_moves, c.start_next.ensures.starts.waiting)) (omega arith)

pub returns-else-has_backlog-clause-only : goal.returns-else-has_backlog-clause-only
returns-else-has_backlog-clause-only c =
    let w = goal.at.returns-else-has_backlog-clause-only c in
    only-starts c.requires.kept (popped w.After-unwrap-moment) c.start_next.ensures.starts (rates w.After-start_next) c.pop.new.self
    (omega (arith, c.pop.ensures.keeps_moves, c.start_next.ensures.starts.waiting)) (places w.After-unwrap-moment)

-- ---- It was the first start of all links

pub returns-then-has_backlog-clause-one : goal.returns-then-has_backlog-clause-one
returns-then-has_backlog-clause-one c = λ _.
    let w = goal.at.returns-then-has_backlog-clause-one c in
    first-starts c.requires.kept (popped w.After-unwrap-moment) c.start_next.ensures.starts (rates w.After-start_next) c.args.at (least w.After-unwrap-moment) (due w.After-unwrap-moment)

pub returns-else-has_backlog-clause-one : goal.returns-else-has_backlog-clause-one
returns-else-has_backlog-clause-one c = λ _.
    let w = goal.at.returns-else-has_backlog-clause-one c in
    first-starts c.requires.kept (popped w.After-unwrap-moment) c.start_next.ensures.starts (rates w.After-start_next) c.args.at (least w.After-unwrap-moment) (due w.After-unwrap-moment)
