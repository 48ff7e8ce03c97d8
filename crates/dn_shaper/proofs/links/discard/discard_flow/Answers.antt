-- The flow's packets leave its link.
use Rattle.dn_shaper.proofs.Words.{Contains, FlowStatus, HoldsCount, IsPermutation, LinkState, LinkView, Some, ap, arith, common_steps, get-below-map, homes_of, inl, inr, queue_lengths, slice_get}
use Rattle.dn_shaper.proofs.Words.{subst, sym, view_of, viewed, ℕ, ◌<◌, ◌∙◌, ◌∷◌, ◌≡◌}
use Rattle.dn_shaper.proofs.Accepting.{none-waits, some-waits}
use Rattle.dn_shaper.proofs.Discarding.{few-there, is-home, holds, alone, enough-all, discards-agree, discards-within, discards-keeps, still-next}
use Rattle.dn_shaper.proofs.HomeRead.{at-home, in-table}
use Rattle.dn_shaper.proofs.Leaving.{emptied-kept, key-held, key-once, key-within, link-after, still-kept}
use Rattle.dn_shaper.proofs.links.discard.discard_flow.Goals.{After-home-home, After-index-link}
use Rattle.dn_shaper.proofs.links.discard.discard_flow.Goals as goal

pub home-home-requires : goal.home-home-requires
home-home-requires c =
    in-table c.args.parts.now c.requires.kept.agrees c.requires.within

-- The home that was read is the flow's.
home-read : (c : After-home-home) → slice_get (homes_of c.args.parts.now.flows.flows) c.args.flow ≡ Some c.home-home.result
home-read c = at-home c.args.parts.now c.requires.kept.agrees c.requires.within c.home-home.ensures

pub empty_flow-requires-clause-at : goal.empty_flow-requires-clause-at
empty_flow-requires-clause-at c =
    let home = home-read (goal.at.empty_flow-requires-clause-at c).After-home-home in
    let k = c.requires.kept in
    let is = is-home k.within k.agrees c.requires.within home in
    let count = sym (ap {B = ℕ} (λ (s : FlowStatus). s.queued) c.status-count.ensures.value) in
    (is.view, is.there, subst (λ (n : ℕ). HoldsCount c.home-home.result.slot n is.view is.view.link) count (holds k.within k.agrees c.requires.within home))

pub empty_flow-requires-clause-alone : goal.empty_flow-requires-clause-alone
empty_flow-requires-clause-alone c =
    alone c.requires.kept.within c.requires.kept.agrees c.requires.within (home-read (goal.at.empty_flow-requires-clause-alone c).After-home-home)

pub empty_flow-requires-clause-waiting : goal.empty_flow-requires-clause-waiting
empty_flow-requires-clause-waiting c =
    let queued = ap {B = ℕ} (λ (s : FlowStatus). s.queued) c.status-count.ensures.value in
    let enough = enough-all c.requires.kept.within c.requires.kept.agrees c.requires.within (home-read (goal.at.empty_flow-requires-clause-waiting c).After-home-home) in
    omega arith

pub empty_flow-requires-clause-few : goal.empty_flow-requires-clause-few
empty_flow-requires-clause-few c = few-there c.requires.kept.within c.requires.kept.agrees c.requires.within

-- ---- There were no packets

pub returns-then-count-eq0-clause-discards : goal.returns-then-count-eq0-clause-discards
returns-then-count-eq0-clause-discards c =
    let w = (goal.at.returns-then-count-eq0-clause-discards c).After-home-home in
    discards-agree c.requires.kept.within c.requires.kept.agrees c.requires.within (home-read w) c.empty_flow.ensures

pub returns-then-count-eq0-clause-kept : goal.returns-then-count-eq0-clause-kept
returns-then-count-eq0-clause-kept c =
    let w = (goal.at.returns-then-count-eq0-clause-kept c).After-home-home in
    let count = ap {B = ℕ} (λ (s : FlowStatus). s.queued) c.status-count.ensures.value in
    still-kept c.requires.kept c.requires.within (home-read w) c.empty_flow.ensures
    (still-next c.requires.kept.within c.requires.kept.agrees c.requires.within (home-read w) c.empty_flow.ensures (inr (omega (arith, count, c.if-count-eq0.true))))

pub returns-then-count-eq0-clause-within : goal.returns-then-count-eq0-clause-within
returns-then-count-eq0-clause-within c =
    let w = (goal.at.returns-then-count-eq0-clause-within c).After-home-home in
    discards-within c.requires.kept.within c.requires.kept.agrees c.requires.within (home-read w) c.empty_flow.ensures

pub returns-then-count-eq0-clause-keeps : goal.returns-then-count-eq0-clause-keeps
returns-then-count-eq0-clause-keeps c =
    let w = (goal.at.returns-then-count-eq0-clause-keeps c).After-home-home in
    discards-keeps c.requires.kept.within c.requires.kept.agrees c.requires.within (home-read w) c.empty_flow.ensures

-- ---- The link is read after them

pub index-link-requires : goal.index-link-requires
index-link-requires c =
    let new = c.empty_flow.new.parts in
    let below = get-below-map (view_of (queue_lengths new.flows.flows)) new.links.items c.home-home.result.place c.empty_flow.ensures.view'
    (link-after c.empty_flow.ensures) in
    grind (arith, common_steps)

module _ (c : After-index-link) where
  same : view_of (queue_lengths c.empty_flow.new.parts.flows.flows) c.index-link.result.now ≡ c.empty_flow.ensures.view'
  same =
      (viewed (view_of (queue_lengths c.empty_flow.new.parts.flows.flows)) c.empty_flow.new.parts.links.items c.home-home.result.place
      c.index-link.result.now c.empty_flow.ensures.view' (link-after c.empty_flow.ensures) c.index-link.ensures).1

  -- Packets waited for it.
  some : 0 < c.empty_flow.ensures.view.waits
  some =
      let count = ap {B = ℕ} (λ (s : FlowStatus). s.queued) c.status-count.ensures.value in
      let leaves = c.empty_flow.ensures.leaves.waits in
      omega (arith, count, leaves, c.if-count-eq0.false)

-- The moment that was read is the one from which the link was free before.
free-read : (c : After-index-link) (m : ℕ) → m ≡ c.index-link.result.now.times.free → m ≡ c.empty_flow.ensures.view.value.free
free-read c m read = read ∙ ap (λ (x : LinkView). x.value.free) (same c) ∙ ap {B = ℕ} (λ (x : LinkState). x.free) c.empty_flow.ensures.leaves.value

pub leave-requires-clause-held : goal.leave-requires-clause-held
leave-requires-clause-held c =
    let w = goal.at.leave-requires-clause-held c in
    subst (λ (m : ℕ). Contains c.args.heap.now.keys (record { moment = m; place = c.home-home.result.place })) (sym (free-read w.After-index-link c.free-moment.result c.free-moment.ensures))
    (key-held c.requires.kept c.requires.within (home-read w.After-home-home) c.empty_flow.ensures (some w.After-index-link))

pub leave-requires-clause-once : goal.leave-requires-clause-once
leave-requires-clause-once c =
    let w = goal.at.leave-requires-clause-once c in
    key-once c.requires.kept c.requires.within (home-read w.After-home-home) c.empty_flow.ensures (some w.After-index-link)

pub leave-requires-clause-within : goal.leave-requires-clause-within
leave-requires-clause-within c =
    let w = goal.at.leave-requires-clause-within c in
    key-within c.requires.kept c.requires.within (home-read w.After-home-home) c.empty_flow.ensures (some w.After-index-link)

-- ---- The link is emptied

pub returns-then-not-has_backlog-clause-discards : goal.returns-then-not-has_backlog-clause-discards
returns-then-not-has_backlog-clause-discards c =
    let w = (goal.at.returns-then-not-has_backlog-clause-discards c).After-home-home in
    discards-agree c.requires.kept.within c.requires.kept.agrees c.requires.within (home-read w) c.empty_flow.ensures

pub returns-then-not-has_backlog-clause-kept : goal.returns-then-not-has_backlog-clause-kept
returns-then-not-has_backlog-clause-kept c =
    let w = goal.at.returns-then-not-has_backlog-clause-kept c in
    let view = view_of (queue_lengths c.empty_flow.new.parts.flows.flows) c.index-link.result.now in
    let none = none-waits view.waits c.has_backlog.result c.has_backlog.ensures c.if-not-has_backlog.true in
    let waits = ap {B = ℕ} (λ (x : LinkView). x.waits) (same w.After-index-link) in
    emptied-kept c.requires.kept c.requires.within (home-read w.After-home-home) c.empty_flow.ensures (some w.After-index-link)
    (omega (arith, none, waits)) c.leave.new.self
    (subst (λ (m : ℕ). IsPermutation c.args.heap.now.keys (record { moment = m; place = c.home-home.result.place } ∷ c.leave.new.self.keys))
    (free-read w.After-index-link c.free-moment.result c.free-moment.ensures) c.leave.ensures.keys)
    c.leave.ensures.room

pub returns-then-not-has_backlog-clause-within : goal.returns-then-not-has_backlog-clause-within
returns-then-not-has_backlog-clause-within c =
    let w = (goal.at.returns-then-not-has_backlog-clause-within c).After-home-home in
    discards-within c.requires.kept.within c.requires.kept.agrees c.requires.within (home-read w) c.empty_flow.ensures

pub returns-then-not-has_backlog-clause-keeps : goal.returns-then-not-has_backlog-clause-keeps
returns-then-not-has_backlog-clause-keeps c =
    let w = (goal.at.returns-then-not-has_backlog-clause-keeps c).After-home-home in
    discards-keeps c.requires.kept.within c.requires.kept.agrees c.requires.within (home-read w) c.empty_flow.ensures

-- ---- Other packets wait for it

pub returns-else-not-has_backlog-clause-discards : goal.returns-else-not-has_backlog-clause-discards
returns-else-not-has_backlog-clause-discards c =
    let w = (goal.at.returns-else-not-has_backlog-clause-discards c).After-home-home in
    discards-agree c.requires.kept.within c.requires.kept.agrees c.requires.within (home-read w) c.empty_flow.ensures

pub returns-else-not-has_backlog-clause-kept : goal.returns-else-not-has_backlog-clause-kept
returns-else-not-has_backlog-clause-kept c =
    let w = goal.at.returns-else-not-has_backlog-clause-kept c in
    let view = view_of (queue_lengths c.empty_flow.new.parts.flows.flows) c.index-link.result.now in
    let some-left = some-waits view.waits c.has_backlog.result c.has_backlog.ensures c.if-not-has_backlog.false in
    let waits = ap {B = ℕ} (λ (x : LinkView). x.waits) (same w.After-index-link) in
    still-kept c.requires.kept c.requires.within (home-read w.After-home-home) c.empty_flow.ensures
    (still-next c.requires.kept.within c.requires.kept.agrees c.requires.within (home-read w.After-home-home) c.empty_flow.ensures
    (inl (omega (arith, some-left, waits))))

pub returns-else-not-has_backlog-clause-within : goal.returns-else-not-has_backlog-clause-within
returns-else-not-has_backlog-clause-within c =
    let w = (goal.at.returns-else-not-has_backlog-clause-within c).After-home-home in
    discards-within c.requires.kept.within c.requires.kept.agrees c.requires.within (home-read w) c.empty_flow.ensures

pub returns-else-not-has_backlog-clause-keeps : goal.returns-else-not-has_backlog-clause-keeps
returns-else-not-has_backlog-clause-keeps c =
    let w = (goal.at.returns-else-not-has_backlog-clause-keeps c).After-home-home in
    discards-keeps c.requires.kept.within c.requires.kept.agrees c.requires.within (home-read w) c.empty_flow.ensures
