use Rattle.dn_flows.proofs.Words.{FlowQueue, FlowState, List, Waiting, [], all_with_unsent, ap, arith, common_steps, false, flow_at, inl, length, length-set, map, popped, pushed, refl}
use Rattle.dn_flows.proofs.Words.{reservations, set, slice_set, state_of, sym, true, ℕ, ◌+◌, ◌∙◌, ◌∷◌, ◌≡◌}
use Rattle.dn_flows.proofs.Entries.{listed-q, listed-set}
use Rattle.dn_flows.proofs.Tables.{After, IsAt, as-many-flows, counting, one-less, reads, seen, there}
use Rattle.dn_flows.proofs.flows.Flows.pass.Goals.{After-index_mut-queue}
use Rattle.dn_flows.proofs.flows.Flows.pass.Goals as goal

-- A flow with one start more, and no place reserved.
abbrev passed : FlowState → FlowState
passed s = record { backlog = s.backlog; reserved = false; active = true; lost = s.lost; full = s.full; started = s.started + 1; discarded = s.discarded; home = s.home }

-- Where none waits, it is the flow after a packet came and started.
passed-is : (w : Waiting) (s : FlowState) → s.backlog ≡ [] → passed s ≡ popped (pushed w s)
passed-is w s none =
    let before : passed s ≡ passed (record s { backlog = [] }) = ap (λ (ws : List Waiting). passed (record s { backlog = ws })) none in
    let after : popped (pushed w s) ≡ popped (pushed w (record s { backlog = [] })) = ap (λ (ws : List Waiting). popped (pushed w (record s { backlog = ws }))) none in
    before ∙ sym after

empty : (ws : List Waiting) → length ws ≡ 0 → ws ≡ []
empty [] e = refl
empty (w ∷ ws) e = absurd (omega arith)

passing : (flows : List FlowState) (flow : ℕ) (w : Waiting) (after : List FlowState) → after ≡ slice_set flows flow (passed (flow_at flows flow)) → length (flow_at flows flow).backlog ≡ 0
    → after ≡ slice_set flows flow (popped (pushed w (flow_at flows flow)))
passing flows flow w after is none = is ∙ ap (λ (s : FlowState). slice_set flows flow s) (passed-is w (flow_at flows flow) (empty (flow_at flows flow).backlog none))

pub index_mut-queue-requires : goal.index_mut-queue-requires
index_mut-queue-requires c =
    let many = as-many-flows c.self.inside.packets c.self.inside.queues.items c.self.inside.unsent.items in
    grind (arith, common_steps)

-- The queue that was read is the flow's.
here : (c : After-index_mut-queue) → IsAt c.self.inside.packets c.self.inside.queues.items c.self.inside.unsent.items c.args.flow c.index_mut-queue.result.now
here c = record { are = c.self.invariant.2; within = rw (← c.self.view_is) at c.requires.within; read = c.index_mut-queue.ensures.value }

pub overflow_add-queue : goal.overflow_add-queue
overflow_add-queue c =
    let count = rw (← c.self.view_is) at c.requires.count in
    let before = (reads (here (goal.at.overflow_add-queue c).After-index_mut-queue)).started in
    omega arith

module _ (c : After-index_mut-queue) where
  -- The queue as it is left.
  abbrev left : FlowQueue
  left = record c.index_mut-queue.result.now { reserved = false; active = true; started = c.index_mut-queue.result.now.started + 1 }

  had : c.index_mut-queue.result.now.reserved ≡ true
  had = sym (reads (here c)).reserved ∙ (rw (← c.self.view_is) at c.requires.reserved)

  -- The flow's place is used up.
  less : reservations (set c.self.inside.queues.items c.args.flow left) + 1 ≡ c.self.inside.reserved
  less = one-less (here c) left had refl ∙ sym c.self.invariant.1.0

  -- No packet moves.
  counted : After (here c) c.self.inside.packets left (passed (flow_at (seen (here c)) c.args.flow))
  counted = counting (here c) c.self.inside.packets left passed (λ u s. refl) (λ key. refl) (refl, refl, refl, refl) refl

pub overflow_sub-self : goal.overflow_sub-self
overflow_sub-self c = let fewer = less (goal.at.overflow_sub-self c).After-index_mut-queue in omega arith

pub invariant_of-self : goal.invariant_of-self
invariant_of-self c =
    let w = (goal.at.invariant_of-self c).After-index_mut-queue in
    let t = c.self.inside in
    let q = c.index_mut-queue.result.now in
    let fewer = less w in
    let at = there (here w) in (
      c.self.invariant.0 ∙ sym (length-set t.queues.items c.args.flow _),
      (omega arith, omega arith),
      (counted w).stored,
      c.self.invariant.3 ∙ sym (length-set t.queues.items c.args.flow _),
      listed-set t.keys.keys t.queues.items t.members c.args.flow q (left w) c.self.invariant.4 at refl refl
          (listed-q q (left w) (c.self.invariant.4.listed c.args.flow q at) refl refl (λ h. absurd cc) (λ h. inl (had w))),
    )

pub returns-clause-flows : goal.returns-clause-flows
returns-clause-flows c = λ waiting.
    let t = c.self.inside in
    let none = rw (← c.self.view_is) at c.requires.empty in
    rw (← c.self.view_is) (passing (all_with_unsent (map (state_of t.packets) t.queues.items) t.unsent.items) c.args.flow waiting _
    (counted (goal.at.returns-clause-flows c).After-index_mut-queue).states none)
