-- The table counts the reserved places, and the flow's is one of them or one more.
use Rattle.dn_flows.proofs.Words.{ap, arith, common_steps, cond, flow_at, place_of, places, set, with_place, ◌+◌, ◌∙◌, ◌≡◌}
use Rattle.dn_flows.proofs.Reservations.{places-are, places-set}
use Rattle.dn_flows.proofs.Tables.{IsAt, as-many-flows, at-most-one-each, few-reserved, reads, seen}
use Rattle.dn_flows.proofs.flows.Flows.places_with.Goals.{After-index}
use Rattle.dn_flows.proofs.flows.Flows.places_with.Goals as goal

pub index-requires : goal.index-requires
index-requires c =
    let many = as-many-flows c.self.inside.packets c.self.inside.queues.items c.self.inside.unsent.items in
    grind (arith, common_steps)

module _ (c : After-index) where
  -- The queue that was read is the flow's.
  here : IsAt c.self.inside.packets c.self.inside.queues.items c.self.inside.unsent.items c.args.flow c.index.result.now
  here = record { are = c.self.invariant.2; within = rw (← c.self.view_is) at c.requires; read = c.index.ensures }

  -- The count once the flow has a place.
  with-one : places (set (seen here) c.args.flow (with_place (flow_at (seen here) c.args.flow))) + place_of (flow_at (seen here) c.args.flow) ≡ c.self.inside.reserved + 1
  with-one =
      let sums = places-set (seen here) c.args.flow (with_place (flow_at (seen here) c.args.flow)) here.within in
      let are = places-are c.self.inside.packets c.self.inside.queues.items c.self.inside.unsent.items in
      let count = c.self.invariant.1.0 in
      omega arith

pub overflow_add-result : goal.overflow_add-result
overflow_add-result c =
    let fewer = few-reserved (here (goal.at.overflow_add-result c).After-index) c.if-index.false in
    let count = c.self.invariant.1.0 in
    let ok = c.self.inside.queues.ok.0 in
    omega arith

pub returns-then-index-clause-value : goal.returns-then-index-clause-value
returns-then-index-clause-value c =
    let w = (goal.at.returns-then-index-clause-value c).After-index in
    let sums = with-one w in
    let had : place_of (flow_at (seen (here w)) c.args.flow) ≡ 1 = ap (λ b. cond b 1 0) ((reads (here w)).reserved ∙ c.if-index.true) in
    rw (← c.self.view_is) (omega arith)

pub returns-then-index-clause-bound : goal.returns-then-index-clause-bound
returns-then-index-clause-bound c =
    let fewer = at-most-one-each c.self.inside.queues.items in
    let count = c.self.invariant.1.0 in
    let ok = c.self.inside.queues.ok.0 in
    omega arith

pub returns-else-index-clause-value : goal.returns-else-index-clause-value
returns-else-index-clause-value c =
    let w = (goal.at.returns-else-index-clause-value c).After-index in
    let sums = with-one w in
    let none : place_of (flow_at (seen (here w)) c.args.flow) ≡ 0 = ap (λ b. cond b 1 0) ((reads (here w)).reserved ∙ c.if-index.false) in
    rw (← c.self.view_is) (omega arith)

pub returns-else-index-clause-bound : goal.returns-else-index-clause-bound
returns-else-index-clause-bound c =
    let fewer = few-reserved (here (goal.at.returns-else-index-clause-bound c).After-index) c.if-index.false in
    omega arith
