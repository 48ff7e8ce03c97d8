use Rattle.dn_flows.proofs.Words.{AreListed, AreStored, FlowKey, FlowQueue, KeepsOthers, List, Members, Table, Unsent, [], all_with_unsent, ap, arith, cond, length, length-take, map, reservations}
use Rattle.dn_flows.proofs.Words.{reserved_one, rules, slice_get, state_of, subst, sym, take, vec_len, ℕ, ◌++◌, ◌+◌, ◌-◌, ◌∙◌, ◌∷◌, ◌≡◌}
use Rattle.dn_flows.proofs.Entries.{listed-less}
use Rattle.dn_flows.proofs.Places.{get-kept, length-more, sum-more}
use Rattle.dn_flows.proofs.Tables.{last-out, without-last}
use Rattle.dn_flows.proofs.flows.Flows.forget_last.Goals.{After-pop-2, In-Some, in_default-via-in-None-1, in_default-via-in-Some+else-queue}
use Rattle.dn_flows.proofs.flows.Flows.forget_last.Goals as goal

-- the last key and the last queue are out, and the flow is in no list
listed-then : (keys : List FlowKey) (queues queues' : List FlowQueue) (m m' : Members) (flow : ℕ) (q : FlowQueue) → queues ≡ queues' ++ q ∷ [] → flow ≡ length keys - 1 → {keys' : List FlowKey}
    → keys' ≡ take (length keys - 1) keys → KeepsOthers flow m m' → length keys ≡ length queues → AreListed keys queues m → AreListed keys' queues' m'
listed-then keys queues queues' m m' flow q items at-end rest keeps many a =
    let longer = ap (λ (qs : List FlowQueue). length qs) items ∙ length-more queues' q in
    let fewer : length queues' ≡ flow = omega arith in
    subst (λ (ks : List FlowKey). AreListed ks queues' m') (ap (λ n. take n keys) at-end ∙ sym rest)
    (listed-less keys queues queues' m m' flow a keeps fewer (λ g x e. ap (λ (qs : List FlowQueue). slice_get qs g) items ∙ get-kept queues' q x g e))

module _ (c : In-Some) where
  -- The places that are reserved are those of the flows that stay and of the one that is out.
  counted : c.self.inside.reserved ≡ reservations c.pop-2.new.self.items + reserved_one c.in-Some.queue
  counted = c.self.invariant.1.0 ∙ ap reservations c.in-Some.ensures.items ∙ sum-more reserved_one c.pop-2.new.self.items c.in-Some.queue

  -- What stays is as the flow's queue is out, whether or not it had a place.
  stays : (length c.forget_last_key.new.keys.keys ≡ length c.pop-2.new.self.items) × AreStored c.self.inside.packets c.pop-2.new.self.items
      × (length c.pop.new.self.items ≡ length c.pop-2.new.self.items) × AreListed c.forget_last_key.new.keys.keys c.pop-2.new.self.items c.forget_last_key.new.members
  stays =
      let items = c.in-Some.ensures.items in
      let fewer-counts = ap (λ (us : List Unsent). length us) c.pop.ensures.rest ∙ length-take _ c.self.inside.unsent.items in
      let queues-ok = c.self.inside.queues.ok.0 in
      let before = c.self.invariant.3 in
      let longer = ap (λ (qs : List FlowQueue). length qs) items ∙ length-more c.pop-2.new.self.items c.in-Some.queue in
      let as-many = c.self.invariant.0 in
      let there = c.len.ensures in
      let less = c.saturating_sub-flow.ensures in
      let at-end : c.saturating_sub-flow.result ≡ length c.self.inside.keys.keys - 1 = omega arith in (
        search rules,
        without-last c.self.inside.packets c.pop-2.new.self.items c.in-Some.queue (subst (AreStored c.self.inside.packets) items c.self.invariant.2),
        omega arith,
        listed-then c.self.inside.keys.keys c.self.inside.queues.items c.pop-2.new.self.items c.self.inside.members c.forget_last_key.new.members
            c.saturating_sub-flow.result c.in-Some.queue items at-end
            c.forget_last_key.ensures.keys c.forget_last_key.ensures.members as-many c.self.invariant.4,
      )

-- The flow had no place.
pub invariant_of-self-else-queue : goal.invariant_of-self-else-queue
invariant_of-self-else-queue c =
    let w = (goal.at.invariant_of-self-else-queue c).In-Some in
    let none : reserved_one c.in-Some.queue ≡ 0 = ap (λ b. cond b 1 0) c.if-queue.false in
    let count = counted w in
    let is = stays w in
    (is.0, (omega arith, c.self.invariant.1.1), is.1, is.2, is.3)

-- The flow's place is let go.
pub invariant_of-self-2 : goal.invariant_of-self-2
invariant_of-self-2 c =
    let w = (goal.at.invariant_of-self-2 c).In-Some in
    let one : reserved_one c.in-Some.queue ≡ 1 = ap (λ b. cond b 1 0) c.if-queue.true in
    let count = counted w in
    let room = c.self.invariant.1.1 in
    let is = stays w in
    (is.0, (omega arith, omega arith), is.1, is.2, is.3)

-- The last flow is out.
out : (c : After-pop-2) → let seen = all_with_unsent (map (state_of c.self.inside.packets) c.self.inside.queues.items) c.self.inside.unsent.items in
    all_with_unsent (map (state_of c.self.inside.packets) c.pop-2.new.self.items) c.pop.new.self.items ≡ take (length seen - 1) seen
out c =
    let queues : vec_len c.self.inside.queues ≡ length c.self.inside.queues.items = omega arith in
    let counts : vec_len c.self.inside.unsent ≡ length c.self.inside.unsent.items = omega arith in
    last-out c.self.inside.packets c.self.inside.queues.items c.pop-2.new.self.items c.self.inside.unsent.items c.pop.new.self.items
    (c.pop-2.ensures.rest ∙ ap (λ n. take (n - 1) c.self.inside.queues.items) queues)
    (c.pop.ensures.rest ∙ ap (λ n. take (n - 1) c.self.inside.unsent.items) counts) c.self.invariant.3

pub returns-then-queue-clause-flows : goal.returns-then-queue-clause-flows
returns-then-queue-clause-flows c = rw (← c.self.view_is) (out (goal.at.returns-then-queue-clause-flows c).After-pop-2)

pub returns-in_default-clause-flows : goal.returns-in_default-clause-flows
returns-in_default-clause-flows c =
    let less = out (goal.at.returns-in_default-clause-flows c).After-pop-2 in
    rw (← c.self.view_is) (elim c.in_default.branch [
      | in_default-via-in-None-1 w ↦ ap (λ (t : Table). t.flows) w.self-is ∙ less
      | in_default-via-in-Some+else-queue w ↦ ap (λ (t : Table). t.flows) w.self-is ∙ less
    ])
