use Rattle.dn_flows.proofs.Words.{AreListed, AreStored, Err, FlowQueue, HasReserved, List, Ok, OnErr, Packets, Result, ap, arith, common_steps, false, flow_at, get, length, length-set, refl, set}
use Rattle.dn_flows.proofs.Words.{subst, sym, true, waiting_from, with_place, ℕ, ◌+◌, ◌∙◌, ◌≡◌, ◌≤◌}
use Rattle.dn_flows.proofs.Entries.{listed-set, set-twice}
use Rattle.dn_flows.proofs.Places.{get-set}
use Rattle.dn_flows.proofs.Tables.{IsAt, as-many-flows, counting, listing, placing, same-reserved, one-more, few-reserved, reads, seen, there}
use Rattle.dn_flows.proofs.flows.Flows.reserve_place.Goals.{After-index_mut-queue, After-list, After-reserve}
use Rattle.dn_flows.proofs.flows.Flows.reserve_place.Goals as goal

on-err : {T E : Type 0} (r : Result T E) {Q : Type 0} → Q → OnErr r Q
on-err (Ok x) q = tt
on-err (Err e) q = q

-- The queue that was read is the flow's.
here : (c : After-index_mut-queue) → IsAt c.self.inside.packets c.self.inside.queues.items c.self.inside.unsent.items c.args.flow c.index_mut-queue.result.now
here c = record { are = c.self.invariant.2; within = rw (← c.self.view_is) at c.requires; read = c.index_mut-queue.ensures.value }

-- No more places are reserved than there are flows.
few : (c : After-index_mut-queue) → c.index_mut-queue.result.now.reserved ≡ false → c.self.inside.reserved + 1 ≤ length c.self.inside.queues.items
few c none =
    let fewer = few-reserved (here c) none in
    let count = c.self.invariant.1.0 in
    omega arith

pub overflow_add-self-inside : goal.overflow_add-self-inside
overflow_add-self-inside c =
    let fewer = few (goal.at.overflow_add-self-inside c).After-index_mut-queue c.if-queue.false in
    omega arith

pub overflow_add-self : goal.overflow_add-self
overflow_add-self c =
    let fewer = few (goal.at.overflow_add-self c).After-index_mut-queue c.if-queue.false in
    omega arith

pub list-requires-clause-within : goal.list-requires-clause-within
list-requires-clause-within c =
    let many = as-many-flows c.self.inside.packets c.self.inside.queues.items c.self.inside.unsent.items in
    let within = rw (← c.self.view_is) at c.requires in
    omega arith

pub list-requires-clause-is_listed : goal.list-requires-clause-is_listed
list-requires-clause-is_listed c =
    c.self.invariant.4.listed c.args.flow c.index_mut-queue.result.now (there (here (goal.at.list-requires-clause-is_listed c).After-index_mut-queue))

-- A refusal leaves the queue, but for the lists that it is in. The store may have got room.
module _ (c : After-list) (at : IsAt c.self.inside.packets c.self.inside.queues.items c.self.inside.unsent.items c.args.flow c.index_mut-queue.result.now)
    (store : Packets) (same : (key : ℕ) → get store key ≡ get c.self.inside.packets key) where
  abbrev queues : List FlowQueue
  queues = set c.self.inside.queues.items c.args.flow c.list.new.queue

  refused : HasReserved store c.self.inside.queues.items c.self.inside.reserved
      → (length c.self.inside.keys.keys ≡ length queues) × HasReserved store queues c.self.inside.reserved × AreStored store queues
      × (length c.self.inside.unsent.items ≡ length queues) × AreListed c.self.inside.keys.keys queues c.list.new.members
  refused has = (
    c.self.invariant.0 ∙ sym (length-set c.self.inside.queues.items c.args.flow c.list.new.queue),
    (has.0 ∙ sym (same-reserved at c.list.new.queue (ap (λ (x : FlowQueue). x.reserved) c.list.ensures.same)), has.1),
    (listing at store c.list.new.queue c.list.ensures.same same).0,
    c.self.invariant.3 ∙ sym (length-set c.self.inside.queues.items c.args.flow c.list.new.queue),
    c.list.ensures.listed c.self.inside.queues.items c.self.invariant.4 (there at),
  )

pub invariant_of-self-in_err-list : goal.invariant_of-self-in_err-list
invariant_of-self-in_err-list c =
    let w = goal.at.invariant_of-self-in_err-list c in
    refused w.After-list (here w.After-index_mut-queue) c.self.inside.packets (λ key. refl) c.self.invariant.1

pub returns-in_err-list-clause-err : goal.returns-in_err-list-clause-err
returns-in_err-list-clause-err c =
    on-err c.from_residual.result (rw (← c.self.view_is) (
      refl,
      (listing (here (goal.at.returns-in_err-list-clause-err c).After-index_mut-queue)
          c.self.inside.packets c.list.new.queue c.list.ensures.same (λ key. refl)).1,
    ))

-- A flow with a place would have had it.
unreserved : (c : After-index_mut-queue) → c.index_mut-queue.result.now.reserved ≡ false → (flow_at (seen (here c)) c.args.flow).reserved ≡ true → ⊥
unreserved c none had = let both : true ≡ false = sym had ∙ (reads (here c)).reserved ∙ none in cc

pub returns-in_err-list-clause-succeeds : goal.returns-in_err-list-clause-succeeds
returns-in_err-list-clause-succeeds c =
    rw (← c.self.view_is) (λ had. absurd (unreserved (goal.at.returns-in_err-list-clause-succeeds c).After-index_mut-queue c.if-queue.false had))

-- The store has the same packets after it got room.
grown : (c : After-reserve) (key : ℕ) → get c.reserve.new.self key ≡ get c.self.inside.packets key
grown c key = ap (λ (s : Packets). get s key) c.reserve.ensures.rest_kept

pub invariant_of-self-in_err-reserve : goal.invariant_of-self-in_err-reserve
invariant_of-self-in_err-reserve c =
    let w = goal.at.invariant_of-self-in_err-reserve c in
    let room = c.self.invariant.1.1 in
    let rest = ap (λ (s : Packets). s.len) c.reserve.ensures.rest_kept in
    let capacity = c.reserve.ensures.capacity in
    refused w.After-list (here w.After-index_mut-queue) c.reserve.new.self (grown w.After-reserve) (c.self.invariant.1.0, omega arith)

pub returns-in_err-reserve-clause-err : goal.returns-in_err-reserve-clause-err
returns-in_err-reserve-clause-err c =
    let w = goal.at.returns-in_err-reserve-clause-err c in
    on-err c.from_residual-in_err-reserve.result (rw (← c.self.view_is)
    (refl, (listing (here w.After-index_mut-queue) c.reserve.new.self c.list.new.queue c.list.ensures.same (grown w.After-reserve)).1))

-- The flow has a place, in the room that was made.
pub invariant_of-self-2 : goal.invariant_of-self-2
invariant_of-self-2 c =
    let w = goal.at.invariant_of-self-2 c in
    let at = here w.After-index_mut-queue in
    let t = c.self.inside in
    let q' = c.list.new.queue in
    let q'' = record q' { reserved = true } in
    let more = one-more at q'' c.if-queue.false refl in
    let count = c.self.invariant.1.0 in
    let room = c.in_ok-reserve.ensures.room in
    let both : (q'.on_pipe ≡ true) × (q'.of_queue ≡ true) = (c.in_ok-list.ensures.on_pipe, c.in_ok-list.ensures.of_queue) in (
      c.self.invariant.0 ∙ sym (length-set t.queues.items c.args.flow q''),
      (omega arith, omega arith),
      (placing at c.reserve.new.self q' c.list.ensures.same (grown w.After-reserve)).stored,
      c.self.invariant.3 ∙ sym (length-set t.queues.items c.args.flow q''),
      subst (λ (qs : List FlowQueue). AreListed t.keys.keys qs c.list.new.members) (set-twice t.queues.items c.args.flow q' q'')
          (listed-set t.keys.keys (set t.queues.items c.args.flow q') c.list.new.members c.args.flow q' q'' (c.list.ensures.listed t.queues.items c.self.invariant.4 (there at))
          (get-set t.queues.items c.args.flow c.index_mut-queue.result.now q' (there at)) refl refl (record { reserved = λ h. both; active = λ h. both })),
    )

pub returns-clause-reserved : goal.returns-clause-reserved
returns-clause-reserved c =
    let w = goal.at.returns-clause-reserved c in
    rw (← c.self.view_is) (placing (here w.After-index_mut-queue) c.reserve.new.self c.list.new.queue c.list.ensures.same (grown w.After-reserve)).states

pub index_mut-queue-requires : goal.index_mut-queue-requires
index_mut-queue-requires c =
    let many = as-many-flows c.self.inside.packets c.self.inside.queues.items c.self.inside.unsent.items in
    grind (arith, common_steps)

-- The flow had a place.
pub returns-then-queue-clause-reserved : goal.returns-then-queue-clause-reserved
returns-then-queue-clause-reserved c =
    let q = c.index_mut-queue.result.now in
    rw (← c.self.view_is) (counting (here (goal.at.returns-then-queue-clause-reserved c).After-index_mut-queue) c.self.inside.packets q with_place (λ u s. refl) (λ key. refl) (refl, refl, refl, refl)
    (λ i. record { backlog = waiting_from c.self.inside.packets q.front q.len; reserved = c.if-queue.true i; active = q.active; lost = 0; full = 0; started = q.started; discarded = 0; home = q.home })).states

pub returns-in_err-reserve-clause-succeeds : goal.returns-in_err-reserve-clause-succeeds
returns-in_err-reserve-clause-succeeds c =
    rw (← c.self.view_is) (λ had. absurd (unreserved (goal.at.returns-in_err-reserve-clause-succeeds c).After-index_mut-queue c.if-queue.false had))
