use Rattle.dn_heap.proofs.Words.{IsAscending, arith, length_permutation, refl, subst, sym}
use Rattle.dn_heap.proofs.Parted.{joins_heap, joins_run}
use Rattle.dn_heap.proofs.Runs.{joined}
use Rattle.dn_heap.proofs.run_heap.RunHeap.push_reserved.Goals as goal

pub invariant_of-self : goal.invariant_of-self
invariant_of-self g c =
    let before = c.self.invariant in
    let some = rw (← c.self.view_is) at c.requires.reserved in
    let pushed = c.push_back_reserved.ensures in
    let ascending = joined g.met.K.Ord.total c.self.inside.run.items c.args.key before.3 (c.if-can_join.ensures.in_order refl) in (
      omega (arith, before.0, pushed.len, some),
      omega (arith, before.1, pushed.len, pushed.capacity, some),
      omega (arith, before.2),
      subst (IsAscending g.K.Ord.cmp) (sym pushed.items) ascending,
    )

pub invariant_of-self-else-can_join : goal.invariant_of-self-else-can_join
invariant_of-self-else-can_join g c =
    let before = c.self.invariant in
    let some = rw (← c.self.view_is) at c.requires.reserved in
    let pushed = c.push_reserved.ensures in (
      omega (arith, before.0, pushed.room, some),
      omega (arith, before.1, length_permutation _ _ pushed.keys, some),
      omega (arith, before.2, pushed.moves),
      before.3,
    )

pub returns-then-can_join-clause-keys : goal.returns-then-can_join-clause-keys
returns-then-can_join-clause-keys g c = rw (← c.self.view_is, c.push_back_reserved.ensures.items) (joins_run c.args.key _ _)

pub returns-else-can_join-clause-keys : goal.returns-else-can_join-clause-keys
returns-else-can_join-clause-keys g c = rw (← c.self.view_is) (joins_heap c.args.key _ _ _ c.push_reserved.ensures.keys)
