use Rattle.dn_heap.proofs.Words.{IfSome_then, arith, length_permutation, refl}
use Rattle.dn_heap.proofs.Parted.{leaves_heap, popped}
use Rattle.dn_heap.proofs.Runs.{first_of_all, top_of_all}
use Rattle.dn_heap.proofs.run_heap.RunHeap.pop.Goals as goal

pub returns-then-leads-clause-least : goal.returns-then-leads-clause-least
returns-then-leads-clause-least g c =
    rw (← c.self.view_is)
    (IfSome_then c.pop_front.result c.pop_front.ensures.lookup (λ x e. first_of_all g.met.K.Ord.total _ _ x e c.self.invariant.3 (c.if-leads.ensures.run refl)))

pub returns-then-leads-clause-keys : goal.returns-then-leads-clause-keys
returns-then-leads-clause-keys g c = rw (← c.self.view_is) (popped _ _ _ _ c.pop_front.ensures.items)

pub invariant_of-self-2 : goal.invariant_of-self-2
invariant_of-self-2 g c =
    let before = c.self.invariant in
    let popped = c.in_ok-first.ensures in (
      omega (arith, before.0, popped.room),
      omega (arith, before.1, length_permutation _ _ popped.keys),
      omega (arith, before.2, popped.keeps_moves),
      before.3,
    )

pub returns-clause-least : goal.returns-clause-least
returns-clause-least g c =
    rw (← c.self.view_is) (top_of_all g.met.K.Ord.total _ _ c.in_ok-first.first c.in_ok-first.ensures.least (c.if-leads.ensures.heap refl))

pub returns-clause-keys : goal.returns-clause-keys
returns-clause-keys g c = rw (← c.self.view_is) (leaves_heap _ _ _ _ c.in_ok-first.ensures.keys)
