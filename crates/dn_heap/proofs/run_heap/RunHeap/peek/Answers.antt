use Rattle.dn_heap.proofs.Words.{Contains-append_left, Contains-append_right, IfSome_then, refl, sym}
use Rattle.dn_heap.proofs.Runs.{first_of_all, top_of_all}
use Rattle.dn_heap.proofs.run_heap.RunHeap.peek.Goals as goal

pub returns-then-leads-clause-held : goal.returns-then-leads-clause-held
returns-then-leads-clause-held g c =
    let run = c.self.inside.run.items in
    rw (← c.self.view_is)
    (IfSome_then c.front.result c.front.ensures.lookup (λ x e. Contains-append_right _ run x.now (0, c.if-leads.ensures.in_run refl, sym e)))

pub returns-then-leads-clause-least : goal.returns-then-leads-clause-least
returns-then-leads-clause-least g c =
    rw (← c.self.view_is)
    (IfSome_then c.front.result c.front.ensures.lookup (λ x e. first_of_all g.met.K.Ord.total _ _ x.now e c.self.invariant.3 (c.if-leads.ensures.run refl)))

pub returns-else-leads-clause-held : goal.returns-else-leads-clause-held
returns-else-leads-clause-held g c =
    rw (← c.self.view_is)
    (IfSome_then c.peek.result c.peek.ensures.held (λ x h. Contains-append_left _ _ x.now h))

pub returns-else-leads-clause-least : goal.returns-else-leads-clause-least
returns-else-leads-clause-least g c =
    rw (← c.self.view_is)
    (IfSome_then c.peek.result c.peek.ensures.least (λ x l. top_of_all g.met.K.Ord.total _ _ x.now l (c.if-leads.ensures.heap refl)))
