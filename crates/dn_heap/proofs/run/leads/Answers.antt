use Rattle.dn_heap.proofs.Words.{ap, arith, is_lt, refl, sym, ◌∙◌}
use Rattle.dn_heap.proofs.Runs.{run_leads, heap_leads}
use Rattle.dn_heap.proofs.run.leads.Goals as goal

pub returns-in-Some-peek-clause-run : goal.returns-in-Some-peek-clause-run
returns-in-Some-peek-clause-run g c = λ e.
    let first = c.in-Some in
    run_leads g.met.K.Ord.total _ _ first.first.now c.in-Some-peek.top.now
    (omega (arith, first.ensures.variant.0 refl, c.args.run.now.ok.0))
    first.ensures.lookup
    (ap is_lt (sym c.cmp.ensures) ∙ sym c.is_lt.ensures ∙ e)
    c.in-Some-peek.ensures.least

pub returns-in-Some-peek-clause-heap : goal.returns-in-Some-peek-clause-heap
returns-in-Some-peek-clause-heap g c = λ e.
    let first = c.in-Some in
    heap_leads g.met.K.Ord.total _ _ first.first.now c.in-Some-peek.top.now
    first.ensures.lookup
    (ap is_lt (sym c.cmp.ensures) ∙ sym c.is_lt.ensures ∙ e)
    c.in-Some-peek.ensures.held
    c.requires
