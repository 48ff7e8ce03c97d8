use Rattle.dn_heap.proofs.Words.{rules}
use Rattle.dn_heap.proofs.Parted.{kept}
use Rattle.dn_heap.proofs.run_heap.RunHeap.retain.Goals as goal

pub returns-clause-kept : goal.returns-clause-kept
returns-clause-kept g c = λ test says.
    let in_heap = c.retain.ensures.kept test (λ key answer f. says key answer (search rules)) in
    rw (← c.self.view_is) (kept test _ _ _ _ in_heap (c.keep_in_run.ensures.kept test says))
