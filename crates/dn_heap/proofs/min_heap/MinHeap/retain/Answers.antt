use Rattle.dn_heap.proofs.Keys.{kept_permuted}
use Rattle.dn_heap.proofs.min_heap.MinHeap.retain.Goals as goal

pub returns-clause-kept : goal.returns-clause-kept
returns-clause-kept g c = λ test says. rw (← c.self.view_is) (kept_permuted test _ _ (c.keep_where.ensures.kept test says))
