use Rattle.dn_heap.proofs.Keys.{keys_permuted}
use Rattle.dn_heap.proofs.min_heap.MinHeap.push_reserved.Goals as goal

pub returns-clause-keys : goal.returns-clause-keys
returns-clause-keys g c =
    let permuted = rw c.unwrap.ensures at c.push.ensures.permutation in
    rw (← c.self.view_is) (keys_permuted _ _ permuted)
