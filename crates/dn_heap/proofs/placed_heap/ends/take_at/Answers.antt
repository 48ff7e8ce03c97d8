use Rattle.dn_heap.proofs.Words.{IsPermutation, IsPermutation-cons, IsPermutation-swap_remove, IsPermutation-trans, arith, back, back_total, length, subst, sym, vec_len, ◌<◌, ◌∷◌}
use Rattle.dn_heap.proofs.Falls.{cut, left_out}
use Rattle.dn_heap.proofs.placed_heap.ends.take_at.Goals as goal

pub mend-requires-clause-hole : goal.mend-requires-clause-hole
mend-requires-clause-hole g c = λ within.
    let taken = c.swap_remove-key.ensures in
    let new = c.swap_remove-key.new.self in
    left_out (back g.K.Ord.cmp) c.args.keys.now.items new.items (vec_len new) c.args.at (omega (arith, taken.len, c.args.keys.now.ok.0))
    (λ k d apart lt. taken.by_index.1 k d apart (omega (arith, lt, taken.len))) (back_total g.met.K.Ord.total) within c.requires.heap

pub mend-requires-clause-heap : goal.mend-requires-clause-heap
mend-requires-clause-heap g c = λ last.
    let taken = c.swap_remove-key.ensures in
    let new = c.swap_remove-key.new.self in
    cut (back g.K.Ord.cmp) c.args.keys.now.items new.items (vec_len new) c.args.at
    (omega (arith, taken.len, c.args.keys.now.ok.0)) (λ k d apart lt. taken.by_index.1 k d apart (omega (arith, lt, taken.len))) last
    (omega (arith, new.ok.0)) c.requires.heap

pub returns-clause-keys : goal.returns-clause-keys
returns-clause-keys g c =
    let keys = c.args.keys.now in
    let key = c.swap_remove-key.result in
    let taken = c.swap_remove-key.ensures in
    let at : c.args.at < length keys.items = omega (arith, c.requires.at, keys.ok.0) in
    let left = subst (λ l. IsPermutation keys.items (key ∷ l)) (sym taken.items) (IsPermutation-swap_remove keys.items c.args.at key at taken.value) in
    IsPermutation-trans keys.items (key ∷ c.swap_remove-key.new.self.items) (key ∷ c.mend.new.keys.items) left (IsPermutation-cons key _ _ c.mend.ensures.ordered.permutation)
