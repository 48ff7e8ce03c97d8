use Rattle.dn_heap.proofs.Words.{IsPermutation, IsPermutation-sym, IsPermutation-to_front, IsPermutation-trans, [], arith, back, subst, sym, vec_len, ◌++◌, ◌∙◌, ◌∷◌}
use Rattle.dn_heap.proofs.Falls.{followed}
use Rattle.dn_heap.proofs.Places.{all_of}
use Rattle.dn_heap.proofs.placed_heap.ends.put.Goals as goal

pub lift-requires-clause-heap : goal.lift-requires-clause-heap
lift-requires-clause-heap g c =
    let keys = c.args.keys.now in
    rw c.as_mut_slice.ensures.value (followed (back g.K.Ord.cmp) keys.items (c.args.key ∷ []) c.push_reserved.new.self.items c.len-last.result
    (omega (arith, c.len-last.ensures, keys.ok.0)) c.push_reserved.ensures.items c.requires.heap)

pub returns-clause-keys : goal.returns-clause-keys
returns-clause-keys g c =
    let keys = c.args.keys.now.items in
    let key = c.args.key in
    let came = subst (λ l. IsPermutation (key ∷ keys) l) (sym c.push_reserved.ensures.items) (IsPermutation-sym (keys ++ key ∷ []) (key ∷ keys) (IsPermutation-to_front keys key)) in
    let pushed = c.push_reserved.new.self in
    let new = c.lift.new.keys in
    let moved = subst (λ l. IsPermutation l new) c.as_mut_slice.ensures.value c.lift.ensures.ordered.permutation in
    let long = c.lift.ensures.ordered.len ∙ c.as_mut_slice.ensures.len in
    subst (IsPermutation (key ∷ keys)) (sym (all_of g.K.Numbered.number new pushed.items (vec_len pushed) long (omega (arith, pushed.ok.0))))
    (IsPermutation-trans (key ∷ keys) pushed.items new came moved)
