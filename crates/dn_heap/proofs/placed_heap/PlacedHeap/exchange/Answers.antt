use Rattle.dn_heap.proofs.Words.{All-permutation, All-tail, arith, length_permutation, ◌≡◌}
use Rattle.dn_heap.proofs.Parted.{exchanged}
use Rattle.dn_heap.proofs.placed_heap.PlacedHeap.exchange.Goals as goal

pub push_reserved-requires-clause-numbered : goal.push_reserved-requires-clause-numbered
push_reserved-requires-clause-numbered g c =
    let popped = rw c.unwrap-top.ensures at c.pop.ensures.keys in
    let room = rw c.unwrap-top.ensures at c.pop.ensures.room in
    let long = length_permutation _ _ popped in
    let within = c.requires.numbered in
    omega (arith, room, long)

pub push_reserved-requires-clause-free : goal.push_reserved-requires-clause-free
push_reserved-requires-clause-free g c =
    let popped = rw c.unwrap-top.ensures at c.pop.ensures.keys in
    All-tail (λ k. g.K.Numbered.number k ≡ g.K.Numbered.number c.args.key → ⊥) _ _ (All-permutation (λ k. g.K.Numbered.number k ≡ g.K.Numbered.number c.args.key → ⊥) _ _ popped c.requires.free)

pub returns-clause-keys : goal.returns-clause-keys
returns-clause-keys g c = let popped = rw c.unwrap-top.ensures at c.pop.ensures.keys in exchanged _ _ _ _ _ popped c.push_reserved.ensures.keys
