-- The key counts again, or is a new one.
use Rattle.dn_shaper.proofs.Words.{IsPermutation, IsPermutation-cons, IsPermutation-trans, IsTidy, List, Option, arith, counting, is_left, subst, sym, true, ℕ, ◌∙◌, ◌∷◌, ◌≡◌}
use Rattle.dn_shaper.proofs.LeftKeys.{back-keys, with-keys}
use Rattle.dn_shaper.proofs.LeftSteps.{back-tidy, pushed-tidy}
use Rattle.dn_shaper.proofs.links.link_heap.LinkHeap.put.Goals as goal

pub invariant_of-self : goal.invariant_of-self
invariant_of-self c =
    subst (λ (E : List (Option ℕ)). IsTidy c.self.inside.heap E) (sym c.forget.ensures)
    (back-tidy c.self.inside.heap c.self.inside.emptied c.args.key c.self.invariant (sym c.contains.ensures ∙ c.if-contains.true))

pub returns-then-contains-clause-keys : goal.returns-then-contains-clause-keys
returns-then-contains-clause-keys c =
    rw (← c.self.view_is)
    (subst (λ (E : List (Option ℕ)). IsPermutation (c.args.key ∷ counting c.self.inside.emptied c.self.inside.heap.keys) (counting E c.self.inside.heap.keys))
    (sym c.forget.ensures)
    (back-keys c.self.inside.emptied c.self.inside.heap.keys c.self.invariant.kept.left c.args.key (sym c.contains.ensures ∙ c.if-contains.true)))

pub make_room-requires-clause-some : goal.make_room-requires-clause-some
make_room-requires-clause-some c = let some = rw (← c.self.view_is) at c.requires.reserved in omega arith

pub make_room-requires-clause-counts : goal.make_room-requires-clause-counts
make_room-requires-clause-counts c = sym c.contains.ensures ∙ c.if-contains.false

pub invariant_of-self-2 : goal.invariant_of-self-2
invariant_of-self-2 c =
    pushed-tidy c.make_room.new.heap c.make_room.new.emptied c.args.key c.push_reserved.new.self c.make_room.ensures.counts c.make_room.ensures.tidy
    c.push_reserved.ensures.keys c.push_reserved.ensures.room

pub returns-clause-keys : goal.returns-clause-keys
returns-clause-keys c =
    let old = counting c.self.inside.emptied c.self.inside.heap.keys in
    let mid = counting c.make_room.new.emptied c.make_room.new.heap.keys in
    rw (← c.self.view_is)
    (IsPermutation-trans (c.args.key ∷ old) (c.args.key ∷ mid) (counting c.make_room.new.emptied c.push_reserved.new.self.keys)
    (IsPermutation-cons c.args.key old mid c.make_room.ensures.keeps.keys)
    (with-keys c.make_room.new.emptied c.args.key c.make_room.new.heap.keys c.push_reserved.new.self.keys c.make_room.ensures.counts c.push_reserved.ensures.keys))
