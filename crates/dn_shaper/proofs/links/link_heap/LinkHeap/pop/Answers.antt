-- The first key of all leaves, and those that were left behind it.
use Rattle.dn_shaper.proofs.Words.{Contains, HasKept, IsPermutation, IsPermutation-cons, IsPermutation-trans, counting, false, is_left, length, refl, ◌<◌, ◌∷◌, ◌≡◌}
use Rattle.dn_shaper.proofs.LeftKeys.{top-least, top-some}
use Rattle.dn_shaper.proofs.LeftSteps.{first-of-empty, popped-held, popped-keys, popped-kept}
use Rattle.dn_shaper.proofs.links.link_heap.LinkHeap.pop.Goals.{After-is_empty}
use Rattle.dn_shaper.proofs.links.link_heap.LinkHeap.pop.Goals as goal

module _ (c : After-is_empty) where
  counts : is_left c.self.inside.emptied c.in-Some.first ≡ false
  counts = c.self.invariant.first c.in-Some.first c.in-Some.ensures.least

  held : Contains c.self.inside.heap.keys c.in-Some.first
  held = popped-held c.self.inside.heap c.pop.new.self c.in-Some.first c.in-Some.ensures.keys

  kept : HasKept c.pop.new.self c.self.inside.emptied
  kept = popped-kept c.self.inside.heap c.self.inside.emptied c.in-Some.first c.pop.new.self counts c.self.invariant.kept c.in-Some.ensures.keys c.in-Some.ensures.room

  keys : IsPermutation (counting c.self.inside.emptied c.self.inside.heap.keys) (c.in-Some.first ∷ counting c.self.inside.emptied c.pop.new.self.keys)
  keys = popped-keys c.self.inside.heap c.self.inside.emptied c.in-Some.first c.pop.new.self counts c.in-Some.ensures.keys

  some : 0 < length (counting c.self.inside.emptied c.self.inside.heap.keys)
  some = top-some c.self.inside.emptied c.self.inside.heap.keys c.self.invariant.first c.in-Some.first held c.in-Some.ensures.least

pub drop_first-requires : goal.drop_first-requires
drop_first-requires c = record { kept = kept (goal.at.drop_first-requires c).After-is_empty }

pub invariant_of-self-else-not-is_empty : goal.invariant_of-self-else-not-is_empty
invariant_of-self-else-not-is_empty c = record {
  kept = kept (goal.at.invariant_of-self-else-not-is_empty c).After-is_empty;
  first = first-of-empty c.pop.new.self c.self.inside.emptied c.is_empty.result c.is_empty.ensures c.if-not-is_empty.false;
}

pub returns-then-not-is_empty-clause-some : goal.returns-then-not-is_empty-clause-some
returns-then-not-is_empty-clause-some c = let w = (goal.at.returns-then-not-is_empty-clause-some c).After-is_empty in rw (← c.self.view_is) (λ e. some w, λ l. refl)

pub returns-then-not-is_empty-clause-least : goal.returns-then-not-is_empty-clause-least
returns-then-not-is_empty-clause-least c =
    rw (← c.self.view_is) (top-least c.self.inside.emptied c.self.inside.heap.keys c.in-Some.first c.in-Some.ensures.least)

pub returns-then-not-is_empty-clause-keys : goal.returns-then-not-is_empty-clause-keys
returns-then-not-is_empty-clause-keys c =
    let w = (goal.at.returns-then-not-is_empty-clause-keys c).After-is_empty in
    rw (← c.self.view_is)
    (IsPermutation-trans (counting c.self.inside.emptied c.self.inside.heap.keys) (c.in-Some.first ∷ counting c.self.inside.emptied c.pop.new.self.keys)
    (c.in-Some.first ∷ counting c.drop_first.new.emptied c.drop_first.new.heap.keys) (keys w)
    (IsPermutation-cons c.in-Some.first (counting c.self.inside.emptied c.pop.new.self.keys) (counting c.drop_first.new.emptied c.drop_first.new.heap.keys)
    c.drop_first.ensures.keeps.keys))

pub returns-else-not-is_empty-clause-some : goal.returns-else-not-is_empty-clause-some
returns-else-not-is_empty-clause-some c = let w = (goal.at.returns-else-not-is_empty-clause-some c).After-is_empty in rw (← c.self.view_is) (λ e. some w, λ l. refl)

pub returns-else-not-is_empty-clause-least : goal.returns-else-not-is_empty-clause-least
returns-else-not-is_empty-clause-least c =
    rw (← c.self.view_is) (top-least c.self.inside.emptied c.self.inside.heap.keys c.in-Some.first c.in-Some.ensures.least)

pub returns-else-not-is_empty-clause-keys : goal.returns-else-not-is_empty-clause-keys
returns-else-not-is_empty-clause-keys c = rw (← c.self.view_is) (keys (goal.at.returns-else-not-is_empty-clause-keys c).After-is_empty)
