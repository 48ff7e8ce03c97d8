-- The key stays where it is, and counts no more.
use Rattle.dn_shaper.proofs.Words.{Contains, Contains-permutation, HasKept, IsPermutation, IsPermutation-cons, IsPermutation-trans, KeepsCounting, List, Option, Some, arith, backlogged, counting}
use Rattle.dn_shaper.proofs.Words.{keys_at, length, one_at, slice_set, subst, sum_by-IsPermutation, sym, ℕ, ◌+◌, ◌<◌, ◌∷◌, ◌≡◌}
use Rattle.dn_shaper.proofs.LeavesKey.{leaves-keys, leaves-more}
use Rattle.dn_shaper.proofs.LeftSteps.{left-kept, place-there}
use Rattle.dn_shaper.proofs.links.link_heap.LinkHeap.leave.Goals.{After-make_way}
use Rattle.dn_shaper.proofs.links.link_heap.LinkHeap.leave.Goals as goal

module _ (c : After-make_way) where
  held : Contains (counting c.make_way.new.emptied c.make_way.new.heap.keys) c.args.key
  held =
      let was = rw (← c.self.view_is) at c.requires.held in
      Contains-permutation (counting c.self.inside.emptied c.self.inside.heap.keys) (counting c.make_way.new.emptied c.make_way.new.heap.keys) c.args.key
      c.make_way.ensures.keeps.keys was

  once : keys_at c.args.key.place (counting c.make_way.new.emptied c.make_way.new.heap.keys) ≡ 1
  once =
      let was = rw (← c.self.view_is) at c.requires.once in
      let same = sum_by-IsPermutation (one_at c.args.key.place) (counting c.self.inside.emptied c.self.inside.heap.keys)
      (counting c.make_way.new.emptied c.make_way.new.heap.keys) c.make_way.ensures.keeps.keys in
      omega arith

  inside : c.args.key.place < length c.make_way.new.emptied
  inside =
      let was = rw (← c.self.view_is) at c.requires.within in
      place-there c.self.inside.heap c.make_way.new.heap c.self.inside.emptied c.make_way.new.emptied c.make_way.ensures.kept c.make_way.ensures.keeps c.args.key.place was

pub note-requires-clause-place : goal.note-requires-clause-place
note-requires-clause-place c = inside (goal.at.note-requires-clause-place c).After-make_way

pub drop_first-requires : goal.drop_first-requires
drop_first-requires c =
    let w = (goal.at.drop_first-requires c).After-make_way in
    record {
      kept = subst (λ (E : List (Option ℕ)). HasKept c.make_way.new.heap E) (sym c.note.ensures)
          (left-kept c.make_way.new.heap c.make_way.new.emptied c.args.key c.make_way.ensures.kept (inside w) c.make_way.ensures.none (held w) (once w));
    }

pub returns-clause-keys : goal.returns-clause-keys
returns-clause-keys c =
    let w = (goal.at.returns-clause-keys c).After-make_way in
    let old = counting c.self.inside.emptied c.self.inside.heap.keys in
    let mid = counting c.make_way.new.emptied c.make_way.new.heap.keys in
    let new = counting c.drop_first.new.emptied c.drop_first.new.heap.keys in
    let leaves = subst (λ (E : List (Option ℕ)). IsPermutation mid (c.args.key ∷ counting E c.make_way.new.heap.keys)) (sym c.note.ensures)
    (leaves-keys c.make_way.new.emptied c.make_way.new.heap.keys c.make_way.ensures.kept.left c.args.key (inside w) c.make_way.ensures.none (held w) (once w)) in
    let noted = counting c.note.new.self c.make_way.new.heap.keys in
    rw (← c.self.view_is)
    (IsPermutation-trans old mid (c.args.key ∷ new) c.make_way.ensures.keeps.keys
    (IsPermutation-trans mid (c.args.key ∷ noted) (c.args.key ∷ new) leaves (IsPermutation-cons c.args.key noted new c.drop_first.ensures.keeps.keys)))

pub returns-clause-room : goal.returns-clause-room
returns-clause-room c =
    let w = (goal.at.returns-clause-room c).After-make_way in
    let more = subst (λ (E : List (Option ℕ)). backlogged E ≡ backlogged c.make_way.new.emptied + 1) (sym c.note.ensures)
    (leaves-more c.make_way.new.emptied c.make_way.new.heap.keys c.make_way.ensures.kept.left c.args.key (inside w) c.make_way.ensures.none (held w) (once w)) in
    let first = c.make_way.ensures.keeps.room in
    let then = c.drop_first.ensures.keeps.room in
    rw (← c.self.view_is) (omega (arith, more, first, then))
