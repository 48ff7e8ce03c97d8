use Rattle.dn_heap.proofs.Words.{is_eq, sym}
use Rattle.dn_heap.proofs.Keys.{keys_permuted, none_passes}
use Rattle.dn_heap.proofs.min_heap.MinHeap.take_out.Goals as goal

pub returns-then-not-holds-clause-absent : goal.returns-then-not-holds-clause-absent
returns-then-not-holds-clause-absent g c = λ e. rw (← c.self.view_is) (none_passes (λ k. is_eq (g.K.Ord.cmp k c.args.key.now)) _ (sym c.if-not-holds.ensures.value))

pub returns-clause-taken : goal.returns-clause-taken
returns-clause-taken g c = λ e. let t = c.remove_one.ensures.removed in rw (← c.self.view_is) (t.0.0, t.1, keys_permuted _ _ t.2)
