use Rattle.dn_heap.proofs.Words.{filter_same, rules, sym}
use Rattle.dn_heap.proofs.keep.keep_where.Goals as goal

pub returns-clause-kept : goal.returns-clause-kept
returns-clause-kept g c = λ test says.
    let r = c.retain.ensures.filtered in
    let kept = filter_same _ (λ x. test x.0) _ (λ x b f k. (says x.0 b (search rules), search rules)) _ _ r.1 in
    rw (sym kept) r.2
