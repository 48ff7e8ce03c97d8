use Rattle.dn_heap.proofs.Words.{filter_same, rules}
use Rattle.dn_heap.proofs.Runs.{thinned}
use Rattle.dn_heap.proofs.run.keep_in_run.Goals as goal

pub returns-clause-kept : goal.returns-clause-kept
returns-clause-kept g c = λ test says.
    filter_same _ test _ (λ x b f k. (says x b (search rules), search rules)) _ _ c.retain.ensures.filtered

pub returns-clause-ascending : goal.returns-clause-ascending
returns-clause-ascending g c = let r = c.retain.ensures.filtered in rw r.4 (thinned g.met.K.Ord.total r.0 _ c.requires.in_order)
