use Rattle.dn_heap.proofs.Words.{refl, says_at}
use Rattle.dn_heap.proofs.keep.fn.keep_where.retain.Goals as goal

pub returns : goal.returns
returns g c = says_at g.F.Fn c.keep.ensures refl
