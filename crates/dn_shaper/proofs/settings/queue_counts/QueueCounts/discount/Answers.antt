-- The pipe's count is above 0.
use Rattle.dn_shaper.proofs.Words.{List, arith, count_at, one_for, subst, sym, ℕ, ◌≤◌}
use Rattle.dn_shaper.proofs.Numbered.{has-place}
use Rattle.dn_shaper.proofs.settings.queue_counts.QueueCounts.discount.Goals as goal

pub index_mut-requires : goal.index_mut-requires
index_mut-requires c =
    let counted = subst (λ (counts : List ℕ). (p : ℕ) → one_for c.args.pipe p ≤ count_at counts p) (sym c.self.view_is) c.requires.counted in
    let place = has-place c.self.inside.counts.items c.args.pipe c.in-Some.pipe c.in-Some.is counted in
    let is = c.get.ensures.value in
    let len = c.self.inside.counts.ok.0 in
    omega (arith, place, is, len)
