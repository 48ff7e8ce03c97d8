-- A place is below 2^64, so one comparison of 128 bits is the comparison by moment and then by place.
use Rattle.dn_shaper.proofs.Words.{nat_cmp, ◌∙◌}
use Rattle.dn_shaper.proofs.Ordered.{ordered}
use Rattle.dn_shaper.proofs.links.next_start.NextStartOrd.cmp.Goals as goal

pub returns : goal.returns
returns c =
    c.cmp.ensures
    ∙ (λ i. nat_cmp (c.key.ensures.value i) (c.key-2.ensures.value i))
    ∙ ordered c.args.self.now.moment c.args.self.now.place c.args.other.now.moment c.args.other.now.place c.key.ensures.place c.key-2.ensures.place
