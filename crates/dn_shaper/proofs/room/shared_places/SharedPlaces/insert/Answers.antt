-- The place was made before, and that of the link is all that is written.
use Rattle.dn_shaper.proofs.Words.{Some, ap, arith, at_number, length, ◌<◌, ◌∙◌}
use Rattle.dn_shaper.proofs.Numbered.{writes}
use Rattle.dn_shaper.proofs.room.shared_places.SharedPlaces.insert.Goals as goal

pub returns-clause-inserts : goal.returns-clause-inserts
returns-clause-inserts c =
    let kept = c.self.inside.places.items in
    let within : c.get.result < length kept =
    let seen = ap length c.self.view_is in let place = c.in_ok-extend.ensures.place in let is = c.get.ensures.value in omega arith in
    writes kept c.args.self.now c.get.result c.args.pipe (Some c.args.place) c.get.ensures.value within (λ n. ap (λ kept. at_number kept n) c.self.view_is ∙ c.in_ok-extend.ensures.same n)
