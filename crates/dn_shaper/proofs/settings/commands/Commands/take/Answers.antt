-- Nothing is left in the place.
use Rattle.dn_shaper.proofs.Words.{None, ap, arith, length, refl, ◌<◌}
use Rattle.dn_shaper.proofs.Numbered.{command-in, puts-in}
use Rattle.dn_shaper.proofs.settings.commands.Commands.take.Goals as goal

pub returns-clause-rest : goal.returns-clause-rest
returns-clause-rest c =
    let places = c.self.inside.places.items in
    let within : c.get-number.result < length places =
    let len = c.self.inside.places.ok.0 in let is = c.len.ensures in let lt = c.if-len-number.false in omega arith in
    puts-in places c.args.self.now c.args.self.now c.get-number.result c.args.number c.replace.new.dest None c.self.view_is c.get-number.ensures.value
    within (ap command-in c.replace.ensures.after) (λ n. refl)
