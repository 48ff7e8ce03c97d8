-- The place was made before, and the command is all that is written.
use Rattle.dn_shaper.proofs.Words.{Some, ap, arith, common_steps, length, length-map, with_value, ◌<◌}
use Rattle.dn_shaper.proofs.Numbered.{command-in, puts-in}
use Rattle.dn_shaper.proofs.settings.commands.Commands.put.Goals as goal

pub returns-in-Some-clause-puts : goal.returns-in-Some-clause-puts
returns-in-Some-clause-puts c =
    let places = c.self.inside.places.items in
    let within : c.get.result < length places =
    let long = length-map places command-in in let seen = ap length c.self.view_is in let place = c.in_ok-extend.ensures.place in let is = c.get.ensures.value in omega arith in
    puts-in places c.extend.new.self c.args.self.now c.get.result c.args.number (Some (with_value c.in-Some.kept c.replace.new.dest)) (Some c.args.command.now) c.self.view_is c.get.ensures.value
    within (ap Some c.replace.ensures.after) c.in_ok-extend.ensures.same

pub returns-clause-puts : goal.returns-clause-puts
returns-clause-puts c =
    let places = c.self.inside.places.items in
    let within : c.get.result < length places =
    let long = length-map places command-in in let seen = ap length c.self.view_is in let place = c.in_ok-extend.ensures.place in let is = c.get.ensures.value in omega arith in
    puts-in places c.extend.new.self c.args.self.now c.get.result c.args.number (Some c.in_ok-new.field-0) (Some c.args.command.now) c.self.view_is c.get.ensures.value
    within (ap Some c.in_ok-new.ensures.ok) c.in_ok-extend.ensures.same

-- What stood in the place is what the number had.

pub index_mut-place-requires : goal.index_mut-place-requires
index_mut-place-requires c = grind (arith, common_steps)

pub returns-in-Some-clause-replaced : goal.returns-in-Some-clause-replaced
returns-in-Some-clause-replaced c = grind (arith, common_steps)

pub returns-in_err-new-clause-err : goal.returns-in_err-new-clause-err
returns-in_err-new-clause-err c = grind (arith, common_steps)

pub returns-in_err-new-clause-only_new : goal.returns-in_err-new-clause-only_new
returns-in_err-new-clause-only_new c = grind (arith, common_steps)

pub returns-clause-replaced : goal.returns-clause-replaced
returns-clause-replaced c = grind (arith, common_steps)
