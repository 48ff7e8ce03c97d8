-- There is a caller for each handle, and each turn gives one more handle its caller.
use Rattle.hingetulip_c.proofs.Words.{arith, common_steps}
use Rattle.hingetulip_c.proofs.exports.service.hand_out.hand_out.Goals as goal

pub remove-requires : goal.remove-requires
remove-requires c = grind (arith, common_steps)

pub loop-place-preserved : goal.loop-place-preserved
loop-place-preserved c = grind (arith, common_steps)

pub returns-clause-held : goal.returns-clause-held
returns-clause-held c = grind (arith, common_steps)
