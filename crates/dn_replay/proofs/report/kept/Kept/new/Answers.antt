use Rattle.dn_replay.proofs.KeptSteps.{nothing-kept}
use Rattle.dn_replay.proofs.report.kept.Kept.new.Goals as goal

pub returns : goal.returns
returns c = nothing-kept _ c.new.ensures.items c.new-2.ensures.items
