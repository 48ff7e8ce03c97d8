use Rattle.dn_replay.proofs.InputSteps.{history_alone}
use Rattle.dn_replay.proofs.replays.unkeyed.replay.Goals as goal

pub returns-in-Ok : goal.returns-in-Ok
returns-in-Ok g c = let told = c.in-Ok.ensures in record { ok = history_alone _ _ _ _ _ told.ok; inputs = told.inputs; sound = told.sound; err = tt }

pub returns-in-Err : goal.returns-in-Err
returns-in-Err g c = let told = c.in-Err.ensures in record { ok = tt; inputs = told.inputs; sound = tt; err = told.err }
