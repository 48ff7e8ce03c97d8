use Rattle.dn_replay.proofs.PartSteps.{part-failed, part-written}
use Rattle.dn_replay.proofs.report.parts.write_part.Goals as goal

pub returns-in-Ok-clause-ok : goal.returns-in-Ok-clause-ok
returns-in-Ok-clause-ok g c = λ start text h. part-written start _ _ c.args.buffer.now.items c.clear.new.self.items text h (rw c.as_slice.ensures.value at c.in-Ok.ensures.ok) c.clear.ensures.items

pub returns-in-Err-clause-part : goal.returns-in-Err-clause-part
returns-in-Err-clause-part g c = λ start text rest h. part-failed start _ _ c.args.buffer.now.items text rest h (rw c.as_slice.ensures.value at c.in-Err.ensures.part)
