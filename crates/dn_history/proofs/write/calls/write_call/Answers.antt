use Rattle.dn_history.proofs.write.calls.write_call.Goals as goal

pub returns-in-Submit : goal.returns-in-Submit
returns-in-Submit c = rw c.in-Submit.is c.write_submit.ensures
