use Rattle.dn_replay.proofs.report.outs.add_delivery.Goals as goal

pub returns-clause-items : goal.returns-clause-items
returns-clause-items c = rw c.row_of-own.ensures at c.add_out.ensures.items
