use Rattle.dn_wf2q.proofs.Words.{arith, refl, sym}
use Rattle.dn_wf2q.proofs.Reserved.{padded_same}
use Rattle.dn_wf2q.proofs.sched_parts.SchedParts.reserve_flow.Goals as goal

-- There is a queue at the slot.
pub returns-then-slot-len-clause-ok : goal.returns-then-slot-len-clause-ok
returns-then-slot-len-clause-ok c = sym (padded_same c.args.self.now c.args.slot (omega (arith, c.args.self.now.flows.ok.0)))

pub returns-then-slot-len-clause-reserves : goal.returns-then-slot-len-clause-reserves
returns-then-slot-len-clause-reserves c = record { virtual_time = refl; arrivals = refl; picks = refl; eligible = refl; waiting = refl }
