use Rattle.dn_wf2q.proofs.Words.{arith, length, nat_tests, refl, sym, ◌<◌, ◌≡◌}
use Rattle.dn_wf2q.proofs.Steps.{raised_ready}
use Rattle.dn_wf2q.proofs.sched_parts.SchedParts.make_eligible.Goals as goal

-- Some head is eligible already.
pub returns-then-not-is_empty-clause-same : goal.returns-then-not-is_empty-clause-same
returns-then-not-is_empty-clause-same c =
    let e : 0 < length c.args.self.now.eligible.keys = grind (arith, nat_tests) in
    record { flows = refl; virtual_time = sym (raised_ready c.requires.kept.kept e); busy_from = refl; arrivals = refl; picks = refl }

pub raise-requires-clause-none_eligible : goal.raise-requires-clause-none_eligible
raise-requires-clause-none_eligible c =
    let e : length c.args.self.now.eligible.keys ≡ 0 = grind (arith, nat_tests) in
    e

pub returns-clause-same : goal.returns-clause-same
returns-clause-same c = rw (← c.raise.ensures.virtual_time) c.promote.ensures.same
