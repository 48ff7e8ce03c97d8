use Rattle.dn_wf2q.proofs.Words.{arith, bound, flows_of, head_weight, sum_by, ◌≡◌}
use Rattle.dn_wf2q.proofs.Counts.{idle_weighs}
use Rattle.dn_wf2q.proofs.sched_parts.SchedParts.is_idle.Goals as goal

pub returns : goal.returns
returns c =
    let p = c.args.self.now in
    let kept = c.requires.kept.kept in
    let weighed = kept.weighed in
    let idle = idle_weighs (bound p.arrivals p.picks) (flows_of p) kept.bounded in
    record {
      idle = (
        λ t. let none : sum_by (λ fl. head_weight fl.backlog) (flows_of p) ≡ 0 = grind arith in idle.0 none,
        λ i. let none = idle.1 i in grind arith,
      );
    }
