use Rattle.dn_wf2q.proofs.Words.{arith, flows_of, length, refl}
use Rattle.dn_wf2q.proofs.Ranks.{zero_from_none}
use Rattle.dn_wf2q.proofs.Counts.{heads_of_idle, no_heads_idle}
use Rattle.dn_wf2q.proofs.Steps.{later_kept, raised_by_top, top_within}
use Rattle.dn_wf2q.proofs.sched_parts.SchedParts.raise.Goals as goal

-- Virtual time is raised to the least start tag.
pub returns-in-Some-clause-virtual_time : goal.returns-in-Some-clause-virtual_time
returns-in-Some-clause-virtual_time c =
    let e = c.requires.none_eligible in
    let h = raised_by_top c.requires.kept.kept c.in-Some.top.now e c.in-Some.ensures.held c.in-Some.ensures.least in
    rw (c.max-self.ensures, h, c.tag.ensures.value) refl

pub returns-in-Some-clause-kept : goal.returns-in-Some-clause-kept
returns-in-Some-clause-kept c =
    let b = top_within c.requires.kept.kept c.in-Some.top.now c.in-Some.ensures.held in
    let t = c.requires.kept.kept.timely in
    let m = c.max-self.ensures in
    let g = c.tag.ensures.value in
    let kept = c.requires.kept in
    record { kept = later_kept kept.kept c.max-self.result (omega arith) (omega arith); few = kept.few; began = kept.began; arrived = kept.arrived; queues = kept.queues; slots = kept.slots }

-- There is no head.
pub returns-in_default-clause-virtual_time : goal.returns-in_default-clause-virtual_time
returns-in_default-clause-virtual_time c =
    let e = c.requires.none_eligible in
    let w = zero_from_none (length c.args.self.now.waiting.keys) c.in_default.ensures.some.1 in
    let n = c.requires.kept.kept.counted in
    let i = heads_of_idle (flows_of c.args.self.now) (no_heads_idle (flows_of c.args.self.now) (omega arith)) in
    rw i refl
