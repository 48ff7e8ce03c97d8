use Rattle.dn_wf2q.proofs.Words.{flow_at, flows_of, length, refl, ◌≡◌, ◌≤◌}
use Rattle.dn_wf2q.proofs.Heads.{head_waits}
use Rattle.dn_wf2q.proofs.Ranks.{zero_from_none}
use Rattle.dn_wf2q.proofs.Own.{own_slots}
use Rattle.dn_wf2q.proofs.Steps.{held_ready, picked_none, picked_slot}
use Rattle.dn_wf2q.proofs.sched_parts.SchedParts.first_eligible.Goals as goal

pub returns-in-Some-clause-picks : goal.returns-in-Some-clause-picks
returns-in-Some-clause-picks c =
    rw c.slot.ensures.value
    (picked_slot c.requires.kept.kept (own_slots c.args.self.now) c.in-Some.top.now
    (held_ready c.requires.kept.kept c.in-Some.top.now c.in-Some.ensures.held) c.in-Some.ensures.least c.requires.promoted)

pub returns-in-Some-clause-waits : goal.returns-in-Some-clause-waits
returns-in-Some-clause-waits c =
    rw c.slot.ensures.value
    (head_waits (λ p. (c.in-Some.top.now.tag ≡ p.finish_tag) × (p.start_tag ≤ c.args.self.now.virtual_time)) (flow_at (flows_of c.args.self.now) c.in-Some.top.now.slot).backlog
    (held_ready c.requires.kept.kept c.in-Some.top.now c.in-Some.ensures.held))

pub returns-in-None-clause-picks : goal.returns-in-None-clause-picks
returns-in-None-clause-picks c =
    let z = zero_from_none (length c.args.self.now.eligible.keys) c.in-None.ensures.some.1 in
    rw (picked_none c.requires.kept.kept z c.requires.promoted) refl
