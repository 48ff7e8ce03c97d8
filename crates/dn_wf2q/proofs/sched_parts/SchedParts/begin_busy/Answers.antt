use Rattle.dn_wf2q.proofs.Words.{refl}
use Rattle.dn_wf2q.proofs.Begun.{begun, flows_forgotten}
use Rattle.dn_wf2q.proofs.Calm.{none_waits}
use Rattle.dn_wf2q.proofs.sched_parts.SchedParts.begin_busy.Goals as goal

pub returns-clause-begun : goal.returns-clause-begun
returns-clause-begun c = record {
  flows = flows_forgotten _ _ c.args.self.now.flows.items c.requires.kept.arrived;
  virtual_time = refl;
  arrivals = refl;
  picks = refl;
  eligible = refl;
  waiting = refl;
  queues = refl;
}

pub returns-clause-kept : goal.returns-clause-kept
returns-clause-kept c = begun c.args.self.now c.requires.kept c.requires.idle

pub returns-clause-none_due : goal.returns-clause-none_due
returns-clause-none_due c = none_waits c.args.self.now c.requires.kept c.requires.idle 0
