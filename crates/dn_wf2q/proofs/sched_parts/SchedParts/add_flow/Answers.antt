use Rattle.dn_wf2q.proofs.Words.{arith, refl, ◌+◌}
use Rattle.dn_wf2q.proofs.Reserved.{kept_extended, extended_seen, grown}
use Rattle.dn_wf2q.proofs.sched_parts.SchedParts.add_flow.Goals as goal

pub returns-clause-reserves : goal.returns-clause-reserves
returns-clause-reserves c = record {
  virtual_time = refl;
  arrivals = refl;
  picks = refl;
  eligible = c.in_ok-reserve_numbers.ensures.keeps_moves;
  waiting = c.in_ok-reserve_numbers-2.ensures.keeps_moves;
}

pub returns-clause-ok : goal.returns-clause-ok
returns-clause-ok c =
    extended_seen _ c.args.self.now.flows.items c.add_queues.new.flows.items (c.args.slot + 1)
    (rw c.in_ok-reserve.ensures.items at c.add_queues.ensures.extended) c.add_queues.ensures.len

pub returns-clause-kept : goal.returns-clause-kept
returns-clause-kept c =
    let f = c.args.self.now.flows.ok.0 in
    let a = c.in_ok-reserve_numbers.ensures in
    let b = c.in_ok-reserve_numbers-2.ensures in
    let ao = grown _ _ _ _ _ a.keeps_keys a.ok in
    let bo = grown _ _ _ _ _ b.keeps_keys b.ok in
    kept_extended c.args.self.now _ c.requires.kept (c.args.slot + 1) (rw c.in_ok-reserve.ensures.items at c.add_queues.ensures.extended)
    c.add_queues.ensures.len (omega arith) (omega arith) a.keeps_keys b.keeps_keys a.keeps_moves b.keeps_moves ao.0 bo.0 ao.1 bo.1
    refl refl refl refl refl
