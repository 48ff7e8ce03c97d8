use Rattle.dn_wf2q.proofs.Words.{arith, refl, sym, ◌∙◌}
use Rattle.dn_wf2q.proofs.Arrived.{last_fits, arrives, was_kept, busy_kept, idle_kept}
use Rattle.dn_wf2q.proofs.sched_parts.SchedParts.arrive.Goals as goal

pub append-head-requires-clause-last_finish_tag : goal.append-head-requires-clause-last_finish_tag
append-head-requires-clause-last_finish_tag c =
    last_fits c.args.self.now c.requires.kept c.args.slot c.args.len c.args.weight (omega arith) c.requires.some c.requires.in_range
    c.requires.listed c.index_mut-q.result.now c.index_mut-q.ensures.value

pub append-head-requires-clause-kept : goal.append-head-requires-clause-kept
append-head-requires-clause-kept c =
    was_kept c.args.self.now c.requires.kept c.args.slot c.args.len c.args.weight (omega arith) c.requires.some c.requires.in_range
    c.requires.listed c.index_mut-q.result.now c.index_mut-q.ensures.value

pub append-head-requires-clause-later : goal.append-head-requires-clause-later
append-head-requires-clause-later c = let b = c.requires.kept.began in omega arith

-- The queue was empty.
pub enter-requires : goal.enter-requires
enter-requires c = record {
  kept =
      idle_kept c.args.self.now c.requires.kept c.args.slot c.args.len c.args.weight (omega arith) c.requires.some c.requires.in_range
      c.requires.listed c.index_mut-q.result.now c.index_mut-q.ensures.value c.append-head.new.self c.append-head.ensures.packets
      c.append-head.ensures.last_finish_tag c.append-head.ensures.arrived c.append-head.ensures.kept c.in-Some.head c.requires.few
      (sym c.append-head.ensures.head ∙ c.in-Some.is);
}

pub returns-in-Some-clause-arrived : goal.returns-in-Some-clause-arrived
returns-in-Some-clause-arrived c =
    let s = c.enter.ensures.same in
    arrives c.args.self.now c.requires.kept c.args.slot c.args.len c.args.weight (omega arith) c.requires.some c.requires.in_range
    c.requires.listed c.index_mut-q.result.now c.index_mut-q.ensures.value c.append-head.new.self c.append-head.ensures.packets
    c.append-head.ensures.last_finish_tag c.append-head.ensures.arrived c.append-head.ensures.kept c.enter.new.self (rw s.flows refl) s.busy_from s.virtual_time
    s.arrivals s.picks

-- Packets waited already.
pub returns-in_default-clause-arrived : goal.returns-in_default-clause-arrived
returns-in_default-clause-arrived c =
    arrives c.args.self.now c.requires.kept c.args.slot c.args.len c.args.weight (omega arith) c.requires.some c.requires.in_range
    c.requires.listed c.index_mut-q.result.now c.index_mut-q.ensures.value c.append-head.new.self c.append-head.ensures.packets
    c.append-head.ensures.last_finish_tag c.append-head.ensures.arrived c.append-head.ensures.kept _ refl refl refl refl refl

pub returns-in_default-clause-kept : goal.returns-in_default-clause-kept
returns-in_default-clause-kept c =
    busy_kept c.args.self.now c.requires.kept c.args.slot c.args.len c.args.weight (omega arith) c.requires.some c.requires.in_range
    c.requires.listed c.index_mut-q.result.now c.index_mut-q.ensures.value c.append-head.new.self c.append-head.ensures.packets
    c.append-head.ensures.last_finish_tag c.append-head.ensures.arrived c.append-head.ensures.kept c.requires.few
    (sym c.append-head.ensures.head ∙ c.in_default.is)

pub returns-in-Some-clause-none_due : goal.returns-in-Some-clause-none_due
returns-in-Some-clause-none_due c = c.enter.ensures.none_due
