use Rattle.dn_wf2q.proofs.Words.{arith, refl}
use Rattle.dn_wf2q.proofs.Passed.{few_moves, no_key, none_free, numbered, passed, passed_kept, through}
use Rattle.dn_wf2q.proofs.Calm.{none_waits}
use Rattle.dn_wf2q.proofs.sched_parts.SchedParts.pass.Goals as goal

pub index_mut-q-requires : goal.index_mut-q-requires
index_mut-q-requires c =
    let l = c.requires.listed in
    omega (arith, c.args.self.now.flows.ok.0)

pub push_pop-requires-clause-few : goal.push_pop-requires-clause-few
push_pop-requires-clause-few c = few_moves c.args.self.now c.requires.kept c.requires.idle c.args.slot c.args.len c.args.weight (omega arith) c.requires.listed c.requires.few

pub push_pop-requires-clause-numbered : goal.push_pop-requires-clause-numbered
push_pop-requires-clause-numbered c = rw c.new.ensures.value (numbered c.args.self.now c.requires.kept c.requires.idle c.args.slot c.args.len c.args.weight (omega arith) c.requires.listed)

pub push_pop-requires-clause-free : goal.push_pop-requires-clause-free
push_pop-requires-clause-free c = rw c.new.ensures.value (none_free c.args.self.now c.requires.kept c.requires.idle c.args.slot c.args.len c.args.weight (omega arith) c.requires.listed c.args.slot)

pub returns-clause-passes : goal.returns-clause-passes
returns-clause-passes c =
    passed c.args.self.now c.requires.kept c.requires.idle c.args.slot c.args.len c.args.weight (omega arith) c.requires.listed
    c.index_mut-q.result.now c.index_mut-q.ensures.value c.cost-finish_tag.result c.cost-finish_tag.ensures.value _ refl refl refl refl refl

pub returns-clause-kept : goal.returns-clause-kept
returns-clause-kept c =
    let none = no_key c.args.self.now c.requires.kept c.requires.idle c.args.slot c.args.len c.args.weight (omega arith) c.requires.listed in
    let gone = through c.args.self.now.eligible c.push_pop.new.self c.new.result c.push_pop.result none c.push_pop.ensures.keys in
    passed_kept c.args.self.now c.requires.kept c.requires.idle c.args.slot c.args.len c.args.weight (omega arith) c.requires.listed
    c.index_mut-q.result.now c.index_mut-q.ensures.value c.cost-finish_tag.result c.cost-finish_tag.ensures.value c.push_pop.new.self gone
    c.push_pop.ensures.moves c.push_pop.ensures.room c.requires.few

pub returns-clause-none_due : goal.returns-clause-none_due
returns-clause-none_due c = none_waits c.args.self.now c.requires.kept c.requires.idle c.cost-finish_tag.result
