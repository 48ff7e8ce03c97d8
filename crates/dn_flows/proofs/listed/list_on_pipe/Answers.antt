-- The flow joins its pipe's list, unless it is there.
use Rattle.dn_flows.proofs.Words.{refl, true}
use Rattle.dn_flows.proofs.Entries.{joins-no-more, joins-pipe}
use Rattle.dn_flows.proofs.listed.list_on_pipe.Goals as goal

pub returns-then-queue-clause-listed : goal.returns-then-queue-clause-listed
returns-then-queue-clause-listed c = λ keys queues a there its.
    let q = c.args.queue.now in
    let m = c.args.members.now in
    joins-no-more keys queues m m c.args.flow q q c.args.key.now a there its (λ t f h. h) refl refl refl refl

pub returns-in_err-push-clause-listed : goal.returns-in_err-push-clause-listed
returns-in_err-push-clause-listed c = λ keys queues a there its.
    let q = c.args.queue.now in
    joins-no-more keys queues c.args.members.now c.push.new.self c.args.flow q q c.args.key.now a there its c.push.ensures.keeps refl refl refl refl

pub returns-clause-listed : goal.returns-clause-listed
returns-clause-listed c = λ keys queues a there its.
    let q = c.args.queue.now in
    joins-pipe keys queues c.args.members.now c.push.new.self c.args.flow q (record q { on_pipe = true }) c.args.key.now a there its c.push.ensures.keeps refl refl c.in_ok-push.ensures.joins refl refl
