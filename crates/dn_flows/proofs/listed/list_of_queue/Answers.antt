-- The flow joins its queue's list, unless it is there or is of none.
use Rattle.dn_flows.proofs.Words.{IsMember, Target, refl, subst, true}
use Rattle.dn_flows.proofs.Entries.{joins-no-more, joins-none, joins-queue}
use Rattle.dn_flows.proofs.listed.list_of_queue.Goals as goal

pub returns-then-queue-clause-listed : goal.returns-then-queue-clause-listed
returns-then-queue-clause-listed c = λ keys queues a there its.
    let q = c.args.queue.now in
    let m = c.args.members.now in
    joins-no-more keys queues m m c.args.flow q q c.args.key.now a there its (λ t f h. h) refl refl refl refl

pub returns-in_default-clause-listed : goal.returns-in_default-clause-listed
returns-in_default-clause-listed c = λ keys queues a there its.
    let q = c.args.queue.now in
    let m = c.args.members.now in
    joins-none keys queues m m c.args.flow q (record q { of_queue = true }) c.args.key.now a there its (λ t f h. h) refl refl c.in_default.field-0 c.in_default.is refl refl

pub returns-in_err-push-clause-listed : goal.returns-in_err-push-clause-listed
returns-in_err-push-clause-listed c = λ keys queues a there its.
    let q = c.args.queue.now in
    joins-no-more keys queues c.args.members.now c.push.new.self c.args.flow q q c.args.key.now a there its c.push.ensures.keeps refl refl refl refl

pub returns-clause-listed : goal.returns-clause-listed
returns-clause-listed c = λ keys queues a there its.
    let q = c.args.queue.now in
    joins-queue keys queues c.args.members.now c.push.new.self c.args.flow q (record q { of_queue = true }) c.args.key.now a there its c.push.ensures.keeps refl refl c.in-Queue.field-0 c.in-Queue.is
    (subst (λ (t : Target). IsMember t c.args.flow c.push.new.self) c.in-Queue.is c.in_ok-push.ensures.joins) refl refl
