-- The flow joins one list and then the other.
use Rattle.dn_flows.proofs.Words.{AreListed, FlowQueue, List, Some, rules, set, slice_get, subst, ◌≡◌}
use Rattle.dn_flows.proofs.Entries.{set-twice}
use Rattle.dn_flows.proofs.Places.{get-set}
use Rattle.dn_flows.proofs.listed.list_anew.Goals as goal

pub returns-clause-listed : goal.returns-clause-listed
returns-clause-listed c = λ queues a there.
    let keys = c.args.keys.now.keys in
    let its : slice_get keys c.args.flow ≡ Some c.get-key.result = search rules in
    let first = c.list_on_pipe.ensures.listed keys queues a there its in
    let q = c.list_on_pipe.new.queue in
    subst (λ (qs : List FlowQueue). AreListed keys qs c.list_of_queue.new.members) (set-twice queues c.args.flow q c.list_of_queue.new.queue)
    (c.list_of_queue.ensures.listed keys (set queues c.args.flow q) first (get-set queues c.args.flow c.args.queue.now q there) its)
