-- The first packet names the second.
use Rattle.dn_flows.proofs.Words.{ContainsKey, Some, Waiting, ap, arith, get, subst, sym, ◌∙◌, ◌≤◌}
use Rattle.dn_flows.proofs.Chains.{held-second, second-waits}
use Rattle.dn_flows.proofs.flow_queue.FlowQueue.second.Goals as goal

pub get-requires : goal.get-requires
get-requires c =
    let lies = c.requires in
    let two : 2 ≤ c.args.self.now.len = (omega arith) in
    subst (ContainsKey c.args.store.now) (sym c.next.ensures)
    (held-second lies.owner lies.behind c.args.store.now lies.flow c.args.self.now lies.is c.get-first.result two c.get-first.ensures)

pub returns : goal.returns
returns c =
    let two : 2 ≤ c.args.self.now.len = (omega arith) in
    ap (λ (w : Waiting). Some w) c.waiting.ensures
    ∙ sym (second-waits c.args.store.now c.args.self.now.front c.args.self.now.len c.get-first.result c.get.result two c.get-first.ensures
    (ap (get c.args.store.now) (sym c.next.ensures) ∙ c.get.ensures))
