use Rattle.dn_flows.proofs.Words.{arith, nat_tests, ◌<◌}
use Rattle.dn_flows.proofs.Bytes.{short_bytes}
use Rattle.dn_flows.proofs.flow_queue.FlowQueue.is_full.Goals as goal

-- fewer than 10000 packets of at most 65535 bytes
pub returns-in-Slots-clause-room : goal.returns-in-Slots-clause-room
returns-in-Slots-clause-room c = λ backlog counts few.
    let bytes = short_bytes backlog counts.short in
    let many = counts.many in
    let range = c.get.ensures.in_range in
    let below : c.args.self.now.len < c.from.result = grind (few, arith, nat_tests) in
    omega arith
