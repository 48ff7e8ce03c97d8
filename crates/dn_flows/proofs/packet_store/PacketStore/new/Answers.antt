use Rattle.dn_flows.proofs.Words.{arith}
use Rattle.dn_flows.proofs.Free.{none-free}
use Rattle.dn_flows.proofs.packet_store.PacketStore.new.Goals as goal

pub invariant_of-result : goal.invariant_of-result
invariant_of-result c =
    (none-free c.new-2.result.items _ c.new-2.ensures.items, omega arith, omega arith, omega arith, omega arith, omega arith)
