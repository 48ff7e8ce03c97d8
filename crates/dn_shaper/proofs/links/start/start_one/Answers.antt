-- The flow that is taken has a packet at the front of its queue.
use Rattle.dn_shaper.proofs.Words.{ap, arith, queue_lengths, sym, ℕ, ◌∙◌}
use Rattle.dn_shaper.proofs.Taking.{sent, some-is}
use Rattle.dn_shaper.proofs.links.start.start_one.Goals as goal

pub pop_front-requires-clause-within : goal.pop_front-requires-clause-within
pop_front-requires-clause-within c = (c.requires.front _ _ (c.next_flow-flow.ensures.takes (queue_lengths c.args.flows.now.flows) (queue_lengths c.args.flows.now.flows))).2

pub pop_front-requires-clause-count : goal.pop_front-requires-clause-count
pop_front-requires-clause-count c = (c.requires.front _ _ (c.next_flow-flow.ensures.takes (queue_lengths c.args.flows.now.flows) (queue_lengths c.args.flows.now.flows))).3

pub unwrap-packet-requires : goal.unwrap-packet-requires
unwrap-packet-requires c = let f = c.requires.front _ _ (c.next_flow-flow.ensures.takes (queue_lengths c.args.flows.now.flows) (queue_lengths c.args.flows.now.flows)) in
    some-is c.pop_front.result f.0 (c.pop_front.ensures.front ∙ f.1)

pub send-requires-clause-free : goal.send-requires-clause-free
send-requires-clause-free c =
    let before = queue_lengths c.args.flows.now.flows in
    let e = ap {B = ℕ} (λ t. t.free) (c.next_flow-flow.ensures.takes before before).value in
    let f = c.requires.free in
    omega arith

pub returns-clause-keeps : goal.returns-clause-keeps
returns-clause-keeps c =
    let k = c.next_flow-flow.ensures.keeps (queue_lengths c.args.flows.now.flows) (queue_lengths c.pop_front.new.self.flows) in
    record { room = k.room; arrivals = k.arrivals }

pub returns-clause-starts : goal.returns-clause-starts
returns-clause-starts c =
    let flows = c.args.flows.now.flows in
    let after = c.pop_front.new.self.flows in
    let takes = c.next_flow-flow.ensures.takes (queue_lengths flows) (queue_lengths after) in
    sent c.args.link.now c.next_flow-flow.new.link flows after c.send.new.link takes (c.requires.front _ _ takes).2 (sym c.pop_front.ensures.front ∙ c.unwrap-packet.ensures)
    c.pop_front.ensures.flows c.send.ensures.free c.send.ensures.last_due c.send.ensures.pending
