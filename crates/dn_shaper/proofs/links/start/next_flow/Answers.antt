-- On a shared link the flow is the one that its scheduler picks.
use Rattle.dn_shaper.proofs.Words.{with_value}
use Rattle.dn_shaper.proofs.Taking.{keeps-of, picks-of, queues-of, takes-of}
use Rattle.dn_shaper.proofs.links.start.next_flow.Goals as goal

pub send_next-requires-clause-can : goal.send_next-requires-clause-can
send_next-requires-clause-can c =
    picks-of c.args.link.now.pipe c.args.link.now.times c.args.link.now.carries c.in-Shared.shared c.deref_mut.result.now c.in-Shared.is c.deref_mut.ensures.value c.requires.can

pub send_next-requires-clause-queues : goal.send_next-requires-clause-queues
send_next-requires-clause-queues c =
    queues-of c.args.link.now.pipe c.args.link.now.times c.args.link.now.carries c.in-Shared.shared c.deref_mut.result.now c.in-Shared.is c.deref_mut.ensures.value
    c.args.flows.now.flows c.requires.queues

pub returns-in-Shared-clause-takes : goal.returns-in-Shared-clause-takes
returns-in-Shared-clause-takes c =
    takes-of c.args.link.now.pipe c.args.link.now.times c.args.link.now.carries c.in-Shared.shared c.deref_mut.result.now c.in-Shared.is c.deref_mut.ensures.value
    (with_value c.in-Shared.shared c.send_next.new.self) c.send_next.result c.send_next.ensures.flows c.send_next.ensures.sends

pub returns-in-Shared-clause-keeps : goal.returns-in-Shared-clause-keeps
returns-in-Shared-clause-keeps c =
    keeps-of c.args.link.now.pipe c.args.link.now.times c.args.link.now.carries c.in-Shared.shared c.deref_mut.result.now c.in-Shared.is c.deref_mut.ensures.value
    (with_value c.in-Shared.shared c.send_next.new.self) c.send_next.ensures.arrivals c.send_next.ensures.room
