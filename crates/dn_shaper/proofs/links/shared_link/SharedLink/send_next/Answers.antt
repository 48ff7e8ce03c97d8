-- The pick is the flow at its slot, and behind its packet in the flow's queue is what is behind it at the slot.
use Rattle.dn_shaper.proofs.Words.{List, Stamped, ap, arith, backlog_first, common_steps, drop, flow_at, keeps_room_first, option_map, picks_first, sends_first, sym, ◌∙◌}
use Rattle.dn_wf2q.specs.Schedule.{Schedule, flow_at as slot_at, next_of}
use Rattle.dn_shaper.proofs.Taking.{behind-slot, flow-there, picks-flow, slot-within, some-is}
use Rattle.dn_shaper.proofs.links.shared_link.SharedLink.send_next.Goals as goal

pub unwrap-slot-requires : goal.unwrap-slot-requires
unwrap-slot-requires c = some-is c.first.result (c.requires.can.0).flow (c.first.ensures.picks ∙ ap (option_map (λ (h : Stamped). h.flow)) c.requires.can.2)

pub index-requires : goal.index-requires
index-requires c =
    let within = slot-within c.args.self.now.flows.items c.args.self.now.sched c.requires.can c.unwrap-slot.result (sym c.unwrap-slot.ensures ∙ c.first.ensures.picks) in
    grind (arith, common_steps)

pub send-requires-clause-first : goal.send-requires-clause-first
send-requires-clause-first c =
    sends_first c.args.self.now.sched c.first.new.self c.first.new.self c.first.ensures.raised c.unwrap-slot.result (sym c.unwrap-slot.ensures ∙ c.first.ensures.picks)

pub send-requires-clause-next : goal.send-requires-clause-next
send-requires-clause-next c =
    let old = c.args.self.now in
    let slot = c.unwrap-slot.result in
    let flow = c.index.result.now in
    let at = flow-there old.flows.items old.sched c.requires.can slot (sym c.unwrap-slot.ensures ∙ c.first.ensures.picks) flow c.index.ensures in
    c.behind_first-behind.ensures
    ∙ behind-slot (slot_at old.sched.flows slot).backlog (flow_at c.args.flows.now.flows flow).backlog (c.requires.queues slot flow at)
    ∙ ap (λ (ps : List Stamped). next_of (drop 1 ps)) (sym (backlog_first old.sched c.first.new.self c.first.new.self c.first.ensures.raised slot))

pub returns-clause-sends : goal.returns-clause-sends
returns-clause-sends c =
    let old = c.args.self.now in
    let answer = sym c.unwrap-slot.ensures ∙ c.first.ensures.picks in
    let flow = c.index.result.now in
    picks-flow old.flows.items old.sched c.requires.can c.unwrap-slot.result answer flow c.send.new.self
    (flow-there old.flows.items old.sched c.requires.can c.unwrap-slot.result answer flow c.index.ensures)
    (picks_first old.sched c.first.new.self c.send.new.self c.first.ensures.raised c.send.ensures.some)

pub returns-clause-arrivals : goal.returns-clause-arrivals
returns-clause-arrivals c = c.send.ensures.keeps_arrivals ∙ ap (λ (s : Schedule). s.arrivals) c.first.ensures.raised

pub returns-clause-room : goal.returns-clause-room
returns-clause-room c = keeps_room_first c.args.self.now.sched c.first.new.self c.send.new.self c.first.ensures.raised c.send.ensures.keeps_room
