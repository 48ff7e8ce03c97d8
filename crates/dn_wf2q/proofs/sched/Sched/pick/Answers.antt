use Rattle.dn_wf2q.proofs.Words.{Picks, Schedule, SendsFirst, ap, arith, get_or_read, heads_of, map, pick, spare, sym, ◌∙◌}
use Rattle.dn_wf2q.proofs.Calm.{if_some}
use Rattle.dn_wf2q.proofs.Rooms.{room_grows}
use Rattle.dn_wf2q.proofs.Sending.{at_first, backlog_first, flows_were, mapped_none, picks_first, sends_first}
use Rattle.dn_wf2q.proofs.Stored.{has_queue, left, next_stored, picks_with, sent_stored}
use Rattle.dn_wf2q.proofs.sched.Sched.pick.Goals as goal
use Rattle.dn_wf2q.proofs.sched.Sched.pick.Goals.{After-send}

pub index_mut-requires : goal.index_mut-requires
index_mut-requires c = let qs = c.self.inside.queues in omega (arith, qs.ok.0, has_queue c.self.inside.heads qs.items c.self.invariant c.in-Some.slot c.in-Some.ensures.waits)

pub send-requires-clause-first : goal.send-requires-clause-first
send-requires-clause-first c =
    sends_first c.self.inside.heads c.first.new.self c.first.new.self c.first.ensures.raised c.in-Some.slot (sym c.in-Some.is ∙ c.first.ensures.picks)

pub send-requires-clause-next : goal.send-requires-clause-next
send-requires-clause-next c =
    let h = c.self.inside.heads in
    let qs = c.self.inside.queues.items in
    let t = c.take_first-next in
    rw (backlog_first h c.first.new.self c.first.new.self c.first.ensures.raised c.in-Some.slot)
    (next_stored h.flows qs c.self.invariant.stored c.in-Some.slot c.index_mut.result.now (has_queue h qs c.self.invariant c.in-Some.slot c.in-Some.ensures.waits)
    c.index_mut.ensures.value t.new.queue t.result t.ensures.rest t.ensures.next)

-- Some packet was sent.
sends : (c : After-send) → SendsFirst c.in-Some.slot c.first.new.self
sends c = sends_first c.self.inside.heads c.first.new.self c.first.new.self c.first.ensures.raised c.in-Some.slot (sym c.in-Some.is ∙ c.first.ensures.picks)

pub invariant_of-self-2 : goal.invariant_of-self-2
invariant_of-self-2 c =
    let h = c.self.inside.heads in
    let qs = c.self.inside.queues.items in
    let t = c.take_first-next in
    let mid = c.first.new.self in
    record {
      stored =
          sent_stored h mid c.send.new.self _ c.in-Some.slot (flows_were h mid mid c.first.ensures.raised) (sends c) (at_first (λ p. Picks p mid c.send.new.self) c.in-Some.slot mid (sends c) c.send.ensures.some)
          (left h.flows qs c.self.invariant.stored c.in-Some.slot c.index_mut.result.now (has_queue h qs c.self.invariant c.in-Some.slot c.in-Some.ensures.waits)
          c.index_mut.ensures.value t.new.queue t.ensures.rest);
      rooms = c.send.ensures.rooms;
    }

pub returns-clause-some : goal.returns-clause-some
returns-clause-some c =
    let h = c.self.inside.heads in
    let qs = c.self.inside.queues.items in
    rw (← c.self.view_is)
    (if_some (pick h.virtual_time (heads_of h.flows)) (λ p. Picks p h c.send.new.self) _ (λ p s. picks_with (map spare qs) _ p h c.send.new.self s)
    (picks_first h c.first.new.self c.send.new.self c.first.ensures.raised c.send.ensures.some))

pub returns-clause-keeps_room : goal.returns-clause-keeps_room
returns-clause-keeps_room c =
    let qs = c.self.inside.queues.items in
    let q = c.index_mut.result.now in
    let t = c.take_first-next in
    rw (← c.self.view_is)
    (room_grows spare qs c.in-Some.slot t.new.queue
    (λ d l. let e = get_or_read qs c.in-Some.slot q l c.index_mut.ensures.value d in let grows = t.ensures.room in rw (← e) grows))

pub returns-clause-keeps_arrivals : goal.returns-clause-keeps_arrivals
returns-clause-keeps_arrivals c = rw (← c.self.view_is) (c.send.ensures.keeps_arrivals ∙ ap (λ (s : Schedule). s.arrivals) c.first.ensures.raised)

pub returns-clause-picks : goal.returns-clause-picks
returns-clause-picks c = rw (← c.self.view_is) (sym c.in-Some.is ∙ c.first.ensures.picks)

pub returns-clause-idle : goal.returns-clause-idle
returns-clause-idle c = rw (← c.self.view_is) (λ e. absurd cc, λ i. let none = sym c.in-Some.is ∙ c.first.ensures.idle.1 i in absurd cc)

-- No packet waits.
pub returns-in_default-clause-some : goal.returns-in_default-clause-some
returns-in_default-clause-some c =
    let h = c.self.inside.heads in
    rw (← c.self.view_is) (rw (mapped_none (pick h.virtual_time (heads_of h.flows)) (sym c.first.ensures.picks ∙ c.in_default.is)) tt)
