-- The link at the place is the one that can start.
use Rattle.dn_shaper.proofs.Words.{CanSend, HasFront, HasQueues, IsNextToSend, LinkView, ap, arith, flow_at, get-map, homes_of, popped, queue_lengths, refl, subst, sym, view_of, ℕ, ◌∙◌}
use Rattle.dn_shaper.proofs.Alone.{set-seen}
use Rattle.dn_shaper.proofs.HomesOf.{homes-set, popped-home}
use Rattle.dn_shaper.proofs.Queued.{queues-at}
use Rattle.dn_shaper.proofs.Starting.{alone-at, front-at, link-read, popped-below, pushed-at, room-at, sends-at, waiting-at}
use Rattle.dn_shaper.proofs.links.start.start_next.Goals as goal

pub start_one-requires-clause-sends : goal.start_one-requires-clause-sends
start_one-requires-clause-sends c =
    let found = link-read c.requires.within c.requires.agrees c.requires.can c.index_mut-link.ensures.value in
    subst (λ (v : LinkView). CanSend v v.link) (sym found.1) (sends-at c.requires.within c.requires.agrees c.requires.can)

pub start_one-requires-clause-front : goal.start_one-requires-clause-front
start_one-requires-clause-front c =
    let found = link-read c.requires.within c.requires.agrees c.requires.can c.index_mut-link.ensures.value in
    subst (λ (v : LinkView). HasFront v c.args.parts.now.flows.flows) (sym found.1) (front-at c.requires.within c.requires.agrees c.requires.can)

pub start_one-requires-clause-queues : goal.start_one-requires-clause-queues
start_one-requires-clause-queues c =
    let found = link-read c.requires.within c.requires.agrees c.requires.can c.index_mut-link.ensures.value in
    subst (λ (v : LinkView). HasQueues v c.args.parts.now.flows.flows v.link) (sym found.1) (queues-at c.args.parts.now c.requires.agrees c.args.place c.requires.can.view c.requires.can.there)

pub start_one-requires-clause-free : goal.start_one-requires-clause-free
start_one-requires-clause-free c =
    let found = link-read c.requires.within c.requires.agrees c.requires.can c.index_mut-link.ensures.value in
    let free = ap {B = ℕ} (λ (v : LinkView). v.value.free) found.1 in
    let soon = c.requires.can.soon in
    omega arith

pub start_one-requires-clause-room : goal.start_one-requires-clause-room
start_one-requires-clause-room c = room-at c.requires.within c.requires.agrees c.requires.can

pub start_one-requires-clause-pushed : goal.start_one-requires-clause-pushed
start_one-requires-clause-pushed c = pushed-at c.requires.within c.requires.agrees c.requires.can

pub overflow_sub-parts : goal.overflow_sub-parts
overflow_sub-parts c = waiting-at c.requires.within c.requires.agrees c.requires.can

pub returns : goal.returns
returns c =
    let old = c.args.parts.now in
    let found = link-read c.requires.within c.requires.agrees c.requires.can c.index_mut-link.ensures.value in
    let seen = view_of (queue_lengths old.flows.flows) c.index_mut-link.result.now in
    let starts = c.start_one.ensures.starts in
    let after = view_of (queue_lengths c.start_one.new.flows.flows) c.start_one.new.link in
    let some = waiting-at c.requires.within c.requires.agrees c.requires.can in
    let sends = subst (λ (v : LinkView). IsNextToSend starts.flow v after v.link) found.1 starts.sends in
    let alone = alone-at c.requires.within c.requires.agrees c.requires.can starts.flow after sends in
    let below = popped-below old.flows.flows starts.flow starts.packet starts.front in
    record {
      starts = record {
        view = seen;
        view' = after;
        there = get-map (view_of (queue_lengths old.flows.flows)) old.links.items c.args.place c.index_mut-link.result.now found.0;
        views_are = set-seen old starts.flow c.args.place alone below c.start_one.new.flows.flows (popped (flow_at old.flows.flows starts.flow)) starts.flows_are c.start_one.new.link;
        starts = starts;
        keeps = c.start_one.ensures.keeps;
        rule = refl;
        accepted = refl;
        keys = c.start_one.ensures.keys;
        homes = ap homes_of starts.flows_are ∙ homes-set old.flows.flows starts.flow (popped (flow_at old.flows.flows starts.flow)) (popped-home (flow_at old.flows.flows starts.flow));
        waiting = omega arith;
        room = c.start_one.ensures.room;
        pushed = c.start_one.ensures.pushed;
      };
    }
