-- The packet arrives at its flow's home and leaves at once.
use Rattle.dn_shaper.proofs.Words.{LinkParts, PassesLink, arith, common_steps, queue_lengths, refl, subst, view_of}
use Rattle.dn_shaper.proofs.Accepting.{few-accepted, may-agree}
use Rattle.dn_shaper.proofs.HomeRead.{in-table, place-below}
use Rattle.dn_shaper.proofs.Passing.{agrees, arrives, can, can-pass, few-started, free-by, homes-passed, mid, none, stands, starts, views, within}
use Rattle.dn_shaper.proofs.Starting.{pushed-at, room-at}
use Rattle.dn_shaper.proofs.links.pass.pass.Goals.{After-pass_link}
use Rattle.dn_shaper.proofs.links.pass.pass.Goals as goal

pub overflow_add-parts : goal.overflow_add-parts
overflow_add-parts c = let few = few-accepted c.requires.may.2 in omega arith

-- ---- The flow has no packet, and a place

pub pass-requires-clause-within : goal.pass-requires-clause-within
pass-requires-clause-within c = in-table c.args.parts.now (may-agree c.requires.may.2) c.requires.may.2.within

pub pass-requires-clause-reserved : goal.pass-requires-clause-reserved
pass-requires-clause-reserved c = c.requires.may.2.ready.place

pub pass-requires-clause-empty : goal.pass-requires-clause-empty
pass-requires-clause-empty c = none c.requires.may.2 c.requires.home c.requires.idle

pub pass-requires-clause-count : goal.pass-requires-clause-count
pass-requires-clause-count c = few-started c.requires.may.2

-- ---- The link at its home sends it

pub index_mut-link-requires : goal.index_mut-link-requires
index_mut-link-requires c =
    let below = place-below c.args.parts.now (may-agree c.requires.may.2) c.requires.may.2.within c.requires.home in
    grind (arith, common_steps)

pub pass_link-requires : goal.pass_link-requires
pass_link-requires c = can-pass c.requires.may.2 c.requires.home c.requires.idle c.index_mut-link.ensures.value

-- The link that was read is the idle one.
passed : (c : After-pass_link) → PassesLink c.args.home.slot c.args.len c.args.weight c.requires.idle.link c.pass_link.new.link
passed c =
    subst (λ (x : LinkParts). PassesLink c.args.home.slot c.args.len c.args.weight x c.pass_link.new.link)
    (stands c.args.parts.now.links.items c.args.home.place c.requires.idle.there c.index_mut-link.ensures.value) c.pass_link.ensures

pub send-requires-clause-free : goal.send-requires-clause-free
send-requires-clause-free c = free-by c.requires.may.2 c.requires.home c.requires.idle (passed (goal.at.send-requires-clause-free c).After-pass_link)

pub send-requires-clause-room : goal.send-requires-clause-room
send-requires-clause-room c =
    let may = c.requires.may.2 in
    let p = passed (goal.at.send-requires-clause-room c).After-pass_link in
    room-at (within may c.requires.home c.requires.idle p) (agrees may c.requires.home c.requires.idle p) (can may c.requires.home c.requires.idle p)

pub send-requires-clause-pushed : goal.send-requires-clause-pushed
send-requires-clause-pushed c =
    let may = c.requires.may.2 in
    let p = passed (goal.at.send-requires-clause-pushed c).After-pass_link in
    pushed-at (within may c.requires.home c.requires.idle p) (agrees may c.requires.home c.requires.idle p) (can may c.requires.home c.requires.idle p)

pub returns : goal.returns
returns c =
    let may = c.requires.may.2 in
    let read = c.requires.home in
    let idle = c.requires.idle in
    let p = passed (goal.at.returns c).After-pass_link in
    let between = mid may read idle p in
    let flows = c.pass.new.self.flows in
    let left = c.pass.ensures.flows (record { packet = c.args.parts.now.accepted; len = c.args.len; weight = c.args.weight }) in
    let keeps = p.keeps (queue_lengths between.flows.flows) (queue_lengths flows) in
    record {
      mid = between;
      arrives = arrives may read idle p;
      starts = record {
        view = view_of (queue_lengths between.flows.flows) p.mid;
        view' = view_of (queue_lengths flows) (record { pipe = c.pass_link.new.link.pipe; times = c.send.new.link; carries = c.pass_link.new.link.carries });
        there = (can may read idle p).there;
        views_are = views may read idle p flows left c.send.new.link;
        starts = starts may read idle p flows left c.send.new.link c.send.ensures.free c.send.ensures.last_due c.send.ensures.pending;
        keeps = record { room = keeps.room; arrivals = keeps.arrivals };
        rule = refl;
        accepted = refl;
        keys = c.pass.ensures.keys;
        homes = homes-passed c.args.parts.now.flows.flows c.args.flow (record { packet = c.args.parts.now.accepted; len = c.args.len; weight = c.args.weight }) left;
        waiting = refl;
        room = c.send.ensures.room;
        pushed = c.send.ensures.pushed;
      };
    }
