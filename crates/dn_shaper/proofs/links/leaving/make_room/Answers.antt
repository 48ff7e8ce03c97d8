-- After all keys that were left have gone, the room that callers see is there.
use Rattle.dn_shaper.proofs.Words.{arith}
use Rattle.dn_shaper.proofs.LeftSteps.{counts-of-zero, first-of-zero, keeps-none}
use Rattle.dn_shaper.proofs.links.leaving.make_room.Goals as goal

pub returns-then-room-eq0-clause-tidy : goal.returns-then-room-eq0-clause-tidy
returns-then-room-eq0-clause-tidy c = record {
  kept = c.drop_all.ensures.kept;
  first = first-of-zero c.drop_all.new.heap c.drop_all.new.emptied c.drop_all.ensures.none;
}

pub returns-then-room-eq0-clause-room : goal.returns-then-room-eq0-clause-room
returns-then-room-eq0-clause-room c = omega (arith, c.drop_all.ensures.keeps.room, c.drop_all.ensures.none, c.requires.some)

pub returns-then-room-eq0-clause-counts : goal.returns-then-room-eq0-clause-counts
returns-then-room-eq0-clause-counts c = counts-of-zero c.drop_all.new.emptied c.drop_all.ensures.none c.args.key.now

pub returns-else-room-eq0-clause-keeps : goal.returns-else-room-eq0-clause-keeps
returns-else-room-eq0-clause-keeps c = keeps-none c.args.heap.now c.args.emptied.now
