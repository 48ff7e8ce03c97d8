-- The handles so far hold their callers, and the others' callers are left.
use Rattle.hingetulip_c.proofs.Words.{all_held, drop, held_new, length, map, take, ◌≡◌}
use Rattle.hingetulip_c.proofs.exports.service.hand_out.hand_out.Given as goal

abbrev pub invariant-loop-place : goal.invariant-loop-place
invariant-loop-place l = record {
  long : length l.handles ≡ length l.fn.handles;
  left : l.callers.items ≡ drop l.place l.fn.callers.items;
  held : all_held (take l.place l.handles) ≡ map held_new (take l.place l.fn.callers.items);
}
