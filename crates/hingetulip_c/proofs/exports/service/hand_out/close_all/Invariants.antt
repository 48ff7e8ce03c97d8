-- The handles so far are closed.
use Rattle.hingetulip_c.proofs.Words.{[], all_held, length, replicate, take, ◌≡◌}
use Rattle.hingetulip_c.proofs.exports.service.hand_out.close_all.Given as goal

abbrev pub invariant-loop-place : goal.invariant-loop-place
invariant-loop-place l = record {
  long : length l.handles ≡ length l.fn.handles;
  closed : all_held (take l.place l.handles) ≡ replicate l.place [];
}
