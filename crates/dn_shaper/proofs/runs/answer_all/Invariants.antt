use Rattle.dn_shaper.proofs.Words.{Ordered, StandsAfter, [], length, replies, reverse, take, vec_capacity, ◌≡◌, ◌≤◌}
use Rattle.dn_shaper.proofs.runs.answer_all.Given as goal

abbrev pub invariant-loop-call : goal.invariant-loop-call
invariant-loop-call l = record {
  stands : StandsAfter Ordered l.fn.shaper [] → StandsAfter Ordered l.shaper (reverse (take l.call-index l.calls));
  told : StandsAfter Ordered l.fn.shaper [] → l.replies.items ≡ reverse (replies Ordered (reverse (take l.call-index l.calls)));
  so_far : length l.replies.items ≡ l.call-index;
  room : length l.calls ≤ vec_capacity l.replies;
}
