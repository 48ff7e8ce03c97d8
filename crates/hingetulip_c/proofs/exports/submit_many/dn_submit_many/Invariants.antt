-- The packets so far are told, and the other fates are as they were.
use Rattle.hingetulip_c.proofs.Words.{After, AreTold, HeldAfter, [], drop, length, sent, take, ◌≡◌}
use Rattle.hingetulip_c.proofs.exports.submit_many.dn_submit_many.Given as goal

abbrev pub invariant-loop-i : goal.invariant-loop-i
invariant-loop-i l = record {
  stands : After l.fn.handle.held (λ rule calls. HeldAfter rule l.handle.held (sent (take l.i l.packets) calls));
  told : After l.fn.handle.held (λ rule calls. AreTold l.i rule calls l.packets l.fn.fates l.fates);
  closed : l.fn.handle.held ≡ [] → (l.handle.held ≡ []) × (l.i ≡ 0);
  opened : l.handle.held ≡ [] → l.fn.handle.held ≡ [];
  others : drop l.i l.fates ≡ drop l.i l.fn.fates;
  long : length l.fates ≡ length l.fn.fates;
}
