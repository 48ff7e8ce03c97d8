-- The handle's call leaves the room.
use Rattle.hingetulip_c.proofs.Words.{inl, refl}
use Rattle.hingetulip_c.proofs.exports.advance.dn_advance.Goals as goal

pub returns-in-Ok-clause-leaves : goal.returns-in-Ok-clause-leaves
returns-in-Ok-clause-leaves c = c.in-Ok.ensures.leaves c.in-Some.moment (inl refl)
