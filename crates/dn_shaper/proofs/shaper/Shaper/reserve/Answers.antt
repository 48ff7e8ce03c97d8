-- Only room was made, so the shaper stands after the same calls.
use Rattle.dn_shaper.proofs.Words.{StandsAt, State, counted, subst, sym}
use Rattle.dn_shaper.proofs.Rooms.{not-full, told-new}
use Rattle.dn_shaper.proofs.shaper.Shaper.reserve.Goals as goal

pub returns-clause-same : goal.returns-clause-same
returns-clause-same c rule calls stands = c.reserve_packet.ensures.still rule (counted calls) (subst (λ (s : State). StandsAt rule s (counted calls)) (sym c.self.view_is) stands)

pub returns-then-self-eq-CALL_LIMIT-clause-known : goal.returns-then-self-eq-CALL_LIMIT-clause-known
returns-then-self-eq-CALL_LIMIT-clause-known c none rule calls stands few = absurd (not-full rule c.self.inside.state c.args.self.now calls c.self.view_is c.if-self-eq-CALL_LIMIT.true stands few)

pub returns-clause-known : goal.returns-clause-known
returns-clause-known c = told-new c.self.inside.state c.args.self.now c.args.target c.args.packet.now.tuple c.reserve_packet.result c.self.view_is c.reserve_packet.ensures.known
