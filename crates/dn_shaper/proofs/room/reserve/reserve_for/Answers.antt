-- A flow that has the key is at home where its packets go.
use Rattle.dn_shaper.proofs.Words.{[], ap, cond, ◌++◌, ◌∷◌}
use Rattle.dn_shaper.proofs.Sending.{goes-there}
use Rattle.dn_shaper.proofs.room.reserve.reserve_for.Goals as goal

pub reserve_known-requires-clause-goes : goal.reserve_known-requires-clause-goes
reserve_known-requires-clause-goes c =
    let keys = c.args.parts.now.flows.keys in
    goes-there c.args.key.now keys keys c.in-Some.flow (ap (λ b. cond b keys (keys ++ c.args.key.now ∷ [])) c.in-Some.ensures.known) c.in-Some.ensures.number
