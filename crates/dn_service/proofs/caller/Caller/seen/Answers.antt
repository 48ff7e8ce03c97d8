use Rattle.dn_service.proofs.Words.{rules}
use Rattle.dn_service.proofs.Lastings.{shows}
use Rattle.dn_service.proofs.caller.Caller.seen.Goals as goal

pub split_seat-seat-requires : goal.split_seat-seat-requires
split_seat-seat-requires c = (search rules, search rules, shows _ _ c.self.inside.number _ c.self.invariant.sits)
