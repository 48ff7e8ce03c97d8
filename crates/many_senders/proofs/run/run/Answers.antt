-- The senders that come back are callers of the service that the taker has.
use Rattle.std.proofs.Common.{All, sym, subst}
use Rattle.std.proofs.lemmas.Result.{IfOk-at_ok}
use Rattle.dn_service.specs.Callers.{ServiceView, IsOf}
use Rattle.many_senders.proofs.run.run.Goals as goal

pub finish-requires : goal.finish-requires
finish-requires g c =
    let back = IfOk-at_ok (λ v. (service : ServiceView) → All (IsOf service) c.in_ok-taker.senders.items → All (IsOf service) v.items) c.in_ok-senders.was c.join-senders.ensures.first in
    subst (λ (service : ServiceView). All (IsOf service) c.in_ok-senders.field-0.items) (sym c.join-senders.ensures.second) (back _ c.in_ok-taker.ensures)
