use Rattle.dn_service.proofs.Words.{All, IsOf, ServiceView, new_callers, rules, subst, sym, ◌≡◌}
use Rattle.dn_service.proofs.Handing.{new_are_of}
use Rattle.dn_service.proofs.service.Service.open_with_key.Goals as goal

pub returns-clause-of : goal.returns-clause-of
returns-clause-of c =
    let service : ServiceView = record { table = c.hand_out.new.seat.table_id; callers = c.args.n } in
    let all : c.in-Ok-hand_out.callers.items ≡ new_callers service 0 c.args.n = search rules in
    subst (All (IsOf service)) (sym all) (new_are_of service 0 c.args.n)
