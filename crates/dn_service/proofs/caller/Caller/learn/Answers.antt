use Rattle.dn_service.proofs.Words.{Learns, ap, caller_at, refl, rules, subst}
use Rattle.dn_service.proofs.Lastings.{is_told, learned_from}
use Rattle.dn_service.proofs.Tokens.{learns}
use Rattle.dn_service.proofs.caller.Caller.learn.Goals as goal

pub join_seat-requires : goal.join_seat-requires
join_seat-requires c = (search rules, search rules, ap (λ x. x.1) c.into_seat.ensures.seat, search rules, is_told _ _ _ _ _ _ _ c.into_seat.ensures.seat)

pub load-requires : goal.load-requires
load-requires c = (search rules, search rules, learns _ _ _ _)

pub returns-clause-learns : goal.returns-clause-learns
returns-clause-learns c =
    let k = c.self.inside.number in let told = c.load.ensures.2 in
    subst (λ v. Learns v c.args.seen (caller_at c.load.new.seat.table_id k c.load.new.seat.me)) c.self.view_is
    (learned_from k c.args.seen.service.callers c.args.seen.front c.self.inside.seat.me c.join_seat.new.seat.me c.load.new.seat.me c.into_seat.result.me
    c.self.inside.seat.table_id c.load.new.seat.table_id c.args.seen told.0 c.self.invariant.sits c.into_seat.ensures.seat c.join_seat.ensures.2 told.1 told.2 told.3 refl)
