use Rattle.dn_service.proofs.Words.{Has, SeatView, [], ap, rules, subst, sym, with_history, ◌++◌, ◌∙◌}
use Rattle.dn_service.proofs.Taking.{publishes}
use Rattle.dn_service.proofs.lock.publish.Goals as goal

pub store-requires : goal.store-requires
store-requires c = let put = c.put_in.ensures.seat in let b = c.requires.book in (
  search rules,
  search rules,
  publishes c.args.desk.now.table.shared.key _ _ _ b.0 b.1 c.args.book (ap (λ x. x.0.taken) put ∙ b.2) (ap (λ x. x.1) put) b.3
      (subst (λ (v : SeatView). Has b.1.caller v.accounts) (sym (ap (λ x. x.0) put)) b.4),
)

pub returns-clause-seat : goal.returns-clause-seat
returns-clause-seat c = let put = c.put_in.ensures.seat in let told = c.store.ensures.2 in (
  told.0,
  λ was is. told.1 was c.args.book (ap (λ x. x.0.taken) put ∙ is) (ap (λ x. x.1) put)
      ∙ ap (λ v. (with_history v told.0 (was.shed ++ c.args.book.kept), [])) (ap (λ x. x.0) put),
)
