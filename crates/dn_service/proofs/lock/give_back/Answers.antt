use Rattle.dn_service.proofs.Words.{ap, rest, rules, with_faced, ◌∙◌}
use Rattle.dn_service.proofs.Taking.{gives_back}
use Rattle.dn_service.proofs.lock.give_back.Goals as goal

pub store-requires : goal.store-requires
store-requires c =
    let put = c.put_in.ensures.seat in let b = c.requires.book in (
      search rules,
      search rules,
      gives_back c.args.desk.now.table.shared.key _ _ _ b.0 c.args.book (ap (λ x. x.0.taken) put ∙ b.1) (ap (λ x. x.1) put) b.2,
    )

pub returns-clause-seat : goal.returns-clause-seat
returns-clause-seat c = let put = c.put_in.ensures.seat in let told = c.store.ensures.2 in
    (told.0, told.1 ∙ (λ i. (with_faced (put i).0 told.0, rest (put i).1)))
