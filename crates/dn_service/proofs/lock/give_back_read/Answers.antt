use Rattle.dn_service.proofs.Words.{ap, rest, rules, with_history, ◌∙◌}
use Rattle.dn_service.proofs.Waking.{reads}
use Rattle.dn_service.proofs.lock.give_back_read.Goals as goal

pub store-requires : goal.store-requires
store-requires c =
    let put = c.put_in.ensures.seat in let b = c.requires.book in (
      search rules,
      search rules,
      reads c.args.desk.now.table.shared.key _ _ _ b.0 c.args.book (ap (λ x. x.0.taken) put ∙ b.1) (ap (λ x. x.1) put) b.2,
    )

pub returns-clause-seat : goal.returns-clause-seat
returns-clause-seat c = let put = c.put_in.ensures.seat in let told = c.store.ensures.2 in
    (told.0, λ was is. told.1 was (ap (λ x. x.0.taken) put ∙ is) ∙ (λ i. (with_history (put i).0 told.0 was.history, rest (put i).1)))
