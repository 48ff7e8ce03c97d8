use Rattle.dn_service.proofs.Words.{[], ap, rules, with_shed, ◌∙◌}
use Rattle.dn_service.proofs.Taking.{empties}
use Rattle.dn_service.proofs.lock.give_empty.Goals as goal

pub store-requires : goal.store-requires
store-requires c = let put = c.put_in.ensures.seat in let b = c.requires.book in (
  search rules,
  search rules,
  empties c.args.desk.now.table.shared.key _ _ _ b.0 c.args.book c.requires.shed.0 (ap (λ x. x.0.taken) put ∙ b.1) (ap (λ x. x.1) put) b.2
      (ap (λ x. x.0.shed) put ∙ c.requires.shed.1),
)

pub returns-clause-seat : goal.returns-clause-seat
returns-clause-seat c = let put = c.put_in.ensures.seat in let told = c.store.ensures.2 in
    (told.0, λ was is. told.1 was (ap (λ x. x.0.taken) put ∙ is) ∙ ap (λ v. (with_shed v told.0 was.history, [])) (ap (λ x. x.0) put))
