use Rattle.dn_service.proofs.Words.{AreBelow, Each, Follows, Has, IsLawful, Ordered, StandsAfter, [], ap, append-nil, calls_of, inl, refl, shed_in, subst, sym, with_shed, ◌++◌, ◌∙◌, ◌≡◌}
use Rattle.dn_service.proofs.Lastings.{empties_keeper, loses_keeper, gone_all}
use Rattle.dn_service.proofs.lasting.empty.Goals as goal

pub enter-requires-clause-seat : goal.enter-requires-clause-seat
enter-requires-clause-seat c = let is = c.requires.seat in
    (ap (λ x. x.0.taken) is, ap (λ x. x.1) is, subst (Has c.args.number) (sym (ap (λ x. x.0.accounts) is)) (inl refl))

pub give_empty-requires-clause-shed : goal.give_empty-requires-clause-shed
give_empty-requires-clause-shed c = let won = c.in-Ok.ensures.taken in
    (shed_in c.args.seat.now.me.0.shed, ap (λ v. v.shed) won.view ∙ ap (λ x. x.0.shed) c.requires.seat)

pub give_empty-requires-clause-book : goal.give_empty-requires-clause-book
give_empty-requires-clause-book c = let won = c.in-Ok.ensures.taken in let did = c.take.ensures in (
  won.past,
  ap (λ v. v.taken) won.view,
  record {
    lawful = won.keeps.lawful;
    stands = subst (λ s. StandsAfter Ordered s (calls_of won.past.history)) (sym did.book.0) won.keeps.stands;
    whole = sym (append-nil won.past.history) ∙ ap (λ h. won.past.history ++ h) (sym did.book.1);
    gone = gone_all won.past.history won.past.shed c.in-Ok.book.kept c.in-Ok.book.gone _ won.keeps.whole won.keeps.gone did.gone;
  },
)

pub returns-in-Ok-clause-seat : goal.returns-in-Ok-clause-seat
returns-in-Ok-clause-seat c = let won = c.in-Ok.ensures.taken in
    empties_keeper c.args.number c.args.seat.now.me _ c.give_empty.ensures.seat.0 won.past.history c.requires.seat
    (c.give_empty.ensures.seat.1 won.past (ap (λ v. v.taken) won.view) ∙ ap (λ v. (with_shed v c.give_empty.ensures.seat.0 won.past.history, [])) won.view)

pub returns-in-Ok-clause-ok : goal.returns-in-Ok-clause-ok
returns-in-Ok-clause-ok c = let won = c.in-Ok.ensures.taken in let m = c.args.seat.now.me in
    let whole : won.past.history ≡ shed_in m.0.shed ++ c.take.new.list.items =
    won.keeps.whole ∙ (λ i. sym (won.shed (shed_in m.0.shed) (ap (λ x. x.0.shed) c.requires.seat)) i ++ sym c.take.ensures.entries i) in record {
      faced = c.give_empty.ensures.seat.0;
      now = c.give_empty.ensures.seat.1 won.past (ap (λ v. v.taken) won.view) ∙ ap (λ v. (with_shed v c.give_empty.ensures.seat.0 won.past.history, []))
          won.view ∙ ap (λ h. (with_shed m.0 c.give_empty.ensures.seat.0 h, [])) whole;
      lawful = subst (IsLawful Ordered) whole won.keeps.lawful;
      below = subst (AreBelow m.0.count) whole won.below;
      follows = subst (λ h. Each (Follows h) m.0.accounts) whole won.follows;
    }

pub returns-in-Ok-clause-count : goal.returns-in-Ok-clause-count
returns-in-Ok-clause-count c = let won = c.in-Ok.ensures.taken in
    ap (λ x. x.0.count) (c.give_empty.ensures.seat.1 won.past (ap (λ v. v.taken) won.view)) ∙ ap (λ v. v.count) won.view

pub returns-in-Err-clause-seat : goal.returns-in-Err-clause-seat
returns-in-Err-clause-seat c = loses_keeper c.args.number c.args.seat.now.me _ _ c.requires.seat c.in-Err.ensures.taken.0
