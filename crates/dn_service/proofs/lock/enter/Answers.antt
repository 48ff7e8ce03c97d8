use Rattle.dn_service.proofs.Words.{Keeps, Some, [], ap, arith, rules, subst, ◌∙◌, ◌∷◌, ◌≡◌, ◌≢◌}
use Rattle.dn_service.proofs.Calling.{same_book}
use Rattle.dn_service.proofs.Taking.{tries}
use Rattle.dn_service.proofs.lock.enter.Goals as goal

pub compare_exchange-found-requires : goal.compare_exchange-found-requires
compare_exchange-found-requires c = (search rules, search rules, tries c.args.desk.now.table.shared.key _ _ _ c.args.number c.requires.seat.0 c.requires.seat.2)

pub take_out-requires-clause-book : goal.take_out-requires-clause-book
take_out-requires-clause-book c =
    let none_had : c.compare_exchange-found.result ≡ 0 = c.if-found-ne0.false in
    let won = c.compare_exchange-found.ensures.2.0 none_had in
    (won.1, ap (λ x. x.1) won.2 ∙ ap (λ cs. (0, Some won.1) ∷ cs) c.requires.seat.1)

pub returns-clause-taken : goal.returns-clause-taken
returns-clause-taken c =
    let none_had : c.compare_exchange-found.result ≡ 0 = c.if-found-ne0.false in
    let won = c.compare_exchange-found.ensures.2.0 none_had in
    let carried : c.compare_exchange-found.new.seat.me.1 ≡ (0, Some won.1) ∷ [] = ap (λ x. x.1) won.2 ∙ ap (λ cs. (0, Some won.1) ∷ cs) c.requires.seat.1 in
    let same : won.1 ≡ c.take_out.result = same_book _ _ _ carried c.take_out.ensures.book in
    record {
      past = won.0;
      view = ap (λ x. x.0) c.take_out.ensures.seat ∙ ap (λ x. x.0) won.2;
      hand = ap (λ x. x.1) c.take_out.ensures.seat;
      keeps = subst (Keeps won.0) same won.3;
      below = won.4;
      follows = won.5;
      shed = won.6;
      knows = won.7;
    }

pub returns-then-found-ne0-clause-taken : goal.returns-then-found-ne0-clause-taken
returns-then-found-ne0-clause-taken c =
    let some_one : c.compare_exchange-found.result ≢ 0 = c.if-found-ne0.true in
    let told = c.compare_exchange-found.ensures.2.1 some_one in let le = told.0 in
    ((told.1 _ (omega arith)).0, omega arith, (told.1 _ (omega arith)).1)
