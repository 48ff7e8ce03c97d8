use Rattle.dn_service.proofs.Words.{AreBelow, Closes, Each, Follows, Has, Knows, accounts_of, ap, arith, has_number, keeping, shed_in, subst, sym, true, ◌++◌, ◌<◌, ◌∙◌, ◌≡◌}
use Rattle.dn_service.proofs.Handing.{account_there, accounted, faced_all}
use Rattle.dn_service.proofs.take_in.leave.Goals as goal

pub enter-requires-clause-seat : goal.enter-requires-clause-seat
enter-requires-clause-seat c =
    let cs = c.args.callers.items in let is = c.take_in.ensures.seat in
    let first : has_number 0 cs ≡ true = c.requires.whole.1 0 c.requires.whole.0 in
    (ap (λ x. x.0.taken) is, ap (λ x. x.1) is, subst (Has 0) (sym (ap (λ x. x.0.accounts) is)) (account_there 0 cs first))

pub unreachable-requires : goal.unreachable-requires
unreachable-requires c =
    let cs = c.args.callers.items in let is = c.take_in.ensures.seat in let told = c.in_default.ensures.taken in
    let count : c.take_in.new.seat.me.0.count ≡ c.args.seat.now.me.0.count = ap (λ x. x.0.count) is in
    let less = told.1 in
    let there : has_number c.in_default.field-0 cs ≡ true = c.requires.whole.1 c.in_default.field-0 (omega arith) in
    told.2 (subst (Has c.in_default.field-0) (sym (ap (λ x. x.0.accounts) is)) (account_there c.in_default.field-0 cs there))

pub returns : goal.returns
returns c = λ service same.
    let cs = c.args.callers.items in let is = c.take_in.ensures.seat in let won = c.in-Ok.ensures.taken in
    let count : c.take_in.new.seat.me.0.count ≡ service.callers = ap (λ x. x.0.count) is ∙ sym same in
    let whole : won.past.history ≡ shed_in c.args.seat.now.me.0.shed ++ c.into_history.result.items =
    won.keeps.whole ∙ (λ i. sym (won.shed (shed_in c.args.seat.now.me.0.shed) (ap (λ x. x.0.shed) is)) i ++ sym c.into_history.ensures i) in
    let at : c.take_in.new.seat.me.0 ≡ keeping c.args.seat.now.me.0.count (shed_in c.args.seat.now.me.0.shed) (accounts_of cs) = ap (λ x. x.0) is in
    subst (Closes service cs) whole record {
      lawful = won.keeps.lawful;
      below = subst (λ n. AreBelow n won.past.history) count won.below;
      accounts = accounted won.past.history cs (subst (Each (Follows won.past.history)) (ap (λ x. x.0.accounts) is) won.follows);
      faced =
          let knows = subst Knows at won.knows in
          faced_all knows.0 cs cs (knows.2 (λ k l. account_there k cs (c.requires.whole.1 k l))) knows.1;
      whole = λ k l. c.requires.whole.1 k (subst (λ n. k < n) same l);
    }
