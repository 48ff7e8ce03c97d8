use Rattle.dn_service.proofs.Words.{Answered, Entry, Has, IsSameCaller, List, [], ap, arith, entry_of, front_in, length, length-append, lost_in, own_entries, refl, sitting, subst, sym}
use Rattle.dn_service.proofs.Words.{with_history, ◌++◌, ◌+◌, ◌<◌, ◌^◌, ◌∙◌, ◌∷◌, ◌≡◌, ◌≤◌}
use Rattle.dn_service.proofs.Calling.{now_sitting, seen_from, answers, stands_for, has_seen}
use Rattle.dn_service.proofs.Lastings.{is_sitting, gone_all, seen_less}
use Rattle.dn_service.proofs.caller.Caller.try_placed.Goals as goal
use Rattle.dn_service.proofs.caller.Caller.try_placed.Goals.{After-publish}

pub apply-requires : goal.apply-requires
apply-requires c = let won = c.in-Ok.ensures.taken in (won.past, won.keeps)

pub publish-requires-clause-book : goal.publish-requires-clause-book
publish-requires-clause-book c =
    let m = c.self.inside.seat.me in let k = c.self.inside.number in let is = c.self.invariant.sits in
    let won = c.in-Ok.ensures.taken in
    let e : Entry = entry_of k c.args.call.now c.in-Ok-apply.reply in
    (won.past, e, ap (λ v. v.taken) won.view, c.in-Ok-apply.ensures.ok won.past won.keeps, subst (Has k) (sym (ap (λ v. v.accounts) won.view)) (stands_for k m is))

pub give_back-requires-clause-book : goal.give_back-requires-clause-book
give_back-requires-clause-book c =
    let won = c.in-Ok.ensures.taken in (won.past, ap (λ v. v.taken) won.view, won.keeps)

pub give_back-requires-in-Err-apply-clause-book : goal.give_back-requires-in-Err-apply-clause-book
give_back-requires-in-Err-apply-clause-book c =
    let won = c.in-Ok.ensures.taken in (won.past, ap (λ v. v.taken) won.view, c.in-Err-apply.ensures.err won.past won.keeps)

-- The caller after its call.
module _ (c : After-publish) where
  me-is : c.publish.new.seat.me ≡ (
    sitting c.self.inside.seat.me.0.count c.self.inside.number (c.in-Ok.ensures.taken.past.shed ++ c.apply.new.self.kept)
        (own_entries c.self.inside.number (c.in-Ok.ensures.taken.past.shed ++ c.apply.new.self.kept)) (lost_in c.self.inside.seat.me.0.accounts)
        (c.publish.ensures.seat.0 c.self.inside.number),
    [],
  )
  me-is =
      let won = c.in-Ok.ensures.taken in
      now_sitting c.self.inside.number c.self.inside.seat.me c.publish.new.seat.me c.enter.new.seat.me.0 won.past c.publish.ensures.seat.0 (won.past.shed ++ c.apply.new.self.kept)
      c.self.invariant.sits won.view (c.publish.ensures.seat.1 won.past (ap (λ v. v.taken) won.view))

  count-is : c.publish.new.seat.me.0.count ≡ c.self.inside.seat.me.0.count
  count-is = ap (λ x. x.0.count) me-is

  table-is : c.publish.new.seat.table_id ≡ c.self.inside.seat.table_id
  table-is = c.publish.ensures.table.0 ∙ c.enter.ensures.table.0

pub invariant_of-self-in-Ok-apply : goal.invariant_of-self-in-Ok-apply
invariant_of-self-in-Ok-apply c =
    let w = (goal.at.invariant_of-self-in-Ok-apply c).After-publish in
    let m = c.self.inside.seat.me in let k = c.self.inside.number in record {
      at_table = table-is w ∙ c.self.invariant.at_table;
      one_word = ap (λ t. t.words) (table-is w) ∙ c.self.invariant.one_word;
      below = subst (λ n. k < n) (sym (count-is w)) c.self.invariant.below;
      few = subst (λ n. n ≤ 16) (sym (count-is w)) c.self.invariant.few;
      sits = is_sitting k m.0.count _ _ _ _ c.publish.new.seat.me (me-is w);
    }

pub returns-in-Ok-apply-clause-same_caller : goal.returns-in-Ok-apply-clause-same_caller
returns-in-Ok-apply-clause-same_caller c =
    let w = (goal.at.returns-in-Ok-apply-clause-same_caller c).After-publish in
    subst (λ v. IsSameCaller v (seen_from c.publish.new.seat.table_id c.self.inside.number c.publish.new.seat.me)) c.self.view_is
    record { service = λ i. record { table = table-is w i; callers = count-is w i }; number = refl }

pub returns-in-Ok-apply-clause-ok : goal.returns-in-Ok-apply-clause-ok
returns-in-Ok-apply-clause-ok c =
    let m = c.self.inside.seat.me in let k = c.self.inside.number in let is = c.self.invariant.sits in
    let won = c.in-Ok.ensures.taken in let history : List Entry = won.past.history in
    let e : Entry = entry_of k c.args.call.now c.in-Ok-apply.reply in
    let kept = c.in-Ok-apply.ensures.ok won.past won.keeps in
    let later : history ++ e ∷ [] ≡ won.past.shed ++ c.apply.new.self.kept = kept.whole in
    let now =
    now_sitting k m c.publish.new.seat.me c.enter.new.seat.me.0 won.past c.publish.ensures.seat.0 (history ++ e ∷ []) is won.view
    (c.publish.ensures.seat.1 won.past (ap (λ v. v.taken) won.view) ∙ ap (λ h. (with_history c.enter.new.seat.me.0 c.publish.ensures.seat.0 h, [])) (sym later)) in
    subst (λ v. Answered v c.args.call.now c.in-Ok-apply.reply (seen_from c.publish.new.seat.table_id k c.publish.new.seat.me)) c.self.view_is
    (answers c.self.inside.seat.table_id k m c.publish.new.seat.me c.publish.new.seat.table_id history c.args.call.now c.in-Ok-apply.reply is c.self.invariant.below
    kept.lawful won.below won.follows (c.publish.ensures.seat.0 k) now)

pub returns-in-Ok-apply-clause-place : goal.returns-in-Ok-apply-clause-place
returns-in-Ok-apply-clause-place c = λ few.
    let w = (goal.at.returns-in-Ok-apply-clause-place c).After-publish in
    let won = c.in-Ok.ensures.taken in let history : List Entry = won.past.history in
    let e : Entry = entry_of c.self.inside.number c.args.call.now c.in-Ok-apply.reply in
    let kept = c.in-Ok-apply.ensures.ok won.past won.keeps in
    let front : front_in c.publish.new.seat.me.0.accounts ≡ history ++ e ∷ [] = ap (λ x. front_in x.0.accounts) (me-is w) ∙ sym kept.whole in
    let size : length (front_in c.publish.new.seat.me.0.accounts) ≡ length history + 1 = ap length front ∙ length-append history (e ∷ []) in
    let place : length history < 2 ^ 64 → c.place-place.result ≡ length history =
    (gone_all history won.past.shed c.in-Ok.book.kept c.in-Ok.book.gone c.place-place.result won.keeps.whole won.keeps.gone c.place-place.ensures).0 in
    let same = place (omega (arith, size, few)) in omega (arith, size, same)

pub returns-then-place-after-clause-cause : goal.returns-then-place-after-clause-cause
returns-then-place-after-clause-cause c =
    let m = c.self.inside.seat.me in let k = c.self.inside.number in let is = c.self.invariant.sits in
    let won = c.in-Ok.ensures.taken in
    let front : front_in m.0.accounts ≡ c.args.self.now.front = ap (λ v. v.front) c.self.view_is in
    subst (λ f. length f < c.args.after) front
    (seen_less won.past.history (front_in m.0.accounts) c.place-place.result c.args.after (has_seen k m is won.past.history won.follows).front
    (gone_all won.past.history won.past.shed c.in-Ok.book.kept c.in-Ok.book.gone c.place-place.result won.keeps.whole won.keeps.gone c.place-place.ensures)
    (omega arith) (omega arith))

pub returns-in-Ok-apply-clause-lost : goal.returns-in-Ok-apply-clause-lost
returns-in-Ok-apply-clause-lost c =
    ap (λ x. lost_in x.0.accounts) (me-is (goal.at.returns-in-Ok-apply-clause-lost c).After-publish) ∙ ap (λ v. v.lost) c.self.view_is
