use Rattle.dn_service.proofs.Words.{IsSameCaller, Wakes, [], ap, having_lost, lost_in, own_entries, refl, sitting, subst, sym, ◌++◌, ◌<◌, ◌∙◌, ◌∷◌, ◌≡◌, ◌≤◌}
use Rattle.dn_service.proofs.Calling.{now_sitting, lost_sitting, lost_to, same_one, seen_from}
use Rattle.dn_service.proofs.Lastings.{is_sitting, is_seat}
use Rattle.dn_service.proofs.Waking.{wakes}
use Rattle.dn_service.proofs.caller.Caller.try_wake_quietly.Goals as goal
use Rattle.dn_service.proofs.caller.Caller.try_wake_quietly.Goals.{After-give_back_read}

pub give_back_read-requires-clause-book : goal.give_back_read-requires-clause-book
give_back_read-requires-clause-book c =
    let won = c.in-Ok.ensures.taken in (won.past, ap (λ v. v.taken) won.view, won.keeps)

-- The caller after it gave the book back.
module _ (c : After-give_back_read) where
  me-is : c.give_back_read.new.seat.me ≡ (
    sitting c.self.inside.seat.me.0.count c.self.inside.number c.in-Ok.ensures.taken.past.history
        (own_entries c.self.inside.number c.in-Ok.ensures.taken.past.history) (lost_in c.self.inside.seat.me.0.accounts) (c.give_back_read.ensures.seat.0 c.self.inside.number),
    [],
  )
  me-is =
      let won = c.in-Ok.ensures.taken in
      now_sitting c.self.inside.number c.self.inside.seat.me c.give_back_read.new.seat.me c.enter.new.seat.me.0 won.past c.give_back_read.ensures.seat.0 won.past.history
      c.self.invariant.sits won.view (c.give_back_read.ensures.seat.1 won.past (ap (λ v. v.taken) won.view))

  count-is : c.give_back_read.new.seat.me.0.count ≡ c.self.inside.seat.me.0.count
  count-is = ap (λ x. x.0.count) me-is

  table-is : c.give_back_read.new.seat.table_id ≡ c.self.inside.seat.table_id
  table-is = c.give_back_read.ensures.table.0 ∙ c.enter.ensures.table.0

pub invariant_of-self : goal.invariant_of-self
invariant_of-self c =
    let w = (goal.at.invariant_of-self c).After-give_back_read in
    let m = c.self.inside.seat.me in let k = c.self.inside.number in record {
      at_table = table-is w ∙ c.self.invariant.at_table;
      one_word = ap (λ t. t.words) (table-is w) ∙ c.self.invariant.one_word;
      below = subst (λ n. k < n) (sym (count-is w)) c.self.invariant.below;
      few = subst (λ n. n ≤ 16) (sym (count-is w)) c.self.invariant.few;
      sits = is_sitting k m.0.count _ _ _ _ c.give_back_read.new.seat.me (me-is w);
    }

pub returns-in-Ok-clause-same_caller : goal.returns-in-Ok-clause-same_caller
returns-in-Ok-clause-same_caller c =
    let w = (goal.at.returns-in-Ok-clause-same_caller c).After-give_back_read in
    subst (λ v. IsSameCaller v (seen_from c.give_back_read.new.seat.table_id c.self.inside.number c.give_back_read.new.seat.me)) c.self.view_is
    record { service = λ i. record { table = table-is w i; callers = count-is w i }; number = refl }

pub returns-in-Ok-clause-ok : goal.returns-in-Ok-clause-ok
returns-in-Ok-clause-ok c =
    let w = (goal.at.returns-in-Ok-clause-ok c).After-give_back_read in
    let m = c.self.inside.seat.me in let k = c.self.inside.number in let won = c.in-Ok.ensures.taken in
    subst (λ v. Wakes v c.wake-next.result (seen_from c.give_back_read.new.seat.table_id k c.give_back_read.new.seat.me)) c.self.view_is
    (wakes c.self.inside.seat.table_id k m c.give_back_read.new.seat.me c.give_back_read.new.seat.table_id won.past.history c.wake-next.result c.self.invariant.sits
    won.keeps.lawful won.below won.follows (c.wake-next.ensures won.past won.keeps) (c.give_back_read.ensures.seat.0 k) (me-is w))

pub returns-in-Ok-clause-lost : goal.returns-in-Ok-clause-lost
returns-in-Ok-clause-lost c =
    ap (λ x. lost_in x.0.accounts) (me-is (goal.at.returns-in-Ok-clause-lost c).After-give_back_read) ∙ ap (λ v. v.lost) c.self.view_is

-- ---- Another caller was in a call

pub invariant_of-self-in-Err : goal.invariant_of-self-in-Err
invariant_of-self-in-Err c =
    let k = c.self.inside.number in let m = c.self.inside.seat.me in
    is_seat _ c.self.inside.seat.table_id c.enter.new.seat.table_id k m c.enter.new.seat.me _ _ _ _ c.self.invariant c.enter.ensures.table.0
    (lost_sitting k m c.enter.new.seat.me c.in-Err.holder c.self.invariant.sits c.in-Err.ensures.taken.0)

pub returns-in-Err-clause-same_caller : goal.returns-in-Err-clause-same_caller
returns-in-Err-clause-same_caller c =
    let k = c.self.inside.number in let m = c.self.inside.seat.me in
    subst (λ v. IsSameCaller v (seen_from c.enter.new.seat.table_id k c.enter.new.seat.me)) c.self.view_is
    (same_one c.self.inside.seat.table_id c.enter.new.seat.table_id k m c.enter.new.seat.me c.enter.ensures.table.0 (ap (λ x. x.0.count) c.in-Err.ensures.taken.0))

pub returns-in-Err-clause-err : goal.returns-in-Err-clause-err
returns-in-Err-clause-err c =
    let k = c.self.inside.number in let m = c.self.inside.seat.me in
    subst (λ v. seen_from c.enter.new.seat.table_id k c.enter.new.seat.me ≡ having_lost c.in-Err.holder v) c.self.view_is
    (lost_to c.self.inside.seat.table_id c.enter.new.seat.table_id k m c.enter.new.seat.me c.enter.ensures.table.0 c.in-Err.holder
    (lost_sitting k m c.enter.new.seat.me c.in-Err.holder c.self.invariant.sits c.in-Err.ensures.taken.0))
