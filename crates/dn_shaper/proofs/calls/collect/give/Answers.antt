-- What was taken is what is due, and what is left is not.
use Rattle.dn_shaper.proofs.Words.{Delivery, IsInOrder, IsInOrder-undelivered, Line, List, ap, append-nil, arith, due-none, not_due-none, refl, subst, sym, ◌++◌, ◌∙◌}
use Rattle.dn_shaper.proofs.calls.collect.give.Goals as goal

pub loop-delivery-init : goal.loop-delivery-init
loop-delivery-init c = record {
  ordered = subst (λ (ds : List Delivery). IsInOrder ds) (sym c.requires.ordered.2) (IsInOrder-undelivered c.requires.ordered.0 c.requires.ordered.1);
  given = refl;
  rest = refl;
  room = c.requires.room;
  keeps_room = omega arith;
  pushed = refl;
}

pub returns-clause-given : goal.returns-clause-given
returns-clause-given c =
    let none = due-none c.args.at c.loop-delivery.line.pending c.loop-delivery.invariant.ordered (sym c.in_default.ensures.value) in
    sym (ap (λ (ds : List Delivery). c.loop-delivery.list.items ++ ds) none ∙ append-nil c.loop-delivery.list.items) ∙ c.loop-delivery.invariant.given

pub returns-clause-rest : goal.returns-clause-rest
returns-clause-rest c =
    let none = not_due-none c.args.at c.loop-delivery.line.pending c.loop-delivery.invariant.ordered (sym c.in_default.ensures.value) in
    ap (λ (l : Line). l.pending) c.in_default.ensures.none ∙ sym none ∙ c.loop-delivery.invariant.rest
