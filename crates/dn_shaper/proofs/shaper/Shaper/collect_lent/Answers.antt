-- A Collect in a list that is lent is answered as any other, below the limit of calls.
use Rattle.dn_shaper.proofs.Words.{Collect, StandsAt, State, arith, counted, length, refl, subst, sym}
use Rattle.dn_shaper.proofs.Counting.{exhausted, answers-ok, holds-ok, same-stands}
use Rattle.dn_shaper.proofs.Holding.{held-is}
use Rattle.dn_shaper.proofs.shaper.Shaper.collect_lent.Goals as goal

pub returns-then-self-eq-CALL_LIMIT-clause-ok : goal.returns-then-self-eq-CALL_LIMIT-clause-ok
returns-then-self-eq-CALL_LIMIT-clause-ok c = exhausted (Collect c.args.moment) c.self.inside.state c.args.self.now c.self.view_is c.if-self-eq-CALL_LIMIT.true

pub invariant_of-self : goal.invariant_of-self
invariant_of-self c = holds-ok
    (Collect c.args.moment) c.self.inside.state c.collect_lent.new.state c.collect_lent.result c.if-self-eq-CALL_LIMIT.false c.self.invariant c.collect_lent.ensures.sound c.collect_lent.ensures.does
    (same-stands c.self.inside.state c.collect_lent.new.state c.collect_lent.result c.collect_lent.ensures.err)

pub returns-else-self-eq-CALL_LIMIT-clause-ok : goal.returns-else-self-eq-CALL_LIMIT-clause-ok
returns-else-self-eq-CALL_LIMIT-clause-ok c = answers-ok
    (Collect c.args.moment) (Collect c.args.moment) c.self.inside.state c.args.self.now c.collect_lent.new.state c.collect_lent.result refl c.self.view_is
    c.if-self-eq-CALL_LIMIT.false c.collect_lent.ensures.does

-- The list has room for all that are held.
pub returns-else-self-eq-CALL_LIMIT-clause-succeeds : goal.returns-else-self-eq-CALL_LIMIT-clause-succeeds
returns-else-self-eq-CALL_LIMIT-clause-succeeds c rule calls stands roomy =
    let value = held-is rule (counted calls) c.self.inside.state c.self.invariant.0
    (subst (λ (s : State). StandsAt rule s (counted calls)) (sym c.self.view_is) stands) (length c.self.inside.state.parts.line.pending) refl in
    c.collect_lent.ensures.succeeds (omega arith)
