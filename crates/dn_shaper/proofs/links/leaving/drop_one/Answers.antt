-- The first key goes if its link left it.
use Rattle.dn_shaper.proofs.Words.{HasKept, KeepsCounting, List, Option, is_left, subst, sym, true, ℕ, ◌∙◌, ◌≡◌}
use Rattle.dn_shaper.proofs.LeftSteps.{TopPopped, dropped, dropped-kept, first-of-none, first-of-top, keeps-none, popped-fewer, top-popped}
use Rattle.dn_shaper.proofs.NextStarts.{zero_from_none}
use Rattle.dn_shaper.proofs.links.leaving.drop_one.Goals.{After-forget}
use Rattle.dn_shaper.proofs.links.leaving.drop_one.Goals as goal

pub returns-in_default-clause-keeps : goal.returns-in_default-clause-keeps
returns-in_default-clause-keeps c = keeps-none c.args.heap.now c.args.emptied.now

pub returns-in_default-clause-first : goal.returns-in_default-clause-first
returns-in_default-clause-first c = λ _. first-of-none c.args.heap.now c.args.emptied.now c.requires.kept (zero_from_none _ c.in_default.ensures.some.1)

pub returns-then-not-contains-clause-keeps : goal.returns-then-not-contains-clause-keeps
returns-then-not-contains-clause-keeps c = keeps-none c.args.heap.now c.args.emptied.now

pub returns-then-not-contains-clause-first : goal.returns-then-not-contains-clause-first
returns-then-not-contains-clause-first c = λ _.
    first-of-top c.args.heap.now c.args.emptied.now c.requires.kept c.in-Some.field-0.now c.in-Some.ensures.held c.in-Some.ensures.least
    (sym c.contains.ensures ∙ c.if-not-contains.true)

module _ (c : After-forget) where
  popped : TopPopped c.args.heap.now c.in-Some.field-0.now c.pop.new.self
  popped =
      let p = c.pop.ensures in
      top-popped c.args.heap.now c.pop.new.self c.in-Some.field-0.now c.pop.result c.in-Some.ensures.held c.in-Some.ensures.least p.some.1 p.least p.keys p.room

  left : is_left c.args.emptied.now c.in-Some.field-0.now ≡ true
  left = sym c.contains.ensures ∙ c.if-not-contains.false

pub returns-clause-kept : goal.returns-clause-kept
returns-clause-kept c =
    let w = (goal.at.returns-clause-kept c).After-forget in
    subst (λ (E : List (Option ℕ)). HasKept c.pop.new.self E) (sym c.forget.ensures)
    (dropped-kept c.args.heap.now c.args.emptied.now c.in-Some.field-0.now c.pop.new.self c.requires.kept (left w) (popped w).keys (popped w).room)

pub returns-clause-keeps : goal.returns-clause-keeps
returns-clause-keeps c =
    let w = (goal.at.returns-clause-keeps c).After-forget in
    subst (λ (E : List (Option ℕ)). KeepsCounting c.args.heap.now c.args.emptied.now c.pop.new.self E) (sym c.forget.ensures)
    (dropped c.args.heap.now c.args.emptied.now c.in-Some.field-0.now c.pop.new.self c.requires.kept (left w) (popped w).keys (popped w).room c.pop.ensures.keeps_moves)

pub returns-clause-fewer : goal.returns-clause-fewer
returns-clause-fewer c = λ _.
    popped-fewer c.args.heap.now c.pop.new.self c.in-Some.field-0.now (popped (goal.at.returns-clause-fewer c).After-forget)
