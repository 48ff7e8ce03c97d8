use Rattle.dn_config.proofs.Vocabulary.{List, ap, append-nil, joined_parts, refl, sym, take_rest, ℕ, ◌∙◌}
use Rattle.std.proofs.lemmas.List as L
use Rattle.dn_config.proofs.Marks.{found, no_mark, steps, unmarked}
use Rattle.dn_config.proofs.tokens.joined.split_joined.Goals as goal
use Rattle.dn_config.proofs.tokens.joined.split_joined.Goals.{then-starts_line+in-None, else-starts_line}

pub returns-in-Some-clause-config : goal.returns-in-Some-clause-config
returns-in-Some-clause-config c =
    let e = rw (take_rest c.args.text.now c.loop-i.i) at c.in-Some.ensures in
    ap (λ (p : List ℕ × List ℕ). p.0) (found c.args.text.now c.loop-i.i c.in-Some.rest.now (joined_parts c.args.text.now) c.loop-i-test.true (sym e) (rw c.if-starts_line.true at c.loop-i.invariant))

pub returns-in-Some-clause-packets : goal.returns-in-Some-clause-packets
returns-in-Some-clause-packets c =
    let e = rw (take_rest c.args.text.now c.loop-i.i) at c.in-Some.ensures in
    ap (λ (p : List ℕ × List ℕ). p.1) (found c.args.text.now c.loop-i.i c.in-Some.rest.now (joined_parts c.args.text.now) c.loop-i-test.true (sym e) (rw c.if-starts_line.true at c.loop-i.invariant))

pub loop-i-preserved : goal.loop-i-preserved
loop-i-preserved c = elim c.if-starts_line.branch [
  | then-starts_line+in-None w ↦
      let e = rw (take_rest c.args.text.now c.loop-i.i) at w.in-None.ensures in
      steps c.args.text.now c.loop-i.i _ c.loop-i.starts_line (joined_parts c.args.text.now) c.loop-i-test.true refl (rw w.if-starts_line.true (no_mark _ e)) c.loop-i.invariant
  | else-starts_line w ↦
      steps c.args.text.now c.loop-i.i _ c.loop-i.starts_line (joined_parts c.args.text.now) c.loop-i-test.true refl (rw w.if-starts_line.false refl) c.loop-i.invariant
]

pub returns-clause-config : goal.returns-clause-config
returns-clause-config c =
    sym (L.take_all c.loop-i.i c.args.text.now c.loop-i-test.false)
    ∙ ap (λ (p : List ℕ × List ℕ). p.0) (unmarked c.args.text.now c.loop-i.i c.loop-i.starts_line (joined_parts c.args.text.now) c.loop-i-test.false c.loop-i.invariant)

pub returns-clause-packets : goal.returns-clause-packets
returns-clause-packets c =
    ap (λ (p : List ℕ × List ℕ). p.1) (unmarked c.args.text.now c.loop-i.i c.loop-i.starts_line (joined_parts c.args.text.now) c.loop-i-test.false c.loop-i.invariant)
