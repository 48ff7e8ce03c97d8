use Rattle.dn_records.proofs.Words.{List, [], ap, append_assoc, arith, default_writer, escaped, get_or, length, length-append, quoted, sym, take, vec_capacity, ℕ, ◌++◌, ◌+◌, ◌<◌, ◌∙◌, ◌∷◌}
use Rattle.dn_records.proofs.Lines.{escaped-fits, escaped-more, on_err}
use Rattle.dn_records.proofs.append.append_quoted.Goals as goal

pub returns-in_err-append_escaped-clause-full : goal.returns-in_err-append_escaped-clause-full
returns-in_err-append_escaped-clause-full c =
    let field = c.args.field.now in
    let i = c.loop-byte.byte-index in
    let text = ap (length {A = ℕ}) c.loop-byte.invariant.text in
    let refused : vec_capacity c.args.text.now < length c.args.text.now.items + length (quoted default_writer field) =
    omega (
      arith,
      c.loop-byte.invariant.capacity,
      c.in_err-append_escaped.ensures.full,
      text,
      length-append c.args.text.now.items (34 ∷ escaped default_writer (take i field)),
      length-append (escaped default_writer field) (34 ∷ []),
      escaped-fits field i 0 c.loop-byte-test.true,
    ) in
    on_err _ refused

pub loop-byte-preserved : goal.loop-byte-preserved
loop-byte-preserved c =
    let field = c.args.field.now in
    let i = c.loop-byte.byte-index in
    let before = c.args.text.now.items in
    let last = escaped default_writer (get_or field i 0 ∷ []) in
    record {
      text = c.in_ok-append_escaped.ensures.ok
          ∙ ap (λ (t : List ℕ). t ++ last) c.loop-byte.invariant.text
          ∙ append_assoc before (34 ∷ escaped default_writer (take i field)) last
          ∙ ap (λ (t : List ℕ). before ++ 34 ∷ t) (sym (escaped-more field i 0 c.loop-byte-test.true));
      capacity = omega (arith, c.loop-byte.invariant.capacity, c.in_ok-append_escaped.ensures.capacity);
    }
