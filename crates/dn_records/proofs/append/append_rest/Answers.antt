use Rattle.dn_records.proofs.Words.{Empty, List, [], ap, append_assoc, arith, bytes_of, default_writer, field_text, fields_text, get_or, length, length-append, record_of, sym, take, vec_capacity}
use Rattle.dn_records.proofs.Words.{ℕ, ◌++◌, ◌+◌, ◌<◌, ◌∙◌, ◌∷◌, ◌≡◌}
use Rattle.dn_records.proofs.Lines.{fields-fit, fields-more, on_err, starts-shorter}
use Rattle.dn_records.proofs.append.append_rest.Goals as goal

pub returns-in_err-push-clause-full : goal.returns-in_err-push-clause-full
returns-in_err-push-clause-full c =
    let fields = c.args.fields.now in
    let i = c.loop-field.field-index in
    let before = c.args.text.now.items in
    let refused : vec_capacity c.args.text.now < length before + length (fields_text default_writer (record_of fields)) =
    omega (
      arith,
      c.loop-field.invariant.capacity,
      c.in_err-push.ensures.full,
      c.loop-field.text.ok.0,
      ap (length {A = ℕ}) c.loop-field.invariant.text,
      length-append before (fields_text default_writer (record_of (take i fields))),
      fields-fit fields i Empty c.loop-field-test.true,
    ) in
    on_err _ refused

pub returns-in_err-append_field-clause-full : goal.returns-in_err-append_field-clause-full
returns-in_err-append_field-clause-full c =
    let fields = c.args.fields.now in
    let i = c.loop-field.field-index in
    let before = c.args.text.now.items in
    let refused : vec_capacity c.args.text.now < length before + length (fields_text default_writer (record_of fields)) =
    omega (
      arith,
      c.loop-field.invariant.capacity,
      c.in_ok-push.ensures.capacity,
      c.in_err-append_field.ensures.full,
      ap (length {A = ℕ}) c.in_ok-push.ensures.items,
      length-append c.loop-field.text.items (44 ∷ []),
      ap (length {A = ℕ}) c.loop-field.invariant.text,
      length-append before (fields_text default_writer (record_of (take i fields))),
      fields-fit fields i Empty c.loop-field-test.true,
    ) in
    on_err _ refused

pub returns-in_err-append_field-clause-starts : goal.returns-in_err-append_field-clause-starts
returns-in_err-append_field-clause-starts c =
    let before = c.args.text.now.items in
    let done = fields_text default_writer (record_of (take c.loop-field.field-index c.args.fields.now)) in
    let text : c.push.new.self.items ≡ before ++ (done ++ 44 ∷ []) =
    c.in_ok-push.ensures.items ∙ ap (λ (t : List ℕ). t ++ 44 ∷ []) c.loop-field.invariant.text ∙ append_assoc before done (44 ∷ []) in
    starts-shorter c.append_field.new.text.items before (done ++ 44 ∷ []) (rw text at c.in_err-append_field.ensures.starts)

pub loop-field-preserved : goal.loop-field-preserved
loop-field-preserved c =
    let fields = c.args.fields.now in
    let i = c.loop-field.field-index in
    let before = c.args.text.now.items in
    let done = fields_text default_writer (record_of (take i fields)) in
    let last = field_text default_writer (bytes_of (get_or fields i Empty)) in
    let text : c.push.new.self.items ≡ (before ++ done) ++ 44 ∷ [] =
    c.in_ok-push.ensures.items ∙ ap (λ (t : List ℕ). t ++ 44 ∷ []) c.loop-field.invariant.text in
    record {
      text = c.in_ok-append_field.ensures.ok
          ∙ ap (λ (t : List ℕ). t ++ last) text
          ∙ append_assoc (before ++ done) (44 ∷ []) last
          ∙ append_assoc before done (44 ∷ last)
          ∙ ap (λ (t : List ℕ). before ++ t) (sym (fields-more fields i Empty c.loop-field-test.true));
      capacity = omega (arith, c.loop-field.invariant.capacity, c.in_ok-push.ensures.capacity, c.in_ok-append_field.ensures.capacity);
    }
