use Rattle.dn_records.proofs.Words.{List, ap, arith, fields_of, length, length-append, length-drop, on_ok_weaker, partial_of, take_rest, ℕ, ◌+◌}
use Rattle.dn_records.proofs.PlainLines.{field-last, field-more, front-whole}
use Rattle.dn_records.proofs.plain_line.split_line.Goals as goal

pub loop-left-preserved : goal.loop-left-preserved
loop-left-preserved c =
    let left = c.loop-left.left.now in
    record {
      fields = rw (take_rest left (c.in-Some.comma + 1)) (field-more left c.in-Some.comma c.in-Some.ensures (fields_of c.loop-left.fields) (fields_of c.push_field-in-loop-left.new.self) _
          (partial_of c.loop-left.fields) c.in-Ok.ensures.fields c.loop-left.invariant.whole c.loop-left.invariant.fields);
      whole = c.in-Ok.ensures.partial;
      few = omega (arith, ap (length {A = List ℕ}) c.in-Ok.ensures.fields, length-append {A = List ℕ}, c.if-len-most.false, c.len.ensures);
      no_longer = rw (take_rest left (c.in-Some.comma + 1), length-drop) (omega (arith, c.loop-left.invariant.no_longer));
    }

pub returns-in_default : goal.returns-in_default
returns-in_default c =
    on_ok_weaker c.push_field.result (λ is.
    let whole = field-last c.loop-left.left.now c.in_default.ensures (fields_of c.loop-left.fields) (fields_of c.push_field.new.self) _
    (partial_of c.loop-left.fields) is c.loop-left.invariant.whole c.loop-left.invariant.fields in
    front-whole c.args.most (fields_of c.push_field.new.self) _ whole
    (omega (arith, ap (length {A = List ℕ}) is, length-append {A = List ℕ}, c.if-len-most.false, c.len.ensures))) c.push_field.ensures.fields
