-- The fields, and what ends the line behind them.
use Rattle.dn_records.proofs.Words.{ap, arith, length, length-append, line_of, on_err_weaker, on_ok_weaker, record_of, vec_capacity, ℕ, ◌++◌, ◌+◌, ◌<◌, ◌==◌, ◌∙◌, ◌≡◌}
use Rattle.dn_records.proofs.Lines.{line-is, line_end}
use Rattle.dn_records.proofs.append.append_record.Goals as goal

pub returns-clause-ok : goal.returns-clause-ok
returns-clause-ok c =
    let old = c.args.text.now in
    let text = c.append_fields.new.text in
    let line = line-is old.items text.items (record_of c.args.fields.now) c.len.result c.len-start.result
    (omega (arith, c.len.ensures, text.ok.0)) (omega (arith, c.len-start.ensures, old.ok.0)) c.in_ok-append_fields.ensures.ok in
    on_ok_weaker _ (λ (e : c.end_line.new.text.items ≡ text.items ++ line_end (c.len.result == c.len-start.result)). e ∙ line) c.end_line.ensures.ok

pub returns-clause-full : goal.returns-clause-full
returns-clause-full c =
    let old = c.args.text.now in
    let text = c.append_fields.new.text in
    let end = line_end (c.len.result == c.len-start.result) in
    let line = ap (length {A = ℕ}) (line-is old.items text.items (record_of c.args.fields.now) c.len.result c.len-start.result
    (omega (arith, c.len.ensures, text.ok.0)) (omega (arith, c.len-start.ensures, old.ok.0)) c.in_ok-append_fields.ensures.ok) in
    let longer = length-append text.items end in
    let whole = length-append old.items (line_of (record_of c.args.fields.now)) in
    let capacity = c.in_ok-append_fields.ensures.capacity in
    on_err_weaker _ (λ (less : vec_capacity text < length text.items + length end). omega (arith, less, line, longer, whole, capacity)) c.end_line.ensures.full
