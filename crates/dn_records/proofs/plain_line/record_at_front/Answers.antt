use Rattle.dn_records.proofs.Words.{arith, length, nat_tests, slice_split, sym, ◌<◌, ◌==◌, ◌∙◌}
use Rattle.dn_records.proofs.PlainLines.{bare-line}
use Rattle.dn_records.proofs.plain_line.record_at_front.Goals as goal

pub returns-in-Ok : goal.returns-in-Ok
returns-in-Ok c =
    let line = c.in-Some.line.now in
    let some : 0 < length line = grind (arith, nat_tests) in
    record {
      whole = slice_split (λ b. b == 44) line;
      line = bare-line c.args.text.now line c.in-Some.rest.now c.in-Some.ensures some (sym c.has_quotes.ensures ∙ c.if-has_quotes.false);
      front = c.in-Ok.ensures;
    }
