use Rattle.hingetulip_c.proofs.Words.{ap, drop, length, rules, sym, vec_len, waiting, ◌∙◌, ◌≡◌}
use Rattle.hingetulip_c.proofs.ManyTexts.{none_fits}
use Rattle.hingetulip_c.proofs.ledger.Ledger.write_many.Goals as goal

pub returns-then-made-eq0-clause-room : goal.returns-then-made-eq0-clause-room
returns-then-made-eq0-clause-room c at =
    let made = c.in-Ok.made in let fit = c.in-Ok.ensures in
    let waits = c.rest_from-waiting.ensures ∙ ap (drop c.args.self.now.written) c.as_slice.ensures.value in
    let counted : vec_len made.text ≡ length made.text.items = search rules in
    rw (c.len.ensures, counted) (none_fits c.rest_from-waiting.result.now (waiting c.args.self.now) made.count made.size (length c.args.text.now) made.text.items waits
    (sym c.is_empty.ensures ∙ c.if-is_empty.false) c.if-made-eq0.true fit.within fit.text fit.most)
