use Rattle.dn_live.proofs.Words.{fields_of, sym, ◌∙◌}
use Rattle.dn_live.proofs.LineReturns.{bare-read, empty-read, no-feed}
use Rattle.dn_live.proofs.line_fields.read_before_return.Goals as goal

pub returns-in_default : goal.returns-in_default
returns-in_default c = λ yes. empty-read c.args.line.now (fields_of c.clear.new.self) c.in_default.len_below c.clear.ensures.fields

pub returns : goal.returns
returns c =
    let feed = no-feed c.args.line.now c.memchr.result c.memchr.ensures (sym c.is_some.ensures ∙ c.if-is_some.false) in
    bare-read c.args.line.now c.read_plain_line.result (fields_of c.read_plain_line.new.fields) c.in-len1-up.len_at_least c.if-first.false feed
    c.read_plain_line.ensures.plain c.read_plain_line.ensures.fields
