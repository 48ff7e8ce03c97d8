use Rattle.dn_records.proofs.Words.{get_or, sym, ◌∙◌}
use Rattle.dn_records.proofs.FirstRecord.{at-start, byte-read, last-read, none-read, record-read}
use Rattle.dn_records.proofs.first_record.read_first.Goals as goal

pub loop-left-init : goal.loop-left-init
loop-left-init c = at-start c.args.most c.args.text.now c.clear.new.self c.new-field.result.items c.clear.ensures.fields c.clear.ensures.partial c.new-field.ensures.items

pub returns-then-not-ends_at_end : goal.returns-then-not-ends_at_end
returns-then-not-ends_at_end c =
    none-read c.args.most c.args.text.now c.loop-left.state c.loop-left.fields c.loop-left.field.items c.loop-left.left.now c.loop-left.invariant
    c.in_default.len_below (sym c.ends_at_end.ensures ∙ c.if-not-ends_at_end.true)

pub returns-in_default : goal.returns-in_default
returns-in_default c =
    last-read c.args.most c.args.text.now c.loop-left.state c.loop-left.fields c.loop-left.field.items c.loop-left.left.now c.take_byte.new.fields c.take_byte.new.field.items
    c.loop-left.invariant c.in_default.len_below (sym c.ends_at_end.ensures ∙ c.if-not-ends_at_end.false) c.in_ok-take_byte.ensures

pub returns-in_default-leads : goal.returns-in_default-leads
returns-in_default-leads c =
    record-read c.args.most c.args.text.now c.loop-left.state c.loop-left.fields c.loop-left.field.items c.loop-left.left.now c.step-step.result
    c.take_byte-in-loop-left.new.fields c.take_byte-in-loop-left.new.field.items c.loop-left.invariant c.in-len1-up.len_at_least c.step-step.ensures
    c.in_ok-take_byte-2.ensures (c.in_default-leads.ensures (get_or c.loop-left.left.now 0 0))

pub loop-left-preserved : goal.loop-left-preserved
loop-left-preserved c =
    let (inside, goes) = c.in-Some.ensures (get_or c.loop-left.left.now 0 0) in
    byte-read c.args.most c.args.text.now c.loop-left.state c.loop-left.fields c.loop-left.field.items c.loop-left.left.now c.step-step.result c.in-Some.next
    c.take_byte-in-loop-left.new.fields c.take_byte-in-loop-left.new.field.items c.loop-left.invariant c.in-len1-up.len_at_least c.step-step.ensures
    c.in_ok-take_byte-2.ensures inside goes
