use Rattle.dn_files.proofs.Words.{arith, drop, length, rules, sym, take_rest, vec_len, ◌<◌, ◌∙◌, ◌≡◌}
use Rattle.dn_files.proofs.PacketNext.{row_given, row_left, row_withheld}
use Rattle.dn_files.proofs.PacketParts.{row_shorter, row_taken}
use Rattle.dn_files.proofs.QuotedRows.{row_reads}
use Rattle.dn_files.proofs.packet_reader.PacketReader.take_row.Goals as goal

pub returns-clause-rows : goal.returns-clause-rows
returns-clause-rows c =
    let inside = c.self.inside in
    let counted : vec_len inside.text ≡ length inside.text.items = search rules in
    let some : 0 < inside.number = omega arith in
    row_taken inside.number inside.start c.len.result inside.text.items c.in-Some.rest.now c.in-Some.row c.args.self.now c.self.view_is some c.self.invariant.within
    (row_reads (drop inside.start inside.text.items) c.in-Some.rest.now c.in-Some.row
    (sym (rw (c.deref.ensures.value, take_rest inside.text.items inside.start) at c.in-Some.ensures))) (c.len.ensures ∙ counted)

pub returns-clause-shorter : goal.returns-clause-shorter
returns-clause-shorter c =
    let inside = c.self.inside in
    let counted : vec_len inside.text ≡ length inside.text.items = search rules in
    row_shorter inside.number inside.start c.len.result inside.text.items c.in-Some.rest.now c.in-Some.row c.args.self.now c.self.view_is c.self.invariant.within
    (row_reads (drop inside.start inside.text.items) c.in-Some.rest.now c.in-Some.row
    (sym (rw (c.deref.ensures.value, take_rest inside.text.items inside.start) at c.in-Some.ensures))) (c.len.ensures ∙ counted)

pub returns-clause-gives : goal.returns-clause-gives
returns-clause-gives c =
    let inside = c.self.inside in
    let counted : vec_len inside.text ≡ length inside.text.items = search rules in
    λ row rest some small begins. row_given inside.number inside.start c.len.result inside.text.items c.in-Some.rest.now rest c.in-Some.row row c.args.self.now c.self.view_is c.self.invariant.within
    (rw (c.deref.ensures.value, take_rest inside.text.items inside.start) at c.in-Some.ensures) (c.len.ensures ∙ counted) begins

pub returns-in_default-clause-gives : goal.returns-in_default-clause-gives
returns-in_default-clause-gives c =
    let inside = c.self.inside in
    λ row rest some small begins. absurd (row_withheld inside.number inside.start inside.text.items rest row c.args.self.now c.self.view_is
    (rw (c.deref.ensures.value, take_rest inside.text.items inside.start) at c.in_default.ensures) begins)

pub overflow_sub-self : goal.overflow_sub-self
overflow_sub-self c =
    let inside = c.self.inside in
    let counted : vec_len inside.text ≡ length inside.text.items = search rules in
    let count = c.len.ensures ∙ counted in
    let left = row_left inside.start inside.text.items c.in-Some.rest.now c.in-Some.row (rw (c.deref.ensures.value, take_rest inside.text.items inside.start) at c.in-Some.ensures) in
    omega arith

pub invariant_of-self : goal.invariant_of-self
invariant_of-self c =
    let inside = c.self.inside in
    let counted : vec_len inside.text ≡ length inside.text.items = search rules in
    let count = c.len.ensures ∙ counted in
    let left = row_left inside.start inside.text.items c.in-Some.rest.now c.in-Some.row (rw (c.deref.ensures.value, take_rest inside.text.items inside.start) at c.in-Some.ensures) in
    record { within = omega arith; behind = λ some. omega arith; counted = omega arith }
