use Rattle.dn_files.proofs.Words.{arith, drop, length, rules, sym, take_rest, vec_len, ◌∙◌, ◌≡◌}
use Rattle.dn_files.proofs.Headers.{header_read}
use Rattle.dn_files.proofs.PacketNext.{header_given, header_left, header_withheld}
use Rattle.dn_files.proofs.PacketParts.{header_shorter, header_taken}
use Rattle.dn_files.proofs.packet_reader.PacketReader.take_header.Goals as goal

pub returns-clause-rows : goal.returns-clause-rows
returns-clause-rows c =
    let inside = c.self.inside in
    let counted : vec_len inside.text ≡ length inside.text.items = search rules in
    header_taken inside.number inside.start c.len.result inside.text.items c.in-Some.rest.now c.args.self.now c.self.view_is c.if-self-ne0.false c.self.invariant.within
    (header_read (drop inside.start inside.text.items) c.in-Some.rest.now (sym (rw (c.deref.ensures.value, take_rest inside.text.items inside.start) at c.in-Some.ensures))) (c.len.ensures ∙ counted)

pub returns-clause-no_longer : goal.returns-clause-no_longer
returns-clause-no_longer c =
    let inside = c.self.inside in
    let counted : vec_len inside.text ≡ length inside.text.items = search rules in
    header_shorter inside.number inside.start c.len.result inside.text.items c.in-Some.rest.now c.args.self.now c.self.view_is c.self.invariant.within
    (header_read (drop inside.start inside.text.items) c.in-Some.rest.now (sym (rw (c.deref.ensures.value, take_rest inside.text.items inside.start) at c.in-Some.ensures))) (c.len.ensures ∙ counted)

pub returns-clause-first : goal.returns-clause-first
returns-clause-first c =
    let inside = c.self.inside in
    let counted : vec_len inside.text ≡ length inside.text.items = search rules in
    λ below none held. header_given inside.number inside.start c.len.result inside.text.items c.in-Some.rest.now below c.args.self.now c.self.view_is c.self.invariant.within
    (rw (c.deref.ensures.value, take_rest inside.text.items inside.start) at c.in-Some.ensures) (c.len.ensures ∙ counted) held

pub returns-in_default-clause-first : goal.returns-in_default-clause-first
returns-in_default-clause-first c =
    let inside = c.self.inside in
    λ below none held. absurd (header_withheld inside.number inside.start inside.text.items below c.args.self.now c.self.view_is
    (rw (c.deref.ensures.value, take_rest inside.text.items inside.start) at c.in_default.ensures) held)

pub overflow_sub-self : goal.overflow_sub-self
overflow_sub-self c =
    let inside = c.self.inside in
    let counted : vec_len inside.text ≡ length inside.text.items = search rules in
    let count = c.len.ensures ∙ counted in
    let left = header_left inside.start inside.text.items c.in-Some.rest.now (rw (c.deref.ensures.value, take_rest inside.text.items inside.start) at c.in-Some.ensures) in
    omega arith

pub invariant_of-self : goal.invariant_of-self
invariant_of-self c =
    let inside = c.self.inside in
    let counted : vec_len inside.text ≡ length inside.text.items = search rules in
    let count = c.len.ensures ∙ counted in
    let left = header_left inside.start inside.text.items c.in-Some.rest.now (rw (c.deref.ensures.value, take_rest inside.text.items inside.start) at c.in-Some.ensures) in
    record { within = omega arith; behind = λ some. omega arith; counted = omega arith }
