use Rattle.dn_files.proofs.Words.{IfErr-weaker, IfOk-weaker, Ok, arith, drop, records_of, rows_from, rows_of, take_rest, ◌-◌, ◌<◌, ◌∙◌}
use Rattle.dn_files.proofs.PacketParts.{at_header, behind_line, finished, finished_fault}
use Rattle.dn_files.proofs.packet_reader.PacketReader.finish.Goals as goal

pub returns-then-self-eq0-clause-ok : goal.returns-then-self-eq0-clause-ok
returns-then-self-eq0-clause-ok c =
    let inside = c.self.inside in
    IfOk-weaker c.rows_of_text.result _ _ (λ last read. finished inside.number (drop inside.start inside.text.items) c.args.self.now (Ok last.items) c.self.view_is
    (at_header inside.number (drop inside.start inside.text.items) c.if-self-eq0.true ∙ rw (c.deref.ensures.value, take_rest inside.text.items inside.start) at read)) c.rows_of_text.ensures.ok

pub returns-then-self-eq0-clause-err : goal.returns-then-self-eq0-clause-err
returns-then-self-eq0-clause-err c =
    let inside = c.self.inside in
    let left = drop inside.start inside.text.items in
    IfErr-weaker c.rows_of_text.result _ _ (λ fault own. finished_fault inside.number left c.args.self.now (rows_of left) fault c.self.view_is
    (at_header inside.number left c.if-self-eq0.true) (rw (c.deref.ensures.value, take_rest inside.text.items inside.start) at own)) c.rows_of_text.ensures.err

pub returns-clause-ok : goal.returns-clause-ok
returns-clause-ok c =
    let inside = c.self.inside in
    let written = c.put_line_feed.new.text.items in
    let some : 0 < inside.number = omega arith in
    let is = behind_line inside.number inside.start inside.text.items written some (c.self.invariant.behind some) c.self.invariant.within c.put_line_feed.ensures in
    IfOk-weaker c.rows_from_text.result _ _ (λ last read. finished inside.number (drop inside.start inside.text.items) c.args.self.now (Ok last.items) c.self.view_is
    (is ∙ rw (c.deref-2.ensures.value, take_rest written (inside.start - 1)) at read)) c.rows_from_text.ensures.ok

pub returns-clause-err : goal.returns-clause-err
returns-clause-err c =
    let inside = c.self.inside in
    let written = c.put_line_feed.new.text.items in
    let some : 0 < inside.number = omega arith in
    let is = behind_line inside.number inside.start inside.text.items written some (c.self.invariant.behind some) c.self.invariant.within c.put_line_feed.ensures in
    IfErr-weaker c.rows_from_text.result _ _ (λ fault own. finished_fault inside.number (drop inside.start inside.text.items) c.args.self.now
    (rows_from inside.number (records_of (drop (inside.start - 1) written))) fault c.self.view_is is
    (rw (c.deref-2.ensures.value, take_rest written (inside.start - 1)) at own)) c.rows_from_text.ensures.err
