use Rattle.dn_files.proofs.Words.{fields_of, records_of, sym, ◌∙◌}
use Rattle.dn_files.proofs.Rows.{no_record, other_header, under_header}
use Rattle.dn_files.proofs.packets.rows_of_text.Goals as goal

pub returns-then-not-found-clause-ok : goal.returns-then-not-found-clause-ok
returns-then-not-found-clause-ok c =
    let takes = rw (c.if-not-found.true, c.new-reader.ensures.records) at c.in-Ok.ensures.ok in
    rw (c.new.ensures.items) (no_record (records_of c.args.text.now) c.read.new.self (fields_of c.read.new.row) takes)

pub returns-then-not-is_header-clause-err : goal.returns-then-not-is_header-clause-err
returns-then-not-is_header-clause-err c =
    let takes = rw (c.if-not-found.false, c.new-reader.ensures.records) at c.in-Ok.ensures.ok in
    other_header (records_of c.args.text.now) c.read.new.self (fields_of c.read.new.row) takes (sym c.is_header.ensures ∙ c.if-not-is_header.true)

pub returns-clause-ok : goal.returns-clause-ok
returns-clause-ok c =
    let takes = rw (c.if-not-found.false, c.new-reader.ensures.records) at c.in-Ok.ensures.ok in
    rw (under_header (records_of c.args.text.now) c.read.new.self (fields_of c.read.new.row) takes (sym c.is_header.ensures ∙ c.if-not-is_header.false)) c.rows_below.ensures.ok

pub returns-clause-err : goal.returns-clause-err
returns-clause-err c =
    let takes = rw (c.if-not-found.false, c.new-reader.ensures.records) at c.in-Ok.ensures.ok in
    rw (under_header (records_of c.args.text.now) c.read.new.self (fields_of c.read.new.row) takes (sym c.is_header.ensures ∙ c.if-not-is_header.false)) c.rows_below.ensures.err
