use Rattle.dn_files.proofs.Words.{add-zero, is_ok, length, rows_from, rules, sym, true, vec_len, ◌+◌, ◌∙◌, ◌≡◌}
use Rattle.dn_files.proofs.Rows.{faulty, fewer, next, no_more, starts}
use Rattle.dn_files.proofs.packets.rows_below.Goals as goal

pub loop-row-init : goal.loop-row-init
loop-row-init c = rw (c.new-rows.ensures.items, add-zero) (starts (rows_from c.args.first c.args.reader.now))

pub loop-row-preserved : goal.loop-row-preserved
loop-row-preserved c =
    let good : is_ok c.push.result ≡ true = c.if-is_err.ensures.negation in
    let takes = rw c.in-Ok-Some.field-0-is at c.in-Ok-Some.ensures.ok in
    rw (rw good at c.push.ensures.items) (next c.args.first c.loop-row.rows.items c.loop-row.reader c.next_row.new.reader c.in-Ok-Some.row
    (rows_from c.args.first c.args.reader.now) takes c.loop-row.invariant)

pub loop-row-smaller : goal.loop-row-smaller
loop-row-smaller c =
    let takes = rw c.in-Ok-Some.field-0-is at c.in-Ok-Some.ensures.ok in
    fewer c.loop-row.reader c.next_row.new.reader c.in-Ok-Some.row takes

pub returns-in-Ok-None-clause-ok : goal.returns-in-Ok-None-clause-ok
returns-in-Ok-None-clause-ok c =
    let takes = rw c.in-Ok-None.field-0-is at c.in-Ok-None.ensures.ok in
    sym c.loop-row.invariant ∙ no_more c.loop-row.rows.items (c.args.first + length c.loop-row.rows.items) c.loop-row.reader c.next_row.new.reader takes

pub returns-in-Err-clause-err : goal.returns-in-Err-clause-err
returns-in-Err-clause-err c =
    let counted : vec_len c.loop-row.rows ≡ length c.loop-row.rows.items = search rules in
    faulty c.loop-row.rows.items (rows_from (c.args.first + length c.loop-row.rows.items) c.loop-row.reader) (rows_from c.args.first c.args.reader.now) c.in-Err.fault c.loop-row.invariant
    (rw (c.len.ensures, counted) at c.in-Err.ensures.err)
