use Rattle.dn_files.proofs.Words.{err_from_is_err_and, is_ok, true, ◌≡◌}
use Rattle.dn_files.proofs.packet_reader.PacketReader.all_rows.Goals as goal

pub loop-row-preserved : goal.loop-row-preserved
loop-row-preserved c =
    let good : is_ok c.push.result ≡ true = c.if-is_err.ensures.negation in
    λ text has. rw (rw good at c.push.ensures.items) (c.in-Some.ensures.rows text c.loop-row.rows.items (c.loop-row.invariant text has))

pub returns-in_err-last-clause-err : goal.returns-in_err-last-clause-err
returns-in_err-last-clause-err c =
    let rows = c.loop-row.rows.items in
    let p = err_from_is_err_and c.from_residual.result c.from_residual.ensures.1 in
    rw (p.1, p.2) (λ text has. c.in_err-last.ensures.err text rows (c.in_default.ensures.rows text rows (c.loop-row.invariant text has)))

pub returns-clause-ok : goal.returns-clause-ok
returns-clause-ok c =
    let rows = c.loop-row.rows.items in
    let good : is_ok c.extend_from_slice.result ≡ true = c.if-is_err-2.ensures.negation in
    λ text has. rw (rw (good, c.as_slice.ensures.value) at c.extend_from_slice.ensures.items)
    (c.in_ok-last.ensures.ok text rows (c.in_default.ensures.rows text rows (c.loop-row.invariant text has)))
