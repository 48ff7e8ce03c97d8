-- A row more is read off what is left of the text.
use Rattle.dn_files.proofs.Words.{[], arith, length, length-append, rules, sym, vec_len, ◌∷◌, ◌≡◌}
use Rattle.dn_files.proofs.ChunkRows.{row_more}
use Rattle.dn_files.proofs.PacketParts.{begins_shorter}
use Rattle.dn_files.proofs.QuotedRows.{row_reads}
use Rattle.dn_files.proofs.row_parts.rows_at_front.Goals as goal

pub loop-row-smaller : goal.loop-row-smaller
loop-row-smaller c =
    begins_shorter c.loop-row.rest.now c.in-Some.behind.now c.in-Some.row (row_reads c.loop-row.rest.now c.in-Some.behind.now c.in-Some.row (sym c.in-Some.ensures.0))

pub loop-row-preserved : goal.loop-row-preserved
loop-row-preserved c =
    let text = c.args.text.now in let rest = c.loop-row.rest.now in let behind = c.in-Some.behind.now in let inv = c.loop-row.invariant in
    let begins = row_reads rest behind c.in-Some.row (sym c.in-Some.ensures.0) in
    let shorter = begins_shorter rest behind c.in-Some.row begins in
    let counted : vec_len c.loop-row.rows ≡ length c.loop-row.rows.items = search rules in
    let fewer = c.in-Some.ensures.1 in
    let within = inv.within in
    record {
      read = rw (c.in_ok-push.ensures.items) (row_more text rest behind c.loop-row.rows.items c.in-Some.row begins inv.read);
      few = rw (c.in_ok-push.ensures.items) (omega (arith, length-append c.loop-row.rows.items (c.in-Some.row ∷ []), c.len.ensures, counted, fewer));
      within = omega arith;
    }
