use Rattle.dn_files.proofs.Words.{fields_of, sym, ◌∙◌}
use Rattle.dn_files.proofs.Rows.{bad_row}
use Rattle.dn_files.proofs.packets.next_row.Goals as goal

pub returns-in-Err-clause-err : goal.returns-in-Err-clause-err
returns-in-Err-clause-err c =
    bad_row c.args.number c.in-Err.field c.args.reader.now c.read.new.self (fields_of c.read.new.row) (rw c.if-not-found.false at c.in-Ok.ensures.ok) (sym c.read_row.ensures ∙ c.in-Err.is)
