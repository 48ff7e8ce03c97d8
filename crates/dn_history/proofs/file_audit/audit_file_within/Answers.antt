use Rattle.dn_history.proofs.HistoryFaults.{of_reading_within}
use Rattle.dn_history.proofs.FileAuditSteps.{of_reading, of_writing, told, untold}
use Rattle.dn_history.proofs.file_audit.audit_file_within.Goals as goal

-- The line of the verdict was written.
pub returns-in-Ok-write_text-clause-ok : goal.returns-in-Ok-write_text-clause-ok
returns-in-Ok-write_text-clause-ok g c =
    let (text, is, within, found) = c.in-Ok.ensures.ok in
    let line = told c.args.limit (g.I.Inlet.remaining c.args.history.now) text _ _ _ c.as_bytes.result.now is within found c.in-Ok-verdict_line.ensures c.as_bytes.ensures.value in
    (c.as_bytes.result.now, line, c.in-Ok-write_text.ensures.ok)

-- A write failed.
pub returns-clause-err : goal.returns-clause-err
returns-clause-err g c =
    let known = g.I.Inlet.remaining c.args.history.now in
    let (text, is, within, found) = c.in-Ok.ensures.ok in
    let line = told c.args.limit known text _ _ _ c.as_bytes.result.now is within found c.in-Ok-verdict_line.ensures c.as_bytes.ensures.value in
    untold c.args.limit known (g.O.Outlet.contents c.args.out.now) (g.O.Outlet.contents c.write_text.new.out) (g.I.Inlet.has_failed c.audit_input.new.history)
    (g.O.Outlet.has_failed c.write_text.new.out)
    _ c.as_bytes.result.now c.in-Err-write_text.fault c.in-Ok.ensures.sound line c.in-Err-write_text.ensures.err

-- The file isn't read.
pub returns-in-Err-clause-faults : goal.returns-in-Err-clause-faults
returns-in-Err-clause-faults g c =
    of_reading _ (of_reading_within c.args.limit (g.I.Inlet.remaining c.args.history.now) (g.I.Inlet.has_failed c.audit_input.new.history) c.in-Err.fault c.in-Err.ensures.err)

pub returns-clause-faults : goal.returns-clause-faults
returns-clause-faults g c =
    of_writing c.as_bytes.result.now (g.O.Outlet.contents c.args.out.now) (g.O.Outlet.contents c.write_text.new.out)
    (g.O.Outlet.has_failed c.write_text.new.out) c.in-Err-write_text.fault c.in-Err-write_text.ensures.err
