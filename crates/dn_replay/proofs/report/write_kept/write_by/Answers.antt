use Rattle.dn_replay.proofs.Words.{refl, sym, ◌∙◌}
use Rattle.dn_replay.proofs.KeptReport.{are-known, report-is-kept, untargeted-is-kept}
use Rattle.dn_replay.proofs.report.write_kept.write_by.Goals as goal

pub write_lines-requires-clause-kept : goal.write_lines-requires-clause-kept
write_lines-requires-clause-kept g c = (c.requires.kept.1.kept_is.fates, c.requires.kept.1.kept_is.is_of)

pub write_lines-requires-clause-known : goal.write_lines-requires-clause-known
write_lines-requires-clause-known g c = are-known c.args.kept.now c.args.given.now c.requires.kept.0 c.requires.kept.1

pub write_lines-requires-clause-marks : goal.write_lines-requires-clause-marks
write_lines-requires-clause-marks g c = rw c.as_slice.ensures.value c.requires.marks

pub returns-in-Ok-clause-ok : goal.returns-in-Ok-clause-ok
returns-in-Ok-clause-ok g c = λ calls h.
    (rw (report-is-kept c.args.kept.now c.args.given.now calls h) (c.in-Ok.ensures.ok h.kept_is.fates h.kept_is.is_of), c.all_untargeted.ensures ∙ sym (untargeted-is-kept c.args.kept.now c.args.given.now calls h))

pub returns-clause-err : goal.returns-clause-err
returns-clause-err g c = λ calls h. rw (report-is-kept c.args.kept.now c.args.given.now calls h) (refl, c.in-Err.ensures.failed, c.in-Err.ensures.part h.kept_is.fates h.kept_is.is_of)
