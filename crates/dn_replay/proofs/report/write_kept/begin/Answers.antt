use Rattle.dn_replay.proofs.Words.{List, ap, line_of, report_header, ℕ, ◌++◌, ◌∙◌}
use Rattle.dn_replay.proofs.LineBytes.{header-short}
use Rattle.dn_replay.proofs.report.write_kept.begin.Goals as goal

pub returns-clause-items : goal.returns-clause-items
returns-clause-items c = c.add_header.ensures.items ∙ ap (λ (t : List ℕ). t ++ line_of report_header) c.requires.empty

pub returns-clause-short : goal.returns-clause-short
returns-clause-short c = rw (c.add_header.ensures.items ∙ ap (λ (t : List ℕ). t ++ line_of report_header) c.requires.empty) header-short
