use Rattle.dn_files.proofs.Words.{has_commas, length, ◌≡◌}
use Rattle.dn_files.proofs.wide_row.has_commas.Given as goal

abbrev pub invariant-loop-missing : goal.invariant-loop-missing
invariant-loop-missing l = has_commas l.missing l.left ≡ has_commas l.count l.text

abbrev pub decreases-loop-missing : goal.decreases-loop-missing
decreases-loop-missing l = length l.left
