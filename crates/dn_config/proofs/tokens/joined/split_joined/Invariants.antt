use Rattle.dn_config.proofs.Vocabulary.{drop, joined_parts, parts_from, take, ◌≡◌}
use Rattle.dn_config.proofs.Marks.{behind}
use Rattle.dn_config.proofs.tokens.joined.split_joined.Given as goal

abbrev pub invariant-loop-i : goal.invariant-loop-i
invariant-loop-i l = behind (take l.i l.text) (parts_from l.starts_line (drop l.i l.text)) ≡ joined_parts l.text
