use Rattle.dn_config.proofs.Vocabulary.{at_point, drop, option_map, take, ◌++◌, ◌≡◌}
use Rattle.dn_config.proofs.tokens.address.split_point.Given as goal

abbrev pub invariant-loop-i : goal.invariant-loop-i
invariant-loop-i l = at_point l.text ≡ option_map (λ p. (take l.i l.text ++ p.0, p.1)) (at_point (drop l.i l.text))
