use Rattle.dn_replay.proofs.Words.{IsConfigSoFar, List, take, ℕ, ◌++◌}
use Rattle.dn_replay.proofs.config.config_part.ConfigPart.feed.Given as goal

abbrev pub invariant-loop-i : goal.invariant-loop-i
invariant-loop-i l = (text : List ℕ) → IsConfigSoFar l.initial.self text → IsConfigSoFar l.self (text ++ take l.i l.part)
