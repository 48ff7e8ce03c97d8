use Rattle.dn_replay.proofs.Words.{Bool, Call, HasFed, List, ℕ, ◌++◌}
use Rattle.dn_replay.proofs.replays.pass.Pass.feed.Given as goal

abbrev pub invariant-loop : goal.invariant-loop
invariant-loop l = (records : Bool) (calls : List Call) (text : List ℕ) → HasFed records l.fn.self calls text → HasFed records l.self calls (text ++ l.part)
