use Rattle.dn_replay.proofs.Words.{IsSameCaller, calls_by, calls_of, take, ◌++◌, ◌≡◌}
use Rattle.dn_replay.proofs.callers.calls.repeat.Given as goal

abbrev pub invariant-loop-entry : goal.invariant-loop-entry
invariant-loop-entry g l =
    IsSameCaller l.initial.caller l.caller
    × (calls_by l.caller ≡ calls_of (take l.entry-index l.entries) ++ calls_by l.initial.caller)
