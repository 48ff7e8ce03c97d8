-- The clock. A list of calls stands newest first, here and in the other files: `c ∷ calls` is `calls` followed by `c`.
use Rattle.std.specs.Prelude.{ℕ, ◌-◌, ◌^◌, max, List, [], ◌∷◌, length, drop}
use Rattle.dn_types.specs.declared.call.Call.{Call}
use Rattle.dn_types.specs.declared.call.Call.TheVariants.{Submit, Advance, Collect}

-- The moment that a call names, 0 for a call without one.
abbrev pub moment_of : Call → ℕ
moment_of (Submit target packet moment) = moment
moment_of (Advance moment) = moment
moment_of (Collect moment) = moment
moment_of _ = 0

-- The effective moment after the calls: the greatest that any of them names, so that the clock never goes back
-- (this project's own rule).
abbrev pub effective_moment : List Call → ℕ
effective_moment [] = 0
effective_moment (c ∷ calls) = max (effective_moment calls) (moment_of c)

-- So many calls are answered. Every further call is answered Exhausted and counts for nothing.
abbrev pub call_limit : ℕ
call_limit = 2 ^ 62

-- The calls that count: the oldest up to the limit.
abbrev pub counted : List Call → List Call
counted calls = drop (length calls - call_limit) calls
