-- Collects in passing: made among calls at the clock that these leave, they give packets earlier and change nothing else.
use Rattle.std.specs.Prelude.{◌≡◌, ℕ, ◌<◌, ◌≤◌, ◌*◌, ◌^◌, List, ◌∷◌, ◌++◌, All, length}
use Rattle.dn_types.specs.Calls.{trace_of}
use Rattle.dn_types.specs.Clock.{effective_moment}
use Rattle.dn_types.specs.Standing.{Standing, Traffic, standing_of_counted}
use Rattle.dn_types.specs.Trace.{accepted_count}
use Rattle.dn_types.specs.Replies.{reply}
use Rattle.dn_types.specs.declared.call.Call.{Call}
use Rattle.dn_types.specs.declared.call.Call.TheVariants.{Collect}
use Rattle.dn_types.specs.declared.delivery.Delivery.{Delivery}
use Rattle.dn_types.specs.declared.rule.Rule.TheVariants.{Ordered}
use Rattle.dn_replay.specs.Report.{delivered}
use Rattle.dn_shaper.specs.Shaper.{StandsAfter}
use Rattle.dn_shaper.specs.declared.state.State.{State}

-- The traffic, if these packets hadn't been given yet.
abbrev pub with_given : List Delivery → Traffic → Traffic
with_given given x = record x { undelivered = given ++ x.undelivered }

-- The same of where calls leave the emulator, and they are so many.
abbrev pub without_passing : ℕ → List Delivery → Standing → Standing
without_passing count given s = record s { calls = count; traffic = with_given given s.traffic }

-- The packet is due by the clock, and is one of so many that were accepted.
abbrev pub IsPast : ℕ → ℕ → Delivery → Type 0
IsPast clock count d = (d.due ≤ clock) × (d.packet < count)

-- What was made are these calls and, among them, Collects in passing that gave these packets. It leaves the emulator as the calls
-- alone do, but that after the calls alone these packets are still to be given, before all others.
pub record HasPassed (made calls : List Call) (given : List Delivery) : Type 0 where
  pub alike : standing_of_counted Ordered calls ≡ without_passing (length calls) given (standing_of_counted Ordered made)
  pub past : All (IsPast (effective_moment made) (accepted_count (trace_of made))) given
  pub no_fewer : length calls ≤ length made

-- So many calls count, also with as many Collects in passing.
abbrev pub passing_limit : ℕ
passing_limit = 2 ^ 61

-- A shaper was asked these calls and Collects in passing among them, which are no more than the calls and gave these packets.
pub record StandsPast (shaper : State) (calls : List Call) (given : List Delivery) : Type 0 where
  pub made : List Call
  pub stands : StandsAfter Ordered shaper made
  pub few : length made ≤ 2 * length calls
  pub passed : HasPassed made calls given

-- There is room for one Collect in passing more.
abbrev pub CanPass : State → List Call → List Delivery → Type 0
CanPass shaper calls given = (past : StandsPast shaper calls given) × (length past.made < 2 * length calls) × (length calls ≤ passing_limit)

-- A Collect was made behind whatever calls a shaper was asked, and what it gave was added to what was given before.
abbrev pub Collects : ℕ → State → List Delivery → State → List Delivery → Type 0
Collects moment old before new after = (calls : List Call) → StandsAfter Ordered old calls →
    StandsAfter Ordered new (Collect moment ∷ calls)
    × (after ≡ before ++ delivered (reply Ordered calls (Collect moment)))

-- If there was room for it, a Collect in passing was made, or none.
abbrev pub PassesBy : State → List Delivery → State → List Delivery → Type 0
PassesBy old before new after = (calls : List Call) → CanPass old calls before → StandsPast new calls after
