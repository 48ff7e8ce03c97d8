-- The view of what a pass holds of its calls: with its run and the rows that are kept it is enough for the report, and for the history too
-- if that is recorded.
use Rattle.std.specs.Prelude.{◌≡◌, ◌<◌, ◌≤◌, ◌^◌, ◌∷◌, [], ⊤, Bool, true, false, List, length}
use Rattle.dn_types.specs.Replies.{reply}
use Rattle.dn_types.specs.declared.call.Call.{Call}
use Rattle.dn_types.specs.declared.call.Call.TheVariants.{Collect}
use Rattle.dn_types.specs.declared.delivery.Delivery.{Delivery}
use Rattle.dn_types.specs.declared.reply.Reply.{Reply}
use Rattle.dn_types.specs.declared.rule.Rule.TheVariants.{Ordered}
use Rattle.dn_shaper.specs.Shaper.{StandsAfter}
use Rattle.dn_shaper.specs.declared.state.State.{State}
use Rattle.dn_replay.specs.Passing.{CanPass, StandsPast, passing_limit}
use Rattle.dn_replay.specs.Kept.{CanReport, HasKept}
use Rattle.dn_replay.specs.Runs.{HasMade, history_of}
use Rattle.dn_replay.specs.declared.config.run.Run.{Run}
use Rattle.dn_replay.specs.declared.replays.held.Held.{Held}
use Rattle.dn_replay.specs.declared.replays.held.Held.TheVariants.{Entries, Given}
use Rattle.dn_replay.specs.declared.report.kept.Kept.{Kept}

-- Whether each call is recorded, so that the history has its entry.
abbrev pub has_entries : Held → Bool
has_entries Entries = true
has_entries (Given given) = false

-- No Collect has given a packet.
abbrev pub HoldsNothing : Held → Type 0
HoldsNothing Entries = ⊤
HoldsNothing (Given given) = given.items ≡ []

-- As long as the calls are so few, a shaper was asked them, with Collects in passing among them, and what a report needs of its answers is
-- kept.
abbrev pub HasNoted : State → Kept → List Delivery → List Call → Type 0
HasNoted shaper kept given calls = length calls ≤ passing_limit → StandsPast shaper calls given × HasKept kept calls

-- A run has made these calls, and what a report needs of their answers is kept. If they are recorded, its history is theirs; else packets
-- were collected in passing.
abbrev pub HasAnswered : Held → Run → Kept → List Call → Type 0
HasAnswered Entries run kept calls = HasMade run calls × HasKept kept calls
HasAnswered (Given given) run kept calls = HasNoted run.shaper kept given.items calls

-- Whatever calls a run has made, it has then made what they go on to, and their answers are held in the same way.
abbrev pub GoesOn : (List Call → List Call) → Held → Run → Kept → Held → Run → Kept → Type 0
GoesOn more held run kept held_after run_after kept_after = (calls : List Call) → HasAnswered held run kept calls
    → (has_entries held_after ≡ has_entries held) × HasAnswered held_after run_after kept_after (more calls)

-- A run's shaper has given this answer to one call more, of which the report's row is kept and nothing is held yet.
abbrev pub IsUnheld : Held → Run → Kept → Call → Reply → List Call → Type 0
IsUnheld Entries run kept call answer calls =
    StandsAfter Ordered run.shaper (call ∷ calls) × (run.history.items ≡ history_of calls) × (answer ≡ reply Ordered calls call) × HasKept kept (call ∷ calls)
IsUnheld (Given given) run kept call answer calls = length (call ∷ calls) ≤ passing_limit → CanPass run.shaper (call ∷ calls) given.items × HasKept kept (call ∷ calls)

-- Then its answer is held, in the same way as those before it.
abbrev pub HoldsAnswer : Call → Reply → Kept → Held → Run → Held → Run → Type 0
HoldsAnswer call answer kept held run held_after run_after = (calls : List Call) → IsUnheld held run kept call answer calls
    → (has_entries held_after ≡ has_entries held) × HasAnswered held_after run_after kept (call ∷ calls)

-- A run has made these calls and then the Collect at the last moment, so that their report can be written. If they are recorded, its
-- history is that of all.
abbrev pub HasMadeLast : Held → Run → Kept → List Call → Type 0
HasMadeLast Entries run kept calls = HasMade run (Collect (2 ^ 62) ∷ calls) × HasKept kept calls
HasMadeLast (Given given) run kept calls = CanReport kept given.items calls

-- The last Collect was made behind whatever calls a run has made, if they are few.
abbrev pub Ends : Held → Run → Held → Run → Type 0
Ends held run held_after run_after = (kept : Kept) (calls : List Call) → HasAnswered held run kept calls → length calls < 2 ^ 61
    → (has_entries held_after ≡ has_entries held) × HasMadeLast held_after run_after kept calls
