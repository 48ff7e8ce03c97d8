-- The moment of the next event after a history, and what a caller that asks for it has seen.
use Rattle.std.specs.Prelude.{◌≡◌, ◌<◌, ℕ, max, List, Option, IfSome}
use Rattle.dn_types.specs.Calls.{trace_of}
use Rattle.dn_types.specs.Clock.{counted, effective_moment}
use Rattle.dn_types.specs.History.{IsLawful, calls_of, own_entries}
use Rattle.dn_types.specs.Replies.{reply}
use Rattle.dn_types.specs.declared.call.Call.TheVariants.{Collect}
use Rattle.dn_types.specs.declared.entry.Entry.{Entry}
use Rattle.dn_types.specs.declared.rule.Rule.TheVariants.{Ordered}
use Rattle.dn_shaper.specs.Shaper.{items_in}
use Rattle.dn_shaper.specs.Waking.{wake_of}
use Rattle.dn_service.specs.Callers.{CallerView}
use Rattle.dn_service.specs.Histories.{StartsWith, AreBelow}

-- After the calls of the history this is when to ask next. A Collect right after them, at an earlier moment, gives no packet.
pub record IsWakeOf (history : List Entry) (next : Option ℕ) : Type 0 where
  pub value : next ≡ wake_of Ordered (trace_of (counted (calls_of history)))
  pub quiet : (moment : ℕ) → IfSome next (λ first. max (effective_moment (counted (calls_of history))) moment < first)
      → items_in (reply Ordered (calls_of history) (Collect moment)) ≡ 0

-- The caller was told when to ask next. The front is now a lawful history by callers of the service that begins with the earlier
-- front, and after it this is the moment. No entry is new: the caller's own entries are as they were, and all that the front has of it.
pub record Wakes (before : CallerView) (wake : Option ℕ) (after : CallerView) : Type 0 where
  pub lawful : IsLawful Ordered after.front
  pub below : AreBelow before.service.callers after.front
  pub seen : StartsWith after.front before.front
  pub own : after.own ≡ before.own
  pub all_own : after.own ≡ own_entries before.number after.front
  pub next : IsWakeOf after.front wake
