-- A service that lasts: entries are taken out of it while it goes on. And what one caller knows of and tells another.
use Rattle.std.specs.Prelude.{◌≡◌, ◌≢◌, ◌⊎◌, ⊤, ◌<◌, ◌^◌, ℕ, List, ◌++◌, length}
use Rattle.atomic_table.specs.Seated.{TableId}
use Rattle.dn_types.specs.History.{IsLawful, own_entries}
use Rattle.dn_types.specs.declared.entry.Entry.{Entry}
use Rattle.dn_types.specs.declared.rule.Rule.TheVariants.{Ordered}
use Rattle.dn_service.specs.declared.after_fault.AfterFault.{AfterFault}
use Rattle.dn_service.specs.declared.after_fault.AfterFault.TheVariants.{OutOfMemory as NoMemory, Ahead as TooFew}
use Rattle.dn_service.specs.declared.try_after_fault.TryAfterFault.{TryAfterFault}
use Rattle.dn_service.specs.declared.try_after_fault.TryAfterFault.TheVariants.{Busy, OutOfMemory, Ahead}
use Rattle.dn_service.specs.Callers.{ServiceView, CallerView, Closes, having_lost, having_faced}
use Rattle.dn_service.specs.Histories.{StartsWith, AreBelow}
use Rattle.dn_service.specs.Accounts.{front_in, own_in, lost_in, faced_in}
use Rattle.dn_service.specs.Seats.{SeatState}

-- A service, and all entries that were taken out of it so far, in order.
pub record LastingView : Type 0 where
  pub service : ServiceView
  pub taken : List Entry

-- Through this caller the entries were taken out, of which the first has this place. All that was taken is now
-- one lawful history, the earlier part and then these, and it is what the caller has seen: it begins with all that the
-- caller had seen before, and the caller's own entries are those that it has of it.
pub record Takes (before : LastingView) (caller : CallerView) (place : ℕ) (entries : List Entry) (after : LastingView) (caller' : CallerView) : Type 0 where
  pub service : after.service ≡ before.service
  pub taken : after.taken ≡ before.taken ++ entries
  pub start : length before.taken < 2 ^ 64 → place ≡ length before.taken
  pub lawful : IsLawful Ordered after.taken
  pub below : AreBelow before.service.callers after.taken
  pub front : caller'.front ≡ after.taken
  pub seen : StartsWith caller'.front caller.front
  pub own : caller'.own ≡ caller.own
  pub all_own : caller'.own ≡ own_entries caller.number after.taken

-- What was taken out, and then what was left at the end, is the history that a service leaves.
abbrev pub ClosesAfter : LastingView → List CallerView → List Entry → Type 0
ClosesAfter lasting callers rest = Closes lasting.service callers (lasting.taken ++ rest)

-- A service that lasts, with a caller by which entries are taken out of it.
pub record TakerView : Type 0 where
  pub lasting : LastingView
  pub caller : CallerView

-- A caller that is busy is another caller of the service, and fewer calls were answered only where the caller has seen fewer.
abbrev pub IsTryAfterFault : CallerView → ℕ → TryAfterFault → Type 0
IsTryAfterFault caller after (Busy holder) = (holder < caller.service.callers) × (holder ≢ caller.number)
IsTryAfterFault caller after OutOfMemory = ⊤
IsTryAfterFault caller after Ahead = length caller.front < after

-- A try was refused. It found caller k in a call, and that is noted; or it had the book.
abbrev pub RefusesAfter : CallerView → TryAfterFault → CallerView → Type 0
RefusesAfter before (Busy k) after = after ≡ having_lost k before
RefusesAfter before OutOfMemory after = after ≡ having_faced after.faced before
RefusesAfter before Ahead after = after ≡ having_faced after.faced before

abbrev pub IsAfterFault : CallerView → ℕ → AfterFault → Type 0
IsAfterFault caller after NoMemory = ⊤
IsAfterFault caller after TooFew = length caller.front < after

-- What is known of a service: a history that its own begins with.
pub record SeenView : Type 0 where
  pub service : ServiceView
  pub front : List Entry

-- The caller has now seen all that it had seen and all that is known. One of these begins with the other, so any two
-- histories that callers of one service have seen do.
pub record Learns (before : CallerView) (seen : SeenView) (after : CallerView) : Type 0 where
  pub had : StartsWith after.front before.front
  pub told : StartsWith after.front seen.front
  pub one : (StartsWith before.front seen.front × (after.front ≡ before.front)) ⊎ (StartsWith seen.front before.front × (after.front ≡ seen.front))
  pub own : after.own ≡ before.own
  pub lost : after.lost ≡ before.lost
  pub faced : after.faced ≡ before.faced

-- The caller of this number, by its seat at the table.
abbrev pub caller_at : TableId → ℕ → SeatState → CallerView
caller_at table number me = record { service = record { table = table; callers = me.0.count }; number = number; front = front_in me.0.accounts; own = own_in me.0.accounts; lost = lost_in me.0.accounts; faced = faced_in me.0.accounts }
