-- A service and its callers, as contracts see them, and what a call and the closing do to them.
use Rattle.std.specs.Prelude.{◌≡◌, ◌≢◌, ⊤, ℕ, zero, suc, ◌+◌, ◌<◌, ◌==◌, Bool, true, false, ◌⊎◌, ◌≤◌, List, [], ◌∷◌, ◌++◌, map, All}
use Rattle.std.specs.List.{list_any}
use Rattle.atomic_table.specs.Seated.{TableId}
use Rattle.dn_types.specs.History.{IsLawful, own_entries}
use Rattle.dn_types.specs.declared.call.Call.{Call}
use Rattle.dn_types.specs.declared.entry.Entry.{Entry}
use Rattle.dn_types.specs.declared.reply.Reply.{Reply}
use Rattle.dn_types.specs.declared.rule.Rule.TheVariants.{Ordered}
use Rattle.dn_service.specs.declared.close_fault.CloseFault.{CloseFault}
use Rattle.dn_service.specs.declared.close_fault.CloseFault.TheVariants.{Absent}
use Rattle.dn_service.specs.declared.open_fault.OpenFault.{OpenFault}
use Rattle.dn_service.specs.declared.open_fault.OpenFault.TheVariants.{BadCount, OutOfMemory as NoMemory}
use Rattle.dn_service.specs.declared.try_fault.TryFault.{TryFault}
use Rattle.dn_service.specs.declared.try_fault.TryFault.TheVariants.{Busy, OutOfMemory}
use Rattle.dn_service.specs.Histories.{entry_of, StartsWith, AreBelow}
use Rattle.dn_service.specs.Accounts.{Account, times}

-- A service: which one it is, and the number of its callers.
pub record ServiceView : Type 0 where
  pub table : TableId
  pub callers : ℕ

-- A caller: its service, its number, its front, which is the history that it has seen, its own entries, whom it found in a call at
-- each of its tries that was refused, and how many tries of all callers had found it in a call when its own last one ended.
pub record CallerView : Type 0 where
  pub service : ServiceView
  pub number : ℕ
  pub front : List Entry
  pub own : List Entry
  pub lost : List ℕ
  pub faced : ℕ

-- The caller stays one of its service, under its number.
pub record IsSameCaller (before after : CallerView) : Type 0 where
  pub service : after.service ≡ before.service
  pub number : after.number ≡ before.number

-- The call was answered. The front is now a lawful history by callers of the service that begins with the earlier front
-- and ends with this call and its reply, after whatever came in between. The own entries have grown by this one, and
-- are all that the front has of the caller. A body with one mutex round everything could not say this: of what a mutex
-- guards a proof knows only what the type says, so nothing would tie the history found there to the earlier front.
pub record Answered (before : CallerView) (c : Call) (r : Reply) (after : CallerView) : Type 0 where
  pub lawful : IsLawful Ordered after.front
  pub below : AreBelow before.service.callers after.front
  pub between : List Entry
  pub front : after.front ≡ (before.front ++ between) ++ entry_of before.number c r ∷ []
  pub own : after.own ≡ before.own ++ entry_of before.number c r ∷ []
  pub all_own : after.own ≡ own_entries before.number after.front

-- A caller that is busy is another caller of the service.
abbrev pub NamesAnother : CallerView → TryFault → Type 0
NamesAnother caller (Busy holder) = (holder < caller.service.callers) × (holder ≢ caller.number)
NamesAnother caller OutOfMemory = ⊤

-- The caller after its try found caller k in a call. All else is as it was.
abbrev pub having_lost : ℕ → CallerView → CallerView
having_lost k c = record { service = c.service; number = c.number; front = c.front; own = c.own; lost = c.lost ++ k ∷ []; faced = c.faced }

-- The caller after it was in a call, in which it was faced so often by then. All else is as it was.
abbrev pub having_faced : ℕ → CallerView → CallerView
having_faced n c = record { service = c.service; number = c.number; front = c.front; own = c.own; lost = c.lost; faced = n }

-- A try was refused. It found caller k, who is another one, in a call, and that is noted; or it had the book, and memory was refused.
abbrev pub Refuses : CallerView → TryFault → CallerView → Type 0
Refuses before (Busy k) after = after ≡ having_lost k before
Refuses before OutOfMemory after = after ≡ having_faced after.faced before

-- The caller has seen and has what it had, whatever its tries found.
pub record KeepsSeen (before after : CallerView) : Type 0 where
  pub front : after.front ≡ before.front
  pub own : after.own ≡ before.own

-- The caller k, who has seen nothing, has no entries, has found nobody in a call, and was faced by nobody.
abbrev pub new_caller : ServiceView → ℕ → CallerView
new_caller service k = record { service = service; number = k; front = []; own = []; lost = []; faced = 0 }

-- The n callers from k on, in order.
abbrev pub new_callers : ServiceView → ℕ → ℕ → List CallerView
new_callers service k zero = []
new_callers service k (suc n) = new_caller service k ∷ new_callers service (k + 1) n

-- The caller is one of the service.
abbrev pub IsOf : ServiceView → CallerView → Type 0
IsOf service c = c.service ≡ service

-- Caller k is among these.
abbrev pub has_number : ℕ → List CallerView → Bool
has_number k = list_any (λ c. c.number == k)

-- The count is no number of callers that a service can have; want of memory comes only with one that is.
abbrev pub IsOpenFault : ℕ → OpenFault → Type 0
IsOpenFault n BadCount = (n ≡ 0) ⊎ (16 < n)
IsOpenFault n NoMemory = (0 < n) × (n ≤ 16)

-- Caller k is missing among n callers, and no lower one is.
pub record IsLeastMissing (n : ℕ) (callers : List CallerView) (k : ℕ) : Type 0 where
  pub below : k < n
  pub missing : has_number k callers ≡ false
  pub least : (j : ℕ) → j < k → has_number j callers ≡ true

abbrev pub IsCloseFault : ℕ → List CallerView → CloseFault → Type 0
IsCloseFault n callers (Absent k) = IsLeastMissing n callers k

-- What the caller has seen begins the history, and its own entries are the history's entries of it, in order.
pub record IsAccountedFor (history : List Entry) (c : CallerView) : Type 0 where
  pub front : StartsWith history c.front
  pub own : c.own ≡ own_entries c.number history

-- How many tries of these callers found caller k in a call.
abbrev pub lost_to : ℕ → List CallerView → ℕ
lost_to k [] = 0
lost_to k (c ∷ callers) = times k c.lost + lost_to k callers

-- The caller was found in a call as often as the callers' tries say.
abbrev pub IsFaced : List CallerView → CallerView → Type 0
IsFaced callers c = c.faced ≡ lost_to c.number callers

-- The service left this one history: each reply in it is the one of sequential dummynet after the calls before it, every
-- entry is of a caller below the service's number, each caller's own entries are those that the history has of it, in
-- order, each caller was found in a call as often as the callers' tries say, and no caller was missing.
pub record Closes (service : ServiceView) (callers : List CallerView) (history : List Entry) : Type 0 where
  pub lawful : IsLawful Ordered history
  pub below : AreBelow service.callers history
  pub accounts : All (IsAccountedFor history) callers
  pub faced : All (IsFaced callers) callers
  pub whole : (k : ℕ) → k < service.callers → has_number k callers ≡ true

-- The callers' accounts.
abbrev pub accounts_of : List CallerView → List Account
accounts_of callers = map (λ c. record { number = c.number; front = c.front; own = c.own; lost = c.lost; faced = c.faced }) callers
