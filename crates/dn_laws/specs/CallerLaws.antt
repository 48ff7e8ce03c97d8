-- The laws of a service's callers: what they are at first, what each of their acts leaves, what is taken out, and when a service isn't closed.
use Rattle.std.specs.Prelude.{ℕ, ◌≡◌, ◌≢◌, ◌<◌, ◌^◌, ◌⊎◌, List, [], ◌∷◌, ◌++◌, length, nat_eq, Some, slice_get}
use Rattle.std.specs.List.{All, filter}
use Rattle.dn_laws.specs.Determined.Emulators.{Has}
use Rattle.dn_service.specs.Callers.{Answered, CallerView, Closes, IsCloseFault, KeepsSeen, Refuses, ServiceView, new_callers}
use Rattle.dn_service.specs.Lasting.{ClosesAfter, LastingView, Learns, RefusesAfter, SeenView, Takes}
use Rattle.dn_service.specs.declared.close_fault.CloseFault.TheVariants.{Absent}
use Rattle.dn_service.specs.declared.try_after_fault.TryAfterFault.{TryAfterFault}
use Rattle.dn_service.specs.declared.try_after_fault.TryAfterFault.TheVariants.{Busy as BusyAfter, OutOfMemory as NoMemoryAfter, Ahead}
use Rattle.dn_service.specs.declared.try_fault.TryFault.{TryFault}
use Rattle.dn_service.specs.declared.try_fault.TryFault.TheVariants.{Busy, OutOfMemory}
use Rattle.dn_types.specs.History.{IsLawful}
use Rattle.dn_types.specs.declared.call.Call.{Call}
use Rattle.dn_types.specs.declared.entry.Entry.{Entry}
use Rattle.dn_types.specs.declared.reply.Reply.{Reply}
use Rattle.dn_types.specs.declared.rule.Rule.TheVariants.{Ordered}

-- A new service has as many callers as it says. The caller at place k has the number k, and has seen, made and met nothing.
pub record AreNew (service : ServiceView) (callers : List CallerView) : Type 0 where
  pub many : length callers ≡ service.callers
  pub each : (k : ℕ) (c : CallerView) → slice_get callers k ≡ Some c → c ≡ record { service = service; number = k; front = []; own = []; lost = []; faced = 0 }

abbrev pub CallersBegin : Type 0
CallersBegin = (service : ServiceView) → AreNew service (new_callers service 0 service.callers)

-- The callers that a refused try found in a call.
abbrev pub met : TryFault → List ℕ
met (Busy k) = k ∷ []
met OutOfMemory = []

abbrev pub met_after : TryAfterFault → List ℕ
met_after (BusyAfter k) = k ∷ []
met_after NoMemoryAfter = []
met_after Ahead = []

-- A caller whose try was refused has seen and made nothing more, and notes whom it met. One that met another was met by nobody meanwhile.
pub record Notes (before : CallerView) (found : List ℕ) (after : CallerView) : Type 0 where
  pub service : after.service ≡ before.service
  pub number : after.number ≡ before.number
  pub front : after.front ≡ before.front
  pub own : after.own ≡ before.own
  pub lost : after.lost ≡ before.lost ++ found
  pub faced : found ≢ [] → after.faced ≡ before.faced

pub record RefusalsAreNoted : Type 0 where
  pub tries : (before after : CallerView) (fault : TryFault) → Refuses before fault after → Notes before (met fault) after
  pub placed : (before after : CallerView) (fault : TryAfterFault) → RefusesAfter before fault after → Notes before (met_after fault) after
  pub suffice : (before after : CallerView) (fault : TryFault) → Notes before (met fault) after → Refuses before fault after
  pub calls : (before after : CallerView) → KeepsSeen before after → (after.front ≡ before.front) × (after.own ≡ before.own)

-- The next reply to a caller that learned from a token comes after all that the token's caller had seen, and after all that the caller had.
abbrev pub ComesAfter : List Entry → CallerView → Call → Reply → CallerView → Type 0
ComesAfter front caller c r later = (between : List Entry) × (later.front ≡ (front ++ between) ++ record { caller = caller.number; call = c; reply = r } ∷ [])

-- A token adds no entry, makes no try, and shows no history but its own.
pub record IsTold (before : CallerView) (seen : SeenView) (after : CallerView) : Type 0 where
  pub comes : (c : Call) (r : Reply) (later : CallerView) → Answered after c r later → ComesAfter before.front after c r later × ComesAfter seen.front after c r later
  pub own : after.own ≡ before.own
  pub tries : (after.lost ≡ before.lost) × (after.faced ≡ before.faced)
  pub front : (after.front ≡ before.front) ⊎ (after.front ≡ seen.front)

abbrev pub TokensAreTold : Type 0
TokensAreTold = (before after : CallerView) (seen : SeenView) → Learns before seen after → IsTold before seen after

-- These segments, newest first, are all that was taken out of a service that lasts.
abbrev pub WereTaken : ServiceView → List (List Entry) → LastingView → Type 0
WereTaken service [] lasting = lasting ≡ record { service = service; taken = [] }
WereTaken service (s ∷ segments) lasting = (before : LastingView) × (caller : CallerView) × (after : CallerView) × (place : ℕ) × WereTaken service segments before × Takes before caller place s lasting after

abbrev pub joined : List (List Entry) → List Entry
joined [] = []
joined (s ∷ segments) = joined segments ++ s

-- The next segment begins with the entry behind those that were taken, and its caller has then seen all of them, its own among them.
pub record IsNext (service : ServiceView) (segments : List (List Entry)) (caller : CallerView) (place : ℕ) (s : List Entry) (after : CallerView) : Type 0 where
  pub start : length (joined segments) < 2 ^ 64 → place ≡ length (joined segments)
  pub lawful : IsLawful Ordered (joined segments ++ s)
  pub below : All (λ e. e.caller < service.callers) (joined segments ++ s)
  pub front : after.front ≡ joined segments ++ s
  pub seen : (more : List Entry) × (after.front ≡ caller.front ++ more)
  pub own : (after.own ≡ caller.own) × (after.own ≡ filter (λ e. nat_eq e.caller caller.number) (joined segments ++ s))

-- The segments and what is left at the end are, each once and in order, the history that the service leaves.
pub record SegmentsAreTheHistory : Type 0 where
  pub next : (service : ServiceView) (segments : List (List Entry)) (before : LastingView) (caller : CallerView) (place : ℕ) (s : List Entry) (lasting : LastingView) (after : CallerView) →
      WereTaken service segments before → Takes before caller place s lasting after → IsNext service segments caller place s after
  pub closes : (service : ServiceView) (segments : List (List Entry)) (lasting : LastingView) (callers : List CallerView) (rest : List Entry) →
      WereTaken service segments lasting → ClosesAfter lasting callers rest → Closes service callers (joined segments ++ rest)

-- Where a service isn't closed, it could leave no history: the caller with the number isn't among those handed in, and all lower ones are.
pub record IsAbsent (service : ServiceView) (callers : List CallerView) (k : ℕ) : Type 0 where
  pub below : k < service.callers
  pub missing : (c : CallerView) → Has callers c → c.number ≢ k
  pub lower : (j : ℕ) → j < k → (c : CallerView) × Has callers c × (c.number ≡ j)
  pub unclosed : (history : List Entry) → Closes service callers history → ⊥

abbrev pub AbsentCallersAreMissing : Type 0
AbsentCallersAreMissing = (service : ServiceView) (callers : List CallerView) (k : ℕ) → IsCloseFault service.callers callers (Absent k) → IsAbsent service callers k
