-- A caller that C holds, and what a call by it does.
use Rattle.std.specs.Prelude.{◌≡◌, ◌≢◌, ◌<◌, ◌⊎◌, ℕ, List, [], ◌∷◌, map, Option}
use Rattle.dn_types.specs.declared.call.Call.{Call}
use Rattle.dn_types.specs.declared.reply.Reply.{Reply}
use Rattle.dn_types.specs.declared.reply.Reply.TheVariants.{Exhausted}
use Rattle.dn_service.specs.Callers.{Answered, CallerView, IsSameCaller, having_lost, having_faced}
use Rattle.dn_service.specs.Wakes.{Wakes}
use Rattle.hingetulip_c.specs.Handles.{Holds, HoldsBoth, IsClosed, LacksMemory}
use Rattle.hingetulip_c.specs.Statuses.{told_moment}
use Rattle.hingetulip_c.specs.declared.client.Client.{Client}

-- The caller's call was answered, and the reply is the one that is kept now. No call of another was noted.
pub record IsAnswered (call : Call) (b a : Client) : Type 0 where
  pub answer : Answered b.caller call a.last a.caller
  pub same_caller : IsSameCaller b.caller a.caller
  pub lost : a.caller.lost ≡ b.caller.lost

-- This is the number of another caller of the service.
abbrev pub IsOther : ℕ → CallerView → Type 0
IsOther holder c = (holder < c.service.callers) × (holder ≢ c.number)

-- The caller was told when to ask next. The reply that it keeps is the same.
pub record Woke (moment : ℕ) (b a : Client) : Type 0 where
  pub next : Option ℕ
  pub wakes : Wakes b.caller next a.caller
  pub moment_is : moment ≡ told_moment next
  pub same_caller : IsSameCaller b.caller a.caller
  pub lost : a.caller.lost ≡ b.caller.lost
  pub last : a.last ≡ b.last

-- The caller after its call found caller k in a call.
abbrev pub losing : ℕ → Client → Client
losing k c = record { caller = having_lost k c.caller; last = c.last }

-- The caller after it was in a call itself, in which it was faced so often by then.
abbrev pub facing : ℕ → Client → Client
facing n c = record { caller = having_faced n c.caller; last = c.last }

-- A call on a handle was refused by the status: another caller was in a call, which is noted (15); memory was refused to the caller, which
-- was in a call then (6); or nothing has changed. The caller has seen, and keeps, what it had.
pub record RefusedBy (status holder : ℕ) (b a : List Client) : Type 0 where
  pub busy : status ≡ 15 → a ≡ map (losing holder) b
  pub memory : status ≡ 6 → (faced : ℕ) × (a ≡ map (facing faced) b)
  pub other : status ≢ 15 → status ≢ 6 → a ≡ b

-- The same of handles, which are open.
abbrev pub AnsweredBy : Call → List Client → List Client → Type 0
AnsweredBy call = HoldsBoth (IsAnswered call)

abbrev pub WokeBy : ℕ → List Client → List Client → Type 0
WokeBy moment = HoldsBoth (Woke moment)

abbrev pub IsBusyWith : ℕ → List Client → Type 0
IsBusyWith holder = Holds (λ c. IsOther holder c.caller)

-- Why a caller's call isn't answered: its handle is closed (5), memory was refused (6), or another caller is in a call (15).
abbrev pub UnansweredBy : ℕ → List Client → ℕ → Type 0
UnansweredBy holder held status = IsClosed held status ⊎ LacksMemory held status ⊎ ((status ≡ 15) × IsBusyWith holder held)

-- The reply that the handle has. A closed handle has one that tells nothing.
abbrev pub last_reply : List Client → Reply
last_reply (c ∷ []) = c.last
last_reply _ = Exhausted
