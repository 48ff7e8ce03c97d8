-- A service that C holds: its callers, and the entries that it took out, which wait to be written.
use Rattle.std.specs.Prelude.{◌≡◌, ◌≢◌, ℕ, ◌+◌, ◌<◌, ◌≤◌, ◌⊎◌, List, [], ◌∷◌, drop, take, length, map, replicate}
use Rattle.dn_types.specs.declared.entry.Entry.{Entry}
use Rattle.dn_types.specs.declared.reply.Reply.TheVariants.{Exhausted}
use Rattle.dn_records.specs.Records.{text_of}
use Rattle.dn_history.specs.HistoryText.{entry_records, part_text}
use Rattle.dn_service.specs.Callers.{CallerView, having_lost, new_caller, new_callers}
use Rattle.dn_service.specs.Lasting.{Takes}
use Rattle.hingetulip_c.specs.Clients.{IsOther}
use Rattle.hingetulip_c.specs.Handles.{Holds, HoldsBoth, IsClosed, LacksMemory}
use Rattle.hingetulip_c.specs.declared.caller_handle.CallerHandle.{CallerHandle}
use Rattle.hingetulip_c.specs.declared.client.Client.{Client}
use Rattle.hingetulip_c.specs.declared.ledger.Ledger.{Ledger}

-- The entries that weren't written yet.
abbrev pub waiting : Ledger → List Entry
waiting l = drop l.written l.entries.items

-- A handle's list when it holds a caller that made no call.
abbrev pub held_new : CallerView → List Client
held_new c = record { caller = c; last = Exhausted } ∷ []

-- What each handle's list is.
abbrev pub all_held : List CallerHandle → List (List Client)
all_held handles = map (λ h. h.held) handles

-- The handle holds a new service of n callers and one of its own, which is the last, and the n handles hold the others in order.
abbrev pub Opened : ℕ → List Ledger → List (List Client) → Type 0
Opened n (l ∷ []) clients = (l.taker.lasting.service.callers ≡ n + 1) × (l.taker.caller ≡ new_caller l.taker.lasting.service n)
    × (l.taker.lasting.taken ≡ []) × (waiting l ≡ []) × (clients ≡ map held_new (new_callers l.taker.lasting.service 0 n))
Opened n _ clients = ⊥

-- A service was opened with so many callers (0), memory was refused and all handles are closed (6), or their number isn't in 1 to 15 and
-- nothing has changed (16).
pub record OpensService (status : ℕ) (old new : List Ledger) (before after : List CallerHandle) : Type 0 where
  pub opened : status ≡ 0 → Opened (length before) new (all_held after)
  pub memory : status ≡ 6 → (new ≡ []) × (all_held after ≡ replicate (length before) [])
  pub bad_count : status ≡ 16 → ((length before ≡ 0) ⊎ (15 < length before)) × (new ≡ old) × (after ≡ before)
  pub statuses : (status ≡ 0) ⊎ (status ≡ 6) ⊎ (status ≡ 16)
  pub known : status ≢ 16 → (0 < length before) × (length before ≤ 15)

-- No entry waited, and those that now wait were taken out. The first has this place. No call of another was noted.
abbrev pub TakenOut : ℕ → Ledger → Ledger → Type 0
TakenOut start b a = (waiting b ≡ []) × Takes b.taker.lasting b.taker.caller start (waiting a) a.taker.lasting a.taker.caller
    × (a.taker.caller.lost ≡ b.taker.caller.lost)

-- The same of a handle that is open before and after.
abbrev pub Taken : ℕ → List Ledger → List Ledger → Type 0
Taken start = HoldsBoth (TakenOut start)

-- The service after its own caller found caller k in a call.
abbrev pub service_losing : ℕ → Ledger → Ledger
service_losing k l = record { taker = record { lasting = l.taker.lasting; caller = having_lost k l.taker.caller }; entries = l.entries; written = l.written }

-- Nothing was taken out: another caller was in a call, which is noted (15), or nothing has changed.
pub record NotTaken (status holder : ℕ) (b a : List Ledger) : Type 0 where
  pub busy : status ≡ 15 → a ≡ map (service_losing holder) b
  pub other : status ≢ 15 → a ≡ b

-- The number of the entries that wait.
abbrev pub count_waiting : List Ledger → ℕ
count_waiting (l ∷ []) = length (waiting l)
count_waiting _ = 0

-- The handle is open, and its service has another caller of this number than the service's own.
abbrev pub IsServiceBusyWith : ℕ → List Ledger → Type 0
IsServiceBusyWith holder = Holds (λ l. IsOther holder l.taker.caller)

-- The text of the first entry that waits.
abbrev pub next_text : List Entry → List ℕ
next_text (e ∷ entries) = text_of (entry_records e)
next_text [] = []

-- This is the text of the first entry that waited, and the others wait.
pub record Written (text : List ℕ) (b a : Ledger) : Type 0 where
  pub entry : Entry
  pub waited : waiting b ≡ entry ∷ waiting a
  pub text_is : text ≡ text_of (entry_records entry)
  pub taker : a.taker ≡ b.taker

-- The same of a handle that is open before and after.
abbrev pub Wrote : List ℕ → List Ledger → List Ledger → Type 0
Wrote text = HoldsBoth (Written text)

-- This is the text of the first n entries that waited. The others wait, and the next one, if there is one, has no room.
pub record WrittenMany (n room : ℕ) (text : List ℕ) (b a : Ledger) : Type 0 where
  pub some : 0 < n
  pub count : n ≤ length (waiting b)
  pub text_is : text ≡ part_text (take n (waiting b))
  pub others : waiting a ≡ drop n (waiting b)
  pub most : (waiting a ≡ []) ⊎ (room < length text + length (next_text (waiting a)))
  pub taker : a.taker ≡ b.taker

-- The same of a handle that is open before and after.
abbrev pub WroteMany : ℕ → ℕ → List ℕ → List Ledger → List Ledger → Type 0
WroteMany n room text = HoldsBoth (WrittenMany n room text)

-- How many bytes the first entry that waits has as text.
abbrev pub next_length : List Ledger → ℕ
next_length (l ∷ []) = length (next_text (waiting l))
next_length _ = 0

-- Why no entry was written: the handle is closed (5), memory was refused (6), the first that waits is longer than the room (7), or none
-- waits (18).
abbrev pub NotWritten : ℕ → ℕ → List Ledger → ℕ → Type 0
NotWritten room size held status = IsClosed held status ⊎ LacksMemory held status
    ⊎ ((status ≡ 7) × (size ≡ next_length held) × (room < size)) ⊎ ((status ≡ 18) × (held ≢ []) × (count_waiting held ≡ 0))
