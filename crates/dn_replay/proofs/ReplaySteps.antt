-- Why a replay isn't made, step by step.
use Rattle.dn_replay.proofs.Words.{All, All-nil, All-push, AskFor, AskForWithin, Bool, Call, Config, EitherFailed, Entry, Err, IsFaultOf, IsLawful, IsRefusal, IsRefusedFor, IsReplayed, IsTextOf}
use Rattle.dn_replay.proofs.Words.{IsUnread, IsUnreplayed, IsUnreported, Keeps-refl, List, None, Ok, Option, Ordered, OutOfMemory, Read, ReadsAs, ReplayFault, Report, Result, Some, Source, Write}
use Rattle.dn_replay.proofs.Words.{[], ap, arith, calls_of, calls_of-more, calls_within, config_calls, entry_after, failed_read, false, history_of, lawful-more, packet_file, refl, reply, report}
use Rattle.dn_replay.proofs.Words.{sym, true, unwritten-cases, ℕ, ◌<◌, ◌∙◌, ◌∷◌, ◌≡◌}

-- Each entry of a run is by caller 0.
pub by_one : (calls : List Call) → All (λ e. e.caller < 1) (history_of calls)
unfolding history_of
by_one [] = All-nil (λ (e : Entry). e.caller < 1)
by_one (c ∷ calls) =
    let zero_below : 0 < 1 = omega arith in
    All-push (λ (e : Entry). e.caller < 1) (history_of calls) (entry_after calls c) (by_one calls) zero_below

pub made : (calls : List Call) → calls_of (history_of calls) ≡ calls
unfolding history_of
made [] = refl
made (c ∷ calls) = calls_of-more (history_of calls) (entry_after calls c) ∙ ap (λ (before : List Call). c ∷ before) (made calls)

-- The history of a run is lawful.
pub lawful : (calls : List Call) → IsLawful Ordered (history_of calls)
unfolding history_of
lawful [] = tt
lawful (c ∷ calls) =
    lawful-more Ordered (history_of calls) (entry_after calls c) (lawful calls) (ap (λ (before : List Call). reply Ordered before c) (sym (made calls)))

-- The history of a replay is one of caller 0, and it is lawful.
module _ (Asked : Result (List Call) ReplayFault → Type 0) (entries : List Entry) (old new : Option (List ℕ)) (replay : IsReplayed Asked entries old new) where
  pub one_replays : All (λ e. e.caller < 1) entries
  one_replays = let (calls, asked, reported) = replay in rw reported.0 (by_one calls)

  pub lawful_replay : IsLawful Ordered entries
  lawful_replay = let (calls, asked, reported) = replay in rw reported.0 (lawful calls)

-- An input may have held some text.
pub some_text : (known : Option (List ℕ)) → (text : List ℕ) × IsTextOf known text
some_text None = ([], tt)
some_text (Some bytes) = (bytes, refl)

-- The report of the calls that were asked for wasn't written, and no read failed.
pub unreported : (ReadFailed : Option Source → Type 0) (Asked : Result (List Call) ReplayFault → Type 0) (calls : List Call) (old new : Option (List ℕ)) (failed : Bool) (fault : ReplayFault)
    → ReadFailed None → Asked (Ok calls) → IsUnreported calls old new failed fault → IsUnreplayed ReadFailed Asked old new failed fault
unreported ReadFailed Asked calls old new failed fault sound asked =
    unwritten-cases (IsUnreplayed ReadFailed Asked old new failed) Report (report 1 (history_of calls)) old new failed fault (λ what h. (sound, (calls, asked, h))) (λ h. (sound, h))

-- A text has a fault of its own.
pub unread_text : {A : Type 0} (ReadFailed : Option Source → Type 0) (Asked : Result (List Call) ReplayFault → Type 0) (read : Result A ReplayFault) (fault : ReplayFault)
    → ReadFailed None → ((f : ReplayFault) → read ≡ Err f → Asked (Err f)) → IsFaultOf read fault → IsUnread ReadFailed Asked fault
unread_text ReadFailed Asked read (Write what) sound asked h = absurd h
unread_text ReadFailed Asked read OutOfMemory sound asked h = sound
unread_text ReadFailed Asked read (Read what) sound asked h = absurd h
unread_text ReadFailed Asked read fault sound asked h = (sound, asked fault h)

-- An input is refused.
pub unread_input : {A : Type 0} (ReadFailed : Option Source → Type 0) (Asked : Result (List Call) ReplayFault → Type 0) (source : Source) (read : List ℕ → Result A ReplayFault)
    (input : Option (List ℕ)) (input_failed : Bool) (fault : ReplayFault)
    → ((f : ReplayFault) → IsRefusedFor read input f → Asked (Err f)) → (input_failed ≡ false → ReadFailed None) → (input_failed ≡ true → ReadFailed (Some source))
    → IsRefusal source read input input_failed fault → IsUnread ReadFailed Asked fault
unread_input ReadFailed Asked source read input input_failed (Write what) asked sound reads h = absurd h
unread_input ReadFailed Asked source read input input_failed OutOfMemory asked sound reads h = sound h
unread_input ReadFailed Asked source read input input_failed (Read what) asked sound reads h = rw h.0 (reads h.1)
unread_input ReadFailed Asked source read input input_failed fault asked sound reads h = (sound h.0, asked fault h.1)

-- Of what a read failed, by the fault.
pub read_failed : (ReadFailed : Option Source → Type 0) (Asked : Result (List Call) ReplayFault → Type 0) (fault : ReplayFault) → IsUnread ReadFailed Asked fault
    → ReadFailed (failed_read fault)
read_failed ReadFailed Asked (Write what) h = absurd h
read_failed ReadFailed Asked OutOfMemory h = h
read_failed ReadFailed Asked (Read what) h = h
read_failed ReadFailed Asked fault h = h.0

-- What isn't read isn't replayed, and nothing is written.
pub unreplayed : (ReadFailed : Option Source → Type 0) (Asked : Result (List Call) ReplayFault → Type 0) (known : Option (List ℕ)) (failed : Bool) (fault : ReplayFault)
    → failed ≡ false → IsUnread ReadFailed Asked fault → IsUnreplayed ReadFailed Asked known known failed fault
unreplayed ReadFailed Asked known failed (Write what) whole h = absurd h
unreplayed ReadFailed Asked known failed OutOfMemory whole h = (h, (whole, Keeps-refl known))
unreplayed ReadFailed Asked known failed (Read what) whole h = (h, (whole, Keeps-refl known))
unreplayed ReadFailed Asked known failed fault whole h = (h.0, (h.1, (whole, Keeps-refl known)))

-- The first fault of two inputs.
pub config_fault : (limit : ℕ) (config packets : Option (List ℕ)) (fault : ReplayFault) → IsRefusedFor config_calls config fault → AskForWithin limit config packets (Err fault)
unfolding calls_within
config_fault limit config packets fault c = let (text, is) = some_text packets in (c.0, text, c.1, is, rw c.2 refl)

-- The configuration isn't read, so that nothing of the packets is.
pub config_unread : (limit : ℕ) (config packets old : Option (List ℕ)) (config_failed packets_failed failed : Bool) (fault : ReplayFault) → packets_failed ≡ false → failed ≡ false
    → IsRefusal Config config_calls config config_failed fault
    → IsUnreplayed (EitherFailed config config_failed packets_failed) (AskForWithin limit config packets) old old failed fault
config_unread limit config packets old config_failed packets_failed failed fault unread sound refused =
    unreplayed (EitherFailed config config_failed packets_failed) (AskForWithin limit config packets) old failed fault sound
    (unread_input (EitherFailed config config_failed packets_failed) (AskForWithin limit config packets) Config config_calls config config_failed fault
    (λ f r. config_fault limit config packets f r) (λ whole. (whole, unread)) (λ bad. (bad, unread)) refused)

pub packet_fault : (config packets : Option (List ℕ)) (calls : List Call) (fault : ReplayFault) → ReadsAs config_calls config calls → IsRefusedFor packet_file packets fault
    → AskFor config packets (Err fault)
unfolding calls_within
packet_fault config packets calls fault c p = (c.0, p.0, c.1, p.1, rw (c.2, p.2) refl)
