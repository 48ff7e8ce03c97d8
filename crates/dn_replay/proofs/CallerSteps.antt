-- A replay by several callers, and why there is none, step by step.
use Rattle.dn_replay.proofs.Words.{AskFor, BadCount, Bool, Call, Entry, IsCount, IsHistoryOfCallers, IsReplayOfCallers, IsUnansweredByCallers, IsUnopened, IsUnread, IsUnwritten, Keeps-refl, List}
use Rattle.dn_replay.proofs.Words.{None, Option, OutOfMemory, ReadsAs, ReplayFault, Report, Row, Source, Write, ap, calls_of, config_calls, failed_read, false, history_of, packet_file, refl}
use Rattle.dn_replay.proofs.Words.{report, subst, unwritten-cases, ℕ, ◌∙◌, ◌≡◌}
use Rattle.dn_replay.proofs.OwnFaults.{no_count_asked}
use Rattle.dn_replay.proofs.ReplaySteps.{made, unreplayed}

-- The callers' history is one of what two inputs were read as, where the commands are those of the configuration's run.
pub callers_replay : (n : ℕ) (config packets : Option (List ℕ)) (calls : List Call) (rows : List Row) (commands entries : List Entry) → ReadsAs config_calls config calls
    → ReadsAs packet_file packets rows
    → commands ≡ history_of calls → IsHistoryOfCallers n (calls_of commands) rows entries → IsReplayOfCallers n config packets entries
callers_replay n config packets calls rows commands entries config_reads packets_read is history = record {
  calls = calls;
  rows = rows;
  config_reads = config_reads;
  packets_read = packets_read;
  history = subst (λ (l : List Call). IsHistoryOfCallers n l rows entries) (ap calls_of is ∙ made calls) history;
}

module _ (n : ℕ) (config packets : Option (List ℕ)) where
  -- There are no callers.
  pub unopened : (known : Option (List ℕ)) (failed : Bool) (fault : ReplayFault) → failed ≡ false → IsUnopened n fault
      → IsUnansweredByCallers n config packets known known failed fault
  unopened known failed BadCount whole h = (h, (whole, Keeps-refl known))
  unopened known failed OutOfMemory whole h = (h, (whole, Keeps-refl known))
  unopened known failed _ whole h = absurd h

  -- The inputs aren't read, for a fault that is no bad count.
  pub callers_unread : (ReadFailed : Option Source → Type 0) (known : Option (List ℕ)) (failed : Bool) (fault : ReplayFault)
      → IsCount n → failed ≡ false → IsUnread ReadFailed (AskFor config packets) fault → IsUnansweredByCallers n config packets known known failed fault
  callers_unread ReadFailed known failed BadCount count whole h = absurd (no_count_asked config packets h.1)
  callers_unread ReadFailed known failed (Write what) count whole h = absurd h
  callers_unread ReadFailed known failed fault count whole h = (count, (unreplayed ReadFailed (AskFor config packets) known failed fault whole h).1)

  pub no_bad_count : (ReadFailed : Option Source → Type 0) (fault : ReplayFault) → IsUnread ReadFailed (AskFor config packets) fault → fault ≡ BadCount → ⊥
  no_bad_count ReadFailed fault h is = no_count_asked config packets (rw is at h).1

  -- The report of the callers' history wasn't written.
  pub callers_unreported : (entries : List Entry) (old new : Option (List ℕ)) (failed : Bool) (fault : ReplayFault) → IsCount n → IsReplayOfCallers n config packets entries
      → IsUnwritten Report (report n entries) old new failed fault → IsUnansweredByCallers n config packets old new failed fault
  callers_unreported entries old new failed fault count replay =
      unwritten-cases (IsUnansweredByCallers n config packets old new failed) Report (report n entries) old new failed fault
      (λ what h. (count, (entries, replay, h))) (λ h. (count, h))

-- No read failed where there are no callers, or where the report wasn't written.
pub unopened_sound : (n : ℕ) (fault : ReplayFault) → IsUnopened n fault → failed_read fault ≡ None
unopened_sound n BadCount h = refl
unopened_sound n OutOfMemory h = refl
unopened_sound n _ h = absurd h

pub unwritten_sound : (text : List ℕ) (old new : Option (List ℕ)) (failed : Bool) (fault : ReplayFault) → IsUnwritten Report text old new failed fault → failed_read fault ≡ None
unwritten_sound text old new failed fault = unwritten-cases (λ f. failed_read f ≡ None) Report text old new failed fault (λ what h. refl) (λ h. refl)

pub unwritten_count : (text : List ℕ) (old new : Option (List ℕ)) (failed : Bool) (fault : ReplayFault) → IsUnwritten Report text old new failed fault → fault ≡ BadCount → ⊥
unwritten_count text old new failed fault h is = rw is at h
