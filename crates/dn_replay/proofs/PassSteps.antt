-- One part more of a packets' text, and its end.
use Rattle.dn_replay.proofs.Words.{Appends, AreFew, Bool, Call, CanReport, Collect, Delivery, Entries, Entry, Err, Given, HasAnswered, HasFed, HasKept, HasMade, HasMadeLast, HasNoted}
use Rattle.dn_replay.proofs.Words.{HoldsNothing, IsAnswered, IsFaultOf, IsFresh, IsUnheld, IsUnreplayed, IsUnwritten, Kept, List, NoneFailed, Ok, Option, Ordered, Pass, ReplayFault, Reply, Report}
use Rattle.dn_replay.proofs.Words.{Result, Row, Run, StandsAfter, State, [], all_untargeted, ap, arith, calls_with, carried, configured_by, delivered, entry_after, false, false≢true, has_entries}
use Rattle.dn_replay.proofs.Words.{history_of, length, refl, replayed, reply, report, rows_of, submit, submitted, subst, suc, sym, true, ℕ, ◌++◌, ◌+◌, ◌<◌, ◌^◌, ◌∙◌, ◌∷◌, ◌≡◌}
use Rattle.dn_replay.proofs.Past.{past-first, past-last, past-submit}
use Rattle.dn_replay.specs.declared.replays.held.Held.{Held}
use Rattle.dn_replay.proofs.KeptCalls.{kept-configuration}
use Rattle.dn_replay.proofs.ReplaySteps.{lawful, unread_text, unreplayed, unreported}
use Rattle.dn_replay.proofs.Runs.{no-row, submitted-append, submitted-both}

module _ (held : Held) (run : Run) (kept : Kept) (calls : List Call) where
  pub one_row : (rows : List Row) (row : Row) → HasAnswered held run kept (submit row ∷ submitted calls rows) → HasAnswered held run kept (submitted calls (rows ++ row ∷ []))
  one_row rows row h = subst (HasAnswered held run kept) (sym (submitted-append calls rows row)) h

  pub last_rows : (front rows : List Row) → HasAnswered held run kept (submitted (submitted calls front) rows) → HasAnswered held run kept (submitted calls (front ++ rows))
  last_rows front rows h = subst (HasAnswered held run kept) (submitted-both calls front rows) h

-- Before the first row no Collect was made.
pub answered-first : (held : Held) (run : Run) (kept : Kept) (calls : List Call) → HasMade run calls → HasKept kept calls → HoldsNothing held → HasAnswered held run kept calls
answered-first Entries run kept calls made has none = (made, has)
answered-first (Given given) run kept calls made has none = λ few. (past-first run.shaper calls given.items none made.0, has)

-- A pass has made the commands of a configuration, and was given no packets.
pub fed-first : (records : Bool) (pass : Pass) (run : Run) (config : List ℕ) (calls : List Call) → has_entries pass.held ≡ records → IsFresh pass → configured_by config ≡ Ok calls
    → HasMade run calls → HasFed records (record pass { run = run }) calls []
fed-first records pass run config calls is fresh accepted made = record {
  records_is = is;
  rows = [];
  read = fresh.read;
  answered = subst (HasAnswered pass.held run pass.kept) (no-row calls)
      (answered-first pass.held run pass.kept calls made (kept-configuration pass.kept config calls accepted fresh.kept) fresh.holds);
}

-- A Submit more, to which the shaper gave this answer, and whose row is kept.
module _ (run : Run) (kept : Kept) (calls : List Call) (row : Row) (now : State) (r : Reply)
    (answers : (made : List Call) → StandsAfter Ordered run.shaper made → (r ≡ reply Ordered made (submit row)) × StandsAfter Ordered now (submit row ∷ made))
    (after : Kept) (note : HasKept kept calls → r ≡ reply Ordered calls (submit row) → HasKept after (submit row ∷ calls)) where
  pub unheld : (held : Held) → HasAnswered held run kept calls → IsUnheld held (record run { shaper = now }) after (submit row) r calls
  unheld Entries (made, has) = let (said, stands) = answers calls made.0 in (stands, made.1, said, note has said)
  unheld (Given given) noted = λ few.
      let (past, has) = noted (omega (arith, few)) in
      let (said, stands) = answers past.made past.stands in
      let (told, can) = past-submit run.shaper calls given.items past row.target row.packet row.moment r now (omega (arith, few)) said stands in
      (can, note has told)

-- What is kept, and what all Collects gave, are what a report needs, where the calls are few.
pub can_report : (shaper : State) (kept : Kept) (given all : List Delivery) (calls : List Call) → HasNoted shaper kept given calls → length calls < 2 ^ 61
    → (moment : ℕ) → moment ≡ 2 ^ 62 → ((made : List Call) → StandsAfter Ordered shaper made → all ≡ given ++ delivered (reply Ordered made (Collect moment))) → CanReport kept all calls
can_report shaper kept given all calls noted size moment last gives =
    let (past, has) = noted (omega (arith, size)) in
    record {
      kept_is = has;
      given_is = gives past.made past.stands ∙ sym (past-last shaper calls given past moment size) ∙ ap (λ (m : ℕ). delivered (reply Ordered calls (Collect m))) last;
    }

-- The last entry of a history that ends in the Collect at the last moment tells what it gave.
pub can_report_recorded : (kept : Kept) (given : List Delivery) (calls : List Call) (entries : List Entry) → HasKept kept calls → entries ≡ history_of (Collect (2 ^ 62) ∷ calls)
    → ((before : List Entry) (last : Entry) → entries ≡ before ++ last ∷ [] → given ≡ delivered last.reply) → CanReport kept given calls
unfolding history_of
can_report_recorded kept given calls entries has is gives = record { kept_is = has; given_is = gives (history_of calls) (entry_after calls (Collect (2 ^ 62))) is }

-- If the calls are recorded, the history is theirs.
pub recorded : (held : Held) (run : Run) (kept : Kept) (calls : List Call) → HasMadeLast held run kept calls → has_entries held ≡ true → run.history.items ≡ history_of (Collect (2 ^ 62) ∷ calls)
recorded Entries run kept calls made on = made.0.1
recorded (Given given) run kept calls made on = absurd (false≢true on)

-- The rows of a packets' text are few, where the calls are that are asked for.
pub few_rows : (calls : List Call) (text : List ℕ) (rows : List Row) → rows_of text ≡ Ok rows → AreFew (calls_with calls text) → length (submitted calls rows) < 2 ^ 61
few_rows calls text rows is are_few = let size : suc (length (submitted calls rows)) < 2 ^ 61 = rw is at are_few in omega (arith, size)

-- The calls of a packets' text.
with_rows : (calls : List Call) (text : List ℕ) (rows : List Row) → rows_of text ≡ Ok rows → calls_with calls text ≡ Ok (replayed calls rows)
with_rows calls text rows is = rw is refl

with_fault : (calls : List Call) (text : List ℕ) (fault : ReplayFault) → rows_of text ≡ Err fault → calls_with calls text ≡ Err fault
with_fault calls text fault is = rw is refl

-- What has a fault of its own isn't replayed, and nothing is written.
pub refused_text : (read : Result (List Call) ReplayFault) (known : Option (List ℕ)) (failed : Bool) (fault : ReplayFault) → failed ≡ false → IsFaultOf read fault
    → IsUnreplayed NoneFailed (λ asked. read ≡ asked) known known failed fault
refused_text read known failed fault sound own =
    unreplayed NoneFailed (λ asked. read ≡ asked) known failed fault sound (unread_text NoneFailed (λ asked. read ≡ asked) read fault refl (λ f e. e) own)

pub refused_rows : (calls : List Call) (text : List ℕ) (fault : ReplayFault) → IsFaultOf (rows_of text) fault → IsFaultOf (calls_with calls text) fault
refused_rows calls text fault own = carried (rows_of text) (calls_with calls text) fault (λ f e. with_fault calls text f e) own

-- The report was written, and it was not.
pub told : (records : Bool) (calls : List Call) (text : List ℕ) (rows : List Row) (entries : List Entry) (untargeted : Bool) (old new : Option (List ℕ)) → rows_of text ≡ Ok rows
    → (records ≡ true → entries ≡ history_of (replayed calls rows)) → (records ≡ false → entries ≡ [])
    → Appends old new (report 1 (history_of (replayed calls rows))) × (untargeted ≡ all_untargeted (history_of (replayed calls rows)))
    → IsAnswered records (λ asked. calls_with calls text ≡ asked) entries untargeted old new
told true calls text rows entries untargeted old new is history none written =
    ((replayed calls rows, with_rows calls text rows is, (history refl, written.0)), written.1 ∙ ap all_untargeted (sym (history refl)))
told false calls text rows entries untargeted old new is history none written =
    (none refl, (replayed calls rows, with_rows calls text rows is, lawful (replayed calls rows), written.0, written.1))

pub untold : (calls : List Call) (text : List ℕ) (rows : List Row) (old new : Option (List ℕ)) (failed : Bool) (fault : ReplayFault) → rows_of text ≡ Ok rows
    → IsUnwritten Report (report 1 (history_of (replayed calls rows))) old new failed fault → IsUnreplayed NoneFailed (λ asked. calls_with calls text ≡ asked) old new failed fault
untold calls text rows old new failed fault is unwritten =
    unreported NoneFailed (λ asked. calls_with calls text ≡ asked) (replayed calls rows) old new failed fault refl (with_rows calls text rows is) unwritten
