-- What an input asks for, and what became of it, by the parts of it.
use Rattle.dn_replay.proofs.Words.{AnswersByOne, AskForWithin, Bool, Call, EitherFailed, Entry, Err, HasTaken, IfErr, IfOk, IsAccepted, IsAnswered, IsCutAt, IsFaultOf, IsTextOf, IsUnreplayed}
use Rattle.dn_replay.proofs.Words.{List, None, Ok, Option, OutOfMemory, Packets, Pass, Read, ReplayFault, ReplaysByOne, Result, Some, Source, Stage, TextFailed, Write, [], ap, append-nil}
use Rattle.dn_replay.proofs.Words.{append_assoc, calls_asked, calls_of_joined_within, calls_of_parts, calls_with, calls_within, carried, config_calls, configured_by, failed_read, false}
use Rattle.dn_replay.proofs.Words.{false≢true, has_entries, joined_parts, length, read_of, refl, replayed, rows_of, short, source_of, subst, sym, true, within_limit, ℕ, ◌++◌, ◌>>=◌, ◌∙◌, ◌≡◌, ◌≤◌}
use Rattle.dn_replay.specs.declared.replays.stage.Stage.TheVariants as at
use Rattle.dn_replay.proofs.ReplaySteps.{lawful_replay, one_replays}

-- What an input within its limit asks for.
abbrev pub Asks : ℕ → Option (List ℕ) → (List ℕ → Result (List Call) ReplayFault) → Type 0
Asks limit config asked = (whole : List ℕ) → calls_asked limit config whole ≡ (within_limit limit (source_of config) whole >>= asked)

pub joined_asks : (limit : ℕ) → Asks limit None (λ text. calls_of_parts (joined_parts text))
unfolding calls_of_joined_within
joined_asks limit whole = refl

rows_ask : (calls : List Call) (within : Result (List ℕ) ReplayFault) → ((within >>= rows_of) >>= λ rows. Ok (replayed calls rows)) ≡ (within >>= calls_with calls)
rows_ask calls (Ok text) = refl
rows_ask calls (Err fault) = refl

pub packets_ask : (limit : ℕ) (config : List ℕ) (calls : List Call) → config_calls config ≡ Ok calls → Asks limit (Some config) (calls_with calls)
unfolding calls_within
packets_ask limit config calls accepted whole = rw accepted (rows_ask calls (within_limit limit Packets whole))

pub asked_within : (limit : ℕ) (config : Option (List ℕ)) (asked : List ℕ → Result (List Call) ReplayFault) (text : List ℕ) → Asks limit config asked → length text ≤ limit
    → calls_asked limit config text ≡ asked text
asked_within limit config asked text asks le = asks text ∙ rw (short (source_of config) limit text le) refl

parts_ask : (config packets : List ℕ) (calls : List Call) → configured_by config ≡ Ok calls → calls_of_parts (config, packets) ≡ calls_with calls packets
parts_ask config packets calls accepted = rw accepted refl

-- Behind a configuration that was accepted or refused.
pub begun : (asked : List ℕ → Result (List Call) ReplayFault) (text config packets : List ℕ) (calls : List Call) → configured_by config ≡ Ok calls → IsCutAt asked text config packets
    → (more : List ℕ) → asked (text ++ more) ≡ calls_with calls (packets ++ more)
begun asked text config packets calls accepted cut more = cut more ∙ parts_ask config (packets ++ more) calls accepted

parts_fault : (config packets : List ℕ) (fault : ReplayFault) → configured_by config ≡ Err fault → calls_of_parts (config, packets) ≡ Err fault
parts_fault config packets fault refused = rw refused refl

pub not_begun : (asked : List ℕ → Result (List Call) ReplayFault) (text config packets : List ℕ) (fault : ReplayFault) → IsFaultOf (configured_by config) fault → IsCutAt asked text config packets
    → (more : List ℕ) → IsFaultOf (asked (text ++ more)) fault
not_begun asked text config packets fault refused cut more = carried (configured_by config) (asked (text ++ more)) fault (λ f e. cut more ∙ parts_fault config (packets ++ more) f e) refused

-- What stands behind a part comes behind the text up to it.
pub regroup : (asked : List ℕ → Result (List Call) ReplayFault) (text part more : List ℕ) → asked ((text ++ part) ++ more) ≡ asked (text ++ (part ++ more))
regroup asked text part more = ap asked (append_assoc text part more)

-- The same where the input ends with its configuration.
pub end_begun : (asked : List ℕ → Result (List Call) ReplayFault) (text config : List ℕ) (calls : List Call) → configured_by config ≡ Ok calls
    → ((whole : List ℕ) → asked whole ≡ calls_of_parts (joined_parts whole)) → joined_parts text ≡ (config, []) → asked text ≡ calls_with calls []
end_begun asked text config calls accepted same cut = same text ∙ ap calls_of_parts cut ∙ parts_ask config [] calls accepted

pub stays_refused : (asked : List ℕ → Result (List Call) ReplayFault) (text : List ℕ) (fault : ReplayFault) → ((more : List ℕ) → IsFaultOf (asked (text ++ more)) fault) → IsFaultOf (asked text) fault
stays_refused asked text fault own = subst (λ (t : List ℕ). IsFaultOf (asked t) fault) (append-nil text) (own [])

pub still_refused : (asked : List ℕ → Result (List Call) ReplayFault) (text part : List ℕ) (fault : ReplayFault) → ((more : List ℕ) → IsFaultOf (asked (text ++ more)) fault)
    → (more : List ℕ) → IsFaultOf (asked ((text ++ part) ++ more)) fault
still_refused asked text part fault own more = subst (λ (t : List ℕ). IsFaultOf (asked t) fault) (sym (append_assoc text part more)) (own (part ++ more))

pub packets_come : (asked : List ℕ → Result (List Call) ReplayFault) (text packets part : List ℕ) (calls : List Call) → ((more : List ℕ) → asked (text ++ more) ≡ calls_with calls (packets ++ more))
    → (more : List ℕ) → asked ((text ++ part) ++ more) ≡ calls_with calls ((packets ++ part) ++ more)
packets_come asked text packets part calls asks more = regroup asked text part more ∙ asks (part ++ more) ∙ ap (calls_with calls) (sym (append_assoc packets part more))

-- The same at the end of the text.
pub at_end : (asked : List ℕ → Result (List Call) ReplayFault) (text packets : List ℕ) (calls : List Call) → ((more : List ℕ) → asked (text ++ more) ≡ calls_with calls (packets ++ more))
    → asked text ≡ calls_with calls packets
at_end asked text packets calls asks = ap asked (sym (append-nil text)) ∙ asks [] ∙ ap (calls_with calls) (append-nil packets)

-- What became of what is asked for by one became of what is asked for by another.
module _ (Asked Inputs : Result (List Call) ReplayFault → Type 0) (old new : Option (List ℕ)) (through : (asked : Result (List Call) ReplayFault) → Asked asked → Inputs asked) where
  pub answered_through : (records : Bool) (entries : List Entry) (untargeted : Bool) → IsAnswered records Asked entries untargeted old new → IsAnswered records Inputs entries untargeted old new
  answered_through true entries untargeted told = ((told.0.0, through (Ok told.0.0) told.0.1, told.0.2), told.1)
  answered_through false entries untargeted told = (told.0, (told.1.0, through (Ok told.1.0) told.1.1, told.1.2, told.1.3, told.1.4))

  module _ (Failed InputFailed : Option Source → Type 0) (failures : (what : Option Source) → Failed what → InputFailed what) where
    pub unanswered_through : (failed : Bool) (fault : ReplayFault) → IsUnreplayed Failed Asked old new failed fault → IsUnreplayed InputFailed Inputs old new failed fault
    unanswered_through failed (Read what) h = (failures (Some what) h.0, h.1)
    unanswered_through failed (Write what) h = (failures None h.0, (h.1.0, through (Ok h.1.0) h.1.1, h.1.2))
    unanswered_through failed OutOfMemory h = (failures None h.0, h.1)
    unanswered_through failed fault h = (failures None h.0, (through (Err fault) h.1.0, h.1.1))

-- A history that was recorded is one of caller 0, and it is lawful.
pub by_one : (records : Bool) (Asked : Result (List Call) ReplayFault → Type 0) (entries : List Entry) (untargeted : Bool) (old new : Option (List ℕ))
    → IsAnswered records Asked entries untargeted old new → AnswersByOne records entries untargeted Asked old new
by_one true Asked entries untargeted old new told =
    record { answered = told; lawful = λ on. lawful_replay Asked entries old new told.0; callers = λ on. one_replays Asked entries old new told.0 }
by_one false Asked entries untargeted old new told = record { answered = told; lawful = λ on. absurd (false≢true on); callers = λ on. absurd (false≢true on) }

-- The history alone of an answer that records it.
pub history_alone : (entries : List Entry) (untargeted : Bool) (Asked : Result (List Call) ReplayFault → Type 0) (old new : Option (List ℕ))
    → AnswersByOne true entries untargeted Asked old new → ReplaysByOne entries Asked old new
history_alone entries untargeted Asked old new told = record { replayed = told.answered.0; lawful = told.lawful refl; callers = told.callers refl }

-- Which read failed is known of a result and of its fault.
pub read_known : {A : Type 0} (Failed : Option Source → Type 0) (result : Result A ReplayFault) → IfOk result (λ value. Failed None)
    → IfErr result (λ fault. Failed (failed_read fault)) → Failed (read_of result)
read_known Failed (Ok value) sound failed = sound
read_known Failed (Err fault) sound failed = failed

-- What is asked for behind the text of a configuration is asked for by both inputs.
pub asked_by_both : (limit : ℕ) (config packets : Option (List ℕ)) (text rows : List ℕ) → IsTextOf config text → IsTextOf packets rows
    → (asked : Result (List Call) ReplayFault) → calls_asked limit (Some text) rows ≡ asked → AskForWithin limit config packets asked
asked_by_both limit config packets text rows is_config is_packets asked e = (text, rows, is_config, is_packets, e)

-- A read of the packets failed behind a configuration that was accepted, or none did.
pub either_failed : (config : Option (List ℕ)) (config_failed failed : Bool) → config_failed ≡ false → IsAccepted config → (what : Option Source) → TextFailed Packets failed what
    → EitherFailed config config_failed failed what
either_failed config config_failed failed sound accepted None h = (sound, h)
either_failed config config_failed failed sound accepted (Some what) h = rw h.0 (sound, h.1, accepted)

-- A replay that has taken some text records its calls, or doesn't.
pub records-taken : (stage : Stage) (records : Bool) (pass : Pass) (asked : List ℕ → Result (List Call) ReplayFault) (text : List ℕ) → HasTaken stage records pass asked text
    → has_entries pass.held ≡ records
records-taken (at.Config part) records pass asked text taken = taken.0
records-taken at.Packets records pass asked text taken = taken.2.records_is
records-taken (at.Refused fault) records pass asked text taken = taken.0
