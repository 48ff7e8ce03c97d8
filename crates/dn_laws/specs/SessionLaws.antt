-- The laws of live sessions: what a line asks for, what is written of lines, and when to ask next.
use Rattle.std.specs.Prelude.{ℕ, ◌≡◌, ◌≢◌, ◌≤◌, ◌<◌, ◌+◌, ◌⊎◌, true, List, [], ◌∷◌, ◌++◌, length, map, flat_map, reverse, codes, decimal, Option, Some, None, option_to_list, Ok, Err, sum}
use Rattle.std.specs.List.{All, join_with_byte}
use Rattle.std.specs.Str.{is_utf8}
use Rattle.dn_config.specs.Line.{answer}
use Rattle.dn_config.specs.declared.fault.LineFault.{LineFault}
use Rattle.dn_history.specs.Ranges.{IsCall}
use Rattle.dn_history.specs.Remarks.{without_remarks}
use Rattle.dn_laws.specs.Determined.Emulators.{Has}
use Rattle.dn_laws.specs.HistoryRefusals.{IsAsked}
use Rattle.dn_laws.specs.RecordLaws.{Texts, entry}
use Rattle.dn_live.specs.Asked.{asked}
use Rattle.dn_live.specs.Causes.{cause_text}
use Rattle.dn_live.specs.Session.{answers, begun, calls_of, closing, served_of}
use Rattle.dn_live.specs.declared.asked.Asked.{Asked}
use Rattle.dn_live.specs.declared.asked.Asked.TheVariants.{Nothing, Next, Calls, Bad}
use Rattle.dn_live.specs.declared.cause.Cause.TheVariants.{Faulty}
use Rattle.dn_records.specs.Records.{records_of}
use Rattle.dn_shaper.specs.Waking.{wake_of}
use Rattle.dn_types.specs.Calls.{trace_of}
use Rattle.dn_types.specs.Clock.{counted}
use Rattle.dn_types.specs.Deliveries.{undelivered}
use Rattle.dn_types.specs.History.{IsLawful}
use Rattle.dn_types.specs.Links.{free}
use Rattle.dn_types.specs.Replies.{reply}
use Rattle.dn_types.specs.Trace.{Accepted, Event, Link, backlog}
use Rattle.dn_types.specs.declared.call.Call.{Call}
use Rattle.dn_types.specs.declared.call.Call.TheVariants.{Configure}
use Rattle.dn_types.specs.declared.command.Command.{Command}
use Rattle.dn_types.specs.declared.delivery.Delivery.{Delivery}
use Rattle.dn_types.specs.declared.entry.Entry.{Entry}
use Rattle.dn_types.specs.declared.rule.Rule.{Rule}
use Rattle.dn_types.specs.declared.rule.Rule.TheVariants.{Ordered}

-- No byte is a quote (34) or a carriage return (13), which mean something to CSV.
abbrev pub IsBare : List ℕ → Type 0
IsBare text = All (λ b. (b ≢ 34) × (b ≢ 13)) text

-- A configuration line asks for the command that it says, as a call of caller 0.
pub record AsksAsTyped (line : List ℕ) : Type 0 where
  pub command : (command : Command) → answer line ≡ Ok (Some command) → asked line ≡ Calls 0 (Configure command)
  pub nothing : answer line ≡ Ok None → asked line ≡ Nothing
  pub fault : (fault : LineFault) → answer line ≡ Err fault → asked line ≡ Bad (record { field = 1; cause = Faulty fault })

-- `#` (35) begins a comment. A configuration line begins in another way than `next` (110) and the record of a call, with `c` (99).
pub record LinesAreAsked : Type 0 where
  pub comments : (line : List ℕ) → asked (35 ∷ line) ≡ Nothing
  pub next : asked (codes "next") ≡ Next
  pub typed : (b : ℕ) (line : List ℕ) → b ≢ 35 → b ≢ 99 → b ≢ 110 → IsBare (b ∷ line) → is_utf8 (b ∷ line) ≡ true → AsksAsTyped (b ∷ line)

-- A line is the one record with these fields, by CSV or, without its marks, with commas (44) between them.
abbrev pub IsRecord : List ℕ → Texts → Type 0
IsRecord line fields = (records_of line ≡ fields ∷ []) ⊎ (line ≡ join_with_byte 44 fields)

-- The line asks for no other call than that of its record, as in a history, or of its command.
abbrev pub OnlyCallsAreMade : Type 0
OnlyCallsAreMade = (line : List ℕ) (caller : ℕ) (call : Call) → asked line ≡ Calls caller call →
    ((told : Texts) × (caller < 16) × IsAsked call told × IsRecord line (codes "c" ∷ decimal caller ∷ told))
    ⊎ ((command : Command) × (caller ≡ 0) × (call ≡ Configure command) × (answer line ≡ Ok (Some command)))

-- Fields between commas that hold no comma are read, if they say a call in range.
abbrev pub CallsAreRead : Type 0
CallsAreRead = (caller : ℕ) (call : Call) (told : Texts) → caller < 16 → IsCall call → IsAsked call told →
    All (λ field. IsBare field × All (λ b. b ≢ 44) field × (is_utf8 field ≡ true)) told → asked (join_with_byte 44 (codes "c" ∷ decimal caller ∷ told)) ≡ Calls caller call

-- When to ask next: when a packet under way is due, or a link is free for which packets wait, whichever is first.
abbrev pub Wakes : Rule → List Event → ℕ → Type 0
Wakes rule trace m = ((d : Delivery) × Has (undelivered rule trace) d × (d.due ≡ m)) ⊎ ((link : Link) × (flow : ℕ) × (p : Accepted) × Has (backlog link flow trace) p × (free link trace ≡ m))

abbrev pub IsFirst : (ℕ → Type 0) → Option ℕ → Type 0
IsFirst Is None = (m : ℕ) → Is m → ⊥
IsFirst Is (Some m) = Is m × ((other : ℕ) → Is other → m ≤ other)

abbrev pub WakesAreFirst : Type 0
WakesAreFirst = (rule : Rule) (trace : List Event) → IsFirst (Wakes rule trace) (wake_of rule trace)

-- What is written of a line behind these calls: the entry of its call, or a remark. Lines and calls stand newest first.
abbrev pub IsOwn : ℕ → List Call → Asked → List Texts → Type 0
IsOwn number calls Nothing own = own ≡ []
IsOwn number calls Next own = own ≡ (codes "#" ∷ codes "next" ∷ map decimal (option_to_list (wake_of Ordered (trace_of (counted calls))))) ∷ []
IsOwn number calls (Calls caller call) own = own ≡ entry (record { caller = caller; call = call; reply = reply Ordered calls call })
IsOwn number calls (Bad bad) own = own ≡ (codes "#" ∷ codes "bad" ∷ decimal number ∷ decimal bad.field ∷ cause_text bad.cause ∷ []) ∷ []

abbrev pub LinesAreAnswered : Type 0
LinesAreAnswered = (line : List ℕ) (lines : List (List ℕ)) → (own : List Texts) × (answers (line ∷ lines) ≡ answers lines ++ own) × IsOwn (length lines + 1) (calls_of lines) (asked line) own

-- The calls and the bad lines of a session.
abbrev pub called : Asked → List (ℕ × Call)
called (Calls caller call) = (caller, call) ∷ []
called _ = []

abbrev pub is_bad : Asked → ℕ
is_bad (Bad bad) = 1
is_bad _ = 0

-- But for remarks, the answers are the records of a lawful history of the calls that the lines ask for, and no more.
pub record IsHistoryOf (lines : List (List ℕ)) (entries : List Entry) : Type 0 where
  pub lawful : IsLawful Ordered entries
  pub calls : map (λ e. (e.caller, e.call)) (reverse entries) ≡ flat_map (λ line. called (asked line)) lines
  pub written : without_remarks (answers lines) ≡ flat_map entry entries
  pub counted : (served_of lines []).calls ≡ length entries
  pub refused : (served_of lines []).bad ≡ sum (map (λ line. is_bad (asked line)) lines)
  pub tail : (b : ℕ) (rest : List ℕ) → served_of lines (b ∷ rest) ≡ record { calls = length entries; bad = (served_of lines []).bad + 1 }

abbrev pub SessionsAreHistories : Type 0
SessionsAreHistories = (lines : List (List ℕ)) → (entries : List Entry) × IsHistoryOf lines entries

-- The output is read as a first record, the answers, a remark on what follows the last line feed, and the count of the calls.
abbrev pub IsTail : ℕ → List ℕ → List Texts → Type 0
IsTail number [] last = last ≡ []
IsTail number (b ∷ tail) last = last ≡ (codes "#" ∷ codes "bad" ∷ decimal number ∷ decimal 0 ∷ codes "no line feed" ∷ []) ∷ []

abbrev pub TranscriptsAreWritten : Type 0
TranscriptsAreWritten = (lines : List (List ℕ)) (tail : List ℕ) → (last : List Texts) × IsTail (length lines + 1) tail last
    × (records_of (begun lines ++ closing lines tail) ≡ (codes "dummynet-live" ∷ codes "1" ∷ []) ∷ (answers lines ++ (last ++ (codes "end" ∷ decimal ((served_of lines tail).calls) ∷ []) ∷ [])))
