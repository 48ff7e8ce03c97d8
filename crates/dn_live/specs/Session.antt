-- A session: the calls that the lines of its input ask for, and all that is written of them. Lines and calls stand newest
-- first.
use Rattle.std.specs.Prelude.{◌≡◌, ℕ, ◌+◌, ◌≤◌, ◌^◌, ◌⊎◌, Bool, true, false, List, [], ◌∷◌, ◌++◌, length, Option, Some, None, codes, decimal}
use Rattle.std.specs.List.{All}
use Rattle.std.specs.Io.KnownBytes.{Appends}
use Rattle.dn_types.specs.Calls.{trace_of}
use Rattle.dn_types.specs.Clock.{counted}
use Rattle.dn_types.specs.Replies.{reply}
use Rattle.dn_types.specs.declared.call.Call.{Call}
use Rattle.dn_types.specs.declared.rule.Rule.TheVariants.{Ordered}
use Rattle.dn_shaper.specs.Waking.{wake_of}
use Rattle.dn_records.specs.Devices.{AppendsPart}
use Rattle.dn_records.specs.Records.{Fields, text_of}
use Rattle.dn_history.specs.HistoryText.{end_record, entry_records, live_header}
use Rattle.dn_files.specs.Reading.{IsTextOf}
use Rattle.dn_files.specs.declared.replay_fault.ReplayFault.{ReplayFault}
use Rattle.dn_files.specs.declared.replay_fault.ReplayFault.TheVariants.{Write, TooLong}
use Rattle.dn_files.specs.declared.source.Source.TheVariants.{Input, History}
use Rattle.dn_live.specs.Asked.{asked}
use Rattle.dn_live.specs.Causes.{cause_text}
use Rattle.dn_live.specs.LinesTaken.{HasFront, IsLine, IsNotRead, IsTooLong}
use Rattle.dn_live.specs.declared.asked.Asked.{Asked}
use Rattle.dn_live.specs.declared.asked.Asked.TheVariants.{Nothing, Next, Calls, Bad}
use Rattle.dn_live.specs.declared.bad_line.BadLine.{BadLine}
use Rattle.dn_live.specs.declared.cause.Cause.TheVariants.{NoLineFeed}
use Rattle.dn_live.specs.declared.served.Served.{Served}

-- The remark on the bad line with this number.
abbrev pub bad_record : ℕ → BadLine → Fields
bad_record number bad = codes "#" ∷ codes "bad" ∷ decimal number ∷ decimal bad.field ∷ cause_text bad.cause ∷ []

-- The remark on when to ask next, if there is a moment.
abbrev pub next_record : Option ℕ → Fields
next_record None = codes "#" ∷ codes "next" ∷ []
next_record (Some moment) = codes "#" ∷ codes "next" ∷ decimal moment ∷ []

-- The calls after a line.
abbrev pub calls_after : List Call → Asked → List Call
calls_after calls Nothing = calls
calls_after calls Next = calls
calls_after calls (Calls caller call) = call ∷ calls
calls_after calls (Bad bad) = calls

-- How many calls are asked for.
abbrev pub count_of : Asked → ℕ
count_of Nothing = 0
count_of Next = 0
count_of (Calls caller call) = 1
count_of (Bad bad) = 0

-- How many lines are bad.
abbrev pub bad_of : Asked → ℕ
bad_of Nothing = 0
bad_of Next = 0
bad_of (Calls caller call) = 0
bad_of (Bad bad) = 1

-- The records that answer the line with this number after the calls: those of the entry of its call, or a remark.
abbrev pub answer : ℕ → List Call → Asked → List Fields
answer number calls Nothing = []
answer number calls Next = next_record (wake_of Ordered (trace_of (counted calls))) ∷ []
answer number calls (Calls caller call) = entry_records (record { caller = caller; call = call; reply = reply Ordered calls call })
answer number calls (Bad bad) = bad_record number bad ∷ []

-- The calls that lines ask for.
unfoldable pub calls_of : List (List ℕ) → List Call
calls_of [] = []
calls_of (line ∷ lines) = calls_after (calls_of lines) (asked line)

-- How many of some lines are bad.
unfoldable pub bad_lines : List (List ℕ) → ℕ
bad_lines [] = 0
bad_lines (line ∷ lines) = bad_lines lines + bad_of (asked line)

-- The records that answer lines, in the order in which they are written.
unfoldable pub answers : List (List ℕ) → List Fields
answers [] = []
answers (line ∷ lines) = answers lines ++ answer (length lines + 1) (calls_of lines) (asked line)

-- The text of lines, each with its line feed.
unfoldable pub lines_text : List (List ℕ) → List ℕ
lines_text [] = []
lines_text (line ∷ lines) = lines_text lines ++ (line ++ 10 ∷ [])

-- What stands behind the last line feed is no line, and so no call: a host that broke off in a line has asked for nothing.
abbrev pub tail_answer : ℕ → List ℕ → List Fields
tail_answer number [] = []
tail_answer number (b ∷ tail) = bad_record number (record { field = 0; cause = NoLineFeed }) ∷ []

-- Whether something stands behind the last line feed, as a count.
abbrev pub bad_tail : List ℕ → ℕ
bad_tail [] = 0
bad_tail (b ∷ tail) = 1

-- What is written of lines.
abbrev pub begun : List (List ℕ) → List ℕ
begun lines = text_of (live_header ∷ answers lines)

-- What is written at the end of the input.
abbrev pub closing : List (List ℕ) → List ℕ → List ℕ
closing lines tail = text_of (tail_answer (length lines + 1) tail ++ end_record (length (calls_of lines)) ∷ [])

-- What a session of lines and a tail comes to.
abbrev pub served_of : List (List ℕ) → List ℕ → Served
served_of lines tail = record { calls = length (calls_of lines); bad = bad_lines lines + bad_tail tail }

-- The input was these lines and this tail, and all was written of them.
abbrev pub IsServedBy : Option (List ℕ) → Option (List ℕ) → Option (List ℕ) → Served → List (List ℕ) → List ℕ → Type 0
IsServedBy known old new served lines tail = IsTextOf known (lines_text lines ++ tail)
    × All IsLine (tail ∷ lines) × Appends old new (begun lines ++ closing lines tail) × (served ≡ served_of lines tail)

-- The input was some lines and a tail, and all was written of them.
abbrev pub IsServed : Option (List ℕ) → Option (List ℕ) → Option (List ℕ) → Served → Type 0
IsServed known old new served = (lines : List (List ℕ)) × (tail : List ℕ) × IsServedBy known old new served lines tail

-- These lines were answered, and nothing else was written.
abbrev pub IsServedUpTo : Option (List ℕ) → Option (List ℕ) → Option (List ℕ) → List (List ℕ) → Type 0
IsServedUpTo known old new lines = HasFront known (lines_text lines) × All IsLine lines × Appends old new (begun lines)

-- Why nothing was read behind these lines: a read failed, memory was refused, the next line is too long, or a number of
-- 64 bits doesn't count the lines.
abbrev pub IsUnread : Option (List ℕ) → List (List ℕ) → Bool → ReplayFault → Type 0
IsUnread known lines failed (TooLong what) = (what ≡ Input) × (failed ≡ false) × (IsTooLong known (lines_text lines) ⊎ (2 ^ 64 ≤ length lines + 2))
IsUnread known lines failed fault = IsNotRead failed fault

-- Why a session was broken off. A part of what is to be written was written where a write failed, and otherwise the
-- answers to some lines, whole.
abbrev pub IsBrokenOff : Option (List ℕ) → Bool → Option (List ℕ) → Option (List ℕ) → Bool → ReplayFault → Type 0
IsBrokenOff known read_failed old new failed (Write what) =
    (what ≡ History) × (read_failed ≡ false) × (failed ≡ true)
    × ((lines : List (List ℕ)) × (tail : List ℕ) × HasFront known (lines_text lines ++ tail) × All IsLine (tail ∷ lines)
    × AppendsPart old new (begun lines ++ closing lines tail))
IsBrokenOff known read_failed old new failed fault =
    (failed ≡ false) × ((lines : List (List ℕ)) × IsServedUpTo known old new lines × IsUnread known lines read_failed fault)
