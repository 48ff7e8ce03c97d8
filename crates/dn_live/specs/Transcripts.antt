-- What is written of a session, seen as a history.
use Rattle.std.specs.Prelude.{◌≡◌, ◌<◌, ◌^◌, ⊤, ℕ, List, [], ◌∷◌, Ok, Option, length}
use Rattle.std.specs.Io.KnownBytes.{Appends}
use Rattle.dn_types.specs.History.{IsLawful}
use Rattle.dn_types.specs.Replies.{reply}
use Rattle.dn_types.specs.declared.call.Call.{Call}
use Rattle.dn_types.specs.declared.entry.Entry.{Entry}
use Rattle.dn_types.specs.declared.rule.Rule.TheVariants.{Ordered}
use Rattle.dn_records.specs.Records.{Fields, text_of}
use Rattle.dn_history.specs.HistoryFile.{history_in}
use Rattle.dn_history.specs.HistoryText.{history_header, history_records, live_header}
use Rattle.dn_history.specs.Ranges.{IsEntry}
use Rattle.dn_history.specs.Remarks.{without_remarks}
use Rattle.dn_live.specs.Asked.{asked}
use Rattle.dn_live.specs.Session.{calls_of, IsServedBy}
use Rattle.dn_live.specs.declared.asked.Asked.{Asked}
use Rattle.dn_live.specs.declared.asked.Asked.TheVariants.{Nothing, Next, Calls, Bad}
use Rattle.dn_live.specs.declared.served.Served.{Served}

-- What was written is the first record of a transcript, and the records of a history behind its first one, with remarks among
-- them. The history is lawful, and what was written is read as that history.
abbrev pub IsTranscript : Option (List ℕ) → Option (List ℕ) → Type 0
IsTranscript old new = (entries : List Entry) × IsLawful Ordered entries
    × ((records : List Fields) × Appends old new (text_of (live_header ∷ records)) × (history_header ∷ without_remarks records ≡ history_records entries)
    × (history_in (text_of (live_header ∷ records)) ≡ Ok (Ordered, entries)))

-- The entry of what a line asks for after the calls, if that is a call, holds numbers in the ranges of their types.
abbrev pub IsTyped : List Call → Asked → Type 0
IsTyped calls (Calls caller call) = IsEntry (record { caller = caller; call = call; reply = reply Ordered calls call })
IsTyped calls Nothing = ⊤
IsTyped calls Next = ⊤
IsTyped calls (Bad bad) = ⊤

-- The same of all lines.
unfoldable pub AreTyped : List (List ℕ) → Type 0
AreTyped [] = ⊤
AreTyped (line ∷ lines) = IsTyped (calls_of lines) (asked line) × AreTyped lines

-- Some lines and a tail were served, and the numbers in the entries of the lines and the count of the lines are in their ranges.
abbrev pub IsServedTyped : Option (List ℕ) → Option (List ℕ) → Option (List ℕ) → Served → Type 0
IsServedTyped known old new served = (lines : List (List ℕ)) × (tail : List ℕ) × (AreTyped lines × (length lines < 2 ^ 64)) × IsServedBy known old new served lines tail
