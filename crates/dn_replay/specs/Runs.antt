-- A run: the calls of one caller, newest first, and the history that they make.
use Rattle.std.specs.Prelude.{◌≡◌, ◌^◌, List, [], ◌∷◌, ◌++◌}
use Rattle.dn_types.specs.Replies.{reply}
use Rattle.dn_types.specs.declared.call.Call.{Call}
use Rattle.dn_types.specs.declared.call.Call.TheVariants.{Collect}
use Rattle.dn_types.specs.declared.entry.Entry.{Entry}
use Rattle.dn_types.specs.declared.reply.Reply.{Reply}
use Rattle.dn_types.specs.declared.rule.Rule.TheVariants.{Ordered}
use Rattle.dn_shaper.specs.Shaper.{StandsAfter}
use Rattle.dn_files.specs.declared.row.Row.{Row}
use Rattle.dn_replay.specs.Rows.{submitted}
use Rattle.dn_replay.specs.declared.config.run.Run.{Run}

-- The entry of a call by caller 0, after the calls before it.
abbrev pub entry_after : List Call → Call → Entry
entry_after calls c = record { caller = 0; call = c; reply = reply Ordered calls c }

-- The history of the calls by caller 0, oldest first.
unfoldable pub history_of : List Call → List Entry
history_of [] = []
history_of (c ∷ calls) = history_of calls ++ entry_after calls c ∷ []

-- A run has made these calls: its shaper stands after them, and its history is theirs.
abbrev pub HasMade : Run → List Call → Type 0
HasMade run calls = StandsAfter Ordered run.shaper calls × (run.history.items ≡ history_of calls)

-- A call more and its reply were added to whatever history a run has, whose shaper has answered it.
abbrev pub AddsEntry : Call → Reply → Run → Run → Type 0
AddsEntry call answer old new = (calls : List Call) → StandsAfter Ordered old.shaper (call ∷ calls) →
    old.history.items ≡ history_of calls → answer ≡ reply Ordered calls call → HasMade new (call ∷ calls)

-- The calls of a replay: those of the configuration, a Submit of each row, and a Collect at the last moment.
abbrev pub replayed : List Call → List Row → List Call
replayed calls rows = Collect (2 ^ 62) ∷ submitted calls rows
