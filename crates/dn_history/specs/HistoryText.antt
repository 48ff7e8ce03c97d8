-- A history file of version 3: a header, the records of each entry in turn, and the count of the entries.
use Rattle.std.specs.Prelude.{ℕ, List, [], ◌∷◌, ◌++◌, length, flat_map, codes, decimal}
use Rattle.dn_types.specs.declared.entry.Entry.{Entry}
use Rattle.dn_records.specs.Records.{Fields, line_of, text_of}
use Rattle.dn_history.specs.EntryRecords.{call_record, item_records, reply_record}

-- The first record names the format and its version.
abbrev pub history_header : Fields
history_header = codes "dummynet-history" ∷ codes "3" ∷ []

-- The first record of a live session's transcript.
abbrev pub live_header : Fields
live_header = codes "dummynet-live" ∷ codes "1" ∷ []

-- The records of an entry: its call, its reply, and what the reply lists.
abbrev pub entry_records : Entry → List Fields
entry_records e = call_record e.caller e.call ∷ reply_record e.reply ∷ item_records e.reply

-- The last record has the count of the entries.
abbrev pub end_record : ℕ → Fields
end_record count = codes "end" ∷ decimal count ∷ []

-- The records of a history file.
abbrev pub history_records : List Entry → List Fields
history_records entries = history_header ∷ (flat_map entry_records entries ++ end_record (length entries) ∷ [])

-- The text of a history file.
unfoldable pub history_text : List Entry → List ℕ
history_text entries = text_of (history_records entries)

-- The parts of that text: the header, the records of some entries, and the count of all.
abbrev pub history_front : List ℕ
history_front = line_of history_header

abbrev pub part_text : List Entry → List ℕ
part_text entries = text_of (flat_map entry_records entries)

abbrev pub history_end : ℕ → List ℕ
history_end count = line_of (end_record count)
