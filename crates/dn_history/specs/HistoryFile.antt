-- A history file: the records of its text, the first the version, then the entries, and the last the end.
use Rattle.std.specs.Prelude.{ℕ, zero, suc, ◌+◌, ◌&&◌, cond, List, [], ◌∷◌, length, Option, Some, None, Result, Ok, Err, codes, not}
use Rattle.dn_types.specs.declared.call.Call.{Call}
use Rattle.dn_types.specs.declared.call.Call.TheVariants.{Configure}
use Rattle.dn_types.specs.declared.command.Command.{Command}
use Rattle.dn_types.specs.declared.entry.Entry.{Entry}
use Rattle.dn_types.specs.declared.reply.Reply.{Reply}
use Rattle.dn_types.specs.declared.reply.Reply.TheVariants.{Delivered, Status}
use Rattle.dn_types.specs.declared.rule.Rule.{Rule}
use Rattle.dn_records.specs.Records.{Fields, records_of}
use Rattle.dn_files.specs.ConfigFile.{command_at}
use Rattle.dn_files.specs.Fields.{column}
use Rattle.dn_history.specs.HistoryItems.{delivery_item, status_item}
use Rattle.dn_history.specs.HistoryRecords.{caller_of, has_deletes, has_remarks, is_call, is_delete, is_end, is_reply, long_at, plain_call, plain_reply, rule_of, told_count, two_of, version_of}
use Rattle.dn_files.specs.Reading.{◌>>=◌, within_limit}
use Rattle.dn_history.specs.RecordsLeft.{Read, Rest, in_record, items_from, next_record}
use Rattle.dn_history.specs.Remarks.{ahead}
use Rattle.dn_history.specs.declared.history_version.HistoryVersion.{HistoryVersion}
use Rattle.dn_files.specs.declared.replay_fault.ReplayFault.{ReplayFault}
use Rattle.dn_files.specs.declared.replay_fault.ReplayFault.TheVariants.{BadRecord, OutOfMemory}
use Rattle.dn_files.specs.declared.source.Source.TheVariants.{History}

-- The command of a configuration's text: any line that asks for something, and no delete where the version has none. Want
-- of memory, which no line has of its own, stays.
abbrev pub command_by : HistoryVersion → ℕ → Result (Option Command) ReplayFault → Result Command ReplayFault
command_by version number (Ok (Some command)) = cond (is_delete command && not (has_deletes version)) (Err (BadRecord number)) (Ok command)
command_by version number (Err OutOfMemory) = Err OutOfMemory
command_by version number _ = Err (BadRecord number)

-- The call of a record.
unfoldable pub call_of : HistoryVersion → ℕ → Fields → Result Call ReplayFault
call_of version number fields =
    cond (is_call (codes "configure") 4 fields)
    (command_by version number (command_at 1 (column 4 fields)) >>= λ command. Ok (Configure command))
    (in_record number (plain_call fields))

-- The rest of a reply with deliveries.
unfoldable pub delivered_from : ℕ → Fields → Rest → Read Reply
delivered_from number fields rest = do
  head ← in_record number (two_of fields)
  list ← items_from delivery_item head.1 rest
  Ok (Delivered head.0 list.0, list.1)

-- The rest of a reply with the states of flows.
unfoldable pub status_from : HistoryVersion → ℕ → Fields → Rest → Read Reply
status_from version number fields rest = do
  count ← in_record number (long_at 3 fields)
  list ← items_from (status_item version) count rest
  Ok (Status list.0, list.1)

-- A reply by its record, which has this number, and the items behind it.
unfoldable pub reply_by : HistoryVersion → ℕ → Fields → Rest → Read Reply
reply_by version number fields rest =
    cond (is_reply (codes "delivered") 4 fields) (delivered_from number fields rest)
    (cond (is_reply (codes "status") 3 fields) (status_from version number fields rest)
    (in_record number (plain_reply version fields) >>= λ reply. Ok (reply, rest)))

-- The next reply.
unfoldable pub reply_from : HistoryVersion → Rest → Read Reply
reply_from version rest = do
  first ← next_record rest
  reply_by version rest.number first.0 first.1

-- An entry by its call record, which has this number, and the reply behind it.
unfoldable pub entry_by : HistoryVersion → ℕ → Fields → Rest → Read (Option Entry)
entry_by version number fields rest = do
  caller ← in_record number (caller_of fields)
  call ← call_of version number fields
  reply ← reply_from version rest
  Ok (Some (record { caller = caller; call = call; reply = reply.0 }), reply.1)

abbrev pub nothing_in : Rest → List Fields → Read (Option Entry)
nothing_in rest [] = Ok (None, rest)
nothing_in rest (fields ∷ records) = Err (BadRecord rest.number)

-- The end, which tells the count of the entries before it. No record stands behind it.
unfoldable pub end_by : ℕ → ℕ → Fields → Rest → Read (Option Entry)
end_by count number fields rest = do
  told ← in_record number (told_count count fields)
  nothing_in rest rest.records

-- What is left between two entries, from the next record on that is no remark, where the version has remarks.
abbrev pub between : HistoryVersion → Rest → Rest
between version rest = record { number = rest.number; records = ahead (has_remarks version) rest.records }

-- The next entry after this many, or none at the end.
unfoldable pub entry_from : HistoryVersion → ℕ → Rest → Read (Option Entry)
entry_from version count rest = do
  first ← next_record (between version rest)
  cond (is_end first.0) (end_by count rest.number first.0 first.1) (entry_by version rest.number first.0 first.1)

abbrev pub before : Option Entry → Result (List Entry) ReplayFault → Result (List Entry) ReplayFault
before None entries = Ok []
before (Some entry) entries = entries >>= λ more. Ok (entry ∷ more)

-- The entries after this many up to the end. Each takes a record at least, so as many turns as records are enough.
unfoldable pub entries_from : ℕ → HistoryVersion → ℕ → Rest → Result (List Entry) ReplayFault
entries_from zero version count rest = Err (BadRecord rest.number)
entries_from (suc turns) version count rest = do
  first ← entry_from version count rest
  before first.0 (entries_from turns version (count + 1) first.1)

-- All entries behind the first record.
abbrev pub entries_of : HistoryVersion → Rest → Result (List Entry) ReplayFault
entries_of version rest = entries_from (length rest.records + 1) version 0 rest

-- The rule and the entries of a history's records.
unfoldable pub history_from : Rest → Result (Rule × List Entry) ReplayFault
history_from rest = do
  first ← next_record rest
  version ← in_record rest.number (version_of first.0)
  entries ← entries_of version first.1
  Ok (rule_of version, entries)

-- The rule and the entries of a history's text, or of a live session's transcript. Remarks have no number.
abbrev pub history_in : List ℕ → Result (Rule × List Entry) ReplayFault
history_in text = history_from (record { number = 1; records = records_of text })

-- The greatest length of a history file in bytes.
abbrev pub history_limit : ℕ
history_limit = 268435456

-- What a history file is read as.
abbrev pub history_file : List ℕ → Result (Rule × List Entry) ReplayFault
history_file text = within_limit history_limit History text >>= history_in
