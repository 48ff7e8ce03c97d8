-- The records of a history file, but for what a reply lists, each by its form: the value that its fields say, or the place
-- of the first bad field.
use Rattle.std.specs.Prelude.{ℕ, ◌^◌, ◌&&◌, Bool, true, false, cond, List, Result, Ok, Err, codes}
use Rattle.dn_types.specs.declared.call.Call.{Call}
use Rattle.dn_types.specs.declared.call.Call.TheVariants as c
use Rattle.dn_types.specs.declared.command.Command.{Command}
use Rattle.dn_types.specs.declared.command.Command.TheVariants.{DeletePipe, DeleteQueue}
use Rattle.dn_types.specs.declared.reply.Reply.{Reply}
use Rattle.dn_types.specs.declared.reply.Reply.TheVariants as r
use Rattle.dn_types.specs.declared.rule.Rule.{Rule}
use Rattle.dn_types.specs.declared.rule.Rule.TheVariants.{Free, Ordered}
use Rattle.dn_records.specs.Records.{Fields}
use Rattle.dn_files.specs.Fields.{is_form, is_name, number_at, packet_at, target_at}
use Rattle.dn_files.specs.Reading.{◌>>=◌}
use Rattle.dn_history.specs.declared.history_version.HistoryVersion.{HistoryVersion}
use Rattle.dn_history.specs.declared.history_version.HistoryVersion.TheVariants.{First, Second, Third, Live}

-- A number below 2^64, or the place.
abbrev pub long_at : ℕ → Fields → Result ℕ ℕ
long_at place fields = number_at place 0 18446744073709551615 fields

-- The version of a live session's transcript: `dummynet-live,1`.
unfoldable pub live_of : Fields → Result HistoryVersion ℕ
live_of fields = cond (is_form 1 (codes "dummynet-live") 2 fields) (cond (is_name 2 fields (codes "1")) (Ok Live) (Err 2)) (Err 1)

-- The first record: `dummynet-history` and a version, or that of a live session's transcript.
unfoldable pub version_of : Fields → Result HistoryVersion ℕ
version_of fields =
    cond (is_form 1 (codes "dummynet-history") 2 fields)
    (cond (is_name 2 fields (codes "1")) (Ok First) (cond (is_name 2 fields (codes "2")) (Ok Second) (cond (is_name 2 fields (codes "3")) (Ok Third) (Err 2))))
    (live_of fields)

-- The rule of a version's histories.
abbrev pub rule_of : HistoryVersion → Rule
rule_of First = Free
rule_of Second = Free
rule_of Third = Ordered
rule_of Live = Ordered

-- Whether a version has deletes: their lines, their replies, and the count of discarded packets in a status.
abbrev pub has_deletes : HistoryVersion → Bool
has_deletes First = false
has_deletes Second = true
has_deletes Third = true
has_deletes Live = true

-- Whether remarks may come between entries: in a live session's transcript alone.
abbrev pub has_remarks : HistoryVersion → Bool
has_remarks First = false
has_remarks Second = false
has_remarks Third = false
has_remarks Live = true

-- Whether a record is the last one: `end,E`.
abbrev pub is_end : Fields → Bool
is_end fields = is_form 1 (codes "end") 2 fields

-- The last record's count of entries, where it is this one.
abbrev pub told_count : ℕ → Fields → Result ℕ ℕ
told_count count fields = number_at 2 count count fields

-- Whether a record is the call of this name, with this many fields.
abbrev pub is_call : List ℕ → ℕ → Fields → Bool
is_call name count fields = is_name 1 fields (codes "c") && is_form 3 name count fields

-- The caller of a call record.
abbrev pub caller_of : Fields → Result ℕ ℕ
caller_of fields = number_at 2 0 15 fields

-- `c,caller,submit,TARGET,number,src,dst,proto,sport,dport,len,word,moment`
unfoldable pub submit_of : Fields → Result Call ℕ
submit_of fields = do
  target ← target_at 4 fields
  packet ← packet_at 6 fields
  moment ← number_at 13 0 (2 ^ 62) fields
  Ok (c.Submit target packet moment)

-- The calls but for configurations.
unfoldable pub plain_call : Fields → Result Call ℕ
plain_call fields =
    cond (is_call (codes "submit") 13 fields) (submit_of fields)
    (cond (is_call (codes "advance") 4 fields) (number_at 4 0 (2 ^ 62) fields >>= λ moment. Ok (c.Advance moment))
    (cond (is_call (codes "collect") 4 fields) (number_at 4 0 (2 ^ 62) fields >>= λ moment. Ok (c.Collect moment))
    (cond (is_call (codes "show") 3 fields) (Ok c.Show) (Err 3))))

abbrev pub is_delete : Command → Bool
is_delete (DeletePipe number) = true
is_delete (DeleteQueue number) = true
is_delete _ = false

-- Whether a reply record has this name and this many fields.
abbrev pub is_reply : List ℕ → ℕ → Fields → Bool
is_reply name count fields = is_name 1 fields (codes "r") && is_form 2 name count fields

-- `r,queued,at,flow,packet`
unfoldable pub queued_of : Fields → Result Reply ℕ
queued_of fields = do
  at ← long_at 3 fields
  flow ← long_at 4 fields
  packet ← long_at 5 fields
  Ok (r.Queued at flow packet)

-- The two numbers of a reply: `r,lost,at,flow`, `r,full,at,flow`, and `r,delivered,at,count`.
unfoldable pub two_of : Fields → Result (ℕ × ℕ) ℕ
two_of fields = do
  first ← long_at 3 fields
  second ← long_at 4 fields
  Ok (first, second)

-- The replies with a moment, but for those with a list.
unfoldable pub timed_reply : Fields → Result Reply ℕ
timed_reply fields =
    cond (is_reply (codes "queued") 5 fields) (queued_of fields)
    (cond (is_reply (codes "lost") 4 fields) (two_of fields >>= λ two. Ok (r.Lost two.0 two.1))
    (cond (is_reply (codes "full") 4 fields) (two_of fields >>= λ two. Ok (r.Full two.0 two.1))
    (cond (is_reply (codes "no-target") 3 fields) (long_at 3 fields >>= λ at. Ok (r.NoTarget at))
    (cond (is_reply (codes "advanced") 3 fields) (long_at 3 fields >>= λ at. Ok (r.Advanced at)) (Err 2)))))

-- Whether a record is the reply of this name to a delete, where the version has deletes.
abbrev pub is_delete_reply : HistoryVersion → List ℕ → Fields → Bool
is_delete_reply version name fields = has_deletes version && is_reply name 2 fields

-- The replies without a list.
unfoldable pub plain_reply : HistoryVersion → Fields → Result Reply ℕ
plain_reply version fields =
    cond (is_reply (codes "configured") 2 fields) (Ok r.Configured)
    (cond (is_reply (codes "no-such-pipe") 2 fields) (Ok r.NoSuchPipe)
    (cond (is_reply (codes "exhausted") 2 fields) (Ok r.Exhausted)
    (cond (is_delete_reply version (codes "deleted") fields) (Ok r.Deleted)
    (cond (is_delete_reply version (codes "pipe-has-queues") fields) (Ok r.PipeHasQueues)
    (cond (is_delete_reply version (codes "no-such-queue") fields) (Ok r.NoSuchQueue) (timed_reply fields))))))
