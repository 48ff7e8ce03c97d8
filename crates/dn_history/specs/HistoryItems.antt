-- What a reply lists: the records of delivered packets and of the states of flows, each by its form.
use Rattle.std.specs.Prelude.{ℕ, cond, Result, Ok, Err, codes}
use Rattle.dn_types.specs.declared.delivery.Delivery.{Delivery}
use Rattle.dn_types.specs.declared.flow_key.FlowKey.{FlowKey}
use Rattle.dn_types.specs.declared.flow_status.FlowStatus.{FlowStatus}
use Rattle.dn_types.specs.declared.mask.Mask.{Mask}
use Rattle.dn_records.specs.Records.{Fields}
use Rattle.dn_files.specs.Fields.{is_form, number_at, target_at, tuple_at}
use Rattle.dn_history.specs.HistoryRecords.{has_deletes, long_at}
use Rattle.dn_files.specs.Reading.{◌>>=◌}
use Rattle.dn_history.specs.declared.history_version.HistoryVersion.{HistoryVersion}

-- `d,packet,flow,start,due`
unfoldable pub delivery_item : Fields → Result Delivery ℕ
delivery_item fields = cond (is_form 1 (codes "d") 5 fields) (do
  packet ← long_at 2 fields
  flow ← long_at 3 fields
  start ← long_at 4 fields
  due ← long_at 5 fields
  Ok (record { due = due; packet = packet; flow = flow; start = start }))
    (Err 1)

-- The mask of a flow, in the five fields of a tuple.
unfoldable pub mask_item : ℕ → Fields → Result Mask ℕ
mask_item place fields = do
  bits ← tuple_at place fields
  Ok (record { src = bits.src; dst = bits.dst; proto = bits.proto; sport = bits.sport; dport = bits.dport })

-- The key of a flow: `TARGET,number,pipe,` mask and tuple.
unfoldable pub key_item : Fields → Result FlowKey ℕ
key_item fields = do
  target ← target_at 3 fields
  pipe ← number_at 5 1 65535 fields
  mask ← mask_item 6 fields
  tuple ← tuple_at 11 fields
  Ok (record { target = target; pipe = pipe; mask = mask; tuple = tuple })

-- How many fields a status has: in version 1 that of the discarded packets is missing.
abbrev pub status_width : HistoryVersion → ℕ
status_width version = cond (has_deletes version) 21 20

-- The count of discarded packets of a status.
abbrev pub discarded_item : HistoryVersion → Fields → Result ℕ ℕ
discarded_item version fields = cond (has_deletes version) (long_at 21 fields) (Ok 0)

-- `f,flow,TARGET,number,pipe,` mask, tuple, `queued,bytes,lost,full,started,discarded`
unfoldable pub status_item : HistoryVersion → Fields → Result FlowStatus ℕ
status_item version fields = cond (is_form 1 (codes "f") (status_width version) fields) (do
  flow ← long_at 2 fields
  key ← key_item fields
  queued ← long_at 16 fields
  bytes ← long_at 17 fields
  lost ← long_at 18 fields
  full ← long_at 19 fields
  started ← long_at 20 fields
  discarded ← discarded_item version fields
  Ok (record { flow = flow; key = key; queued = queued; bytes = bytes; lost = lost; full = full; started = started; discarded = discarded }))
    (Err 1)
