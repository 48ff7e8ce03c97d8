-- What the lines of a report are made from: a table of the deliveries by packet number, and counts of Submits.
use Rattle.std.specs.Prelude.{◌≡◌, ℕ, ◌+◌, ◌<◌, cond, List, length, Option, None, slice_index, slice_index_or, slice_set}
use Rattle.std.specs.Option.{option_or}
use Rattle.dn_types.specs.declared.entry.Entry.{Entry}
use Rattle.dn_types.specs.declared.delivery.Delivery.{Delivery}
use Rattle.dn_replay.specs.Report.{delivery_of_packet, is_submit}

-- The table has the deliveries of all packets with numbers below its length.
abbrev pub IsTableOf : List (Option Delivery) → List Delivery → Type 0
IsTableOf table given = (packet : ℕ) → packet < length table → slice_index_or table packet None ≡ delivery_of_packet packet given

-- The table has the deliveries that it had, and of each packet without one the first of these.
abbrev pub Notes : List Delivery → List (Option Delivery) → List (Option Delivery) → Type 0
Notes list old new = (packet : ℕ) → packet < length old →
    slice_index_or new packet None ≡ option_or (slice_index_or old packet None) (delivery_of_packet packet list)

-- The counts of the callers' Submits after one entry more.
abbrev pub counts_after : List ℕ → Entry → List ℕ
counts_after counts e = cond (is_submit e.call) (slice_set counts e.caller (slice_index counts e.caller + 1)) counts
