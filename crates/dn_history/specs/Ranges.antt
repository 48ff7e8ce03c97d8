-- The ranges of what entries hold. The types of an entry's fields hold no other values, and an entry in these ranges is
-- read back as it was written.
use Rattle.std.specs.Prelude.{ℕ, ◌<◌, ◌≤◌, ◌^◌, ⊤, List, length}
use Rattle.std.specs.List.{All}
use Rattle.dn_types.specs.declared.call.Call.{Call}
use Rattle.dn_types.specs.declared.call.Call.TheVariants as c
use Rattle.dn_types.specs.declared.delivery.Delivery.{Delivery}
use Rattle.dn_types.specs.declared.entry.Entry.{Entry}
use Rattle.dn_types.specs.declared.five_tuple.FiveTuple.{FiveTuple}
use Rattle.dn_types.specs.declared.flow_key.FlowKey.{FlowKey}
use Rattle.dn_types.specs.declared.flow_status.FlowStatus.{FlowStatus}
use Rattle.dn_types.specs.declared.packet.Packet.{Packet}
use Rattle.dn_types.specs.declared.reply.Reply.{Reply}
use Rattle.dn_types.specs.declared.reply.Reply.TheVariants as r
use Rattle.dn_types.specs.declared.target.Target.{Target}
use Rattle.dn_types.specs.declared.target.Target.TheVariants.{Pipe, Queue}
use Rattle.dn_config.specs.Commands.{IsBetween, IsTyped, IsMask}

-- A number of 64 bits.
abbrev pub IsLong : ℕ → Type 0
IsLong n = n < 2 ^ 64

-- The number of a pipe or queue is 1 to 65535.
abbrev pub IsTarget : Target → Type 0
IsTarget (Pipe number) = IsBetween 1 65535 number
IsTarget (Queue number) = IsBetween 1 65535 number

-- Each field of a five-tuple fits its type.
pub record IsTuple (t : FiveTuple) : Type 0 where
  pub src : t.src < 2 ^ 32
  pub dst : t.dst < 2 ^ 32
  pub proto : t.proto < 256
  pub sport : t.sport < 65536
  pub dport : t.dport < 65536

-- A packet has 1 to 65,535 bytes and a random word of 32 bits.
pub record IsPacket (p : Packet) : Type 0 where
  pub tuple : IsTuple p.tuple
  pub len : IsBetween 1 65535 p.len
  pub word : p.word < 2 ^ 32

-- A moment is at most 2^62 ns.
abbrev pub IsCall : Call → Type 0
IsCall (c.Configure command) = IsTyped command
IsCall (c.Submit target packet moment) = IsTarget target × IsPacket packet × (moment ≤ 2 ^ 62)
IsCall (c.Advance moment) = moment ≤ 2 ^ 62
IsCall (c.Collect moment) = moment ≤ 2 ^ 62
IsCall c.Show = ⊤

-- The numbers of a delivery.
pub record IsDelivery (d : Delivery) : Type 0 where
  pub due : IsLong d.due
  pub packet : IsLong d.packet
  pub flow : IsLong d.flow
  pub start : IsLong d.start

-- The key of a flow.
pub record IsKey (k : FlowKey) : Type 0 where
  pub target : IsTarget k.target
  pub pipe : IsBetween 1 65535 k.pipe
  pub mask : IsMask k.mask
  pub tuple : IsTuple k.tuple

-- The key and the numbers of the state of a flow.
pub record IsStatus (s : FlowStatus) : Type 0 where
  pub flow : IsLong s.flow
  pub key : IsKey s.key
  pub queued : IsLong s.queued
  pub bytes : IsLong s.bytes
  pub lost : IsLong s.lost
  pub full : IsLong s.full
  pub started : IsLong s.started
  pub discarded : IsLong s.discarded

-- The numbers of a reply, the counts and the items of its lists.
abbrev pub IsReply : Reply → Type 0
IsReply (r.Queued at flow packet) = IsLong at × IsLong flow × IsLong packet
IsReply (r.Lost at flow) = IsLong at × IsLong flow
IsReply (r.Full at flow) = IsLong at × IsLong flow
IsReply (r.NoTarget at) = IsLong at
IsReply (r.Advanced at) = IsLong at
IsReply (r.Delivered at list) = IsLong at × IsLong (length list) × All IsDelivery list
IsReply (r.Status list) = IsLong (length list) × All IsStatus list
IsReply _ = ⊤

-- The call and the reply of an entry.
pub record IsEntry (e : Entry) : Type 0 where
  pub call : IsCall e.call
  pub reply : IsReply e.reply

-- A history with at most 2^64 - 1 entries.
pub record AreEntries (entries : List Entry) : Type 0 where
  pub count : IsLong (length entries)
  pub each : All IsEntry entries
