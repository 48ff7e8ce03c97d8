-- The records of an entry, each the list of its fields: those of its call, of its reply, and of what the reply lists.
use Rattle.std.specs.Prelude.{ℕ, List, [], ◌∷◌, ◌++◌, length, map, codes, decimal}
use Rattle.dn_types.specs.declared.call.Call.{Call}
use Rattle.dn_types.specs.declared.call.Call.TheVariants as c
use Rattle.dn_types.specs.declared.delivery.Delivery.{Delivery}
use Rattle.dn_types.specs.declared.five_tuple.FiveTuple.{FiveTuple}
use Rattle.dn_types.specs.declared.flow_status.FlowStatus.{FlowStatus}
use Rattle.dn_types.specs.declared.mask.Mask.{Mask}
use Rattle.dn_types.specs.declared.reply.Reply.{Reply}
use Rattle.dn_types.specs.declared.reply.Reply.TheVariants as r
use Rattle.dn_types.specs.declared.target.Target.{Target}
use Rattle.dn_types.specs.declared.target.Target.TheVariants.{Pipe, Queue}
use Rattle.dn_config.specs.Text.{text as canonical}
use Rattle.dn_records.specs.Records.{Fields}
use Rattle.dn_records.specs.Writing.{address_text}

-- Whether a pipe or a queue is meant.
abbrev pub target_name : Target → List ℕ
target_name (Pipe number) = codes "pipe"
target_name (Queue number) = codes "queue"

-- The number of the pipe or queue.
abbrev pub target_number : Target → ℕ
target_number (Pipe number) = number
target_number (Queue number) = number

-- Addresses, protocol and ports.
abbrev pub tuple_fields : FiveTuple → Fields
tuple_fields t = address_text t.src ∷ address_text t.dst ∷ decimal t.proto ∷ decimal t.sport ∷ decimal t.dport ∷ []

-- The bits of a mask, written as addresses, protocol and ports are.
abbrev pub mask_fields : Mask → Fields
mask_fields m = address_text m.src ∷ address_text m.dst ∷ decimal m.proto ∷ decimal m.sport ∷ decimal m.dport ∷ []

-- What a call asks for. A command stands as its canonical text.
abbrev pub call_fields : Call → Fields
call_fields (c.Configure command) = codes "configure" ∷ canonical command ∷ []
call_fields (c.Submit target packet moment) =
    (codes "submit" ∷ target_name target ∷ decimal (target_number target) ∷ [])
    ++ tuple_fields packet.tuple
    ++ (decimal packet.len ∷ decimal packet.word ∷ decimal moment ∷ [])
call_fields (c.Advance moment) = codes "advance" ∷ decimal moment ∷ []
call_fields (c.Collect moment) = codes "collect" ∷ decimal moment ∷ []
call_fields c.Show = codes "show" ∷ []

-- The record of a call, with the number of its caller.
abbrev pub call_record : ℕ → Call → Fields
call_record caller call = codes "c" ∷ decimal caller ∷ call_fields call

-- What a reply says. Of a list it has the count of the items.
abbrev pub reply_fields : Reply → Fields
reply_fields r.Configured = codes "configured" ∷ []
reply_fields r.NoSuchPipe = codes "no-such-pipe" ∷ []
reply_fields r.Exhausted = codes "exhausted" ∷ []
reply_fields r.Deleted = codes "deleted" ∷ []
reply_fields r.PipeHasQueues = codes "pipe-has-queues" ∷ []
reply_fields r.NoSuchQueue = codes "no-such-queue" ∷ []
reply_fields (r.Queued at flow packet) = codes "queued" ∷ decimal at ∷ decimal flow ∷ decimal packet ∷ []
reply_fields (r.Lost at flow) = codes "lost" ∷ decimal at ∷ decimal flow ∷ []
reply_fields (r.Full at flow) = codes "full" ∷ decimal at ∷ decimal flow ∷ []
reply_fields (r.NoTarget at) = codes "no-target" ∷ decimal at ∷ []
reply_fields (r.Advanced at) = codes "advanced" ∷ decimal at ∷ []
reply_fields (r.Delivered at list) = codes "delivered" ∷ decimal at ∷ decimal (length list) ∷ []
reply_fields (r.Status list) = codes "status" ∷ decimal (length list) ∷ []

-- The record of a reply.
abbrev pub reply_record : Reply → Fields
reply_record reply = codes "r" ∷ reply_fields reply

-- The record of a delivered packet.
abbrev pub delivery_record : Delivery → Fields
delivery_record d = codes "d" ∷ decimal d.packet ∷ decimal d.flow ∷ decimal d.start ∷ decimal d.due ∷ []

-- The record of the state of a flow.
abbrev pub status_record : FlowStatus → Fields
status_record s =
    (codes "f" ∷ decimal s.flow ∷ target_name s.key.target ∷ decimal (target_number s.key.target) ∷ decimal s.key.pipe ∷ [])
    ++ mask_fields s.key.mask
    ++ tuple_fields s.key.tuple
    ++ (decimal s.queued ∷ decimal s.bytes ∷ decimal s.lost ∷ decimal s.full ∷ decimal s.started ∷ decimal s.discarded ∷ [])

-- The records of what a reply lists, one an item.
abbrev pub item_records : Reply → List Fields
item_records (r.Delivered at list) = map delivery_record list
item_records (r.Status list) = map status_record list
item_records _ = []
