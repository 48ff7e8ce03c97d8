-- What C reads of one call of a history and of its reply.
use Rattle.std.specs.Prelude.{ℕ, List, []}
use Rattle.dn_config.specs.Text.{text}
use Rattle.dn_types.specs.declared.call.Call.{Call}
use Rattle.dn_types.specs.declared.call.Call.TheVariants.{Configure, Submit, Advance, Collect, Show}
use Rattle.dn_types.specs.declared.reply.Reply.{Reply}
use Rattle.dn_types.specs.declared.reply.Reply.TheVariants.{Configured, Deleted, Queued, Lost, Full, NoTarget, Advanced, Delivered, Status}
use Rattle.dn_types.specs.declared.reply.Reply.TheVariants.{NoSuchPipe, PipeHasQueues, NoSuchQueue, Exhausted}
use Rattle.hingetulip_c.specs.Rows.{c_packet}
use Rattle.hingetulip_c.specs.Submits.{fate_of}
use Rattle.hingetulip_c.specs.declared.records.c_fate.CFate.{CFate}
use Rattle.hingetulip_c.specs.declared.records.c_packet.CPacket.{CPacket}

-- The number of a call in the header.
abbrev pub call_number : Call → ℕ
call_number (Configure command) = 0
call_number (Submit target packet moment) = 1
call_number (Advance moment) = 2
call_number (Collect moment) = 3
call_number Show = 4

-- A packet of a moment alone, and the packet of a call.
abbrev pub only_moment : ℕ → CPacket
only_moment moment = record {
  moment = moment;
  src = 0;
  dst = 0;
  word = 0;
  sport = 0;
  dport = 0;
  length = 0;
  number = 0;
  kind = 0;
  proto = 0;
  reserved = 0;
}

abbrev pub packet_of : Call → CPacket
packet_of (Configure command) = only_moment 0
packet_of (Submit target packet moment) = c_packet (record { moment = moment; target = target; packet = packet })
packet_of (Advance moment) = only_moment moment
packet_of (Collect moment) = only_moment moment
packet_of Show = only_moment 0

-- The line of a call: the canonical text of a command, and no byte for other calls.
abbrev pub line_of : Call → List ℕ
line_of (Configure command) = text command
line_of (Submit target packet moment) = []
line_of (Advance moment) = []
line_of (Collect moment) = []
line_of Show = []

-- The number of what a reply tells in the header: 0 for a refusal.
abbrev pub reply_number : Reply → ℕ
reply_number Configured = 1
reply_number Deleted = 2
reply_number (Queued at flow packet) = 3
reply_number (Lost at flow) = 3
reply_number (Full at flow) = 3
reply_number (NoTarget at) = 3
reply_number (Advanced at) = 4
reply_number (Delivered at list) = 5
reply_number (Status list) = 6
reply_number _ = 0

-- The status that a refusal is, and 0 for other replies.
abbrev pub refusal : Reply → ℕ
refusal Exhausted = 1
refusal NoSuchPipe = 2
refusal PipeHasQueues = 3
refusal NoSuchQueue = 4
refusal _ = 0

-- A fate of a moment alone, and the fate of a reply.
abbrev pub only_at : ℕ → CFate
only_at at = record { at = at; flow = 0; packet = 0; outcome = 0; reserved = 0 }

abbrev pub told_fate : Reply → CFate
told_fate (Advanced at) = only_at at
told_fate (Delivered at list) = only_at at
told_fate r = fate_of (only_at 0) r
