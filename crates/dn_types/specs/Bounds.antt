-- Words for the laws of bounds: the ranges of what calls give, and what of a reply is bounded.
use Rattle.std.specs.Prelude.{◌≤◌, ◌<◌, ◌^◌, ⊤}
use Rattle.std.specs.List.{All}
use Rattle.dn_types.specs.declared.call.Call.{Call}
use Rattle.dn_types.specs.declared.call.Call.TheVariants.{Configure, Submit, Advance, Collect, Show}
use Rattle.dn_types.specs.declared.command.Command.{Command}
use Rattle.dn_types.specs.declared.command.Command.TheVariants.{Pipe, Queue, DeletePipe, DeleteQueue}
use Rattle.dn_types.specs.declared.limit.Limit.{Limit}
use Rattle.dn_types.specs.declared.limit.Limit.TheVariants.{Slots, Kbytes}
use Rattle.dn_types.specs.declared.reply.Reply.{Reply}
use Rattle.dn_types.specs.declared.reply.Reply.TheVariants.{Queued, Lost, Full, NoTarget, Advanced, Delivered, Status}

-- A queue holds at most 10,000 packets, or 1,024 units of 1,024 bytes.
abbrev pub IsLimitInRange : Limit → Type 0
IsLimitInRange (Slots count) = count ≤ 10000
IsLimitInRange (Kbytes count) = count ≤ 1024

-- The delay of a pipe is at most an hour, in milliseconds.
abbrev pub IsCommandInRange : Command → Type 0
IsCommandInRange (Pipe number bw delay limit loss buckets mask) = (delay ≤ 3600000) × IsLimitInRange limit
IsCommandInRange (Queue number pipe weight limit loss buckets mask) = IsLimitInRange limit
IsCommandInRange (DeletePipe number) = ⊤
IsCommandInRange (DeleteQueue number) = ⊤

-- The ranges of a call on which the bounds rest, of those that its types keep: a moment is at most 2^62 ns, and a
-- packet has at most 65,535 bytes.
abbrev pub IsInRange : Call → Type 0
IsInRange (Configure command) = IsCommandInRange command
IsInRange (Submit target packet moment) = (packet.len ≤ 65535) × (moment ≤ 2 ^ 62)
IsInRange (Advance moment) = moment ≤ 2 ^ 62
IsInRange (Collect moment) = moment ≤ 2 ^ 62
IsInRange Show = ⊤

-- The effective moment of a reply is at most 2^62 ns, and so are the start and the due moment of each delivery.
abbrev pub HasBoundedMoments : Reply → Type 0
HasBoundedMoments (Queued at flow packet) = at ≤ 2 ^ 62
HasBoundedMoments (Lost at flow) = at ≤ 2 ^ 62
HasBoundedMoments (Full at flow) = at ≤ 2 ^ 62
HasBoundedMoments (NoTarget at) = at ≤ 2 ^ 62
HasBoundedMoments (Advanced at) = at ≤ 2 ^ 62
HasBoundedMoments (Delivered at list) = (at ≤ 2 ^ 62) × All (λ d. (d.start ≤ 2 ^ 62) × (d.due ≤ 2 ^ 62)) list
HasBoundedMoments _ = ⊤

-- The bytes in the queue of each flow are below 2^32.
abbrev pub HasBoundedBytes : Reply → Type 0
HasBoundedBytes (Status list) = All (λ s. s.bytes < 2 ^ 32) list
HasBoundedBytes _ = ⊤

-- The counts of a reply and the numbers of its packets are below 2^62.
abbrev pub HasBoundedCounts : Reply → Type 0
HasBoundedCounts (Queued at flow packet) = packet < 2 ^ 62
HasBoundedCounts (Delivered at list) = All (λ d. d.packet < 2 ^ 62) list
HasBoundedCounts (Status list) = All (λ s. (s.queued < 2 ^ 62) × (s.lost < 2 ^ 62) × (s.full < 2 ^ 62) × (s.started < 2 ^ 62) × (s.discarded < 2 ^ 62)) list
HasBoundedCounts _ = ⊤
