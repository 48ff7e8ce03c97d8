-- The room that a copy of a reply takes: d deliveries and s statuses.
use Rattle.std.specs.Prelude.{ℕ, ◌≤◌, ⊤, length}
use Rattle.dn_types.specs.declared.call.Call.{Call}
use Rattle.dn_types.specs.declared.call.Call.TheVariants.{Collect, Show}
use Rattle.dn_types.specs.declared.reply.Reply.{Reply}
use Rattle.dn_types.specs.declared.reply.Reply.TheVariants.{Delivered, Status}

-- The list in the reply, if it has one, fits the room.
abbrev pub FitsRoom : ℕ → ℕ → Reply → Type 0
FitsRoom d s (Delivered at list) = length list ≤ d
FitsRoom d s (Status list) = length list ≤ s
FitsRoom d s _ = ⊤

-- There is room for the n items that the call may be answered with.
abbrev pub IsRoomFor : Call → ℕ → ℕ → ℕ → Type 0
IsRoomFor (Collect moment) n d s = n ≤ d
IsRoomFor Show n d s = n ≤ s
IsRoomFor _ n d s = ⊤
