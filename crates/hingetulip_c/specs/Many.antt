-- Packets that are submitted one after the other.
use Rattle.std.specs.Prelude.{◌≡◌, ◌<◌, ℕ, List, ◌++◌, get_or, map, reverse, take}
use Rattle.dn_types.specs.Replies.{reply}
use Rattle.dn_types.specs.declared.call.Call.{Call}
use Rattle.dn_types.specs.declared.reply.Reply.{Reply}
use Rattle.dn_types.specs.declared.rule.Rule.{Rule}
use Rattle.dn_shaper.specs.declared.state.State.{State}
use Rattle.hingetulip_c.specs.Handles.{UnansweredAfter}
use Rattle.hingetulip_c.specs.Submits.{FaultyOr, submit_of, fate_status, fate_of}
use Rattle.hingetulip_c.specs.declared.records.c_fate.CFate.{CFate}
use Rattle.hingetulip_c.specs.declared.records.c_packet.CPacket.{CPacket}

-- The calls, newest first, when these packets came after others.
abbrev pub sent : List CPacket → List Call → List Call
sent packets calls = reverse (map submit_of packets) ++ calls

-- The reply to the packet at a place, after those before it.
abbrev pub reply_at : Rule → List Call → List CPacket → ℕ → CPacket → Reply
reply_at rule calls packets place p = reply rule (sent (take place packets) calls) (submit_of (get_or packets place p))

-- The first n packets were answered, and their fates are those that the replies tell.
abbrev pub AreTold : ℕ → Rule → List Call → List CPacket → List CFate → List CFate → Type 0
AreTold n rule calls packets old new = (place : ℕ) (p : CPacket) (f : CFate) → place < n
    → (fate_status (reply_at rule calls packets place p) ≡ 0) × (get_or new place f ≡ fate_of (get_or old place f) (reply_at rule calls packets place p))

-- Why the packet at a place isn't answered after those before it.
abbrev pub StopsAt : ℕ → List CPacket → CPacket → List State → ℕ → Type 0
StopsAt place packets p held status =
    FaultyOr (get_or packets place p) status (UnansweredAfter (sent (take place packets)) (submit_of (get_or packets place p)) held status)
