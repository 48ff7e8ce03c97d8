-- The room for packets that the shaper of a handle has.
use Rattle.std.specs.Prelude.{◌≡◌, List, [], ◌∷◌}
use Rattle.dn_types.specs.declared.call.Call.{Call}
use Rattle.dn_types.specs.declared.call.Call.TheVariants.{Submit}
use Rattle.dn_shaper.specs.Room.{HasRoomFor, IsNewFlow}
use Rattle.dn_shaper.specs.declared.state.State.{State}
use Rattle.hingetulip_c.specs.Submits.{submit_of}
use Rattle.hingetulip_c.specs.declared.records.c_packet.CPacket.{CPacket}

-- The handle is open, and its shaper has all room that the call needs.
abbrev pub HoldsRoomFor : Call → List State → Type 0
HoldsRoomFor call (s ∷ []) = HasRoomFor call s
HoldsRoomFor call _ = ⊥

-- Both packets go to the same pipe or queue, with the same addresses, ports and protocol.
pub record AreAlike (p q : CPacket) : Type 0 where
  pub kind : q.kind ≡ p.kind
  pub number : q.number ≡ p.number
  pub src : q.src ≡ p.src
  pub dst : q.dst ≡ p.dst
  pub proto : q.proto ≡ p.proto
  pub sport : q.sport ≡ p.sport
  pub dport : q.dport ≡ p.dport

-- The call sends a packet to a pipe or queue that is configured, and its flow is new after the calls.
abbrev pub IsOfNewFlow : Call → List Call → Type 0
IsOfNewFlow (Submit target packet moment) calls = IsNewFlow target packet.tuple calls
IsOfNewFlow _ calls = ⊥

-- Each packet that found room before finds it still.
abbrev pub StillRoomy : List State → List State → Type 0
StillRoomy old new = (p : CPacket) → HoldsRoomFor (submit_of p) old → HoldsRoomFor (submit_of p) new
