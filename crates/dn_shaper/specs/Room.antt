-- The room that a call needs, where it is there before the call.
use Rattle.std.specs.Prelude.{◌≡◌, true, false, List, Option, Some, None, is_some}
use Rattle.dn_types.specs.Configuration.{settings, subject}
use Rattle.dn_types.specs.Flows.{Treatment, flow_number, key_of, keys, treatment}
use Rattle.dn_types.specs.declared.call.Call.{Call}
use Rattle.dn_types.specs.declared.call.Call.TheVariants.{Configure, Submit, Advance, Collect, Show}
use Rattle.dn_types.specs.declared.five_tuple.FiveTuple.{FiveTuple}
use Rattle.dn_types.specs.declared.flow_key.FlowKey.{FlowKey}
use Rattle.dn_types.specs.declared.target.Target.{Target}
use Rattle.dn_flows.specs.Table.{is_known}
use Rattle.dn_shaper.specs.declared.links.parts.Parts.{Parts}
use Rattle.dn_shaper.specs.declared.state.State.{State}
use Rattle.dn_shaper.specs.Refinement.Settings.{settings_of}
use Rattle.dn_shaper.specs.Refinement.Starting.{IsReady}

-- A flow has the key, and there is room for one more packet of it: in its queue and at its slot where its link is shared. The
-- delay line has room for one of each flow with a place in its queue (`HoldsPlaces`).
pub record HasRoomOf (key : FlowKey) (p : Parts) : Type 0 where
  pub known : is_known key p.flows.keys ≡ true
  pub ready : IsReady (flow_number p.flows.keys key) p

-- There is room for a packet that is treated so. One to a target that isn't configured needs none.
abbrev pub HasRoomBy : Option Treatment → Target → FiveTuple → Parts → Type 0
HasRoomBy None target tuple p = Unit {0}
HasRoomBy (Some how) target tuple p = HasRoomOf (key_of target tuple how) p

-- None of the keys is that of a packet that is treated so.
abbrev pub IsNewBy : Option Treatment → Target → FiveTuple → List FlowKey → Type 0
IsNewBy None target tuple known = ⊥
IsNewBy (Some how) target tuple known = is_known (key_of target tuple how) known ≡ false

-- The target is configured, and the packet's flow is new after the calls.
abbrev pub IsNewFlow : Target → FiveTuple → List Call → Type 0
IsNewFlow target tuple calls = IsNewBy (treatment (settings calls target)) target tuple (keys calls)

-- The call finds all room that it may need. Of a Collect and of a Show the state doesn't tell, since their lists aren't in it
-- (`collect_lent` says when a Collect needs none).
abbrev pub HasRoomFor : Call → State → Type 0
HasRoomFor (Configure command) s = is_some (settings_of s.configured (subject command)) ≡ true
HasRoomFor (Submit target packet moment) s = HasRoomBy (treatment (settings_of s.configured target)) target packet.tuple s.parts
HasRoomFor (Advance moment) s = Unit {0}
HasRoomFor (Collect moment) s = ⊥
HasRoomFor Show s = ⊥

-- All flows that had room for one more packet have it still, and the same settings are in force.
abbrev pub KeepsRoom : State → State → Type 0
KeepsRoom old new = (new.configured ≡ old.configured) × ((key : FlowKey) → HasRoomOf key old.parts → HasRoomOf key new.parts)

-- The key isn't that of a packet that is treated so.
abbrev pub IsOther : Option Treatment → Target → FiveTuple → FlowKey → Type 0
IsOther None target tuple key = Unit {0}
IsOther (Some how) target tuple key = key ≡ key_of target tuple how → ⊥

-- All flows but that of the packet that had room for one more packet have it still, and the same settings are in force.
abbrev pub KeepsOthersRoom : Target → FiveTuple → State → State → Type 0
KeepsOthersRoom target tuple old new =
    (new.configured ≡ old.configured) × ((key : FlowKey) → IsOther (treatment (settings_of old.configured target)) target tuple key → HasRoomOf key old.parts → HasRoomOf key new.parts)

-- What the call leaves of the room for packets: an Advance, a Collect and a Show leave all, and a Submit leaves that for other
-- flows, also if it is refused memory.
abbrev pub LeavesRoom : Call → State → State → Type 0
LeavesRoom (Submit target packet moment) old new = KeepsOthersRoom target packet.tuple old new
LeavesRoom (Advance moment) old new = KeepsRoom old new
LeavesRoom (Collect moment) old new = KeepsRoom old new
LeavesRoom Show old new = KeepsRoom old new
LeavesRoom _ old new = Unit {0}
