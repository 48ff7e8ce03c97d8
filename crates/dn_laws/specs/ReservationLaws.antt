-- The laws of room: which calls may lack memory, which find all room, and whose room stays.
use Rattle.std.specs.Prelude.{ℕ, ◌≡◌, ◌≢◌, ◌<◌, ⊤, List, length, Some, None}
use Rattle.dn_shaper.specs.Refinement.Settings.{settings_of}
use Rattle.dn_shaper.specs.Room.{HasRoomFor, LeavesRoom}
use Rattle.dn_shaper.specs.Shaper.{CanNeedMemory, StandsAfter}
use Rattle.dn_shaper.specs.declared.state.State.{State}
use Rattle.dn_types.specs.Clock.{call_limit, counted}
use Rattle.dn_types.specs.Configuration.{settings, subject}
use Rattle.dn_types.specs.Flows.{Treatment, key_of, treatment}
use Rattle.dn_types.specs.Replies.{reply}
use Rattle.dn_types.specs.declared.call.Call.{Call}
use Rattle.dn_types.specs.declared.call.Call.TheVariants.{Configure, Submit, Advance}
use Rattle.dn_types.specs.declared.command.Command.{Command}
use Rattle.dn_types.specs.declared.flow_key.FlowKey.{FlowKey}
use Rattle.dn_types.specs.declared.packet.Packet.{Packet}
use Rattle.dn_types.specs.declared.reply.Reply.TheVariants.{Configured}
use Rattle.dn_types.specs.declared.rule.Rule.{Rule}
use Rattle.dn_types.specs.declared.target.Target.{Target}

-- The call makes something: a pipe or queue that wasn't there, a place for a packet to one that is there, or a list.
abbrev pub Makes : Rule → List Call → Call → Type 0
Makes rule calls (Configure command) = (settings calls (subject command) ≡ None) × (reply rule calls (Configure command) ≡ Configured)
Makes rule calls (Submit target packet moment) = settings calls target ≢ None
Makes rule calls (Advance moment) = ⊥
Makes rule calls _ = ⊤

abbrev pub OnlyMakersLackMemory : Type 0
OnlyMakersLackMemory = (rule : Rule) (calls : List Call) (c : Call) → length calls < call_limit → CanNeedMemory calls c → Makes rule calls c

-- A pipe or queue that is there, a packet to none, and an Advance have room.
pub record HasRoomToChange (s : State) (calls : List Call) : Type 0 where
  pub command : (command : Command) → settings calls (subject command) ≢ None → HasRoomFor (Configure command) s
  pub packet : (target : Target) (packet : Packet) (moment : ℕ) → settings calls target ≡ None → HasRoomFor (Submit target packet moment) s
  pub advance : (moment : ℕ) → HasRoomFor (Advance moment) s

abbrev pub ChangesHaveRoom : Type 0
ChangesHaveRoom = (rule : Rule) (s : State) (calls : List Call) → StandsAfter rule s calls → HasRoomToChange s (counted calls)

-- The call sends a packet of the flow.
abbrev pub IsOfFlow : State → FlowKey → Call → Type 0
IsOfFlow s key (Submit target packet moment) = (how : Treatment) × (treatment (settings_of s.configured target) ≡ Some how) × (key_of target packet.tuple how ≡ key)
IsOfFlow s key _ = ⊥

-- Room for a packet stays with each call that is neither a command nor a packet of the same flow.
abbrev pub RoomStays : Type 0
RoomStays = (c : Call) (old new : State) (key : FlowKey) (target : Target) (packet : Packet) (moment : ℕ) → ((command : Command) → c ≢ Configure command) → LeavesRoom c old new →
    IsOfFlow old key (Submit target packet moment) → (IsOfFlow old key c → ⊥) → HasRoomFor (Submit target packet moment) old → HasRoomFor (Submit target packet moment) new
