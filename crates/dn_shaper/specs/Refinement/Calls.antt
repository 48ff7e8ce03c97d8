-- What each call promises of the state, whatever calls it stood after.
use Rattle.std.specs.Prelude.{◌≡◌, ℕ, ◌+◌, List, [], ◌∷◌}
use Rattle.dn_types.specs.Replies.{counted_reply}
use Rattle.dn_types.specs.declared.call.Call.{Call}
use Rattle.dn_types.specs.declared.flow_key.FlowKey.{FlowKey}
use Rattle.dn_types.specs.declared.flow_status.FlowStatus.{FlowStatus}
use Rattle.dn_types.specs.declared.reply.Reply.{Reply}
use Rattle.dn_types.specs.declared.rule.Rule.{Rule}
use Rattle.dn_flows.specs.Table.{FlowState, flow_at, status_of}
use Rattle.dn_shaper.specs.declared.state.State.{State}
use Rattle.dn_shaper.specs.Standing.{StandsAt}

-- The answer is the definition's, and the state stands after one call more.
abbrev pub Does : Call → State → State → Reply → Type 0
Does call old new reply = (rule : Rule) (calls : List Call) → StandsAt rule old calls → (reply ≡ counted_reply rule calls call) × StandsAt rule new (call ∷ calls)

-- The state stands after the same calls.
abbrev pub StillStands : State → State → Type 0
StillStands old new = (rule : Rule) (calls : List Call) → StandsAt rule old calls → StandsAt rule new calls

-- The state once the clock stands at the moment, and one call more is counted.
abbrev pub counted_at : ℕ → State → State
counted_at at s = record { parts = s.parts; heap = s.heap; shared = s.shared; configured = s.configured; now = at; calls = s.calls + 1 }

-- What is told of the flows with the keys, from the flow number `flow` on.
abbrev pub told_from : ℕ → List FlowKey → List FlowState → List FlowStatus
told_from flow [] flows = []
told_from flow (key ∷ keys) flows = status_of flow key (flow_at flows flow) ∷ told_from (flow + 1) keys flows
