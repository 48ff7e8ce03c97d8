-- When the state of a shaper stands after a list of calls, newest first: its clock, its settings, its flows and its parts are
-- what the definitions say of the calls.
use Rattle.std.specs.Prelude.{◌≡◌, List, [], length}
use Rattle.dn_types.specs.Calls.{trace_of}
use Rattle.dn_types.specs.Clock.{effective_moment}
use Rattle.dn_types.specs.Configuration.{settings}
use Rattle.dn_types.specs.Flows.{keys}
use Rattle.dn_types.specs.declared.call.Call.{Call}
use Rattle.dn_types.specs.declared.rule.Rule.{Rule}
use Rattle.dn_shaper.specs.declared.state.State.{State}
use Rattle.dn_shaper.specs.Refinement.Agreement.{AgreesWith}
use Rattle.dn_shaper.specs.Refinement.Settings.{settings_of}

pub record StandsAt (rule : Rule) (s : State) (calls : List Call) : Type 0 where
  pub rule_is : s.parts.rule ≡ rule
  pub calls_are : s.calls ≡ length calls
  pub now_is : s.now ≡ effective_moment calls
  pub settings_are : settings_of s.configured ≡ settings calls
  pub keys_are : s.parts.flows.keys ≡ keys calls
  pub agrees : AgreesWith s.parts [] (trace_of calls)
