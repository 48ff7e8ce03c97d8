-- A shaper and the calls that it answered, newest first. Its value is its state.
use Rattle.std.specs.Prelude.{◌≡◌, ℕ, ◌+◌, true, List, length, None, is_some}
use Rattle.dn_types.specs.Clock.{counted}
use Rattle.dn_types.specs.Configuration.{settings, subject, reply_to_command}
use Rattle.dn_types.specs.Deliveries.{undelivered}
use Rattle.dn_types.specs.Flows.{treatment}
use Rattle.dn_types.specs.Starts.{waiting_all}
use Rattle.dn_types.specs.Trace.{Event, links}
use Rattle.dn_types.specs.declared.call.Call.{Call}
use Rattle.dn_types.specs.declared.call.Call.TheVariants.{Configure, Submit, Advance, Collect, Show}
use Rattle.dn_types.specs.declared.reply.Reply.{Reply}
use Rattle.dn_types.specs.declared.reply.Reply.TheVariants.{Configured, Delivered, Status}
use Rattle.dn_types.specs.declared.rule.Rule.{Rule}
use Rattle.dn_shaper.specs.declared.state.State.{State}
use Rattle.dn_shaper.specs.Standing.{StandsAt}

-- The shaper is in the state that the calls lead to. Those beyond the limit, which are answered Exhausted, count for nothing.
abbrev pub StandsAfter : Rule → State → List Call → Type 0
StandsAfter rule shaper calls = StandsAt rule shaper (counted calls)

-- How many items the list in a reply has.
abbrev pub items_in : Reply → ℕ
items_in (Delivered at list) = length list
items_in (Status list) = length list
items_in _ = 0

-- How many accepted packets wait or are under way: no Collect has given them, and no delete has discarded them.
abbrev pub held : Rule → List Event → ℕ
held rule trace = waiting_all (links trace) trace + length (undelivered rule trace)

-- The call may take memory after the calls. A Configure does so only where it is accepted and its pipe or queue isn't
-- configured, and a Submit only to a target that is configured. A Collect and a Show make a list. An Advance takes none.
abbrev pub CanNeedMemory : List Call → Call → Type 0
CanNeedMemory calls (Configure command) = (settings calls (subject command) ≡ None) × (reply_to_command calls command ≡ Configured)
CanNeedMemory calls (Submit target packet moment) = is_some (treatment (settings calls target)) ≡ true
CanNeedMemory calls (Advance moment) = ⊥
CanNeedMemory calls (Collect moment) = Unit {0}
CanNeedMemory calls Show = Unit {0}
