-- Discards in another order, or made twice: what no reading of a trace tells apart.
use Rattle.std.specs.Prelude.{◌≡◌, ℕ, true, false, List, Some, slice_get}
use Rattle.std.specs.List.{count_by}
use Rattle.dn_types.specs.Calls.{reaches, discard_reached}
use Rattle.dn_types.specs.Deliveries.{undelivered}
use Rattle.dn_types.specs.Links.{free, last_due}
use Rattle.dn_types.specs.SharedLinks.{virtual_time, last_finish_tag}
use Rattle.dn_types.specs.Trace.{Link, Event, backlog, links, flow_bound, is_loss_of, is_refusal_of, is_start_of, discarded_count, accepted_count}
use Rattle.dn_types.specs.declared.command.Command.{Command}
use Rattle.dn_types.specs.declared.flow_key.FlowKey.{FlowKey}
use Rattle.dn_types.specs.declared.rule.Rule.{Rule}
use Rattle.dn_flows.specs.Table.{flow_at}
use Rattle.dn_shaper.specs.declared.links.parts.Parts.{Parts}
use Rattle.dn_shaper.specs.Refinement.Agreement.{AgreesWith, is_active}

-- Each reading of two traces is the same.
pub record ReadsSame (t u : List Event) : Type 0 where
  pub links_are : links t ≡ links u
  pub bound : flow_bound t ≡ flow_bound u
  pub free_is : (link : Link) → free link t ≡ free link u
  pub last_due_is : (rule : Rule) (link : Link) → last_due rule link t ≡ last_due rule link u
  pub virtual_time_is : (link : Link) → virtual_time link t ≡ virtual_time link u
  pub backlog_is : (link : Link) (flow : ℕ) → backlog link flow t ≡ backlog link flow u
  pub last_finish_is : (link : Link) (flow : ℕ) → last_finish_tag link flow t ≡ last_finish_tag link flow u
  pub lost_is : (flow : ℕ) → count_by (is_loss_of flow) t ≡ count_by (is_loss_of flow) u
  pub full_is : (flow : ℕ) → count_by (is_refusal_of flow) t ≡ count_by (is_refusal_of flow) u
  pub started_is : (flow : ℕ) → count_by (is_start_of flow) t ≡ count_by (is_start_of flow) u
  pub discarded_is : (link : Link) (flow : ℕ) → discarded_count link flow t ≡ discarded_count link flow u
  pub active_is : (flow : ℕ) → is_active flow t ≡ is_active flow u
  pub undelivered_is : (rule : Rule) → undelivered rule t ≡ undelivered rule u
  pub accepted_is : accepted_count t ≡ accepted_count u

-- The flows that a delete reaches are discarded, after whatever a trace has.
abbrev pub ReadsSameReached : Command → List FlowKey → List Event → List Event → Type 0
ReadsSameReached command keys t u = ReadsSame (discard_reached command 0 keys t) (discard_reached command 0 keys u)

-- Flows were discarded that the delete reaches: with all of these discarded, the parts agree with what was to come of any
-- trace that they agreed with.
abbrev pub DiscardsSome : Command → List FlowKey → Parts → Parts → Type 0
DiscardsSome command keys old new = (more : List Link) (trace : List Event) → AgreesWith old more trace → (t : List Event) × AgreesWith new more t × ReadsSameReached command keys t trace

-- No flow is active that the delete reaches.
abbrev pub NoneActive : Command → Parts → Type 0
NoneActive command p = (flow : ℕ) (key : FlowKey) → slice_get p.flows.keys flow ≡ Some key → reaches command key ≡ true → (flow_at p.flows.flows flow).active ≡ false

-- How many flows are active.
abbrev pub active_flows : Parts → ℕ
active_flows p = count_by (λ s. s.active) p.flows.flows
