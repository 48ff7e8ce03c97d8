-- Where the calls leave the emulator: a record of all that later replies rest on.
use Rattle.std.specs.Prelude.{ℕ, List, length}
use Rattle.std.specs.List.{count_by}
use Rattle.dn_types.specs.Calls.{trace_of}
use Rattle.dn_types.specs.Clock.{effective_moment, counted}
use Rattle.dn_types.specs.Configuration.{Settings, settings, queue_numbers}
use Rattle.dn_types.specs.Deliveries.{undelivered}
use Rattle.dn_types.specs.Flows.{keys}
use Rattle.dn_types.specs.Links.{free, last_due}
use Rattle.dn_types.specs.SharedLinks.{virtual_time, last_finish_tag}
use Rattle.dn_types.specs.Trace.{Link, Accepted, Event, backlog, flow_bound, links, is_loss_of, is_refusal_of, is_start_of, discarded_count, accepted_count}
use Rattle.dn_types.specs.declared.call.Call.{Call}
use Rattle.dn_types.specs.declared.flow_key.FlowKey.{FlowKey}
use Rattle.dn_types.specs.declared.rule.Rule.{Rule}
use Rattle.dn_types.specs.declared.delivery.Delivery.{Delivery}

-- Where a trace leaves the links and the flows: for each link its backlogs, when it is free, its last due moment, virtual
-- time and last finish tags; for each flow the counts of its packets; and what is still to be given.
pub record Traffic : Type 0 where
  pub links : List Link
  pub flow_bound : ℕ
  pub backlog : Link → ℕ → List Accepted
  pub free : Link → ℕ
  pub last_due : Link → ℕ
  pub virtual_time : Link → ℕ
  pub last_finish_tag : Link → ℕ → ℕ
  pub lost : ℕ → ℕ
  pub full : ℕ → ℕ
  pub started : ℕ → ℕ
  pub discarded : Link → ℕ → ℕ
  pub accepted : ℕ
  pub undelivered : List Delivery

-- It is read off the trace.
abbrev pub traffic : Rule → List Event → Traffic
traffic rule trace = record {
  links = links trace;
  flow_bound = flow_bound trace;
  backlog = λ link flow. backlog link flow trace;
  free = λ link. free link trace;
  last_due = λ link. last_due rule link trace;
  virtual_time = λ link. virtual_time link trace;
  last_finish_tag = λ link flow. last_finish_tag link flow trace;
  lost = λ flow. count_by (is_loss_of flow) trace;
  full = λ flow. count_by (is_refusal_of flow) trace;
  started = λ flow. count_by (is_start_of flow) trace;
  discarded = λ link flow. discarded_count link flow trace;
  accepted = accepted_count trace;
  undelivered = undelivered rule trace;
}

-- Where the calls leave the emulator: how many they are, the clock, what is configured, the flows, and the traffic.
pub record Standing : Type 0 where
  pub calls : ℕ
  pub effective_moment : ℕ
  pub settings : Settings
  pub queue_numbers : List ℕ
  pub keys : List FlowKey
  pub traffic : Traffic

-- It is read off the calls.
abbrev pub standing_of_counted : Rule → List Call → Standing
standing_of_counted rule calls = record { calls = length calls; effective_moment = effective_moment calls; settings = settings calls; queue_numbers = queue_numbers calls; keys = keys calls; traffic = traffic rule (trace_of calls) }

-- Calls that don't count change nothing.
abbrev pub standing : Rule → List Call → Standing
standing rule calls = standing_of_counted rule (counted calls)
