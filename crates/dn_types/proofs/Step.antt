-- One call on a standing: its reply, and the standing after it. With it the law that all rests on the standing is proved.
use Rattle.dn_types.proofs.Words.{Accepted, Advance, Advanced, Call, Collect, Command, Configure, Deleted, Delivered, Delivery, Event, Exhausted, FlowKey, FlowStatus, Full, Link, List, Lost}
use Rattle.dn_types.proofs.Words.{NoTarget, None, Option, Packet, Queue, Queued, Reply, Rule, Settings, Show, Some, Stamped, Standing, Start, Status, Submit, Target, Traffic, Treatment, Verdict}
use Rattle.dn_types.proofs.Words.{[], arrival_time, arrived, call_limit, collected, command_reply, cond, delivery_of, discarded, drop, due_by, filter, flow_number, grown, heads, in_order}
use Rattle.dn_types.proofs.Words.{is_arrival, is_full, is_loss_of, is_lost, is_of, is_refusal_of, is_start_of, key_of, keys_with, length, link_eq, link_of, loses, lost, map, max, nat_eq, nat_le}
use Rattle.dn_types.proofs.Words.{nat_lt, no_target, opened, option_and_then, option_map, own, pick, reaches, refused, refuses, scaled, setting_after, settings, shared, slice_get, sooner}
use Rattle.dn_types.proofs.Words.{start_at, start_tag_on_arrival, started, subject, suc, sum, takes, target_eq, total, treatment, with_link, zero, ℕ, ◌&&◌, ◌++◌, ◌+◌, ◌∷◌}

-- ---- One event

abbrev pub link_heads_in : Link → Traffic → List Stamped
link_heads_in link x = map (λ p. p.stamped) (heads x.flow_bound (λ flow. x.backlog link flow))

abbrev pub links_after : Event → List Link → List Link
links_after (arrived p) before = with_link p.link before
links_after (lost link flow) before = with_link link before
links_after (refused link flow) before = with_link link before
links_after _ before = before

abbrev pub bound_after : Event → ℕ → ℕ
bound_after (arrived p) before = max before (p.stamped.flow + 1)
bound_after _ before = before

abbrev pub backlog_after : Event → Link → ℕ → List Accepted → List Accepted
backlog_after (arrived p) link flow before = cond (is_of link flow p) (before ++ p ∷ []) before
backlog_after (started s) link flow before = cond (is_of link flow s.packet) (drop 1 before) before
backlog_after (discarded f) link flow before = cond (nat_eq f flow) [] before
backlog_after _ link flow before = before

abbrev pub free_after : Event → Link → ℕ → ℕ
free_after (started s) link before = cond (link_eq s.packet.link link) (s.moment + s.transmission) before
free_after _ link before = before

abbrev pub last_due_after : Rule → Event → Link → ℕ → ℕ
last_due_after rule (started s) link before = cond (link_eq s.packet.link link) (due_by rule (arrival_time s) before) before
last_due_after rule _ link before = before

abbrev pub virtual_time_after : Event → Link → List Stamped → ℕ → ℕ
virtual_time_after (opened l) link hs before = cond (link_eq l link) 0 before
virtual_time_after (started s) link hs before = cond (link_eq s.packet.link link) (grown before hs s.packet.stamped.len) before
virtual_time_after _ link hs before = before

abbrev pub last_finish_tag_after : Event → Link → ℕ → ℕ → ℕ
last_finish_tag_after (opened l) link flow before = cond (link_eq l link) 0 before
last_finish_tag_after (arrived p) link flow before = cond (link_eq p.link link && nat_eq p.stamped.flow flow) p.stamped.finish_tag before
last_finish_tag_after (discarded f) link flow before = cond (nat_eq f flow) 0 before
last_finish_tag_after _ link flow before = before

abbrev pub discarded_after : Event → ℕ → ℕ → ℕ → ℕ
discarded_after (discarded f) flow waiting before = cond (nat_eq f flow) waiting 0 + before
discarded_after _ flow waiting before = before

abbrev pub undelivered_after : Rule → Event → (Link → ℕ) → List Delivery → List Delivery
undelivered_after rule (started s) last before = in_order (delivery_of rule s (last s.packet.link)) before
undelivered_after rule (collected at) last before = filter (λ d. nat_lt at d.due) before
undelivered_after rule _ last before = before

abbrev pub after_event : Rule → Event → Traffic → Traffic
after_event rule e x = record {
  links = links_after e x.links;
  flow_bound = bound_after e x.flow_bound;
  backlog = λ link flow. backlog_after e link flow (x.backlog link flow);
  free = λ link. free_after e link (x.free link);
  last_due = λ link. last_due_after rule e link (x.last_due link);
  virtual_time = λ link. virtual_time_after e link (link_heads_in link x) (x.virtual_time link);
  last_finish_tag = λ link flow. last_finish_tag_after e link flow (x.last_finish_tag link flow);
  lost = λ flow. cond (is_loss_of flow e) 1 0 + x.lost flow;
  full = λ flow. cond (is_refusal_of flow e) 1 0 + x.full flow;
  started = λ flow. cond (is_start_of flow e) 1 0 + x.started flow;
  discarded = λ link flow. discarded_after e flow (length (x.backlog link flow)) (x.discarded link flow);
  accepted = cond (is_arrival e) 1 0 + x.accepted;
  undelivered = undelivered_after rule e x.last_due x.undelivered;
}

-- ---- Settling

abbrev pub next_packet_in : Link → Traffic → Option Accepted
next_packet_in (own pipe flow) x = slice_get (x.backlog (own pipe flow) flow) 0
next_packet_in (shared pipe) x = option_and_then (λ h. slice_get (x.backlog (shared pipe) h.flow) 0) (pick (x.virtual_time (shared pipe)) (link_heads_in (shared pipe) x))

abbrev pub next_start_in : Settings → ℕ → Link → Traffic → Option Start
next_start_in settings at link x = cond (nat_le (x.free link) at) (option_map (λ p. start_at settings link p (x.free link)) (next_packet_in link x)) None

abbrev pub first_start_in : Settings → ℕ → List Link → Traffic → Option Start
first_start_in settings at [] x = None
first_start_in settings at (link ∷ others) x = sooner (next_start_in settings at link x) (first_start_in settings at others x)

abbrev pub settle_most_in : Rule → ℕ → Settings → ℕ → Traffic → Traffic
settle_most_in rule zero settings at x = x
settle_most_in rule (suc most) settings at x = elim (first_start_in settings at x.links x) [ None ↦ x | Some s ↦ settle_most_in rule most settings at (after_event rule (started s) x) ]

abbrev pub waiting_in : Link → Traffic → ℕ
waiting_in link x = total x.flow_bound (λ flow. x.backlog link flow)

abbrev pub waiting_all_in : List Link → Traffic → ℕ
waiting_all_in [] x = 0
waiting_all_in (link ∷ others) x = waiting_in link x + waiting_all_in others x

abbrev pub settle_in : Rule → Settings → ℕ → Traffic → Traffic
settle_in rule settings at x = settle_most_in rule (waiting_all_in x.links x) settings at x

-- ---- Submits

abbrev pub verdict_in : List FlowKey → Target → Packet → Option Treatment → Traffic → Verdict
verdict_in known target packet None x = no_target
verdict_in known target packet (Some how) x =
    let flow = flow_number known (key_of target packet.tuple how) in
    let link = link_of target flow how.pipe in
    cond (is_lost how.loss packet.word) (loses link flow) (cond (is_full how.limit (map (λ p. p.stamped.len) (x.backlog link flow))) (refuses link flow) (takes link flow how))

abbrev pub opening_in : Rule → Link → ℕ → Traffic → Traffic
opening_in rule link at x = cond (nat_eq (waiting_in link x) 0 && nat_le (x.free link) at) (after_event rule (opened link) x) x

abbrev pub accept_in : Link → Packet → ℕ → Treatment → Traffic → Accepted
accept_in link packet flow how x =
    let start = start_tag_on_arrival (nat_eq (length (x.backlog link flow)) 0) (x.last_finish_tag link flow) (x.virtual_time link) in
    record { packet = x.accepted; link = link; stamped = record { flow = flow; len = packet.len; weight = how.weight; start_tag = start; finish_tag = start + scaled packet.len how.weight } }

abbrev pub join_in : Rule → Settings → ℕ → Accepted → Traffic → Traffic
join_in rule settings at p x = cond (nat_le (x.free p.link) at) (after_event rule (started (start_at settings p.link p at)) (after_event rule (arrived p) x)) (after_event rule (arrived p) x)

abbrev pub after_verdict_in : Rule → Settings → ℕ → Packet → Verdict → Traffic → Traffic
after_verdict_in rule settings at packet no_target x = x
after_verdict_in rule settings at packet (loses link flow) x = after_event rule (lost link flow) x
after_verdict_in rule settings at packet (refuses link flow) x = after_event rule (refused link flow) x
after_verdict_in rule settings at packet (takes link flow how) x =
    let y = opening_in rule link at x in
    join_in rule settings at (accept_in link packet flow how y) y

-- ---- Commands

abbrev pub discard_reached_in : Rule → Command → ℕ → List FlowKey → Traffic → Traffic
discard_reached_in rule command flow [] x = x
discard_reached_in rule command flow (key ∷ known) x = discard_reached_in rule command (flow + 1) known (cond (reaches command key) (after_event rule (discarded flow) x) x)

abbrev pub after_command_in : Rule → Reply → Command → List FlowKey → Traffic → Traffic
after_command_in rule Deleted command known x = discard_reached_in rule command 0 known x
after_command_in rule _ command known x = x

abbrev pub settings_after : Settings → List ℕ → Command → Settings
settings_after settings queues command target = cond (target_eq (subject command) target) (setting_after (command_reply settings queues command) command (settings target)) (settings target)

abbrev pub queue_numbers_after : Command → List ℕ → List ℕ
queue_numbers_after (Queue number pipe weight limit loss buckets mask) queues = number ∷ queues
queue_numbers_after _ queues = queues

-- ---- One call

abbrev pub counted_step : Rule → Standing → Call → Standing
counted_step rule s (Configure command) = record {
  calls = suc s.calls;
  effective_moment = max s.effective_moment 0;
  settings = settings_after s.settings s.queue_numbers command;
  queue_numbers = queue_numbers_after command s.queue_numbers;
  keys = s.keys;
  traffic = after_command_in rule (command_reply s.settings s.queue_numbers command) command s.keys s.traffic;
}
counted_step rule s (Submit target packet moment) =
    let at = max s.effective_moment moment in
    let x = settle_in rule s.settings at s.traffic in
    record {
      calls = suc s.calls;
      effective_moment = at;
      settings = s.settings;
      queue_numbers = s.queue_numbers;
      keys = keys_with target packet.tuple (treatment (s.settings target)) s.keys;
      traffic = after_verdict_in rule s.settings at packet (verdict_in s.keys target packet (treatment (s.settings target)) x) x;
    }
counted_step rule s (Advance moment) =
    let at = max s.effective_moment moment in
    record { calls = suc s.calls; effective_moment = at; settings = s.settings; queue_numbers = s.queue_numbers; keys = s.keys; traffic = settle_in rule s.settings at s.traffic }
counted_step rule s (Collect moment) =
    let at = max s.effective_moment moment in
    record {
      calls = suc s.calls;
      effective_moment = at;
      settings = s.settings;
      queue_numbers = s.queue_numbers;
      keys = s.keys;
      traffic = after_event rule (collected at) (settle_in rule s.settings at s.traffic);
    }
counted_step rule s Show = record { calls = suc s.calls; effective_moment = max s.effective_moment 0; settings = s.settings; queue_numbers = s.queue_numbers; keys = s.keys; traffic = s.traffic }

abbrev pub step : Rule → Standing → Call → Standing
step rule s c = cond (nat_le call_limit s.calls) s (counted_step rule s c)

-- ---- Its reply

abbrev pub status_in : ℕ → FlowKey → Traffic → FlowStatus
status_in flow key x =
    let link = link_of key.target flow key.pipe in
    let lengths = map (λ p. p.stamped.len) (x.backlog link flow) in
    record { flow = flow; key = key; queued = length lengths; bytes = sum lengths; lost = x.lost flow; full = x.full flow; started = x.started flow; discarded = x.discarded link flow }

abbrev pub statuses_in : ℕ → List FlowKey → Traffic → List FlowStatus
statuses_in flow [] x = []
statuses_in flow (key ∷ known) x = status_in flow key x ∷ statuses_in (flow + 1) known x

abbrev pub verdict_reply_in : ℕ → Verdict → Traffic → Reply
verdict_reply_in at no_target x = NoTarget at
verdict_reply_in at (loses link flow) x = Lost at flow
verdict_reply_in at (refuses link flow) x = Full at flow
verdict_reply_in at (takes link flow how) x = Queued at flow x.accepted

abbrev pub counted_step_reply : Rule → Standing → Call → Reply
counted_step_reply rule s (Configure command) = command_reply s.settings s.queue_numbers command
counted_step_reply rule s (Submit target packet moment) =
    let at = max s.effective_moment moment in
    let x = settle_in rule s.settings at s.traffic in
    verdict_reply_in at (verdict_in s.keys target packet (treatment (s.settings target)) x) x
counted_step_reply rule s (Advance moment) = Advanced (max s.effective_moment moment)
counted_step_reply rule s (Collect moment) = let at = max s.effective_moment moment in Delivered at (filter (λ d. nat_le d.due at) (settle_in rule s.settings at s.traffic).undelivered)
counted_step_reply rule s Show = Status (statuses_in 0 s.keys s.traffic)

abbrev pub step_reply : Rule → Standing → Call → Reply
step_reply rule s c = cond (nat_le call_limit s.calls) Exhausted (counted_step_reply rule s c)
