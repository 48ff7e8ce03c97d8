-- The laws of sharing and of isolation: weights share a link, and a delete or a packet reaches only what it is about. A busy period
-- begins with tags of 0, and a delete forgets its flows' tags.
use Rattle.std.specs.Prelude.{ℕ, ◌≡◌, ◌≢◌, ◌≤◌, ◌<◌, ◌+◌, ◌*◌, max, List, [], ◌∷◌, ◌++◌, map, sum, take, length, nat_eq, Option, Some, ⊤}
use Rattle.std.specs.List.{All, filter}
use Rattle.dn_types.specs.Calls.{trace_of}
use Rattle.dn_types.specs.Configuration.{settings, reply_to_command}
use Rattle.dn_types.specs.Deliveries.{undelivered}
use Rattle.dn_laws.specs.Explained.{IsTagged, IsJudgedBy}
use Rattle.dn_types.specs.Flows.{keys}
use Rattle.dn_types.specs.Links.{free, last_due}
use Rattle.dn_types.specs.SharedLinks.{virtual_time, link_heads, last_finish_tag}
use Rattle.dn_types.specs.Trace.{Link, shared, Accepted, Start, Event, arrived, started, backlog, pipe_of}
use Rattle.dn_types.specs.Wf2q.{Stamped, pick, raised}
use Rattle.dn_types.specs.declared.call.Call.{Call}
use Rattle.dn_types.specs.declared.call.Call.TheVariants.{Configure, Submit, Advance}
use Rattle.dn_types.specs.declared.command.Command.{Command}
use Rattle.dn_types.specs.declared.command.Command.TheVariants.{Queue, DeletePipe, DeleteQueue}
use Rattle.dn_types.specs.declared.flow_key.FlowKey.{FlowKey}
use Rattle.dn_types.specs.declared.limit.Limit.{Limit}
use Rattle.dn_types.specs.declared.mask.Mask.{Mask}
use Rattle.dn_types.specs.declared.packet.Packet.{Packet}
use Rattle.dn_types.specs.declared.reply.Reply.TheVariants.{Deleted, Lost, Full, NoTarget}
use Rattle.dn_types.specs.declared.rule.Rule.{Rule}
use Rattle.dn_types.specs.declared.target.Target.{Target}
use Rattle.dn_types.specs.declared.target.Target.TheVariants.{Queue as ToQueue}
use Rattle.dn_types.specs.Clock.{effective_moment}
use Rattle.dn_types.specs.Replies.{reply}
use Rattle.dn_types.specs.declared.reply.Reply.{Reply}

-- A packet to a queue is tagged by its length and the queue's weight in force.
abbrev pub TagsByWeight : Type 0
TagsByWeight = (calls : List Call) (target : Target) (packet : Packet) (moment : ℕ) (later between : List Event) (p : Accepted)
    (number pipe weight : ℕ) (limit : Limit) (loss : ℕ) (buckets : Option ℕ) (mask : Mask) →
    trace_of (Submit target packet moment ∷ calls) ≡ later ++ arrived p ∷ between ++ trace_of calls →
    settings calls target ≡ Some (Queue number pipe weight limit loss buckets mask) → IsTagged packet.len weight (between ++ trace_of calls) p

-- The heads of a link, among which a start picks and by whose weights virtual time grows, are the first packets that wait for
-- it: one of each flow of which one waits, and no other.
abbrev pub HeadsAreFirst : Type 0
HeadsAreFirst = (link : Link) (flow : ℕ) (trace : List Event) →
    filter (λ h. nat_eq h.flow flow) (link_heads link trace) ≡ map (λ p. p.stamped) (take 1 (backlog link flow trace))

-- What starts on a shared link is the pick among its heads at its virtual time.
abbrev pub StartsThePick : Type 0
StartsThePick = (calls : List Call) (c : Call) (later between : List Event) (s : Start) →
    trace_of (c ∷ calls) ≡ later ++ started s ∷ between ++ trace_of calls → (pipe : ℕ) → s.packet.link ≡ shared pipe →
    pick (virtual_time (shared pipe) (between ++ trace_of calls)) (link_heads (shared pipe) (between ++ trace_of calls)) ≡ Some s.packet.stamped

-- No packet starts in whose favour another flow is passed over by more than a packet: the pick's start tag is at most the
-- finish tag of each head.
abbrev pub PickIsFair : Type 0
PickIsFair = (v : ℕ) (hs : List Stamped) (h : Stamped) → pick v hs ≡ Some h → All (λ x. x.start_tag ≤ x.finish_tag) hs →
    All (λ x. h.start_tag ≤ x.finish_tag) hs

-- Of the heads that virtual time has reached the pick has the least finish tag, and of those with that one the least flow number.
abbrev pub PickIsLeast : Type 0
PickIsLeast = (v : ℕ) (hs : List Stamped) (h : Stamped) → pick v hs ≡ Some h → All (λ x. x.start_tag ≤ raised v hs → (h.finish_tag ≤ x.finish_tag)
    × (h.finish_tag ≡ x.finish_tag → h.flow ≤ x.flow)) hs

-- Virtual time is raised so far that a head is eligible, and no further.
abbrev pub RaisesToTheLeast : Type 0
RaisesToTheLeast = (v : ℕ) (hs : List Stamped) → (v ≤ raised v hs) × All (λ h. raised v hs ≤ max v h.start_tag) hs

-- Each start on a link then lets its virtual time grow by the packet's length over the sum of the weights of the flows that
-- wait, in units of 1/65536 and rounded down.
abbrev pub GrowsByWork : Type 0
GrowsByWork = (link : Link) (trace : List Event) (s : Start) → s.packet.link ≡ link →
    let hs = link_heads link trace in
    let from = raised (virtual_time link trace) hs in
    let to = virtual_time link (started s ∷ trace) in
    0 < sum (map (λ h. h.weight) hs) →
    (to * sum (map (λ h. h.weight) hs) ≤ from * sum (map (λ h. h.weight) hs) + s.packet.stamped.len * 65536)
    × (from * sum (map (λ h. h.weight) hs) + s.packet.stamped.len * 65536 < (to + 1) * sum (map (λ h. h.weight) hs))

-- After the delete of a pipe no packet waits for any of its links, so none of those that waited ever starts.
abbrev pub PipeDeleteEmpties : Type 0
PipeDeleteEmpties = (calls : List Call) (number : ℕ) (link : Link) (flow : ℕ) → reply_to_command calls (DeletePipe number) ≡ Deleted →
    pipe_of link ≡ number → backlog link flow (trace_of (Configure (DeletePipe number) ∷ calls)) ≡ []

-- After the delete of a queue none waits in it. A flow is the place of its key.
abbrev pub QueueDeleteEmpties : Type 0
QueueDeleteEmpties = (calls : List Call) (number : ℕ) (link : Link) (before behind : List FlowKey) (key : FlowKey) →
    reply_to_command calls (DeleteQueue number) ≡ Deleted → keys calls ≡ before ++ key ∷ behind → key.target ≡ ToQueue number →
    backlog link (length before) (trace_of (Configure (DeleteQueue number) ∷ calls)) ≡ []

-- The delete of a queue leaves what waits in every other, and so does that of a pipe on every other pipe.
abbrev pub QueueDeleteSpares : Type 0
QueueDeleteSpares = (calls : List Call) (number : ℕ) (link : Link) (before behind : List FlowKey) (key : FlowKey) →
    keys calls ≡ before ++ key ∷ behind → key.target ≢ ToQueue number →
    backlog link (length before) (trace_of (Configure (DeleteQueue number) ∷ calls)) ≡ backlog link (length before) (trace_of calls)

abbrev pub PipeDeleteSpares : Type 0
PipeDeleteSpares = (calls : List Call) (number : ℕ) (link : Link) (before behind : List FlowKey) (key : FlowKey) →
    keys calls ≡ before ++ key ∷ behind → key.pipe ≢ number →
    backlog link (length before) (trace_of (Configure (DeletePipe number) ∷ calls)) ≡ backlog link (length before) (trace_of calls)

-- No command moves what has started, or makes a link free sooner or later.
abbrev pub CommandsMoveNothing : Type 0
CommandsMoveNothing = (rule : Rule) (calls : List Call) (command : Command) (link : Link) →
    (free link (trace_of (Configure command ∷ calls)) ≡ free link (trace_of calls))
    × (last_due rule link (trace_of (Configure command ∷ calls)) ≡ last_due rule link (trace_of calls))
    × (virtual_time link (trace_of (Configure command ∷ calls)) ≡ virtual_time link (trace_of calls))
    × (undelivered rule (trace_of (Configure command ∷ calls)) ≡ undelivered rule (trace_of calls))

-- A packet changes nothing on the links of other pipes, against a call at its moment that has none.
abbrev pub PacketsKeepApart : Type 0
PacketsKeepApart = (rule : Rule) (calls : List Call) (target : Target) (packet : Packet) (moment : ℕ) (command : Command) (rate : ℕ) (most : Limit) (carrier : ℕ) (link : Link) →
    settings calls target ≡ Some command → IsJudgedBy command rate most carrier → pipe_of link ≢ carrier →
    let with_it = trace_of (Submit target packet moment ∷ calls) in
    let without = trace_of (Advance moment ∷ calls) in
    ((flow : ℕ) → backlog link flow with_it ≡ backlog link flow without) × (free link with_it ≡ free link without)
    × (last_due rule link with_it ≡ last_due rule link without) × (virtual_time link with_it ≡ virtual_time link without)

-- A packet that is accepted on a link which is free by its moment has start tag 0: no share of an earlier busy period counts.
abbrev pub TagsBeginAfresh : Type 0
TagsBeginAfresh = (calls : List Call) (target : Target) (packet : Packet) (moment : ℕ) (later between : List Event) (p : Accepted) →
    trace_of (Submit target packet moment ∷ calls) ≡ later ++ arrived p ∷ between ++ trace_of calls →
    free p.link (trace_of (Advance moment ∷ calls)) ≤ effective_moment (Advance moment ∷ calls) → p.stamped.start_tag ≡ 0

-- After the delete of a queue the last finish tag of each of its flows is 0, and so it is after that of a pipe for each flow
-- that the pipe carries. A flow is the place of its key.
abbrev pub QueueDeleteResets : Type 0
QueueDeleteResets = (calls : List Call) (number : ℕ) (link : Link) (before behind : List FlowKey) (key : FlowKey) →
    reply_to_command calls (DeleteQueue number) ≡ Deleted → keys calls ≡ before ++ key ∷ behind → key.target ≡ ToQueue number →
    last_finish_tag link (length before) (trace_of (Configure (DeleteQueue number) ∷ calls)) ≡ 0

abbrev pub PipeDeleteResets : Type 0
PipeDeleteResets = (calls : List Call) (number : ℕ) (link : Link) (before behind : List FlowKey) (key : FlowKey) →
    reply_to_command calls (DeletePipe number) ≡ Deleted → keys calls ≡ before ++ key ∷ behind → key.pipe ≡ number →
    last_finish_tag link (length before) (trace_of (Configure (DeletePipe number) ∷ calls)) ≡ 0

abbrev pub IsDropped : Reply → Type 0
IsDropped (Lost at flow) = ⊤
IsDropped (Full at flow) = ⊤
IsDropped (NoTarget at) = ⊤
IsDropped _ = ⊥

-- A packet that is lost, refused or without a target changes no queue, link or delivery, against an Advance to its moment.
abbrev pub DroppedChangesNothing : Type 0
DroppedChangesNothing = (rule : Rule) (calls : List Call) (target : Target) (packet : Packet) (moment : ℕ) (link : Link) →
    IsDropped (reply rule calls (Submit target packet moment)) →
    let with_it = trace_of (Submit target packet moment ∷ calls) in
    let without = trace_of (Advance moment ∷ calls) in
    ((flow : ℕ) → (backlog link flow with_it ≡ backlog link flow without) × (last_finish_tag link flow with_it ≡ last_finish_tag link flow without))
    × (free link with_it ≡ free link without) × (last_due rule link with_it ≡ last_due rule link without)
    × (virtual_time link with_it ≡ virtual_time link without)
    × (undelivered rule with_it ≡ undelivered rule without)
