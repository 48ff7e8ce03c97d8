-- The laws of what stays: what moves a link's clock and its tags, so that nothing else does. While calls are about other pipes, a
-- pipe's links go by the clock alone.
use Rattle.std.specs.Prelude.{ℕ, ◌≡◌, ◌≢◌, ◌≤◌, ◌+◌, ⊤, List, [], ◌∷◌, ◌++◌, Some, slice_get}
use Rattle.std.specs.List.{All}
use Rattle.dn_types.specs.Calls.{trace_of}
use Rattle.dn_types.specs.Clock.{effective_moment}
use Rattle.dn_types.specs.Configuration.{settings}
use Rattle.dn_laws.specs.Explained.{IsJudgedBy, IsDueBy}
use Rattle.dn_types.specs.Links.{free, last_due}
use Rattle.dn_types.specs.SharedLinks.{last_finish_tag, virtual_time}
use Rattle.dn_types.specs.Trace.{Link, pipe_of, Accepted, Start, Event, opened, arrived, started, discarded, backlog}
use Rattle.dn_types.specs.declared.call.Call.{Call}
use Rattle.dn_types.specs.declared.call.Call.TheVariants.{Submit, Advance, Configure}
use Rattle.dn_types.specs.declared.command.Command.{Command}
use Rattle.dn_types.specs.declared.limit.Limit.{Limit}
use Rattle.dn_types.specs.declared.packet.Packet.{Packet}
use Rattle.dn_types.specs.declared.rule.Rule.{Rule}
use Rattle.dn_types.specs.declared.target.Target.{Target}
use Rattle.dn_types.specs.Flows.{keys}
use Rattle.dn_types.specs.declared.command.Command.TheVariants.{Pipe, Queue, DeletePipe, DeleteQueue}
use Rattle.dn_types.specs.declared.flow_key.FlowKey.{FlowKey}
use Rattle.dn_types.specs.declared.target.Target.TheVariants.{Queue as ToQueue}

-- The event is no start on the link, and, for its virtual time, no beginning of a busy period of it.
abbrev pub IsNoStart : Link → Event → Type 0
IsNoStart link (started s) = s.packet.link ≢ link
IsNoStart link _ = ⊤

abbrev pub IsNoOpening : Link → Event → Type 0
IsNoOpening link (opened l) = l ≢ link
IsNoOpening link _ = ⊤

-- A link is free at the end of its last transmission, and the due moment of that packet is the last. Until the next start
-- nothing moves them, and before the first they are 0.
abbrev pub LinksAreKept : Type 0
LinksAreKept = (rule : Rule) (link : Link) (later earlier : List Event) → All (IsNoStart link) later →
    ((s : Start) → s.packet.link ≡ link → (free link (later ++ (started s ∷ earlier)) ≡ s.moment + s.transmission)
    × IsDueBy rule s (last_due rule link earlier) (last_due rule link (later ++ (started s ∷ earlier))))
    × (free link later ≡ 0) × (last_due rule link later ≡ 0)

-- Virtual time is 0 where a busy period begins, and nothing but starts moves it from there.
abbrev pub VirtualTimeIsKept : Type 0
VirtualTimeIsKept = (link : Link) (later earlier : List Event) → All (IsNoStart link) later → All (IsNoOpening link) later →
    (virtual_time link (later ++ earlier) ≡ virtual_time link earlier) × (virtual_time link (opened link ∷ earlier) ≡ 0)
    × (virtual_time link [] ≡ 0)

-- A packet leaves the last finish tags on the links of other pipes, against a call at its moment that has none.
abbrev pub PacketsSpareTags : Type 0
PacketsSpareTags = (rule : Rule) (calls : List Call) (target : Target) (packet : Packet) (moment : ℕ) (command : Command) (rate : ℕ) (most : Limit) (carrier : ℕ) (link : Link) (flow : ℕ) →
    settings calls target ≡ Some command → IsJudgedBy command rate most carrier → pipe_of link ≢ carrier →
    last_finish_tag link flow (trace_of (Submit target packet moment ∷ calls)) ≡ last_finish_tag link flow (trace_of (Advance moment ∷ calls))

-- And a settling leaves them all, so that only a packet and a delete move one.
abbrev pub ClockSparesTags : Type 0
ClockSparesTags = (calls : List Call) (moment : ℕ) (link : Link) (flow : ℕ) → last_finish_tag link flow (trace_of (Advance moment ∷ calls)) ≡ last_finish_tag link flow (trace_of calls)

-- The event is no arrival at the flow's queue on the link, no discard of it, and no beginning of a busy period of the link.
abbrev pub IsApart : Link → ℕ → Event → Type 0
IsApart link flow (opened l) = l ≢ link
IsApart link flow (arrived p) = p.link ≡ link → p.stamped.flow ≢ flow
IsApart link flow (discarded f) = f ≢ flow
IsApart link flow _ = ⊤

-- So a flow keeps the finish tag of its last packet, whatever else happens, until its link begins a busy period or a delete
-- reaches it. From then on, and before its first packet, it is 0.
abbrev pub TagsAreKept : Type 0
TagsAreKept = (link : Link) (flow : ℕ) (later earlier : List Event) → All (IsApart link flow) later →
    ((p : Accepted) → p.link ≡ link → p.stamped.flow ≡ flow → last_finish_tag link flow (later ++ (arrived p ∷ earlier)) ≡ p.stamped.finish_tag)
    × (last_finish_tag link flow (later ++ (opened link ∷ earlier)) ≡ 0)
    × (last_finish_tag link flow (later ++ (discarded flow ∷ earlier)) ≡ 0)
    × (last_finish_tag link flow later ≡ 0)

-- A busy period begins where the link is free by the clock and no packet waits for it.
abbrev pub BusyPeriodsBegin : Type 0
BusyPeriodsBegin = (calls : List Call) (c : Call) (later between : List Event) (link : Link) →
    trace_of (c ∷ calls) ≡ later ++ opened link ∷ between ++ trace_of calls →
    (free link (between ++ trace_of calls) ≤ effective_moment (c ∷ calls)) × ((flow : ℕ) → backlog link flow (between ++ trace_of calls) ≡ [])

-- The command is about other pipes: it neither configures nor deletes this one, and deletes no queue with a flow on it.
abbrev pub IsCommandElsewhere : ℕ → List Call → Command → Type 0
IsCommandElsewhere pipe calls (Pipe number bw delay limit loss buckets mask) = number ≢ pipe
IsCommandElsewhere pipe calls (Queue number carrier weight limit loss buckets mask) = ⊤
IsCommandElsewhere pipe calls (DeletePipe number) = number ≢ pipe
IsCommandElsewhere pipe calls (DeleteQueue number) = (before behind : List FlowKey) (key : FlowKey) → keys calls ≡ before ++ key ∷ behind →
    key.target ≡ ToQueue number → key.pipe ≢ pipe

-- The call is about other pipes: its packet, if it has one, is to a target that another pipe carries.
abbrev pub IsElsewhere : ℕ → List Call → Call → Type 0
IsElsewhere pipe calls (Configure command) = IsCommandElsewhere pipe calls command
IsElsewhere pipe calls (Submit target packet moment) = (command : Command) (rate : ℕ) (most : Limit) (carrier : ℕ) →
    settings calls target ≡ Some command → IsJudgedBy command rate most carrier → carrier ≢ pipe
IsElsewhere pipe calls _ = ⊤

abbrev pub AreElsewhere : ℕ → List Call → List Call → Type 0
AreElsewhere pipe [] calls = ⊤
AreElsewhere pipe (c ∷ after) calls = IsElsewhere pipe (after ++ calls) c × AreElsewhere pipe after calls

-- Whatever happens on other pipes, the links of a pipe stand as one Advance to the same clock leaves them, and so do the last
-- finish tags of its flows.
abbrev pub OtherPipesChangeNothing : Type 0
OtherPipesChangeNothing = (rule : Rule) (after calls : List Call) (link : Link) → AreElsewhere (pipe_of link) after calls →
    let with_them = trace_of (after ++ calls) in
    let without = trace_of (Advance (effective_moment (after ++ calls)) ∷ calls) in
    ((flow : ℕ) → backlog link flow with_them ≡ backlog link flow without) × (free link with_them ≡ free link without)
    × (last_due rule link with_them ≡ last_due rule link without) × (virtual_time link with_them ≡ virtual_time link without)
    × ((flow : ℕ) (key : FlowKey) → slice_get (keys (after ++ calls)) flow ≡ Some key → key.pipe ≡ pipe_of link →
    last_finish_tag link flow with_them ≡ last_finish_tag link flow without)
