-- The laws of parts: what other links carry changes nothing on a link.
use Rattle.std.specs.Prelude.{ℕ, ◌≡◌, ◌≤◌, ⊤, max, List, [], ◌∷◌, ◌++◌, length, map, take, nat_eq, Some, slice_get}
use Rattle.std.specs.List.{All, filter}
use Rattle.dn_types.specs.Calls.{after_command, trace_of}
use Rattle.dn_types.specs.Clock.{call_limit, effective_moment, moment_of}
use Rattle.dn_types.specs.Configuration.{Settings, settings, reply_to_command}
use Rattle.dn_types.specs.Deliveries.{given}
use Rattle.dn_types.specs.Flows.{Treatment, treatment, keys}
use Rattle.dn_laws.specs.Parts.{Choice, of_pipe, calls_on, is_flow_on, part_of}
use Rattle.dn_laws.specs.Replays.{AreCommands, IsReplay, own_calls}
use Rattle.dn_types.specs.Replies.{replies}
use Rattle.dn_laws.specs.ReplyParts.{reply_on, is_told}
use Rattle.dn_types.specs.Trace.{Event}
use Rattle.dn_types.specs.declared.call.Call.{Call}
use Rattle.dn_types.specs.declared.call.Call.TheVariants.{Configure, Submit, Advance, Collect, Show}
use Rattle.dn_types.specs.declared.flow_key.FlowKey.{FlowKey}
use Rattle.dn_types.specs.declared.rule.Rule.{Rule}
use Rattle.dn_types.specs.declared.target.Target.TheVariants.{Pipe as ToPipe}

-- Where other links carry no packet, what happens is the part of what happens where they do: the same events in the same
-- order, at the same moments and with the same tags.
abbrev pub OtherLinksChangeNothing : Type 0
OtherLinksChangeNothing = (chosen : Choice) (calls : List Call) → trace_of (calls_on chosen calls) ≡ part_of chosen calls

-- And each call gets the part of its reply: a packet on a chosen link is queued, lost or refused as before, at the same
-- moment, and starts and is due at the same moments.
abbrev pub OtherLinksChangeNoReply : Type 0
OtherLinksChangeNoReply = (rule : Rule) (chosen : Choice) (calls : List Call) → replies rule (calls_on chosen calls) ≡ map (reply_on chosen calls) (replies rule calls)

-- So any two lists of calls that agree on the packets of the chosen links and on the clock make the same happen there.
abbrev pub AgreeingCallsAgree : Type 0
AgreeingCallsAgree = (rule : Rule) (chosen : Choice) (calls others : List Call) → calls_on chosen calls ≡ calls_on chosen others →
    (part_of chosen calls ≡ part_of chosen others) × (map (reply_on chosen calls) (replies rule calls) ≡ map (reply_on chosen others) (replies rule others))

abbrev pub IsTimed : Call → Type 0
IsTimed (Configure command) = ⊥
IsTimed Show = ⊥
IsTimed _ = ⊤

-- An Advance changes nothing where a timed call follows at the same or at a later moment.
abbrev pub AdvancesAreNoMore : Type 0
AdvancesAreNoMore = (calls : List Call) (moment : ℕ) (c : Call) → IsTimed c → moment ≤ max (effective_moment calls) (moment_of c) → trace_of (c ∷ Advance moment ∷ calls) ≡ trace_of (c ∷ calls)

-- A replay falls apart: replayed alone, the packets of the chosen links get the part of their replies, and the Collect
-- gives the part of what it gives.
abbrev pub ReplaysFallApart : Type 0
ReplaysFallApart = (rule : Rule) (chosen : Choice) (calls : List Call) → IsReplay calls → length calls ≤ call_limit →
    replies rule (own_calls chosen calls) ≡ filter is_told (map (reply_on chosen calls) (replies rule calls))

-- The parts of all pipes are the whole: what a Collect gives is of a flow whose key names one pipe, so that it is in the
-- part of this pipe and of no other.
abbrev pub PartsAreWhole : Type 0
PartsAreWhole = (rule : Rule) (calls : List Call) (at : ℕ) →
    All (λ d. (key : FlowKey) × (slice_get (keys calls) d.flow ≡ Some key) × ((pipe : ℕ) → is_flow_on (of_pipe pipe) (keys calls) d.flow ≡ nat_eq key.pipe pipe)) (given rule at (trace_of calls))

-- Packets that the pipe carries if any does, and a Collect, where the same is in force for the target of each.
abbrev pub AreAlike : ℕ → Settings → Settings → List Call → Type 0
AreAlike pipe here there [] = ⊤
AreAlike pipe here there (Submit target packet moment ∷ calls) =
    (here target ≡ there target) × ((how : Treatment) → treatment (here target) ≡ Some how → how.pipe ≡ pipe) × AreAlike pipe here there calls
AreAlike pipe here there (Collect moment ∷ calls) = AreAlike pipe here there calls
AreAlike pipe here there (_ ∷ calls) = ⊥

-- A pipe's part of a replay rests on what is in force for the pipe and for the packets' targets: commands that leave this the
-- same can be taken away.
abbrev pub PartsRestOnTheirPipe : Type 0
PartsRestOnTheirPipe = (rule : Rule) (pipe : ℕ) (commands others packets : List Call) → AreCommands commands → AreCommands others →
    settings commands (ToPipe pipe) ≡ settings others (ToPipe pipe) → AreAlike pipe (settings commands) (settings others) packets →
    length (packets ++ commands) ≤ call_limit → length (packets ++ others) ≤ call_limit →
    take (length packets) (replies rule (packets ++ commands)) ≡ take (length packets) (replies rule (packets ++ others))

-- The flows whose queues a call empties, as events.
abbrev pub emptied : List Call → Call → List Event
emptied calls (Configure command) = after_command (reply_to_command calls command) command (keys calls) []
emptied calls _ = []

abbrev pub IsUntimed : Call → Type 0
IsUntimed (Configure command) = ⊤
IsUntimed Show = ⊤
IsUntimed _ = ⊥

-- Two calls after two lists match: the same packet, which the pipe carries if any does and for whose target the same is in
-- force, the same move of the clock, or each a command or a Show.
abbrev pub IsMatched : ℕ → List Call → List Call → Call → Call → Type 0
IsMatched pipe calls others (Submit target packet moment) c =
    (c ≡ Submit target packet moment) × (settings calls target ≡ settings others target) × ((how : Treatment) → treatment (settings calls target) ≡ Some how → how.pipe ≡ pipe)
IsMatched pipe calls others (Advance moment) c = c ≡ Advance moment
IsMatched pipe calls others (Collect moment) c = c ≡ Collect moment
IsMatched pipe calls others _ c = IsUntimed c

-- Two lists match where their calls do, each empties the same flows, and after each the same is in force for the pipe.
abbrev pub AreMatched : ℕ → List Call → List Call → Type 0
AreMatched pipe [] [] = ⊤
AreMatched pipe (c ∷ calls) (d ∷ others) =
    IsMatched pipe calls others c d × (emptied calls c ≡ emptied others d) × (settings (c ∷ calls) (ToPipe pipe) ≡ settings (d ∷ others) (ToPipe pipe)) × AreMatched pipe calls others
AreMatched pipe _ _ = ⊥

-- Commands act on a pipe by what is in force for it and for its packets' targets, and by the queues that they empty: with
-- the packets of other pipes taken away, two lists that match in this make the same happen on the pipe.
abbrev pub CommandsActByForce : Type 0
CommandsActByForce = (pipe : ℕ) (calls others : List Call) → AreMatched pipe (calls_on (of_pipe pipe) calls) (calls_on (of_pipe pipe) others) →
    part_of (of_pipe pipe) calls ≡ part_of (of_pipe pipe) others
