-- Calls that are divided among parts, each with pipes and queues of its own. A part is answered as if the others weren't there.
use Rattle.std.specs.Prelude.{ℕ, ◌≡◌, ◌≤◌, ⊤, Bool, true, cond, List, [], ◌∷◌, length, map}
use Rattle.dn_types.specs.Clock.{call_limit, effective_moment}
use Rattle.dn_types.specs.Configuration.{subject}
use Rattle.dn_laws.specs.Parts.{Choice, is_flow_on, is_packet_on, part_of}
use Rattle.dn_types.specs.Calls.{trace_of}
use Rattle.dn_types.specs.Flows.{keys}
use Rattle.dn_types.specs.Replies.{replies}
use Rattle.dn_laws.specs.ReplyParts.{reply_by}
use Rattle.dn_types.specs.declared.call.Call.{Call}
use Rattle.dn_types.specs.declared.call.Call.TheVariants.{Configure, Submit, Advance, Collect}
use Rattle.dn_types.specs.declared.command.Command.{Command}
use Rattle.dn_types.specs.declared.command.Command.TheVariants.{Queue}
use Rattle.dn_types.specs.declared.reply.Reply.{Reply}
use Rattle.dn_types.specs.declared.reply.Reply.TheVariants.{NoTarget}
use Rattle.dn_types.specs.declared.rule.Rule.{Rule}
use Rattle.dn_types.specs.declared.target.Target.{Target}
use Rattle.dn_types.specs.declared.target.Target.TheVariants.{Pipe as ToPipe, Queue as ToQueue}

-- All links of a part's pipes.
abbrev pub links_of : (Target → Bool) → Choice
links_of mine = record { own_flow = λ key. mine (ToPipe key.pipe); shared_link = λ number. mine (ToPipe number) }

-- The part's own of a list, newest first. The test says which are by their places, the numbers of older ones.
abbrev pub own_of : {A : Type 0} → (ℕ → Bool) → List A → List A
own_of is_own [] = []
own_of is_own (x ∷ xs) = cond (is_own (length xs)) (x ∷ own_of is_own xs) (own_of is_own xs)

-- A queue and the pipe that its command names are of one part.
abbrev pub IsOfOnePart : (Target → Bool) → Command → Type 0
IsOfOnePart mine (Queue number pipe weight limit loss buckets mask) = mine (ToQueue number) ≡ mine (ToPipe pipe)
IsOfOnePart mine _ = ⊤

-- Whether a call is the part's own. A command and a packet are if they name a pipe or a queue of the part. A Collect is of
-- all parts, and any part may make an Advance or a Show.
abbrev pub IsOwned : (Target → Bool) → Call → Bool → Type 0
IsOwned mine (Configure command) own = (own ≡ mine (subject command)) × IsOfOnePart mine command
IsOwned mine (Submit target packet moment) own = own ≡ mine target
IsOwned mine (Collect moment) own = own ≡ true
IsOwned mine _ own = ⊤

-- The part's calls are in order of their effective moments among all: when one is made, the clock isn't beyond the effective
-- moment that it has in the part alone. A command and a Show name no moment, and so have the part's clock.
abbrev pub AreDivided : (Target → Bool) → (ℕ → Bool) → List Call → Type 0
AreDivided mine is_own [] = ⊤
AreDivided mine is_own (c ∷ calls) =
    IsOwned mine c (is_own (length calls)) × (is_own (length calls) ≡ true → effective_moment calls ≤ effective_moment (c ∷ own_of is_own calls)) × AreDivided mine is_own calls

-- The part of a reply to one of the part's own calls. NoTarget stays, since the packet is the part's.
abbrev pub own_reply_by : (ℕ → Bool) → (ℕ → Bool) → Reply → Reply
own_reply_by is_flow is_packet (NoTarget at) = NoTarget at
own_reply_by is_flow is_packet r = reply_by is_flow is_packet r

abbrev pub own_reply_on : Choice → List Call → Reply → Reply
own_reply_on chosen calls r =
    let is_flow = is_flow_on chosen (keys calls) in
    own_reply_by is_flow (is_packet_on chosen is_flow (trace_of calls)) r

-- With the calls of other parts left out and the clock moved to the clock of all, what happens is the part of what happens in all.
abbrev pub PartsHappenAlone : Type 0
PartsHappenAlone = (mine : Target → Bool) (is_own : ℕ → Bool) (calls : List Call) → AreDivided mine is_own calls →
    trace_of (Advance (effective_moment calls) ∷ own_of is_own calls) ≡ part_of (links_of mine) calls

-- And the part's own calls get the part of their replies.
abbrev pub PartsAreAlone : Type 0
PartsAreAlone = (rule : Rule) (mine : Target → Bool) (is_own : ℕ → Bool) (calls : List Call) → AreDivided mine is_own calls → length calls ≤ call_limit →
    replies rule (own_of is_own calls) ≡ map (own_reply_on (links_of mine) calls) (own_of is_own (replies rule calls))
