-- What becomes of a packet whose flow is known, after a settling.
use Rattle.std.specs.Prelude.{◌≡◌, ℕ, ◌<◌, ◌^◌, cond, List, [], ◌∷◌, length, map}
use Rattle.dn_heap.specs.Heap.{Heap}
use Rattle.dn_types.specs.Calls.{link_of, Verdict, loses, refuses, takes, after_verdict}
use Rattle.dn_types.specs.Configuration.{Settings}
use Rattle.dn_types.specs.Drops.{is_lost, is_full}
use Rattle.dn_types.specs.Flows.{Treatment}
use Rattle.dn_types.specs.Replies.{reply_to_verdict}
use Rattle.dn_types.specs.Starts.{settled}
use Rattle.dn_types.specs.Trace.{Link, Event, backlog, links, with_link}
use Rattle.dn_types.specs.declared.packet.Packet.{Packet}
use Rattle.dn_types.specs.declared.reply.Reply.{Reply}
use Rattle.dn_types.specs.declared.target.Target.{Target}
use Rattle.dn_shaper.specs.declared.links.next_start.NextStart.{NextStart}
use Rattle.dn_shaper.specs.declared.links.parts.Parts.{Parts}
use Rattle.dn_shaper.specs.declared.settings.treatment.Treatment.{Treatment as TreatmentParts}
use Rattle.dn_shaper.specs.Refinement.Views.{views_of, home}
use Rattle.dn_shaper.specs.Refinement.Agreement.{AgreesWith, link_names}
use Rattle.dn_shaper.specs.Refinement.Arriving.{CanAccept}
use Rattle.dn_shaper.specs.Refinement.Settling.{AreInStep}
use Rattle.dn_shaper.specs.Refinement.Starting.{IsReady, Within}

-- The links are those that are seen once the flow's packet is.
abbrev pub IsMade : ℕ → Parts → List Event → Type 0
IsMade flow p trace = link_names (views_of p) ≡ with_link (home p.flows.keys flow) (links trace)

-- The flow is at home on the link of a flow whose packets go to the target.
abbrev pub GoesTo : ℕ → Target → Parts → Type 0
GoesTo flow target p = (pipe : ℕ) × (home p.flows.keys flow ≡ link_of target flow pipe)

-- There is a trace that the parts agree with, in which the flow's link is seen or made for this packet.
abbrev pub CanSee : ℕ → Parts → Type 0
CanSee flow p = (more : List Link) × (trace : List Event) × AgreesWith p more trace × IsMade flow p trace

-- Whatever trace the parts agreed with, they agree with it and the event.
abbrev pub Sees : ℕ → (Link → ℕ → Event) → Parts → Parts → Type 0
Sees flow event old new = (more : List Link) (trace : List Event) → AgreesWith old more trace → IsMade flow old trace → AgreesWith new [] (event (home old.flows.keys flow) flow ∷ trace)

-- The treatment by which packets are judged.
abbrev pub treatment_of : TreatmentParts → Treatment
treatment_of t = record { pipe = t.pipe; weight = t.weight; mask = t.mask; loss = t.drops.loss; limit = t.drops.limit }

-- What becomes of a packet of the flow on the link.
abbrev pub verdict_on : Link → ℕ → Treatment → Packet → List Event → Verdict
verdict_on link flow how packet trace = cond (is_lost how.loss packet.word) (loses link flow) (cond (is_full how.limit (map (λ p. p.stamped.len) (backlog link flow trace))) (refuses link flow) (takes link flow how))

-- Whatever trace the parts agreed with, the answer is that of the verdict after a settling, and the parts agree with what
-- the verdict makes happen.
abbrev pub Answers : Settings → ℕ → ℕ → Packet → Treatment → Parts → Parts → Reply → Type 0
Answers settings at flow packet how old new reply =
    (more : List Link) (trace : List Event) → AgreesWith old more trace → IsMade flow old trace →
    let link = home old.flows.keys flow in
    let before = settled settings at trace in
    let verdict = verdict_on link flow how packet before in
    (reply ≡ reply_to_verdict at verdict before) × AgreesWith new [] (after_verdict settings at packet verdict before)

-- What it takes to accept a packet of the flow: the parts and the heap of links are in step, the flow is known and has room, no
-- count is at its limit, and nothing is due on the flow's link.
pub record MayAccept (settings : Settings) (at flow : ℕ) (p : Parts) (heap : Heap NextStart) : Type 0 where
  pub kept : AreInStep p heap
  pub within : flow < length p.flows.keys
  pub ready : IsReady flow p
  pub few : (n : ℕ) × (n < 2 ^ 62) × Within n p
  pub settled : CanAccept settings at flow p
