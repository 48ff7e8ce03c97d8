-- The laws of flows: a mask says which packets are of one flow.
use Rattle.std.specs.Prelude.{ℕ, ◌≡◌, List, ◌∷◌, ◌++◌, bit_and, Option, Some, None, slice_get}
use Rattle.dn_types.specs.Configuration.{settings}
use Rattle.dn_types.specs.Flows.{keys}
use Rattle.dn_types.specs.Replies.{reply}
use Rattle.dn_types.specs.declared.call.Call.{Call}
use Rattle.dn_types.specs.declared.call.Call.TheVariants.{Submit}
use Rattle.dn_types.specs.declared.command.Command.{Command}
use Rattle.dn_types.specs.declared.command.Command.TheVariants.{Pipe, Queue}
use Rattle.dn_types.specs.declared.five_tuple.FiveTuple.{FiveTuple}
use Rattle.dn_types.specs.declared.flow_key.FlowKey.{FlowKey}
use Rattle.dn_types.specs.declared.mask.Mask.{Mask}
use Rattle.dn_types.specs.declared.packet.Packet.{Packet}
use Rattle.dn_types.specs.declared.reply.Reply.{Reply}
use Rattle.dn_types.specs.declared.reply.Reply.TheVariants.{Queued, Lost, Full}
use Rattle.dn_types.specs.declared.rule.Rule.{Rule}
use Rattle.dn_types.specs.declared.target.Target.{Target}

-- The flow that the reply to a packet names, whether the packet was accepted, lost or refused.
abbrev pub flow_told : Reply → Option ℕ
flow_told (Queued at flow number) = Some flow
flow_told (Lost at flow) = Some flow
flow_told (Full at flow) = Some flow
flow_told _ = None

-- The mask of a pipe or a queue, and the pipe that carries its packets.
abbrev pub IsMaskedBy : Command → Mask → ℕ → Type 0
IsMaskedBy (Pipe number bw delay limit loss buckets own) mask carrier = (mask ≡ own) × (carrier ≡ number)
IsMaskedBy (Queue number pipe weight limit loss buckets own) mask carrier = (mask ≡ own) × (carrier ≡ pipe)
IsMaskedBy _ mask carrier = ⊥

-- The five fields with the bits that the mask keeps of each.
abbrev pub kept_by : Mask → FiveTuple → FiveTuple
kept_by mask tuple = record {
  src = bit_and tuple.src mask.src;
  dst = bit_and tuple.dst mask.dst;
  proto = bit_and tuple.proto mask.proto;
  sport = bit_and tuple.sport mask.sport;
  dport = bit_and tuple.dport mask.dport;
}

-- Two packets agree in every bit of every field that the mask keeps.
abbrev pub AgreeUnder : Mask → FiveTuple → FiveTuple → Type 0
AgreeUnder mask a b =
    (bit_and a.src mask.src ≡ bit_and b.src mask.src) × (bit_and a.dst mask.dst ≡ bit_and b.dst mask.dst)
    × (bit_and a.proto mask.proto ≡ bit_and b.proto mask.proto)
    × (bit_and a.sport mask.sport ≡ bit_and b.sport mask.sport) × (bit_and a.dport mask.dport ≡ bit_and b.dport mask.dport)

-- The flow that a reply names has the packet's target, pipe and mask, and the bits that the mask keeps of its fields.
abbrev pub FlowsHaveTheirKeys : Type 0
FlowsHaveTheirKeys = (rule : Rule) (calls : List Call) (target : Target) (packet : Packet) (moment : ℕ) (command : Command) (mask : Mask) (carrier flow : ℕ) →
    settings calls target ≡ Some command → IsMaskedBy command mask carrier → flow_told (reply rule calls (Submit target packet moment)) ≡ Some flow →
    slice_get (keys (Submit target packet moment ∷ calls)) flow ≡ Some (record { target = target; pipe = carrier; mask = mask; tuple = kept_by mask packet.tuple })

-- A flow keeps its number and its key.
abbrev pub FlowsStay : Type 0
FlowsStay = (calls : List Call) (c : Call) (flow : ℕ) (key : FlowKey) → slice_get (keys calls) flow ≡ Some key →
    slice_get (keys (c ∷ calls)) flow ≡ Some key

-- Two packets to a target with one mask are of one flow exactly where they agree in all that the mask keeps: a packet's
-- length, its random word, its moment and the bits that the mask leaves out play no part.
abbrev pub FlowsAreByMask : Type 0
FlowsAreByMask = (rule : Rule) (calls between : List Call) (target : Target) (a b : Packet) (m n : ℕ) (first second : Command) (mask : Mask) (carrier f g : ℕ) →
    settings calls target ≡ Some first → IsMaskedBy first mask carrier → settings (between ++ Submit target a m ∷ calls) target ≡ Some second →
    IsMaskedBy second mask carrier →
    flow_told (reply rule calls (Submit target a m)) ≡ Some f →
    flow_told (reply rule (between ++ Submit target a m ∷ calls) (Submit target b n)) ≡ Some g →
    (AgreeUnder mask a.tuple b.tuple → f ≡ g) × (f ≡ g → AgreeUnder mask a.tuple b.tuple)
