-- Flows: the masked packets that are told apart, numbered in order of first sight (`mask` of ipfw(8)).
use Rattle.std.specs.Prelude.{ℕ, Bool, cond, ◌&&◌, List, [], ◌∷◌, ◌++◌, nat_eq, bit_and, Option, Some, None}
use Rattle.std.specs.List.{list_any, position_or_len}
use Rattle.dn_types.specs.Configuration.{target_eq, settings}
use Rattle.dn_types.specs.declared.call.Call.{Call}
use Rattle.dn_types.specs.declared.call.Call.TheVariants.{Submit}
use Rattle.dn_types.specs.declared.target.Target.{Target}
use Rattle.dn_types.specs.declared.command.Command.{Command}
use Rattle.dn_types.specs.declared.command.Command.TheVariants.{Pipe, Queue}
use Rattle.dn_types.specs.declared.flow_key.FlowKey.{FlowKey}
use Rattle.dn_types.specs.declared.limit.Limit.{Limit}
use Rattle.dn_types.specs.declared.five_tuple.FiveTuple.{FiveTuple}
use Rattle.dn_types.specs.declared.mask.Mask.{Mask}

-- Whether two five-tuples, two masks and two keys are the same.
abbrev pub tuple_eq : FiveTuple → FiveTuple → Bool
tuple_eq a b = nat_eq a.src b.src && nat_eq a.dst b.dst && nat_eq a.proto b.proto && nat_eq a.sport b.sport && nat_eq a.dport b.dport

abbrev pub mask_eq : Mask → Mask → Bool
mask_eq a b = nat_eq a.src b.src && nat_eq a.dst b.dst && nat_eq a.proto b.proto && nat_eq a.sport b.sport && nat_eq a.dport b.dport

abbrev pub key_eq : FlowKey → FlowKey → Bool
key_eq a b = target_eq a.target b.target && nat_eq a.pipe b.pipe && mask_eq a.mask b.mask && tuple_eq a.tuple b.tuple

-- The bits of the tuple that the mask keeps, field by field.
abbrev pub masked : Mask → FiveTuple → FiveTuple
masked m t = record { src = bit_and t.src m.src; dst = bit_and t.dst m.dst; proto = bit_and t.proto m.proto; sport = bit_and t.sport m.sport; dport = bit_and t.dport m.dport }

-- How packets to a target are treated: the pipe that carries them, their weight, and the mask, the loss rate and
-- the limit that judge them. A packet to a queue is judged by the queue alone.
pub record Treatment : Type 0 where
  pub pipe : ℕ
  pub weight : ℕ
  pub mask : Mask
  pub loss : ℕ
  pub limit : Limit

-- The treatment by what is in force for the target. A pipe's own packets have weight 1.
abbrev pub treatment : Option Command → Option Treatment
treatment (Some (Pipe number bw delay limit loss buckets mask)) = Some (record { pipe = number; weight = 1; mask = mask; loss = loss; limit = limit })
treatment (Some (Queue number pipe weight limit loss buckets mask)) = Some (record { pipe = pipe; weight = weight; mask = mask; loss = loss; limit = limit })
treatment _ = None

-- The key of a packet's flow.
abbrev pub key_of : Target → FiveTuple → Treatment → FlowKey
key_of target tuple how = record { target = target; pipe = how.pipe; mask = how.mask; tuple = masked how.mask tuple }

-- The number of the flow with a key: its place among the known keys, and for a new one the place behind the last.
abbrev pub flow_number : List FlowKey → FlowKey → ℕ
flow_number known key = position_or_len (key_eq key) known

-- The known keys with one more, unless it is among them.
abbrev pub with_key : FlowKey → List FlowKey → List FlowKey
with_key key known = cond (list_any (key_eq key) known) known (known ++ key ∷ [])

-- The known keys after a packet to a target. Without a treatment it has no flow.
abbrev pub keys_with : Target → FiveTuple → Option Treatment → List FlowKey → List FlowKey
keys_with target tuple None known = known
keys_with target tuple (Some how) known = with_key (key_of target tuple how) known

-- The keys of all flows, in order of first sight. A packet makes its flow even where it is lost or refused, and
-- flows never expire.
abbrev pub keys : List Call → List FlowKey
keys [] = []
keys (Submit target packet moment ∷ calls) = keys_with target packet.tuple (treatment (settings calls target)) (keys calls)
keys (_ ∷ calls) = keys calls
