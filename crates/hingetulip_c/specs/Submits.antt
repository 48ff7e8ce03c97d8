-- A packet of C's as a call, when its numbers are in range, and what its reply is in C's words.
use Rattle.std.specs.Prelude.{◌≡◌, ℕ, ◌^◌, ◌≤◌, ◌<◌, ◌⊎◌, cond, nat_eq}
use Rattle.dn_types.specs.declared.call.Call.{Call}
use Rattle.dn_types.specs.declared.call.Call.TheVariants.{Submit}
use Rattle.dn_types.specs.declared.reply.Reply.{Reply}
use Rattle.dn_types.specs.declared.reply.Reply.TheVariants.{Queued, Lost, Full, NoTarget}
use Rattle.dn_types.specs.declared.target.Target.TheVariants.{Pipe, Queue}
use Rattle.hingetulip_c.specs.declared.records.c_fate.CFate.{CFate}
use Rattle.hingetulip_c.specs.declared.records.c_packet.CPacket.{CPacket}

-- The call that a packet makes.
abbrev pub submit_of : CPacket → Call
submit_of p = Submit (cond (nat_eq p.kind 0) (Pipe p.number) (Queue p.number)) (record {
  tuple = record { src = p.src; dst = p.dst; proto = p.proto; sport = p.sport; dport = p.dport };
  len = p.length;
  word = p.word;
}) p.moment

-- Each number of the packet is in range.
pub record InRange (p : CPacket) : Type 0 where
  pub moment : p.moment ≤ 2 ^ 62
  pub kind : p.kind ≤ 1
  pub number : 1 ≤ p.number
  pub length : 1 ≤ p.length
  pub reserved : p.reserved ≡ 0

-- The status tells of a moment that is out of range (9).
abbrev pub FaultyMoment : ℕ → ℕ → Type 0
FaultyMoment moment status = (status ≡ 9) × (2 ^ 62 < moment)

-- The status tells of a number of the packet that is out of range.
abbrev pub Faulty : CPacket → ℕ → Type 0
Faulty p status = FaultyMoment p.moment status ⊎ ((status ≡ 11) × (1 < p.kind)) ⊎ ((status ≡ 12) × (p.number ≡ 0))
    ⊎ ((status ≡ 13) × (p.length ≡ 0)) ⊎ ((status ≡ 14) × (0 < p.reserved))

-- The status tells of a number that is out of range, or each is in range and this is so.
abbrev pub FaultyMomentOr : ℕ → ℕ → Type 0 → Type 0
FaultyMomentOr moment status is = FaultyMoment moment status ⊎ ((moment ≤ 2 ^ 62) × is)

abbrev pub FaultyOr : CPacket → ℕ → Type 0 → Type 0
FaultyOr p status is = Faulty p status ⊎ (InRange p × is)

-- The status that a Submit's reply is.
abbrev pub fate_status : Reply → ℕ
fate_status (Queued at flow packet) = 0
fate_status (Lost at flow) = 0
fate_status (Full at flow) = 0
fate_status (NoTarget at) = 0
fate_status _ = 1

-- The fate that it tells. A reply that tells none leaves what was there.
abbrev pub fate_of : CFate → Reply → CFate
fate_of old (Queued at flow packet) = record { at = at; flow = flow; packet = packet; outcome = 0; reserved = 0 }
fate_of old (Lost at flow) = record { at = at; flow = flow; packet = 0; outcome = 1; reserved = 0 }
fate_of old (Full at flow) = record { at = at; flow = flow; packet = 0; outcome = 2; reserved = 0 }
fate_of old (NoTarget at) = record { at = at; flow = 0; packet = 0; outcome = 3; reserved = 0 }
fate_of old _ = old
