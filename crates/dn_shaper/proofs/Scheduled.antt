-- How many packets wait in a schedule of which only room was made, or in which a busy period began.
use Rattle.dn_shaper.proofs.Words.{List, OnlyRoom, Stamped, [], ap, arith, forgotten_at, get_or_past, length, refl, suc, sym, zero, ℕ, ◌+◌, ◌∙◌, ◌∷◌, ◌≡◌, ◌≤◌}
use Rattle.dn_wf2q.specs.Schedule.{Flow, Schedule, flow_at as slot_at, forgotten, no_packets, waiting_of}
use Rattle.dn_shaper.proofs.Waiting.{total-same, total-wide}

-- The packets that wait at a slot.
abbrev at_slots : List Flow → ℕ → List Stamped
at_slots flows slot = (slot_at flows slot).backlog

none-beyond : (flows : List Flow) (slot : ℕ) → length flows ≤ slot → at_slots flows slot ≡ []
none-beyond flows slot le = ap (λ (f : Flow). f.backlog) (get_or_past flows slot no_packets le)

pub waits_same : (old new : List Flow) → ((slot : ℕ) → length (at_slots new slot) ≡ length (at_slots old slot)) → waiting_of new ≡ waiting_of old
waits_same old new h =
    let most = length old + length new in
    let a = total-wide (length old) most (at_slots old) (omega arith) (none-beyond old) in
    let b = total-wide (length new) most (at_slots new) (omega arith) (none-beyond new) in
    sym b ∙ total-same most (at_slots old) (at_slots new) h ∙ a

pub waits_roomy : (old new : Schedule) → OnlyRoom old new → waiting_of new.flows ≡ waiting_of old.flows
waits_roomy old new only = waits_same old.flows new.flows (λ slot. ap {B = ℕ} (λ (f : Flow). length f.backlog) (only.flows slot))

pub waits_forgotten : (fs : List Flow) → waiting_of (forgotten fs) ≡ waiting_of fs
waits_forgotten fs = waits_same fs (forgotten fs) (λ slot. ap {B = ℕ} (λ (f : Flow). length f.backlog) (forgotten_at fs slot))
