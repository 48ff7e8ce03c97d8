-- A link that was made for a new flow, on which nothing waits.
use Rattle.dn_shaper.proofs.Words.{Box, Global, IsNewLink, LinkState, OnlyRoom, Own, Shared, SharedLink, [], arith, no_schedule, own, refl, room_at, shared, view_of, ℕ, ◌<◌, ◌∷◌, ◌≡◌}
use Rattle.dn_shaper.proofs.Scheduled.{waits_roomy}

module _ (queues : ℕ → ℕ) (flow pipe : ℕ) (times : LinkState) (free : times.free ≡ 0) (last_due : times.last_due ≡ 0) where
  pub own-new : queues flow ≡ 0 → IsNewLink (own pipe flow) flow (view_of queues (record { pipe = pipe; times = times; carries = Own flow }))
  own-new none = record {
    link_is = refl;
    free = free;
    last_due = last_due;
    waits = none;
    slots = refl;
    schedule = record { virtual_time = refl; flows = λ slot. refl; room = λ slot. omega arith; arrivals = refl };
    room = tt;
  }

  pub shared-new : (s : Box SharedLink Global) → s.value.flows.items ≡ flow ∷ [] → OnlyRoom no_schedule s.value.sched → 0 < room_at s.value.sched.room 0 →
      IsNewLink (shared pipe) flow (view_of queues (record { pipe = pipe; times = times; carries = Shared s }))
  shared-new s slots only room = record {
    link_is = refl;
    free = free;
    last_due = last_due;
    waits = waits_roomy no_schedule s.value.sched only;
    slots = slots;
    schedule = only;
    room = room;
  }
