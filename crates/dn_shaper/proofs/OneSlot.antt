-- One slot of a schedule is set by an event. The schedule agrees with the trace after it if that slot does, and the other flows are as before.
use Rattle.dn_shaper.proofs.Words.{Ascends, Event, IsScheduleAt, IsSlotAt, Link, List, Some, ap, arith, cases_eq, get-below, get_or-set_other, inl, inr, set, slice_get, subst, sym, virtual_time}
use Rattle.dn_shaper.proofs.Words.{ℕ, ◌∙◌, ◌≡◌, ◌⊎◌}
use Rattle.dn_wf2q.specs.Schedule.{Flow, Schedule, flow_at as slot_at, no_packets}
use Rattle.dn_shaper.proofs.Homes.{slots-apart}

module _ {link : Link} {trace : List Event} {s : Schedule} {slots : List ℕ} (c : IsScheduleAt link trace s slots) (up : Ascends 0 slots) {i flow : ℕ}
    (at : slice_get slots i ≡ Some flow) (t : List Event) (s' : Schedule) (f : Flow) (now : s'.flows ≡ set s.flows i f) where
  kept : (slot : ℕ) → (i ≡ slot → ⊥) → slot_at s'.flows slot ≡ slot_at s.flows slot
  kept slot ne = ap (λ (fs : List Flow). slot_at fs slot) now ∙ get_or-set_other s.flows i slot f no_packets (λ e. ne (sym e))

  pub slot-set : s'.virtual_time ≡ virtual_time link t → IsSlotAt link flow i t (slot_at s'.flows i) →
      ((slot g : ℕ) → (flow ≡ g → ⊥) → IsSlotAt link g slot trace (slot_at s.flows slot) → IsSlotAt link g slot t (slot_at s.flows slot)) → IsScheduleAt link t s' slots
  slot-set time here other = record {
    virtual_time_is = time;
    slots_are = λ slot g e. by slot g e (cases_eq i slot);
    beyond = λ slot le. let lt = get-below slots i flow at in kept slot (λ e. absurd (omega arith)) ∙ c.beyond slot le;
  }
    where
      by : (slot g : ℕ) → slice_get slots slot ≡ Some g → (i ≡ slot) ⊎ (i ≡ slot → ⊥) → IsSlotAt link g slot t (slot_at s'.flows slot)
      by slot g e (inl same) =
          let both : Some flow ≡ Some g = sym at ∙ ap (slice_get slots) same ∙ e in
          let is : flow ≡ g = cc in
          subst (λ (x : ℕ × ℕ). IsSlotAt link x.0 x.1 t (slot_at s'.flows x.1)) (λ j. (is j, same j)) here
      by slot g e (inr ne) =
          subst (λ (x : Flow). IsSlotAt link g slot t x) (sym (kept slot ne)) (other slot g (slots-apart slots up i slot flow g at e ne) (c.slots_are slot g e))
