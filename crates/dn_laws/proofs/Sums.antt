-- The time from a packet's Submit to its due moment is the sum of its parts.
use Rattle.dn_laws.proofs.Words.{All, DelaysAddUp, IsLack, List, arith, get_or, refl, subst, sym, ℕ, ◌++◌, ◌+◌, ◌-◌, ◌∙◌, ◌∷◌, ◌≡◌, ◌≤◌}
use Rattle.dn_laws.proofs.LawWords.{trace_of, effective_moment, undelivered, AreInOrder, IsDueBy, IsDeliveryOf, last_due, reply, IsDelayed, Start, Call, Submit, Collect, Delivery, Packet, Queued}
use Rattle.dn_laws.proofs.LawWords.{Delivered, Exhausted, Rule, Free, Ordered, Target}
use Rattle.dn_laws.proofs.{Delays.delays-are-explained, Exactly.waits-for-its-link, ToldCounts.told-few, ToldDeliveries.collects-are-told, Timely.made-by, Timely.none-starts-early}

lack-by : (rule : Rule) (s : Start) (last start due : ℕ) → start ≡ s.moment → IsDueBy rule s last due → (lack : ℕ) × IsLack rule last (start + s.transmission + s.delay) lack
    × (due ≡ start + s.transmission + s.delay + lack)
lack-by Free s last start due is h = (0, refl, omega (arith, is, h))
lack-by Ordered s last start due is h = (last - (start + s.transmission + s.delay), refl, omega (arith, is, h))

module _ (rule : Rule) (after calls : List Call) (target : Target) (packet : Packet) (moment at flow number : ℕ)
    (told : reply rule calls (Submit target packet moment) ≡ Queued at flow number) where
  abbrev all : List Call
  all = after ++ Submit target packet moment ∷ calls

  -- A delivery of the packet, whether it was given or is still to be given.
  one : (d : Delivery) → IsDeliveryOf rule (trace_of (after ++ Submit target packet moment ∷ calls)) d → d.packet ≡ number → IsDelayed rule (after ++ Submit target packet moment ∷ calls) at d
  one d h mine =
      let early = none-starts-early rule after calls target packet moment at flow number h.later h.earlier h.start told h.happened (sym h.number ∙ mine) in
      let same = h.moment in
      let exact = waits-for-its-link rule after calls target packet moment at flow number h.later h.earlier h.start told h.happened (sym h.number ∙ mine) in
      let l = lack-by rule h.start (last_due rule h.start.packet.link h.earlier) d.start d.due h.moment h.due in
      let whole = l.2 in
      record {
        start = h.start;
        later = h.later;
        earlier = h.earlier;
        happened = h.happened;
        own = h.number;
        made = made-by all h.later h.earlier h.start h.happened;
        wait = d.start - at;
        lack = l.0;
        waits = omega (arith, early, same);
        busy = omega (arith, exact, same);
        lacks = l.1;
        sum = omega (arith, early, same, whole);
      }

pub delays-add-up : DelaysAddUp
delays-add-up rule after calls target packet moment at flow number told = λ k x lt.
    let t = trace_of (after ++ Submit target packet moment ∷ calls) in
    one rule after calls target packet moment at flow number told (get_or (undelivered rule t) k x) ((delays-are-explained rule 0 t).0 k x lt)

pub delivered-delays-add-up : (rule : Rule) (after calls : List Call) (target : Target) (packet : Packet) (moment at flow number collect now' : ℕ) (list : List Delivery) →
    reply rule calls (Submit target packet moment) ≡ Queued at flow number →
    reply rule (after ++ Submit target packet moment ∷ calls) (Collect collect) ≡ Delivered now' list →
    All (λ d. d.packet ≡ number → IsDelayed rule (Collect collect ∷ after ++ Submit target packet moment ∷ calls) at d) list
delivered-delays-add-up rule after calls target packet moment at flow number collect now' list told given =
    subst (λ (ds : List Delivery). All (λ d. d.packet ≡ number → IsDelayed rule (Collect collect ∷ after ++ Submit target packet moment ∷ calls) at d) ds) (sym same)
    (λ k x lt. one rule (Collect collect ∷ after) calls target packet moment at flow number told (get_or deliveries.0 k x) (deliveries.2 k x lt).1)
  where
    deliveries : (ds : List Delivery)
        × (reply rule (after ++ Submit target packet moment ∷ calls) (Collect collect) ≡ Delivered (effective_moment (Collect collect ∷ after ++ Submit target packet moment ∷ calls)) ds)
        × All (λ d. (d.due ≤ effective_moment (Collect collect ∷ after ++ Submit target packet moment ∷ calls))
        × IsDeliveryOf rule (trace_of (Collect collect ∷ after ++ Submit target packet moment ∷ calls)) d) ds
        × AreInOrder ds
    deliveries = collects-are-told rule (after ++ Submit target packet moment ∷ calls) collect
        (told-few rule (after ++ Submit target packet moment ∷ calls) (Collect collect) (λ none. let t : Exhausted ≡ Delivered now' list = sym none ∙ given in cc))

    same : list ≡ deliveries.0
    same = cc (sym given ∙ deliveries.1)
