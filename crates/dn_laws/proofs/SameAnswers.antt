-- Two that obey the laws, with the same readings, answer one call more the same where they agree on the calls before it.
use Rattle.dn_laws.proofs.Words.{List, None, Option, Some, [], ap, arith, leb_tells, refl, subst, suc, sym, with_starts, zero, ℕ, ⊎_elim, ◌*◌, ◌+◌, ◌/◌, ◌<◌, ◌∙◌, ◌∷◌, ◌≡◌, ◌≤◌}
use Rattle.dn_laws.proofs.LawWords.{Readings, IsFirst, IsPick, IsTransmission, pipe_under, IsBy, IsStart, AreStarts, Settles, IsTaggedBy, Joins, Link, Accepted, Start, Event, opened, arrived, started}
use Rattle.dn_laws.proofs.LawWords.{Command, Pipe, Queue, DeletePipe, DeleteQueue, Target, ToPipe}
use Rattle.dn_laws.proofs.SameReadings.{raised-one}

module _ (r : Readings) where
  pub first-one : (link : Link) (t : List Event) (p q : Accepted) → p.stamped.flow ≡ q.stamped.flow → IsFirst r link t p → IsFirst r link t q → p ≡ q
  first-one link t p q same P Q =
      let e : p ∷ P.0 ≡ q ∷ Q.0 = sym P.1 ∙ ap (λ n. r.queue link n t) same ∙ Q.1 in cc

  pick-one : (link : Link) (t : List Event) (p q : Accepted) → IsPick r link t p → IsPick r link t q → p ≡ q
  pick-one link t p q A B = first-one link t p q flows A.first B.first
    where
      to : A.to ≡ B.to
      to = raised-one r r link t A.to B.to (λ flow. refl) refl A.raised B.raised

      mine : (p.stamped.finish_tag ≤ q.stamped.finish_tag) × (p.stamped.finish_tag ≡ q.stamped.finish_tag → p.stamped.flow ≤ q.stamped.flow)
      mine = A.least q B.first (let e = B.eligible in let same = to in omega (arith, e, same))

      other : (q.stamped.finish_tag ≤ p.stamped.finish_tag) × (q.stamped.finish_tag ≡ p.stamped.finish_tag → q.stamped.flow ≤ p.stamped.flow)
      other = B.least p A.first (let e = A.eligible in let same = to in omega (arith, e, same))

      tags : p.stamped.finish_tag ≡ q.stamped.finish_tag
      tags = let a = mine.0 in let b = other.0 in omega (arith, a, b)

      flows : p.stamped.flow ≡ q.stamped.flow
      flows = let a = mine.1 tags in let b = other.1 (sym tags) in omega (arith, a, b)

  sent-one : (bw len a b : ℕ) → IsTransmission bw len a → IsTransmission bw len b → a ≡ b
  sent-one zero len a b A B = A.unlimited refl ∙ sym (B.unlimited refl)
  sent-one (suc n) len a b A B =
      let some : 0 < suc n = omega arith in
      let one : a ≤ b = A.least some b (B.carries some) in
      let other : b ≤ a = B.least some a (A.carries some) in
      omega (arith, one, other)

  by-one : (o : Option Command) (s u : Start) → s.packet ≡ u.packet → IsBy o s → IsBy o u → (s.transmission ≡ u.transmission) × (s.delay ≡ u.delay)
  by-one None s u same A B = absurd A
  by-one (Some (Pipe number bw delay limit loss buckets mask)) s u same A B =
      (sent-one bw u.packet.stamped.len s.transmission u.transmission (subst (λ (p : Accepted). IsTransmission bw p.stamped.len s.transmission) same A.0) B.0, A.1 ∙ sym B.1)
  by-one (Some (Queue number pipe weight limit loss buckets mask)) s u same A B = absurd A
  by-one (Some (DeletePipe number)) s u same A B = absurd A
  by-one (Some (DeleteQueue number)) s u same A B = absurd A

  start-of : (s u : Start) → s.packet ≡ u.packet → s.moment ≡ u.moment → (s.transmission ≡ u.transmission) × (s.delay ≡ u.delay) → s ≡ u
  start-of s u packet moment rest = λ i. record { packet = packet i; moment = moment i; transmission = rest.0 i; delay = rest.1 i }

  start-one : (force : Target → Option Command) (link : Link) (at : ℕ) (s u : Start) (t : List Event) → IsStart r force link at s t → IsStart r force link at u t → s ≡ u
  start-one force link at s u t A B =
      let packet = pick-one link t s.packet u.packet A.next B.next in
      start-of s u packet (A.at_once ∙ sym B.at_once) (by-one (force (ToPipe (pipe_under link))) s u packet A.by_command B.by_command)

  starting : (force : Target → Option Command) (link : Link) (at : ℕ) (s : Start) (t : List Event) → IsStart r force link at s t → AreStarts r force link at [] t → ⊥
  starting force link at s t A busy =
      let first = A.next.first in
      let late : at < r.free link t = busy s.packet.stamped.flow s.packet first.0 first.1 in
      let is : s.moment ≡ r.free link t = A.at_once in
      let by : s.moment ≤ at = A.in_time in
      omega (arith, late, is, by)

  starts-one : (force : Target → Option Command) (link : Link) (at : ℕ) (ss us : List Start) (t : List Event) → AreStarts r force link at ss t → AreStarts r force link at us t →
      with_starts ss t ≡ with_starts us t
  starts-one force link at [] [] t A B = refl
  starts-one force link at [] (u ∷ us) t A B = absurd (starting force link at u t B.0 A)
  starts-one force link at (s ∷ ss) [] t A B = absurd (starting force link at s t A.0 B)
  starts-one force link at (s ∷ ss) (u ∷ us) t A B =
      let same : s ≡ u = start-one force link at s u t A.0 B.0 in
      starts-one force link at ss us (started s ∷ t) A.1 (subst (λ (x : Start). AreStarts r force link at us (started x ∷ t)) (sym same) B.1)
      ∙ ap (λ (x : Start). with_starts us (started x ∷ t)) same

  pub settles-one : (force : Target → Option Command) (link : Link) (at : ℕ) (before after other : List Event) → Settles r force link at before after → Settles r force link at before other → after ≡ other
  settles-one force link at before after other A B = A.adds ∙ starts-one force link at A.starts B.starts before A.are_starts B.are_starts ∙ sym B.adds

  tagged-one : (link : Link) (number flow len weight : ℕ) (before : List Event) (p q : Accepted) → IsTaggedBy r link number flow len weight before p → IsTaggedBy r link number flow len weight before q → p ≡ q
  tagged-one link number flow len weight before p q A B = λ i. record {
    packet = (A.own_number ∙ sym B.own_number) i;
    link = (A.on_link ∙ sym B.on_link) i;
    stamped = record {
      flow = (A.own_flow ∙ sym B.own_flow) i;
      len = (A.own_length ∙ sym B.own_length) i;
      weight = (A.own_weight ∙ sym B.own_weight) i;
      start_tag = tags i;
      finish_tag = (A.cost ∙ ap (λ n. n + len * 65536 / weight) tags ∙ sym B.cost) i;
    };
  }
    where
      by : (queue : List Accepted) → r.queue link flow before ≡ queue → p.stamped.start_tag ≡ q.stamped.start_tag
      by [] e = A.alone e ∙ sym (B.alone e)
      by (x ∷ xs) e = A.behind (λ k. let t : x ∷ xs ≡ [] = sym e ∙ k in absurd cc) ∙ sym (B.behind (λ k. let t : x ∷ xs ≡ [] = sym e ∙ k in absurd cc))

      tags : p.stamped.start_tag ≡ q.stamped.start_tag
      tags = by (r.queue link flow before) refl

  pub joins-one : (force : Target → Option Command) (link : Link) (at number flow len weight : ℕ) (before after other : List Event) →
      Joins r force link at number flow len weight before after → Joins r force link at number flow len weight before other → after ≡ other
  joins-one force link at number flow len weight before after other A B = ⊎_elim (λ le. free le.1) (λ lt. busy lt.1) (leb_tells (r.free link before) at)
    where
      busy : at < r.free link before → after ≡ other
      busy lt =
          let a = A.waits lt in
          let b = B.waits lt in
          a.0 ∙ ap (λ (p : Accepted). arrived p ∷ before) (tagged-one link number flow len weight before A.packet B.packet a.1 b.1) ∙ sym b.0

      free : r.free link before ≤ at → after ≡ other
      free le =
          let a = A.goes le in
          let b = B.goes le in
          let packet : A.packet ≡ B.packet = tagged-one link number flow len weight (opened link ∷ before) A.packet B.packet a.1.1 b.1.1 in
          let own : a.0.packet ≡ b.0.packet = a.1.2 ∙ packet ∙ sym b.1.2 in
          let start : a.0 ≡ b.0 = start-of a.0 b.0 own (a.1.3 ∙ sym b.1.3) (by-one (force (ToPipe (pipe_under link))) a.0 b.0 own a.1.4 b.1.4) in
          a.1.0 ∙ (λ i. started (start i) ∷ arrived (packet i) ∷ opened link ∷ before) ∙ sym b.1.0
