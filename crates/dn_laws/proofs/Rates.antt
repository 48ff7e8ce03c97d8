-- What a link sends in a stretch of time.
use Rattle.dn_laws.proofs.Words.{Bool, Event, IsAtBandwidth, KeepsTheRate, Link, List, Start, StartsApart, [], add-mul, ap, arith, arrived, cond, false, free, link_eq, mul-le-mul_right, refl}
use Rattle.dn_laws.proofs.Words.{sent, started, subst, sym, transmission_time, true, ℕ, ◌*◌, ◌++◌, ◌+◌, ◌<◌, ◌^◌, ◌∙◌, ◌∷◌, ◌≡◌, ◌≤◌}
use Rattle.dn_types.proofs.{Fifo.IsProper, Ordered.suffix-proper, Ordered.trace-proper, Settled.link_eq-refl, Settled.link_eq-true, TransmissionTime.transmission-is-least}

-- A link is free later and later.
pub free-later : (link : Link) (stretch earlier : List Event) → IsProper (stretch ++ earlier) → free link earlier ≤ free link (stretch ++ earlier)
free-later link [] earlier h = omega arith
free-later link (arrived p ∷ stretch) earlier h = free-later link stretch earlier h.1
free-later link (started s ∷ stretch) earlier h = by (link_eq s.packet.link link) refl (free-later link stretch earlier h.2)
  where
    by : (b : Bool) → link_eq s.packet.link link ≡ b → free link earlier ≤ free link (stretch ++ earlier) →
        free link earlier ≤ cond b (s.moment + s.transmission) (free link (stretch ++ earlier))
    by true e rest = let same = ap (λ (l : Link). free l (stretch ++ earlier)) (link_eq-true s.packet.link link e) in let soon = h.1 in omega arith
    by false e rest = rest
free-later link (_ ∷ stretch) earlier h = free-later link stretch earlier h

free-after : (r : Start) (earlier : List Event) → free r.packet.link (started r ∷ earlier) ≡ r.moment + r.transmission
free-after r earlier = ap {B = ℕ} (λ b. cond b (r.moment + r.transmission) (free r.packet.link earlier)) (link_eq-refl r.packet.link)

pub shape : (later between : List Event) (e : Event) (earlier : List Event) → (later ++ e ∷ between) ++ earlier ≡ later ++ (e ∷ (between ++ earlier))
shape [] between e earlier = refl
shape (x ∷ later) between e earlier = ap (λ (r : List Event). x ∷ r) (shape later between e earlier)

pub starts-apart : StartsApart
starts-apart calls later between earlier s r e same =
    let h = suffix-proper later (started s ∷ (between ++ started r ∷ earlier)) (subst IsProper (e ∙ shape later between (started s) (started r ∷ earlier)) (trace-proper calls)) in
    let rises = free-later r.packet.link between (started r ∷ earlier) h.2 in
    let there = ap (λ (l : Link). free l (between ++ started r ∷ earlier)) same in
    let first = free-after r earlier in
    let soon = h.1 in
    omega arith

module _ (bw : ℕ) (some : 0 < bw) (r : Start) (earlier : List Event) where
  abbrev link : Link
  link = r.packet.link

  fits : (len transmission : ℕ) → transmission ≡ transmission_time bw len → len * 8 * 10 ^ 9 ≤ transmission * bw
  fits len transmission e = subst (λ t. len * 8 * 10 ^ 9 ≤ t * bw) (sym e) (transmission-is-least bw len some).0

  -- The bits that were sent by the time when the link is free.
  by-free : (between : List Event) → IsProper (between ++ started r ∷ earlier) → IsAtBandwidth bw r.packet.link (between ++ started r ∷ []) →
      sent r.packet.link (between ++ started r ∷ []) * 8 * 10 ^ 9 + r.moment * bw ≤ free r.packet.link (between ++ started r ∷ earlier) * bw
  by-free [] h at =
      let f = fits r.packet.stamped.len r.transmission (at.0 (link_eq-refl r.packet.link)) in
      let here : cond (link_eq r.packet.link r.packet.link) r.packet.stamped.len 0 ≡ r.packet.stamped.len = ap {B = ℕ} (λ b. cond b r.packet.stamped.len 0) (link_eq-refl r.packet.link) in
      let product : free r.packet.link (started r ∷ earlier) * bw ≡ (r.moment + r.transmission) * bw = ap {B = ℕ} (λ t. t * bw) (free-after r earlier) in
      let sum = add-mul r.moment r.transmission bw in
      omega arith
  by-free (arrived p ∷ between) h at = by-free between h.1 at
  by-free (started s ∷ between) h at = by (link_eq s.packet.link r.packet.link) refl (by-free between h.2 at.1)
    where
      by : (b : Bool) → link_eq s.packet.link r.packet.link ≡ b →
          sent r.packet.link (between ++ started r ∷ []) * 8 * 10 ^ 9 + r.moment * bw ≤ free r.packet.link (between ++ started r ∷ earlier) * bw
          → (cond b s.packet.stamped.len 0 + sent r.packet.link (between ++ started r ∷ [])) * 8 * 10 ^ 9 + r.moment * bw
          ≤ cond b (s.moment + s.transmission) (free r.packet.link (between ++ started r ∷ earlier)) * bw
      by true e rest =
          let f = fits s.packet.stamped.len s.transmission (at.0 e) in
          let there = ap (λ (l : Link). free l (between ++ started r ∷ earlier)) (link_eq-true s.packet.link r.packet.link e) in
          let soon : free r.packet.link (between ++ started r ∷ earlier) ≤ s.moment = let first = h.1 in omega arith in
          let wide = mul-le-mul_right bw soon in
          let sum = add-mul s.moment s.transmission bw in
          omega arith
      by false e rest = omega (arith, rest)
  by-free (_ ∷ between) h at = by-free between h at

pub keeps-the-rate : KeepsTheRate
keeps-the-rate calls later between earlier s r bw e same some at =
    let h = suffix-proper later (started s ∷ (between ++ started r ∷ earlier)) (subst IsProper (e ∙ shape later between (started s) (started r ∷ earlier)) (trace-proper calls)) in
    let bits = by-free bw some r earlier between h.2 at in
    let there = ap (λ (l : Link). free l (between ++ started r ∷ earlier)) same in
    let soon = h.1 in
    let wide : free r.packet.link (between ++ started r ∷ earlier) * bw ≤ s.moment * bw = mul-le-mul_right bw (omega (arith, there, soon)) in
    omega arith
