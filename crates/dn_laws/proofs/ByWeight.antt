-- What two waiting flows get in bytes, by their weights.
use Rattle.dn_laws.proofs.Words.{Accepted, All, Bool, CostsAtMost, EachThatWaits, Event, IsWeighted, List, SharesByWeight, Some, Start, [], ap, arith, arrived, backlog, bytes_sent, cond}
use Rattle.dn_laws.proofs.Words.{div-lt_iff_lt-mul, div-mul-le_self, false, get_or, is_of, lt-div-mul-add, mul-le-mul_right, packets_sent, refl, share, shared, slice_get, started, subst, sym}
use Rattle.dn_laws.proofs.Words.{true, ℕ, ◌*◌, ◌++◌, ◌+◌, ◌-◌, ◌/◌, ◌<◌, ◌∷◌, ◌≡◌, ◌≤◌}
use Rattle.dn_laws.proofs.Fair.{start-first, shares-fairly}
use Rattle.dn_laws.proofs.Rates.{shape}
use Rattle.dn_laws.proofs.Steady.{IsSteady, Arrive, all-waiting, waits-after, steady, suffix-steady}

-- A length over a weight, times the weight, is the length but for what was rounded off.
rounded : (len weight : ℕ) → 0 < weight → (len * 65536 / weight * weight ≤ len * 65536) × (len * 65536 ≤ (len * 65536 / weight + 1) * weight)
rounded len weight some =
    let low = div-mul-le_self (len * 65536) weight in
    let high = lt-div-mul-add {a = len * 65536} some in
    (low, omega (arith, high))

-- One packet more, of a cost and a length.
one-more : (cost share weight len bytes packets : ℕ) → (cost * weight ≤ len * 65536) × (len * 65536 ≤ (cost + 1) * weight) → (share * weight ≤ bytes * 65536)
    × (bytes * 65536 ≤ (share + packets) * weight) →
    ((cost + share) * weight ≤ (len + bytes) * 65536) × ((len + bytes) * 65536 ≤ (cost + share + (1 + packets)) * weight)
one-more cost share weight len bytes packets one rest =
    let low = one.0 in
    let high = one.1 in
    (omega (arith, low, rest.0), omega (arith, high, rest.1))

module _ (pipe flow weight longest : ℕ) (some : 0 < weight) where
  abbrev IsTagged : Accepted → Type 0
  IsTagged p = p.stamped.finish_tag ≡ p.stamped.start_tag + p.stamped.len * 65536 / p.stamped.weight

  abbrev IsOfWeight : Accepted → Type 0
  IsOfWeight p = IsTagged p × IsWeighted weight longest p

  arrive-tagged : (t : List Event) → IsSteady t → Arrive (shared pipe) flow IsTagged t
  arrive-tagged [] h = tt
  arrive-tagged (arrived p ∷ t) h = (λ e. h.0.2, arrive-tagged t h.1)
  arrive-tagged (_ ∷ t) h = arrive-tagged t h.1

  -- Each packet that waits in the stretch is tagged by the weight.
  tagged-by : (stretch earlier : List Event) → IsSteady (stretch ++ earlier) → EachThatWaits (IsWeighted weight longest) (shared pipe) flow stretch earlier →
      EachThatWaits IsOfWeight (shared pipe) flow stretch earlier
  tagged-by [] earlier h w = let tags = all-waiting (shared pipe) flow IsTagged earlier (arrive-tagged earlier h) in λ k d lt. (tags k d lt, w k d lt)
  tagged-by (arrived p ∷ stretch) earlier h w = (λ e. (h.0.2, w.0 e), tagged-by stretch earlier h.1 w.1)
  tagged-by (_ ∷ stretch) earlier h w = tagged-by stretch earlier h.1 w

  first-of : (q : List Accepted) (p : Accepted) → slice_get q 0 ≡ Some p → All IsOfWeight q → IsOfWeight p
  first-of [] p e all = absurd cc
  first-of (x ∷ q) p e all = let same : x ≡ p = cc in subst IsOfWeight same (all 0 x (omega arith))

  -- A start of the flow is of a packet with its weight.
  start-weighted : (s : Start) (stretch earlier : List Event) → IsSteady (started s ∷ (stretch ++ earlier)) → EachThatWaits IsOfWeight (shared pipe) flow stretch earlier →
      is_of (shared pipe) flow s.packet ≡ true → IsOfWeight s.packet
  start-weighted s stretch earlier h w is =
      first-of (backlog (shared pipe) flow (stretch ++ earlier)) s.packet (start-first pipe flow s (stretch ++ earlier) h.0 is).1 (waits-after (shared pipe) flow IsOfWeight stretch earlier w)

  -- Over a stretch the costs, times the weight, are the bytes but for what was rounded off.
  in-bytes : (stretch earlier : List Event) → IsSteady (stretch ++ earlier) → EachThatWaits IsOfWeight (shared pipe) flow stretch earlier →
      (share (shared pipe) flow stretch * weight ≤ bytes_sent (shared pipe) flow stretch * 65536)
      × (bytes_sent (shared pipe) flow stretch * 65536 ≤ (share (shared pipe) flow stretch + packets_sent (shared pipe) flow stretch) * weight)
  in-bytes [] earlier h w = (omega arith, omega arith)
  in-bytes (started s ∷ stretch) earlier h w = by (is_of (shared pipe) flow s.packet) refl (in-bytes stretch earlier h.1 w)
    where
      by : (b : Bool) → is_of (shared pipe) flow s.packet ≡ b →
          (share (shared pipe) flow stretch * weight ≤ bytes_sent (shared pipe) flow stretch * 65536)
          × (bytes_sent (shared pipe) flow stretch * 65536 ≤ (share (shared pipe) flow stretch + packets_sent (shared pipe) flow stretch) * weight) →
          ((cond b (s.packet.stamped.finish_tag - s.packet.stamped.start_tag) 0 + share (shared pipe) flow stretch) * weight
          ≤ (cond b s.packet.stamped.len 0 + bytes_sent (shared pipe) flow stretch) * 65536)
          × ((cond b s.packet.stamped.len 0 + bytes_sent (shared pipe) flow stretch) * 65536
          ≤ (cond b (s.packet.stamped.finish_tag - s.packet.stamped.start_tag) 0 + share (shared pipe) flow stretch + (cond b 1 0 + packets_sent (shared pipe) flow stretch)) * weight)
      by true is rest =
          let p = start-weighted s stretch earlier h w is in
          let r = rounded s.packet.stamped.len weight some in
          let tags = p.0 in
          let same = ap {B = ℕ} (λ k. s.packet.stamped.len * 65536 / k) p.1.0 in
          let cost : s.packet.stamped.finish_tag - s.packet.stamped.start_tag ≡ s.packet.stamped.len * 65536 / weight = omega (arith, tags, same) in
          one-more (s.packet.stamped.finish_tag - s.packet.stamped.start_tag) (share (shared pipe) flow stretch) weight s.packet.stamped.len
          (bytes_sent (shared pipe) flow stretch) (packets_sent (shared pipe) flow stretch)
          (subst (λ (k : ℕ). (k * weight ≤ s.packet.stamped.len * 65536) × (s.packet.stamped.len * 65536 ≤ (k + 1) * weight)) (sym cost) r) rest
      by false is rest = (omega (arith, rest.0), omega (arith, rest.1))
  in-bytes (arrived p ∷ stretch) earlier h w = in-bytes stretch earlier h.1 w.1
  in-bytes (_ ∷ stretch) earlier h w = in-bytes stretch earlier h.1 w

  -- No packet costs more than the longest.
  cost-at-most : (p : Accepted) → IsOfWeight p → CostsAtMost (longest * 65536 / weight) p
  cost-at-most p is =
      let tags = is.0 in
      let short = is.1.1 in
      let same = ap {B = ℕ} (λ k. p.stamped.len * 65536 / k) is.1.0 in
      let less : p.stamped.len * 65536 ≤ longest * 65536 = omega (arith, short) in
      let high = lt-div-mul-add {a = longest * 65536} some in
      let below : p.stamped.len * 65536 < (longest * 65536 / weight + 1) * weight = omega (arith, less, high) in
      let most = (div-lt_iff_lt-mul {k = weight} {x = p.stamped.len * 65536} {y = longest * 65536 / weight + 1} some).1 below in
      omega (arith, tags, same, most)

  at-most-longest : (stretch earlier : List Event) → EachThatWaits IsOfWeight (shared pipe) flow stretch earlier →
      EachThatWaits (CostsAtMost (longest * 65536 / weight)) (shared pipe) flow stretch earlier
  at-most-longest [] earlier w = λ k d lt. cost-at-most (get_or (backlog (shared pipe) flow earlier) k d) (w k d lt)
  at-most-longest (arrived p ∷ stretch) earlier w = (λ e. cost-at-most p (w.0 e), at-most-longest stretch earlier w.1)
  at-most-longest (_ ∷ stretch) earlier w = at-most-longest stretch earlier w

-- The costs of two flows, and their bytes.
by-weights : (so si mo mi bo bi count wo wi lo li : ℕ) → so ≤ si + mo + mo + mi → bo * 65536 ≤ (so + count) * wo → si * wi ≤ bi * 65536 → mo * wo ≤ lo * 65536 → mi * wi ≤ li * 65536 →
    bo * wi * 65536 ≤ (bi * wo + 2 * lo * wi + li * wo) * 65536 + count * wi * wo
by-weights so si mo mi bo bi count wo wi lo li fair other one cost_other cost_one =
    let a = mul-le-mul_right wi other in
    let b = mul-le-mul_right wo one in
    let c = mul-le-mul_right wi cost_other in
    let d = mul-le-mul_right wo cost_one in
    let e = mul-le-mul_right (wo * wi) fair in
    omega (arith, a, b, c, d, e)

pub shares-by-weight : SharesByWeight
shares-by-weight calls pipe one other weight_one weight_other longest_one longest_other later stretch earlier r e is w v some_one by_one some_other by_other =
    let all = stretch ++ (started r ∷ []) in
    let h : IsSteady (all ++ earlier) = subst IsSteady (sym (shape stretch [] (started r) earlier)) (suffix-steady later (stretch ++ (started r ∷ earlier)) (subst IsSteady e (steady calls))) in
    let w1 = tagged-by pipe one weight_one longest_one some_one all earlier h by_one in
    let w2 = tagged-by pipe other weight_other longest_other some_other all earlier h by_other in
    let fair = shares-fairly calls pipe one other (longest_one * 65536 / weight_one) (longest_other * 65536 / weight_other) later stretch earlier r e is w v
    (at-most-longest pipe one weight_one longest_one some_one all earlier w1) (at-most-longest pipe other weight_other longest_other some_other all earlier w2) in
    by-weights (share (shared pipe) other all) (share (shared pipe) one all) (longest_other * 65536 / weight_other) (longest_one * 65536 / weight_one)
    (bytes_sent (shared pipe) other all) (bytes_sent (shared pipe) one all) (packets_sent (shared pipe) other all) weight_other weight_one longest_other longest_one
    fair (in-bytes pipe other weight_other longest_other some_other all earlier h w2).1 (in-bytes pipe one weight_one longest_one some_one all earlier h w1).0
    (rounded longest_other weight_other some_other).0 (rounded longest_one weight_one some_one).0
