-- Two numbers below 2^64 in one of 128 bits are in order as the pair of them is.
use Rattle.dn_shaper.proofs.Words.{arith, cases_order, inl, inr, nat_cmp, nat_tests, ordering_then, ℕ, ◌*◌, ◌+◌, ◌<◌, ◌^◌, ◌≡◌}

pub ordered : (a b c d : ℕ) → b < 2 ^ 64 → d < 2 ^ 64 → nat_cmp (a * 2 ^ 64 + b) (c * 2 ^ 64 + d) ≡ ordering_then (nat_cmp a c) (nat_cmp b d)
ordered a b c d lb ld = elim (cases_order a c) [
  | inl e ↦ elim (cases_order b d) [
    | inl f ↦ grind (arith, nat_tests)
    | inr r ↦ elim r [
      | inl l ↦ grind (arith, nat_tests)
      | inr l ↦ grind (arith, nat_tests)
    ]
  ]
  | inr r ↦ elim r [
    | inl l ↦ grind (arith, nat_tests)
    | inr l ↦ grind (arith, nat_tests)
  ]
]
