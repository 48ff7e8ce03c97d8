-- The transmission time is the least that is long enough, and none where the bandwidth is unlimited.
use Rattle.dn_types.proofs.Words.{ap, arith, cond, div-lt_iff_lt-mul, false, lt-div-mul-add, nat_eq, nat_tests, refl, suc, suc-mul, transmission_time, ℕ, ◌*◌, ◌+◌, ◌-◌, ◌/◌, ◌<◌, ◌^◌, ◌≡◌, ◌≤◌}

module _ (bits b : ℕ) (h : 0 < b) where
  enough : bits ≤ (bits + (b - 1)) / b * b
  enough = let over = lt-div-mul-add {a = bits + (b - 1)} h in omega arith

  least : (t : ℕ) → bits ≤ t * b → (bits + (b - 1)) / b ≤ t
  least t fits =
      let grown : suc t * b ≡ t * b + b = suc-mul t b in
      let below : (bits + (b - 1)) / b < suc t = (div-lt_iff_lt-mul {y = suc t} h).1 (omega (arith, grown, fits, h)) in
      omega arith

pub transmission-is-least : (bandwidth len : ℕ) → 0 < bandwidth
    → (len * 8 * 10 ^ 9 ≤ transmission_time bandwidth len * bandwidth) × ((t : ℕ) → len * 8 * 10 ^ 9 ≤ t * bandwidth → transmission_time bandwidth len ≤ t)
transmission-is-least bandwidth len h =
    let bits : len * 8 * 10 ^ 9 ≡ len * 8000000000 = omega arith in
    let limited : nat_eq bandwidth 0 ≡ false = grind (arith, nat_tests) in
    let time : transmission_time bandwidth len ≡ (len * 8000000000 + (bandwidth - 1)) / bandwidth = ap {B = ℕ} (λ c. cond c 0 ((len * 8000000000 + (bandwidth - 1)) / bandwidth)) limited in
    let product : transmission_time bandwidth len * bandwidth ≡ (len * 8000000000 + (bandwidth - 1)) / bandwidth * bandwidth = ap {B = ℕ} (λ t. t * bandwidth) time in
    let long = enough (len * 8000000000) bandwidth h in
    (omega (arith, bits, product, long), λ t fits. let short = least (len * 8000000000) bandwidth h t (omega (arith, bits, fits)) in omega (arith, time, short))

pub unlimited-takes-no-time : (len : ℕ) → transmission_time 0 len ≡ 0
unlimited-takes-no-time len = refl
