-- How many bytes the packets of a queue have.
use Rattle.dn_flows.proofs.Words.{AreShort, List, Waiting, [], arith, length, lengths, refl, sum, sum_by-cons, ◌*◌, ◌++◌, ◌+◌, ◌∷◌, ◌≡◌, ◌≤◌}

-- The bytes of a queue are the first packet's and the others'.
pub lengths-cons : (w : Waiting) (ws : List Waiting) → sum (lengths (w ∷ ws)) ≡ w.len + sum (lengths ws)
lengths-cons w ws = sum_by-cons (λ x. x) w.len (lengths ws)

-- A packet at the end adds its length.
pub lengths-push : (ws : List Waiting) (w : Waiting) → sum (lengths (ws ++ w ∷ [])) ≡ sum (lengths ws) + w.len
lengths-push [] w = refl
lengths-push (v ∷ ws) w =
    let all = lengths-cons v (ws ++ w ∷ []) in
    let first = lengths-cons v ws in
    let others = lengths-push ws w in
    omega arith

pub AreShort-push : (ws : List Waiting) (w : Waiting) → AreShort ws → 1 ≤ w.len → w.len ≤ 65535 → AreShort (ws ++ w ∷ [])
AreShort-push [] w short some one = (some, one, tt)
AreShort-push (v ∷ ws) w short some one = (short.0, short.1, AreShort-push ws w short.2 some one)

-- Packets that are short have few bytes.
pub short_bytes : (ws : List Waiting) → AreShort ws → sum (lengths ws) ≤ 65535 * length ws
short_bytes [] short = omega arith
short_bytes (w ∷ ws) short =
    let all = lengths-cons w ws in
    let others = short_bytes ws short.2 in
    omega arith

-- A packet has at least one byte, so there are no more packets than bytes.
pub no_more_than_bytes : (ws : List Waiting) → AreShort ws → length ws ≤ sum (lengths ws)
no_more_than_bytes [] short = omega arith
no_more_than_bytes (w ∷ ws) short =
    let all = lengths-cons w ws in
    let others = no_more_than_bytes ws short.2 in
    omega arith
