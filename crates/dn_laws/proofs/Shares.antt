-- Tags by weight, a fair pick, and how virtual time is raised and grows.
use Rattle.dn_laws.proofs.Words.{All, All-cons, All-filter, GrowsByWork, List, None, Option, PickIsLeast, Some, TagsByWeight, [], add-mul, ap, arith, cond, div-mul-le_self, false, filter}
use Rattle.dn_laws.proofs.Words.{filter_passes, first_to_go-one-of, get_or, goes_before, is_eligible, le-leb, leb-true, leb_tells, length, link_eq-refl, lt-div-mul-add, map, max, min, nat_eq}
use Rattle.dn_laws.proofs.Words.{nat_le, nat_lt, nat_tests, refl, subst, sum, sum-map, sum_by-cons, sym, true, ℕ, ⊎_elim, ◌&&◌, ◌*◌, ◌++◌, ◌+◌, ◌/◌, ◌<◌, ◌||◌, ◌∙◌, ◌∷◌, ◌≡◌, ◌≤◌}
use Rattle.dn_laws.proofs.LawWords.{trace_of, accept, link_of, IsTagged, Treatment, treatment, keys, key_of, flow_number, virtual_time, link_heads, last_finish_tag, Link, link_eq, Accepted, Event}
use Rattle.dn_laws.proofs.LawWords.{arrived, started, backlog, Stamped, pick, raised, least_start_tag, weight_sum, grown, Submit, Queue, Packet}
use Rattle.dn_laws.proofs.Begun.{IsCaused, call-causes, adds-among}
use Rattle.dn_laws.proofs.Least.{pick-least}

-- Where one has a greater finish tag, or the same, it doesn't go before.
not-before : (f g m n : ℕ) → (nat_lt f g || nat_eq f g && nat_lt m n) ≡ false → g ≤ f
not-before f g m n h = grind (arith, nat_tests)

pub pick-is-fair : (v : ℕ) (hs : List Stamped) (h : Stamped) → pick v hs ≡ Some h → All (λ x. x.start_tag ≤ x.finish_tag) hs → All (λ x. h.start_tag ≤ x.finish_tag) hs
pick-is-fair v hs h e proper = λ k d lt. one (get_or hs k d) (proper k d lt) (pick-least v hs h e k d lt)
  where
    own' : h.start_tag ≤ h.finish_tag
    own' = first_to_go-one-of (λ x. x.start_tag ≤ x.finish_tag) (filter (is_eligible (raised v hs)) hs) h (All-filter (is_eligible (raised v hs)) (λ x. x.start_tag ≤ x.finish_tag) hs proper) e

    may_go : nat_le h.start_tag (raised v hs) ≡ true
    may_go = first_to_go-one-of (λ x. is_eligible (raised v hs) x ≡ true) (filter (is_eligible (raised v hs)) hs) h (filter_passes (is_eligible (raised v hs)) hs) e

    one : (x : Stamped) → x.start_tag ≤ x.finish_tag → (nat_le x.start_tag (raised v hs) ≡ true → goes_before x h ≡ false) → h.start_tag ≤ x.finish_tag
    one x fits least =
        let soon = leb-true h.start_tag (raised v hs) may_go in
        let own = own' in
        ⊎_elim (λ able. let behind = not-before x.finish_tag h.finish_tag x.flow h.flow (least able.0) in omega arith)
        (λ unable. let later = unable.1 in omega arith) (leb_tells x.start_tag (raised v hs))

no-later : (f g m n : ℕ) → (nat_lt f g || nat_eq f g && nat_lt m n) ≡ false → g ≡ f → n ≤ m
no-later f g m n h e = grind (arith, nat_tests)

pub pick-is-least : PickIsLeast
pick-is-least v hs h e = λ k d lt. one (get_or hs k d) (pick-least v hs h e k d lt)
  where
    one : (x : Stamped) → (nat_le x.start_tag (raised v hs) ≡ true → goes_before x h ≡ false) → x.start_tag ≤ raised v hs → (h.finish_tag ≤ x.finish_tag)
        × (h.finish_tag ≡ x.finish_tag → h.flow ≤ x.flow)
    one x least soon =
        let not_first = least (le-leb x.start_tag (raised v hs) soon) in
        (not-before x.finish_tag h.finish_tag x.flow h.flow not_first, λ tie. no-later x.finish_tag h.finish_tag x.flow h.flow not_first tie)

least-most : (most : ℕ) (hs : List Stamped) → (least_start_tag most hs ≤ most) × All (λ h. least_start_tag most hs ≤ h.start_tag) hs
least-most most [] = (omega arith, λ k d lt. absurd (omega arith))
least-most most (h ∷ hs) =
    let rest = least-most most hs in
    let less = rest.0 in
    (omega arith, All-cons (λ x. min h.start_tag (least_start_tag most hs) ≤ x.start_tag) h hs (omega arith) (λ k d lt. let one = rest.1 k d lt in omega arith))

pub raises-to-the-least : (v : ℕ) (hs : List Stamped) → (v ≤ raised v hs) × All (λ h. raised v hs ≤ max v h.start_tag) hs
raises-to-the-least v [] = (omega arith, λ k d lt. absurd (omega arith))
raises-to-the-least v (h ∷ hs) =
    let rest = least-most h.start_tag hs in
    let less = rest.0 in
    (omega arith, All-cons (λ x. max v (least_start_tag h.start_tag hs) ≤ max v x.start_tag) h hs (omega arith) (λ k d lt. let one = rest.1 k d lt in omega arith))

weights : (hs : List Stamped) → weight_sum hs ≡ sum (map (λ h. h.weight) hs)
weights [] = refl
weights (h ∷ hs) =
    let all = sum-map (λ (x : Stamped). x.weight) (h ∷ hs) in
    let first = sum_by-cons (λ (x : Stamped). x.weight) h hs in
    let rest = sum-map (λ (x : Stamped). x.weight) hs in
    let more = weights hs in
    omega arith

pub grows-by-work : GrowsByWork
grows-by-work link trace s same =
    by (virtual_time link (started s ∷ trace)) (raised (virtual_time link trace) (link_heads link trace)) (sum (map (λ h. h.weight) (link_heads link trace))) (s.packet.stamped.len * 65536) to
  where
    to : virtual_time link (started s ∷ trace) ≡ raised (virtual_time link trace) (link_heads link trace) + s.packet.stamped.len * 65536 / sum (map (λ h. h.weight) (link_heads link trace))
    to = ap {B = ℕ} (λ b. cond b (grown (virtual_time link trace) (link_heads link trace) s.packet.stamped.len) (virtual_time link trace)) (ap (λ (l : Link). link_eq l link) same
        ∙ link_eq-refl link)
        ∙ ap {B = ℕ} (λ w. raised (virtual_time link trace) (link_heads link trace) + s.packet.stamped.len * 65536 / w) (weights (link_heads link trace))

    by : (to from w work : ℕ) → to ≡ from + work / w → 0 < w → (to * w ≤ from * w + work) × (from * w + work < (to + 1) * w)
    by to from w work e some =
        let product : to * w ≡ (from + work / w) * w = ap {B = ℕ} (λ t. t * w) e in
        let sum = add-mul from (work / w) w in
        let low = div-mul-le_self work w in
        let high = lt-div-mul-add {a = work} some in
        let one = add-mul to 1 w in
        (omega arith, omega arith)

pub tagged : (link : Link) (packet : Packet) (flow : ℕ) (how : Treatment) (before : List Event) → IsTagged packet.len how.weight before (accept link packet flow how before)
tagged link packet flow how before = record {
  own_length = refl;
  own_weight = refl;
  cost = refl;
  behind = λ some. ap {B =
      ℕ} (λ b. cond b (max (last_finish_tag link flow before) (virtual_time link before)) (last_finish_tag link flow before)) (not-none (length (backlog link flow before)) some);
  alone = λ none. ap {B =
      ℕ} (λ b. cond b (max (last_finish_tag link flow before) (virtual_time link before)) (last_finish_tag link flow before)) (is-none (length (backlog link flow before)) none);
}
  where
    not-none : (n : ℕ) → 0 < n → nat_eq n 0 ≡ false
    not-none n h = grind (arith, nat_tests)

    is-none : (n : ℕ) → n ≡ 0 → nat_eq n 0 ≡ true
    is-none n h = grind (arith, nat_tests)

pub tags-by-weight : TagsByWeight
tags-by-weight calls target packet moment later between p number pipe weight limit loss buckets mask e set =
    let taken = adds-among (IsCaused calls (Submit target packet moment)) (trace_of calls) (trace_of (Submit target packet moment ∷ calls)) later between
    (arrived p) (call-causes calls (Submit target packet moment)) e in
    let how : Treatment = taken.0 in
    let same : Some how ≡ treatment (Some (Queue number pipe weight limit loss buckets mask)) = sym taken.1 ∙ ap treatment set in
    let by_weight : how.weight ≡ weight = ap (weight-or 0) same in
    let flow = flow_number (keys calls) (key_of target packet.tuple how) in
    subst (λ (x : Accepted). IsTagged packet.len weight (between ++ trace_of calls) x) (sym taken.2)
    (subst (λ (w : ℕ). IsTagged packet.len w (between ++ trace_of calls) (accept (link_of target flow how.pipe) packet flow how (between ++ trace_of calls)))
    by_weight (tagged (link_of target flow how.pipe) packet flow how (between ++ trace_of calls)))
  where
    weight-or : ℕ → Option Treatment → ℕ
    weight-or d None = d
    weight-or d (Some how) = how.weight
