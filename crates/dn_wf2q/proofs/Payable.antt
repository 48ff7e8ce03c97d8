-- The packets of each queue have weights, and tags that fit.
use Rattle.dn_wf2q.proofs.Words.{All, All-cons, All-head, All-nil, All-tail, HeadIs, IfSome, IsKeptBut, IsKeptWithout, IsPayable, IsSchedKept, IsWithin, List, SchedParts, Stamped, TaggedPacket}
use Rattle.dn_wf2q.proofs.Words.{TaggedQueue, [], ap, arith, bound, first_packet, flow_at, flows_of, get_or, length, map, packets_of, seen, subst, sym, tagged, ℕ, ◌<◌, ◌^◌, ◌∙◌, ◌∷◌, ◌≡◌, ◌≤◌}
use Rattle.dn_wf2q.proofs.BySlot.{length-by_slot}
use Rattle.dn_wf2q.proofs.Heads.{flow_at_seen, flow_within, head_listed}

pub bound_fits : {absent : ℕ → ℕ} {out : List Stamped} (p : SchedParts) → IsKeptBut absent out p → bound p.arrivals p.picks < 2 ^ 96
bound_fits p kept =
    let few = kept.few in
    let a = kept.kept.pushed in
    let b = kept.kept.picked in
    omega arith

-- A head has a slot and tags for which a key has room.
pub record Fits (slot start finish : ℕ) : Type 0 where
  pub slot_fits : slot < 2 ^ 32
  pub start_fits : start < 2 ^ 96
  pub finish_fits : finish < 2 ^ 96

head_within : (b : ℕ) (h : Stamped) (q : List Stamped) → HeadIs (λ x. x ≡ h) q → All (IsWithin b) q → IsWithin b h
head_within b h [] is all = absurd is
head_within b h (p ∷ ps) is all = subst (IsWithin b) is (All-head (IsWithin b) p ps all)

pub fits : {absent : ℕ → ℕ} {out : List Stamped} (p : SchedParts) (slot : ℕ) (h : TaggedPacket) → IsKeptBut absent out p
    → HeadIs (λ x. x ≡ tagged slot h) (flow_at (flows_of p) slot).backlog → Fits slot h.start_tag h.finish_tag
fits p slot h kept is =
    let b = bound p.arrivals p.picks in
    let flow = flow_at (flows_of p) slot in
    let one = head_within b (tagged slot h) flow.backlog is (flow_within b (flows_of p) slot kept.kept.bounded).1 in
    let start = one.0 in
    let finish = one.1 in
    let under = bound_fits p kept in
    let listed = head_listed (λ x. x ≡ tagged slot h) (flows_of p) slot is in
    let long = length-by_slot (seen p.busy_from) p.flows.items in
    let few = kept.slots in
    record {
      slot_fits = omega arith;
      start_fits = omega arith;
      finish_fits = omega arith;
    }

pub head_fits : (p : SchedParts) (slot : ℕ) (h : TaggedPacket) → IsKeptWithout slot h p → Fits slot h.start_tag h.finish_tag
head_fits p slot h kept = fits p slot h kept.0 kept.1

pub first_within : (b slot finish : ℕ) (ps : List TaggedPacket) → 0 < length ps → IfSome (first_packet ps) (λ head. head.finish_tag ≡ finish)
    → All (IsWithin b) (map (tagged slot) ps) → finish ≤ b
first_within b slot finish [] some is all = absurd (omega arith)
first_within b slot finish (p ∷ ps) some is all =
    let within = (All-head (IsWithin b) (tagged slot p) (map (tagged slot) ps) all).1 in
    omega arith

payable_within : (b slot : ℕ) (ps : List TaggedPacket) → b < 2 ^ 96 → All (IsWithin b) (map (tagged slot) ps) → All IsPayable ps
payable_within b slot [] l all = All-nil IsPayable
payable_within b slot (p ∷ ps) l all =
    let one = All-head (IsWithin b) (tagged slot p) (map (tagged slot) ps) all in
    let f = one.1 in
    All-cons IsPayable p ps (one.3, omega arith) (payable_within b slot ps l (All-tail (IsWithin b) (tagged slot p) (map (tagged slot) ps) all))

pub payable : (p : SchedParts) → IsSchedKept p → (slot : ℕ) → slot < length p.flows.items → (q : TaggedQueue) → q ≡ get_or p.flows.items slot q → All IsPayable (packets_of q)
payable p kept slot listed q at =
    let same : flow_at (flows_of p) slot ≡ seen p.busy_from slot q = flow_at_seen p.busy_from p.flows.items slot q listed ∙ ap (seen p.busy_from slot) (sym at) in
    payable_within (bound p.arrivals p.picks) slot (packets_of q) (bound_fits p kept) (rw same at (flow_within (bound p.arrivals p.picks) (flows_of p) slot kept.kept.bounded).1)
