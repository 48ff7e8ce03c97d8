-- A packet arrives.
use Rattle.dn_wf2q.proofs.Words.{All, All-push, All-set, All-weaker, AreTagsWithin, ArrivesAtSlot, Bool, Flow, Heap, IsEligible, IsKeptWithout, IsQueueKept, IsSchedKept, IsWaiting, IsWithin, Kept}
use Rattle.dn_wf2q.proofs.Words.{List, None, RankView, SchedParts, Some, Stamped, TaggedPacket, TaggedQueue, [], after_arrival, ap, arith, arriving, behind, bound, by_slot, cases_eq, cond, false}
use Rattle.dn_wf2q.proofs.Words.{flow_at, flows_of, get_or, get_or-set_other, get_or-set_same, head_weight, inl, inr, joined_by, last_finish_tag_in, last_tag, length, length-map, length-set}
use Rattle.dn_wf2q.proofs.Words.{length_push, map-append, max, nat_lt, nat_tests, no_packets, none_absent, only_absent, packets_of, presence, refl, seen, set, slice_index_or, stamped, subst}
use Rattle.dn_wf2q.proofs.Words.{sum_by, sum_by-set, sym, tagged, true, with_item, ℕ, ◌++◌, ◌+◌, ◌<◌, ◌==◌, ◌^◌, ◌∙◌, ◌∷◌, ◌≡◌, ◌≤◌}
use Rattle.dn_wf2q.proofs.BySlot.{length-by_slot, by_slot-set}
use Rattle.dn_wf2q.proofs.Heads.{head_stays, presence_grows, presence_begins, head_begins, flow_within, flow_within_more, cond-le, flow_at_seen}
use Rattle.dn_wf2q.proofs.Counts.{waiting-set}
use Rattle.dn_wf2q.proofs.Ranks.{absent_same, absent_other}
use Rattle.dn_wf2q.proofs.Sent.{scaled-le}
use Rattle.dn_wf2q.proofs.Payable.{bound_fits}

module _ {flows : List Flow} {eligible waiting : Heap RankView} {virtual_time weights arrivals picks : ℕ}
    (kept : Kept none_absent [] flows eligible waiting virtual_time weights arrivals picks) (slot len weight : ℕ)
    (listed : slot < length flows) (short : len < 65536) (some : 0 < weight) (most : weight ≤ 100) where
  abbrev fl : Flow
  fl = flow_at flows slot

  abbrev x : Stamped
  x = stamped slot fl virtual_time len weight

  abbrev grown : Flow
  grown = joined_by fl x

  start-le : x.start_tag ≤ bound arrivals picks
  start-le =
      let l = (flow_within (bound arrivals picks) flows slot kept.bounded).0 in
      let t = kept.timely in
      cond-le (length fl.backlog == 0) (max fl.last_finish_tag virtual_time) fl.last_finish_tag (bound arrivals picks) (omega arith) l

  finish-le : x.finish_tag ≤ bound (arrivals + 1) picks
  finish-le =
      let s = start-le in
      let g = scaled-le len weight short in
      omega arith

  grown_within : AreTagsWithin (bound (arrivals + 1) picks) grown
  grown_within =
      let s = start-le in
      let w = flow_within_more (bound arrivals picks) (bound (arrivals + 1) picks) fl (omega arith) (flow_within (bound arrivals picks) flows slot kept.bounded) in
      (finish-le, All-push (IsWithin (bound (arrivals + 1) picks)) fl.backlog x w.1 (omega arith, finish-le, short, some, most))

  all_within : All (AreTagsWithin (bound (arrivals + 1) picks)) (set flows slot grown)
  all_within = All-set (AreTagsWithin (bound (arrivals + 1) picks)) flows slot grown grown_within
      (All-weaker (AreTagsWithin (bound arrivals picks)) (AreTagsWithin (bound (arrivals + 1) picks))
      (λ y h. flow_within_more (bound arrivals picks) (bound (arrivals + 1) picks) y (omega arith) h) flows kept.bounded)

  still_ready : All (IsEligible (set flows slot grown) virtual_time) eligible.keys
  still_ready i d l =
      let e = slice_index_or eligible.keys i d in
      head_stays (λ p. (e.tag ≡ p.finish_tag) × (p.start_tag ≤ virtual_time)) flows slot grown (x ∷ []) listed refl e.slot (kept.ready i d l)

  still_waits : All (IsWaiting (set flows slot grown)) waiting.keys
  still_waits i d l =
      let e = slice_index_or waiting.keys i d in
      head_stays (λ p. e.tag ≡ p.start_tag) flows slot grown (x ∷ []) listed refl e.slot (kept.waits i d l)

  weigh : sum_by (λ y. head_weight y.backlog) (set flows slot grown) + head_weight fl.backlog ≡ sum_by (λ y. head_weight y.backlog) flows + head_weight grown.backlog
  weigh = sum_by-set (λ y. head_weight y.backlog) flows slot grown no_packets listed

  heads : sum_by (λ y. presence y.backlog) (set flows slot grown) + presence fl.backlog ≡ sum_by (λ y. presence y.backlog) flows + presence grown.backlog
  heads = sum_by-set (λ y. presence y.backlog) flows slot grown no_packets listed

  tails : sum_by (λ y. behind y.backlog) (set flows slot grown) + behind fl.backlog ≡ sum_by (λ y. behind y.backlog) flows + behind grown.backlog
  tails = sum_by-set (λ y. behind y.backlog) flows slot grown no_packets listed

  -- Packets wait before it.
  pub behind_kept : 0 < length fl.backlog → Kept none_absent [] (set flows slot grown) eligible waiting virtual_time weights (arrivals + 1) picks
  behind_kept busy =
      let g = presence_grows fl.backlog x busy in
      let g0 = g.0 in
      let g1 = g.1 in
      let g2 = g.2 in
      let long = length-set flows slot grown in
      record {
        placed = λ h. elim (cases_eq h slot) [
          | inl e ↦ rw (e, get_or-set_same flows slot grown no_packets listed) (kept.placed slot ∙ sym g0)
          | inr n ↦ rw (get_or-set_other flows slot h grown no_packets n) (kept.placed h)
        ];
        ready = still_ready;
        waits = still_waits;
        weighed = let c = kept.weighed in omega (arith, weigh);
        counted = let c = kept.counted in omega (arith, heads);
        pushed = let c = kept.pushed in omega (arith, tails);
        picked = kept.picked;
        bounded = all_within;
        timely = let c = kept.timely in omega arith;
        eligible_room = let c = kept.eligible_room in omega arith;
        waiting_room = let c = kept.waiting_room in omega arith;
      }

  -- It is the head, and in no heap yet.
  pub first_kept : length fl.backlog ≡ 0 → Kept (only_absent slot) (x ∷ []) (set flows slot grown) eligible waiting virtual_time weights (arrivals + 1) picks
  first_kept empty =
      let g = presence_begins fl.backlog x empty in
      let g0 = g.0 in
      let g1 = g.1 in
      let g2 = g.2 in
      let g3 = g.3 in
      let g4 = g.4 in
      let g5 = g.5 in
      let long = length-set flows slot grown in
      record {
        placed = λ h. elim (cases_eq h slot) [
          | inl e ↦
              let c = kept.placed slot in
              let a = absent_same slot slot 1 refl in
              rw (e, get_or-set_same flows slot grown no_packets listed) (omega arith)
          | inr n ↦
              let c = kept.placed h in
              let a = absent_other slot h 1 (λ e. n (sym e)) in
              rw (get_or-set_other flows slot h grown no_packets n) (omega arith)
        ];
        ready = still_ready;
        waits = still_waits;
        weighed = let c = kept.weighed in omega (arith, weigh);
        counted = let c = kept.counted in omega (arith, heads);
        pushed = let c = kept.pushed in omega (arith, tails);
        picked = kept.picked;
        bounded = all_within;
        timely = let c = kept.timely in omega arith;
        eligible_room = let c = kept.eligible_room in omega arith;
        waiting_room = let c = kept.waiting_room in omega arith;
      }

-- What `append` answers.
pub answered : (b : Bool) (a h : TaggedPacket) → cond b (Some a) None ≡ Some h → (b ≡ true) × (a ≡ h)
answered b a h e = elim b as (λ v. cond v (Some a) None ≡ Some h → (v ≡ true) × (a ≡ h)) [ true ↦ λ e. (refl, cc) | false ↦ λ e. absurd (cc) ] e

pub unanswered : (b : Bool) (a : TaggedPacket) → cond b (Some a) None ≡ None → b ≡ false
unanswered b a e = elim b as (λ v. cond v (Some a) None ≡ None → v ≡ false) [ true ↦ λ e. absurd (cc) | false ↦ λ e. refl ] e

module _ (p : SchedParts) (kept : IsSchedKept p) (slot len weight : ℕ) (short : len < 65536) (some : 0 < weight) (most : weight ≤ 100) (listed : slot < length p.flows.items) where
  listed' : slot < length (flows_of p)
  listed' = let l = length-by_slot (seen p.busy_from) p.flows.items in omega (arith, listed)

  module _ (q : TaggedQueue) (at : q ≡ get_or p.flows.items slot q) where
    same_flow : flow_at (flows_of p) slot ≡ seen p.busy_from slot q
    same_flow = flow_at_seen p.busy_from p.flows.items slot q listed ∙ ap (seen p.busy_from slot) (sym at)

    pub last_fits : last_finish_tag_in p.busy_from q < 2 ^ 96
    last_fits =
        let l = (flow_within (bound p.arrivals p.picks) (flows_of p) slot kept.kept.bounded).0 in
        let m = rw same_flow at l in
        omega (arith, m, bound_fits p kept)

    pub was_kept : IsQueueKept p.busy_from q
    was_kept = subst (IsQueueKept p.busy_from) (sym at) (kept.queues slot q listed)

    abbrev made : TaggedPacket
    made = arriving p.busy_from q p.virtual_time len weight

    module _ (r : TaggedQueue) (packets : packets_of r ≡ packets_of q ++ made ∷ []) (last : last_tag r ≡ made.finish_tag) (arrived : r.arrived ≡ p.arrivals + 1)
        (whole : IsQueueKept p.busy_from r) where
      stamped_is : tagged slot made ≡ stamped slot (seen p.busy_from slot q) p.virtual_time len weight
      stamped_is = rw (length-map (packets_of q) (tagged slot)) refl

      seen_is : seen p.busy_from slot r ≡ joined_by (seen p.busy_from slot q) (stamped slot (seen p.busy_from slot q) p.virtual_time len weight)
      seen_is =
          let b = kept.began in
          let e : nat_lt p.busy_from (p.arrivals + 1) ≡ true = grind (arith, nat_tests) in
          rw (packets, last, arrived, e, map-append (tagged slot) (packets_of q) (made ∷ [])) (ap (joined_by (seen p.busy_from slot q)) stamped_is)

      flows_is : by_slot (seen p.busy_from) (set p.flows.items slot r) ≡ after_arrival (flows_of p) slot p.virtual_time len weight
      flows_is = by_slot-set (seen p.busy_from) p.flows.items slot r ∙ ap (λ y. set (flows_of p) slot y) (rw same_flow seen_is)

      pub arrives : (new : SchedParts) → new.flows.items ≡ set p.flows.items slot r → new.busy_from ≡ p.busy_from
          → new.virtual_time ≡ p.virtual_time → new.arrivals ≡ p.arrivals + 1 → new.picks ≡ p.picks → ArrivesAtSlot slot len weight p new
      arrives new nf nb nt na np =
          let fs : flows_of new ≡ after_arrival (flows_of p) slot p.virtual_time len weight = rw (nf, nb) flows_is in
          record {
            flows = fs;
            virtual_time = nt;
            arrivals = na;
            picks = np;
            one_more =
                let f = flow_at (flows_of p) slot in
                let y = stamped slot f p.virtual_time len weight in
                let s = waiting-set (flows_of p) slot (joined_by f y) listed' in
                let t = length_push f.backlog y in
                rw fs (omega (arith, s, t));
          }

      all_arrived : All (λ y. y.arrived ≤ p.arrivals + 1) (set p.flows.items slot r)
      all_arrived =
          All-set (λ y. y.arrived ≤ p.arrivals + 1) p.flows.items slot r (omega arith)
          (All-weaker (λ y. y.arrived ≤ p.arrivals) (λ y. y.arrived ≤ p.arrivals + 1) (λ y h. omega arith) p.flows.items kept.arrived)

      all_whole : All (IsQueueKept p.busy_from) (set p.flows.items slot r)
      all_whole = All-set (IsQueueKept p.busy_from) p.flows.items slot r whole kept.queues

      still_few : length (set p.flows.items slot r) ≤ 2 ^ 32
      still_few = let s = kept.slots in let l = length-set p.flows.items slot r in omega arith

      -- The parts then.
      abbrev pub arrived_parts : SchedParts
      arrived_parts = record {
        flows = with_item p.flows slot r;
        eligible = p.eligible;
        waiting = p.waiting;
        virtual_time = p.virtual_time;
        weights = p.weights;
        busy_from = p.busy_from;
        arrivals = p.arrivals + 1;
        picks = p.picks;
      }

      pub busy_kept : p.arrivals < 2 ^ 62 → cond (length (packets_of q) == 0) (Some made) None ≡ None → IsSchedKept arrived_parts
      busy_kept few e =
          let n = unanswered (length (packets_of q) == 0) made e in
          let busy : 0 < length (packets_of q) = grind (arith, nat_tests) in
          let long = length-map (packets_of q) (tagged slot) in
          record {
            kept = rw flows_is (behind_kept kept.kept slot len weight listed' short some most (rw same_flow (omega (arith, long, busy))));
            few = omega arith;
            began = let b = kept.began in omega arith;
            arrived = all_arrived;
            queues = all_whole;
            slots = still_few;
          }

      pub idle_kept : (h : TaggedPacket) → p.arrivals < 2 ^ 62 → cond (length (packets_of q) == 0) (Some made) None ≡ Some h → IsKeptWithout slot h arrived_parts
      idle_kept h few e =
          let a = answered (length (packets_of q) == 0) made h e in
          let t = a.0 in
          let empty : length (packets_of q) ≡ 0 = grind (arith, nat_tests) in
          let long = length-map (packets_of q) (tagged slot) in
          let none : length (flow_at (flows_of p) slot).backlog ≡ 0 = rw same_flow (omega (arith, long, empty)) in
          let f = flow_at (flows_of p) slot in
          let y = stamped slot f p.virtual_time len weight in
          let is : tagged slot h ≡ y = ap (tagged slot) (sym a.1) ∙ stamped_is ∙ rw same_flow refl in (
            record {
              kept = rw (flows_is, is) (first_kept kept.kept slot len weight listed' short some most none);
              few = omega arith;
              began = let b = kept.began in omega arith;
              arrived = all_arrived;
              queues = all_whole;
              slots = still_few;
            },
            rw (flows_is, get_or-set_same (flows_of p) slot (joined_by f y) no_packets listed', is) (head_begins (λ z. z ≡ y) f.backlog y none refl),
          )
