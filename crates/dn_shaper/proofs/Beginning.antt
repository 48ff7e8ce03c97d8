-- A new shaper stands after no call.
use Rattle.dn_shaper.proofs.Words.{AgreesWith, All-nil, AreCountsWithin, Delivery, FlowState, Holds, IsAt, IsIndexed, IsSound, Link, LinkView, List, NextStart, None, Option, Rule, Some, StandsAt}
use Rattle.dn_shaper.proofs.Words.{State, Target, Within, [], ap, arith, at_number, flow_at, homes_of, length, link_names, map, next_at, next_starts, places, queue_lengths, refl, settings_of}
use Rattle.dn_shaper.proofs.Words.{slice_get, subst, sym, view_of, views_of, waits_in_all, ℕ, ◌^◌, ◌∙◌, ◌≡◌}
use Rattle.dn_shaper.proofs.OnePlace.{agrees-as}

nothing-agrees : (rule : Rule) → IsAt rule 0 [] [] [] [] [] [] []
nothing-agrees rule = record {
  links_are = refl;
  distinct = λ i j l m e f ne. absurd cc;
  views_are = λ k v e. absurd cc;
  untouched = λ l e. record { free_is = refl; last_due_is = refl; virtual_time_is = refl };
  flows_are = λ g. record { backlog_is = refl; lost_is = refl; full_is = refl; started_is = refl; discarded_is = refl; active_is = refl };
  as_many = refl;
  elsewhere = λ g l e. refl;
  bound = omega arith;
  homes_are = λ g lt. absurd (omega arith);
  as_many_homes = refl;
  slots_home = λ k v e slot g at. absurd cc;
  pending_is = refl;
  accepted_is = refl;
}

module _ (s : State) (accepted : s.parts.accepted ≡ 0) (keys : s.parts.flows.keys ≡ []) (flows : s.parts.flows.flows ≡ [])
    (links : s.parts.links.items ≡ []) (waiting : s.parts.waiting ≡ 0)
    (shared : s.shared ≡ []) (pending : s.parts.line.pending ≡ []) (pushed : s.parts.line.pushed ≡ 0) (empty : s.heap.keys ≡ []) (moves : s.heap.moves ≡ 0)
    (none : (t : Target) → settings_of s.configured t ≡ None) (now : s.now ≡ 0) (calls : s.calls ≡ 0) where
  views : views_of s.parts ≡ []
  views = ap (map (view_of (queue_lengths s.parts.flows.flows))) links

  agrees : AgreesWith s.parts [] []
  agrees = agrees-as s.parts refl accepted keys (ap homes_of flows) views flows pending (nothing-agrees s.parts.rule)

  pub begins : (rule : Rule) → s.parts.rule ≡ rule → StandsAt rule s []
  begins rule is = record { rule_is = is; calls_are = calls; now_is = now; settings_are = λ i t. none t i; keys_are = keys; agrees = agrees }

  flow-none : (g : ℕ) (n : ℕ) → AreCountsWithin n (flow_at s.parts.flows.flows g)
  flow-none g n = subst (λ (fs : List FlowState). AreCountsWithin n (flow_at fs g)) (sym flows) (omega arith, omega arith, omega arith)

  within-none : (n : ℕ) → Within n s.parts
  within-none n = record {
    waiting_is = waiting ∙ sym (ap (λ (vs : List LinkView). waits_in_all vs) views);
    room = let e = ap {B = ℕ} places flows in omega arith;
    pushed = omega arith;
    sums = let e = ap (λ (ds : List Delivery). length ds) pending in omega arith;
    flows_are = λ g. flow-none g n;
    arrivals = λ k v e. absurd (let z : None ≡ Some v = sym (ap (λ (vs : List LinkView). slice_get vs k) views) ∙ e in cc);
    accepted = omega arith;
  }

  held : Holds (next_starts (views_of s.parts)) s.heap.keys
  held = subst (λ (x : List LinkView × List NextStart). Holds (next_starts x.0) x.1) (λ i. (sym views i, sym empty i))
      (record { once = λ place. refl; moments = All-nil (λ k. next_at [] k.place ≡ Some k.moment) })

  -- No place is noted of any pipe.
  unnoted : (pipe : ℕ) → at_number s.shared pipe ≡ None
  unnoted pipe = ap (λ (ps : List (Option ℕ)). at_number ps pipe) shared

  indexed-none : IsIndexed s []
  indexed-none = record {
    found = λ pipe place e. absurd (let z : None ≡ Some place = sym (unnoted pipe) ∙ e in cc);
    missing = λ pipe e. refl;
  }

  pub begins-sound : IsSound s
  begins-sound = record {
    kept = record {
      agrees = ([], [], agrees);
      within = within-none (2 ^ 62);
      held = held;
      places = let e = ap (λ (vs : List LinkView). length vs) views in omega arith;
    };
    within = within-none s.calls;
    moves = omega arith;
    early = omega arith;
    indexed = subst (λ (ls : List Link). IsIndexed s ls) (sym (ap (λ (vs : List LinkView). link_names vs) views)) indexed-none;
  }
