-- A loss or a full queue is noted in a flow's counts: the links are seen as before, and no count passes its limit.
use Rattle.dn_shaper.proofs.Words.{AgreesWith, AreCountsWithin, AreInStep, CanSee, Event, FlowState, Heap, Holds, Home, IsAt, IsMade, KeepsFlows, KeepsReady, Link, LinkView, List, NextStart}
use Rattle.dn_shaper.proofs.Words.{Parts, Sees, Table, Within, [], ap, arith, flow_at, home, homes_of, length, link_names, next_starts, queue_lengths, refl, set, slice_get, subst, sym, true}
use Rattle.dn_shaper.proofs.Words.{views_of, ℕ, ◌+◌, ◌<◌, ◌^◌, ◌∙◌, ◌∷◌, ◌≡◌}
use Rattle.dn_shaper.proofs.Accepting.{within-more}
use Rattle.dn_shaper.proofs.Alone.{all-seen-same, lengths-same}
use Rattle.dn_shaper.proofs.HomesOf.{homes-set}
use Rattle.dn_shaper.proofs.OnePlace.{agrees-as, each-flow}
use Rattle.dn_shaper.proofs.Preparing.{with_table}
use Rattle.dn_shaper.proofs.Submitting.{noted-within}

-- An event is noted in the counts of one flow, of which each is at most one more. The packets of the flow stay.
pub record IsNoted (event : Link → ℕ → Event) (p : Parts) (flow : ℕ) (noted : FlowState) (t : Table) : Type 0 where
  pub within : flow < length p.flows.keys
  pub seen : CanSee flow p
  pub keys : t.keys ≡ p.flows.keys
  pub flows : t.flows ≡ set p.flows.flows flow noted
  pub placed : noted.reserved ≡ (flow_at p.flows.flows flow).reserved
  pub housed : noted.home ≡ (flow_at p.flows.flows flow).home
  pub same : length noted.backlog ≡ queue_lengths p.flows.flows flow
  pub few : (n : ℕ) → AreCountsWithin n (flow_at p.flows.flows flow) → AreCountsWithin (n + 1) noted
  pub agrees : (more : List Link) (trace : List Event) → AgreesWith p more trace → IsMade flow p trace →
      IsAt p.rule p.accepted p.flows.keys (homes_of p.flows.flows) (views_of p) (set p.flows.flows flow noted) p.line.pending [] (event (home p.flows.keys flow) flow ∷ trace)

module _ {event : Link → ℕ → Event} {p : Parts} {flow : ℕ} {noted : FlowState} {t : Table} (is : IsNoted event p flow noted t) where
  inside : flow < length p.flows.flows
  inside = let m = is.seen.2.as_many in let lt = is.within in omega arith

  same-views : views_of (with_table p t) ≡ views_of p
  same-views = all-seen-same p.links.items (queue_lengths p.flows.flows) (queue_lengths t.flows) (lengths-same p.flows.flows flow inside noted t.flows is.flows is.same)

  same-homes : homes_of t.flows ≡ homes_of p.flows.flows
  same-homes = ap homes_of is.flows ∙ homes-set p.flows.flows flow noted is.housed

  pub noted-sees : Sees flow event p (with_table p t)
  noted-sees more trace a made = agrees-as (with_table p t) refl refl is.keys same-homes same-views is.flows refl (is.agrees more trace a made)

  pub noted-counts : (n : ℕ) → Within n p → Within (n + 1) (with_table p t)
  noted-counts n w = noted-within n flow noted p (with_table p t) inside is.flows (is.few n (w.flows_are flow)) is.placed same-views refl refl refl w

  pub noted-keeps : KeepsFlows p (with_table p t)
  noted-keeps = record { rule = refl; keys = is.keys; homes = same-homes; names = ap link_names same-views }

  pub noted-ready : KeepsReady p (with_table p t)
  noted-ready g ready = record {
    place = subst (λ (fs : List FlowState). (flow_at fs g).reserved ≡ true) (sym is.flows)
        (each-flow (λ (f : ℕ) (s : FlowState). (flow_at p.flows.flows f).reserved ≡ true → s.reserved ≡ true) p.flows.flows flow noted inside
        (λ had. is.placed ∙ had) (λ f ne had. had) g ready.place);
    slot = λ h v pipe at there on. ready.slot h v pipe (ap (λ (hs : List Home). slice_get hs g) (sym same-homes) ∙ at) (ap (λ (vs : List LinkView). slice_get vs h.place) (sym same-views) ∙ there) on;
  }

  pub noted-in-step : (limit : (n : ℕ) × (n < 2 ^ 62) × Within n p) → (heap : Heap NextStart) → AreInStep p heap → AreInStep (with_table p t) heap
  noted-in-step limit heap kept = record {
    agrees = ([], event (home p.flows.keys flow) flow ∷ is.seen.1, noted-sees is.seen.0 is.seen.1 is.seen.2 is.seen.3);
    within = within-more (limit.0 + 1) (2 ^ 62) (with_table p t) (let a = limit.1 in omega arith) (noted-counts limit.0 limit.2);
    held = subst (λ (vs : List LinkView). Holds (next_starts vs) heap.keys) (sym same-views) kept.held;
    places = let l = ap {B = ℕ} (λ (vs : List LinkView). length vs) same-views in let k = kept.places in omega arith;
  }
