-- Each packet is on the link of its flow's key. So the packets of a flow add up, and a Show tells them.
use Rattle.dn_laws.proofs.Words.{Bool, List, Option, PacketsAddUp, ShowsAreTold, Some, [], and_from, and_right, ap, arith, cond, count_by, drop, eqb-true, false, length, length-map, map, nat_eq}
use Rattle.dn_laws.proofs.Words.{refl, slice_get, subst, suc, sym, true, zero, ℕ, ⊤, ◌&&◌, ◌++◌, ◌+◌, ◌<◌, ◌∙◌, ◌∷◌, ◌≡◌, ◌≤◌}
use Rattle.dn_laws.proofs.LawWords.{link_of, trace_of, call_limit, Treatment, keys, keys_with, key_of, flow_number, status_of, statuses_from, IsStateOf, is_arrival_of, Link, link_eq, Accepted, Start}
use Rattle.dn_laws.proofs.LawWords.{Event, arrived, started, discarded, is_of, backlog, is_start_of, discarded_count, Call, Submit, Show, FlowKey}
use Rattle.dn_laws.proofs.{Acceptance.IsTakenAs, Acceptance.taken-as, Begun.AllEvents, Comes.Comes, Comes.Arrives, Comes.call-comes, DropLaws.not-exhausted, Masks.stands-get}
use Rattle.dn_laws.proofs.{ToldCounts.queued-of-count, ToldCounts.lost-of-count, ToldCounts.full-of-count}
use Rattle.dn_types.proofs.{Fifo.IsProper, Fifo.own-first, Giving.count-event, Keys.keys-stay, Known.fewer-started, Known.known-flow, Ordered.trace-proper, Settled.and-left, Settled.link_eq-true}
use Rattle.dn_types.proofs.{Settled.link_eq-refl, Settling.and-right, StepFacts.clear-length, StepFacts.clear-some, StepFacts.push-length}

pub record IsHomeOf (known : List FlowKey) (link : Link) (flow : ℕ) : Type 0 where
  pub key : FlowKey
  pub at : slice_get known flow ≡ Some key
  pub is : link ≡ link_of key.target flow key.pipe

abbrev pub HaveHomes : List FlowKey → List Event → Type 0
HaveHomes known [] = ⊤
HaveHomes known (arrived p ∷ trace) = IsHomeOf known p.link p.stamped.flow × HaveHomes known trace
HaveHomes known (_ ∷ trace) = HaveHomes known trace

homes-stay : (calls : List Call) (c : Call) (t : List Event) → HaveHomes (keys calls) t → HaveHomes (keys (c ∷ calls)) t
homes-stay calls c [] h = tt
homes-stay calls c (arrived p ∷ t) h =
    (record { key = h.0.key; at = keys-stay calls c p.stamped.flow h.0.key h.0.at; is = h.0.is }, homes-stay calls c t h.1)
homes-stay calls c (_ ∷ t) h = homes-stay calls c t h

arrival-home : (calls : List Call) (c : Call) (p : Accepted) (now : List Event) → Arrives calls c p now → IsHomeOf (keys (c ∷ calls)) p.link p.stamped.flow
arrival-home calls (Submit target packet moment) p now h =
    let as' : IsTakenAs calls target packet moment p = taken-as calls target packet moment p now h in
    let key = key_of target packet.tuple as'.how in
    record {
      key = key;
      at = ap (λ (o : Option Treatment). slice_get (keys_with target packet.tuple o (keys calls)) p.stamped.flow) as'.by
          ∙ ap (λ (n : ℕ). slice_get (keys_with target packet.tuple (Some as'.how) (keys calls)) n) as'.flow
          ∙ stands-get (keys_with target packet.tuple (Some as'.how) (keys calls)) (flow_number (keys calls) key) key (known-flow key (keys calls));
      is = as'.link;
    }
arrival-home calls _ p now h = absurd h

homes-added : (calls : List Call) (c : Call) (f : List Event) → AllEvents (Comes calls c) (trace_of calls) f → HaveHomes (keys (c ∷ calls)) (trace_of calls) →
    HaveHomes (keys (c ∷ calls)) (f ++ trace_of calls)
homes-added calls c [] h old = old
homes-added calls c (arrived p ∷ f) h old = (arrival-home calls c p (f ++ trace_of calls) h.0, homes-added calls c f h.1 old)
homes-added calls c (_ ∷ f) h old = homes-added calls c f h.1 old

pub have-homes : (calls : List Call) → HaveHomes (keys calls) (trace_of calls)
have-homes [] = tt
have-homes (c ∷ calls) =
    let h = call-comes calls c in
    subst (λ (t : List Event). HaveHomes (keys (c ∷ calls)) t) (sym h.1) (homes-added calls c h.0 h.2 (homes-stay calls c (trace_of calls) (have-homes calls)))

-- What waits is at home.
pub waits-home : (known : List FlowKey) (t : List Event) → HaveHomes known t → (link : Link) (flow : ℕ) → 0 < length (backlog link flow t) → IsHomeOf known link flow
waits-home known [] h link flow some = absurd (omega (arith, some))
waits-home known (arrived p ∷ t) h link flow some = by (is_of link flow p) refl some (λ more. waits-home known t h.1 link flow more)
  where
    by : (b : Bool) → is_of link flow p ≡ b → 0 < length (cond b (backlog link flow t ++ p ∷ []) (backlog link flow t))
        → (0 < length (backlog link flow t) → IsHomeOf known link flow) → IsHomeOf known link flow
    by false e some rest = rest some
    by true e some rest =
        let l = link_eq-true p.link link (and-left (link_eq p.link link) (nat_eq p.stamped.flow flow) e) in
        let f = eqb-true p.stamped.flow flow (and-right (link_eq p.link link) (nat_eq p.stamped.flow flow) e) in
        subst (λ (g : ℕ). IsHomeOf known link g) f (subst (λ (m : Link). IsHomeOf known m p.stamped.flow) l h.0)
waits-home known (started s ∷ t) h link flow some = waits-home known t h link flow (fewer-started (is_of link flow s.packet) (backlog link flow t) some)
waits-home known (discarded f ∷ t) h link flow some = waits-home known t h link flow (clear-some (nat_eq f flow) (backlog link flow t) some)
waits-home known (_ ∷ t) h link flow some = waits-home known t h link flow some

first-some : (p : Accepted) (q : List Accepted) → slice_get q 0 ≡ Some p → 0 < length q
first-some p [] e = absurd cc
first-some p (x ∷ q) e = omega arith

-- So is what starts.
pub start-home : (known : List FlowKey) (s : Start) (t : List Event) → IsProper (started s ∷ t) → HaveHomes known t → IsHomeOf known s.packet.link s.packet.stamped.flow
start-home known s t proper h = waits-home known t h s.packet.link s.packet.stamped.flow (first-some s.packet (backlog s.packet.link s.packet.stamped.flow t) proper.0)

module _ (known : List FlowKey) (flow : ℕ) (key : FlowKey) (at : slice_get known flow ≡ Some key) where
  abbrev home : Link
  home = link_of key.target flow key.pipe

  pub home-is : (link : Link) (f : ℕ) → f ≡ flow → IsHomeOf known link f → link ≡ link_of key.target flow key.pipe
  home-is link f same h =
      let both' : Some h.key ≡ Some key = sym h.at ∙ ap (slice_get known) same ∙ at in
      let k : h.key ≡ key = cc in
      h.is ∙ (λ i. link_of (k i).target (same i) (k i).pipe)

  -- A packet of the flow is of its link.
  of-home : (p : Accepted) → IsHomeOf known p.link p.stamped.flow → is_of (link_of key.target flow key.pipe) flow p ≡ nat_eq p.stamped.flow flow
  of-home p h = by (nat_eq p.stamped.flow flow) refl
    where
      by : (b : Bool) → nat_eq p.stamped.flow flow ≡ b → is_of (link_of key.target flow key.pipe) flow p ≡ b
      by false e = ap (λ b. link_eq p.link home && b) e ∙ and_right (link_eq p.link home) false refl
      by true e = and_from (link_eq p.link home) (nat_eq p.stamped.flow flow)
          (ap (λ (l : Link). link_eq l home) (home-is p.link p.stamped.flow (eqb-true p.stamped.flow flow e) h) ∙ link_eq-refl home) e

  drop-length : (b : Bool) (q : List Accepted) → (b ≡ true → 0 < length q) → length (cond b (drop 1 q) q) + cond b 1 0 ≡ length q
  drop-length true [] h = let some = h refl in absurd (omega (arith, some))
  drop-length true (p ∷ q) h = omega arith
  drop-length false q h = omega arith

  abbrev pub AddUp : List Event → Type 0
  AddUp t = count_by (is_arrival_of flow) t ≡ count_by (is_start_of flow) t + length (backlog (link_of key.target flow key.pipe) flow t) + discarded_count (link_of key.target flow key.pipe) flow t

  pub adds-up : (t : List Event) → IsProper t → HaveHomes known t → AddUp t
  adds-up [] proper h = refl
  adds-up (arrived p ∷ t) proper h =
      let rest = adds-up t proper.1 h.1 in
      let a = count-event (is_arrival_of flow) (arrived p) t in
      let b = count-event (is_start_of flow) (arrived p) t in
      let more = push-length (is_of home flow p) (backlog home flow t) p in
      let same : cond {A = ℕ} (is_of home flow p) 1 0 ≡ cond (nat_eq p.stamped.flow flow) 1 0 = ap {B = ℕ} (λ b. cond b 1 0) (of-home p h.0) in
      omega (arith, rest, a, b, more, same)
  adds-up (started s ∷ t) proper h =
      let rest = adds-up t proper.2 h in
      let a = count-event (is_arrival_of flow) (started s) t in
      let b = count-event (is_start_of flow) (started s) t in
      let less = drop-length (is_of home flow s.packet) (backlog home flow t) (λ e. first-some s.packet (backlog home flow t) (own-first home flow s t proper.0 e)) in
      let same : cond {A = ℕ} (is_of home flow s.packet) 1 0 ≡ cond (nat_eq s.packet.stamped.flow flow) 1 0 = ap {B = ℕ} (λ b. cond b 1 0) (of-home s.packet (start-home known s t proper h)) in
      omega (arith, rest, a, b, less, same)
  adds-up (discarded f ∷ t) proper h =
      let rest = adds-up t proper h in
      let a = count-event (is_arrival_of flow) (discarded f) t in
      let b = count-event (is_start_of flow) (discarded f) t in
      let less = clear-length (nat_eq f flow) (backlog home flow t) in
      omega (arith, rest, a, b, less)
  adds-up (e ∷ t) proper h = omega (arith, adds-up t proper h, count-event (is_arrival_of flow) e t, count-event (is_start_of flow) e t)

-- Of the accepted packets of a flow each has started, waits or was discarded.
pub packets-add-up : PacketsAddUp
packets-add-up calls flow key at = adds-up (keys calls) flow key at (trace_of calls) (trace-proper calls) (have-homes calls)

many-states : (from : ℕ) (known : List FlowKey) (trace : List Event) → length (statuses_from from known trace) ≡ length known
many-states from [] trace = refl
many-states from (key ∷ known) trace = let rest = many-states (from + 1) known trace in omega (arith, rest)

one-state : (from : ℕ) (known : List FlowKey) (trace : List Event) (n : ℕ) (key : FlowKey) → slice_get known n ≡ Some key →
    slice_get (statuses_from from known trace) n ≡ Some (status_of (n + from) key trace)
one-state from [] trace n key e = absurd cc
one-state from (k ∷ known) trace zero key e =
    let same : k ≡ key = cc in
    let place : from ≡ zero + from = omega arith in
    ap (λ (x : FlowKey). Some (status_of from x trace)) same ∙ ap (λ (m : ℕ). Some (status_of m key trace)) place
one-state from (k ∷ known) trace (suc n) key e =
    let place : n + (from + 1) ≡ suc n + from = omega arith in
    one-state (from + 1) known trace n key e ∙ ap (λ (m : ℕ). Some (status_of m key trace)) place

pub shows-are-told : ShowsAreTold
shows-are-told rule calls few = (
  statuses_from 0 (keys calls) (trace_of calls),
  not-exhausted rule calls Show few,
  many-states 0 (keys calls) (trace_of calls),
  λ flow key at. (status_of flow key (trace_of calls), one flow key at, state flow key at),
)
  where
    at-most : length calls ≤ call_limit
    at-most = omega (arith, few)

    one : (flow : ℕ) (key : FlowKey) → slice_get (keys calls) flow ≡ Some key → slice_get (statuses_from 0 (keys calls) (trace_of calls)) flow ≡ Some (status_of flow key (trace_of calls))
    one flow key at =
        let place : flow + 0 ≡ flow = omega arith in
        one-state 0 (keys calls) (trace_of calls) flow key at ∙ ap (λ (m : ℕ). Some (status_of m key (trace_of calls))) place

    state : (flow : ℕ) (key : FlowKey) → slice_get (keys calls) flow ≡ Some key → IsStateOf rule calls flow key (status_of flow key (trace_of calls))
    state flow key at =
        let q = backlog (link_of key.target flow key.pipe) flow (trace_of calls) in
        let waits : length (map (λ (p : Accepted). p.stamped.len) q) ≡ length q = length-map q (λ (p : Accepted). p.stamped.len) in
        let sums = packets-add-up calls flow key at in
        let told = queued-of-count flow rule calls at-most in
        record {
          own_number = refl;
          own_key = refl;
          lost = lost-of-count flow rule calls at-most;
          full = full-of-count flow rule calls at-most;
          queued = omega (arith, waits, sums, told);
          started = refl;
          waiting = waits;
          bytes = refl;
        }
