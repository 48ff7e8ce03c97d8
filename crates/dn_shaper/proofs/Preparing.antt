-- Where only room was made, a shaper stays sound. So does one whose last flow, which was made for a packet, is taken out.
use Rattle.dn_shaper.proofs.Words.{AgreesWith, AreInStep, Bool, Err, Event, FlowKey, FlowState, Heap, Holds, HoldsPlaces, IsMade, IsSound, KeepsAt, KeepsHeap, KeepsPlaces, KeepsReady, Link}
use Rattle.dn_shaper.proofs.Words.{LinkView, List, NextStart, Ok, OnErr, OnlyMakesRoom, OnlyReserves, Option, Parts, Prepares, Result, SameFlow, Some, State, Table, Waiting, Within, [], ap}
use Rattle.dn_shaper.proofs.Words.{append-nil, arith, at_number, cases_lt, cond, false, flow_at, flow_number, flows_with, get_or-take, get_or_past, home, homes_of, inl, inr, is_err, is_known}
use Rattle.dn_shaper.proofs.Words.{key_eq, length, length-more, length-take-le, link_eq, link_eq-refl, link_names, links, list_any, map, new_flow, next_starts, not, or_right, places}
use Rattle.dn_shaper.proofs.Words.{places-before, places-take, position_or_len, queue_lengths, refl, shared, slice_get, subst, suc, sym, take, take-append_seam, true, view_of, views_of, with_key}
use Rattle.dn_shaper.proofs.Words.{without_last, zero, ℕ, ⊎_elim, ◌++◌, ◌+◌, ◌-◌, ◌<◌, ◌||◌, ◌∙◌, ◌∷◌, ◌≡◌, ◌≤◌, ◌⊎◌}
use Rattle.dn_shaper.proofs.Alone.{all-seen-same}
use Rattle.dn_shaper.proofs.HomesOf.{homes-take}
use Rattle.dn_shaper.proofs.Reserved.{reserved-names, reserves-agree, reserves-kept, reserves-within}
use Rattle.dn_shaper.proofs.Reserving.{same-flow}

-- ---- The flow's link is seen

named : (views : List LinkView) (k : ℕ) (v : LinkView) (link : Link) → slice_get views k ≡ Some v → v.link ≡ link → list_any (link_eq link) (link_names views) ≡ true
named [] k v link e is = absurd cc
named (w ∷ views) zero v link e is =
    let same : w ≡ v = cc in
    ap (λ (l : Link). link_eq link l || list_any (link_eq link) (link_names views)) (ap (λ (x : LinkView). x.link) same ∙ is)
    ∙ ap (λ b. b || list_any (link_eq link) (link_names views)) (link_eq-refl link)
named (w ∷ views) (suc k) v link e is = or_right (link_eq link w.link) (list_any (link_eq link) (link_names views)) (named views k v link e is)

pub seen-made : (p : Parts) (trace : List Event) (flow : ℕ) → AgreesWith p [] trace → flow < length p.flows.keys → IsMade flow p trace
seen-made p trace flow a lt =
    let h = a.homes_are flow lt in
    let names : link_names (views_of p) ≡ links trace = a.links_are ∙ append-nil (links trace) in
    let there : list_any (link_eq (home p.flows.keys flow)) (links trace) ≡ true =
    ap (λ (ls : List Link). list_any (link_eq (home p.flows.keys flow)) ls) (sym names)
    ∙ named (views_of p) h.0.place h.2.view (home p.flows.keys flow) h.2.there h.2.link_is in
    names ∙ sym (ap (λ b. cond b (links trace) (links trace ++ home p.flows.keys flow ∷ [])) there)

pub reserves-prepares : (old new : Parts) (flow : ℕ) → OnlyMakesRoom old new → flow < length old.flows.keys → Prepares flow old new
reserves-prepares old new flow r lt trace a =
    let b = reserves-agree old new r [] trace a in
    let e = ap {B = ℕ} (λ (ks : List FlowKey). length ks) r.keys in
    ([], b, seen-made new trace flow b (omega arith))

-- ---- Only room was made

pub heap-kept : (p : Parts) (heap heap' : Heap NextStart) → KeepsHeap heap heap' → AreInStep p heap → AreInStep p heap'
heap-kept p heap heap' d k = record {
  agrees = k.agrees;
  within = k.within;
  held = subst (λ (ks : List NextStart). Holds (next_starts (views_of p)) ks) (sym d.keys) k.held;
  places = let a = k.places in let b = ap {B = ℕ} (λ (ks : List NextStart). length ks) d.keys in let c = d.room in omega arith;
}

pub reserves-sound : (old new : State) → OnlyReserves old new → IsSound old → IsSound new
reserves-sound old new o s = record {
  kept = heap-kept new.parts old.heap new.heap o.heap (reserves-kept old.parts new.parts o.parts old.heap s.kept);
  within = subst (λ n. Within n new.parts) (sym o.keeps.calls) (reserves-within old.parts new.parts o.parts old.calls s.within);
  moves = let a = s.moves in let b = o.heap.moves in let c = o.parts.waiting in let d = o.keeps.calls in omega arith;
  early = let a = s.early in let b = o.keeps.now in omega arith;
  indexed =
      let names = reserved-names old.parts new.parts o.parts in
      record {
        found = λ pipe place e. ap (λ (ls : List Link). slice_get ls place) names ∙ s.indexed.found pipe place (ap (λ (es : List (Option ℕ)). at_number es pipe) (sym o.shared) ∙ e);
        missing = λ pipe e. ap (λ (ls : List Link). list_any (link_eq (shared pipe)) ls) names ∙ s.indexed.missing pipe (ap (λ (es : List (Option ℕ)). at_number es pipe) (sym o.shared) ∙ e);
      };
}

-- ---- The flow is known

position-known : {X : Type 0} (p : X → Bool) (xs : List X) → position_or_len p xs < length xs → list_any p xs ≡ true
position-known {X = X} p [] lt = absurd (omega arith)
position-known {X = X} p (x ∷ xs) lt = by (p x) (λ below. position-known p xs below) lt
  where
    by : (b : Bool) → (position_or_len p xs < length xs → list_any p xs ≡ true) → cond (not b) (1 + position_or_len p xs) 0 < suc (length xs) → (b || list_any p xs) ≡ true
    by true rest below = refl
    by false rest below = rest (omega arith)

position-new : {X : Type 0} (p : X → Bool) (xs : List X) → length xs ≤ position_or_len p xs → (position_or_len p xs ≡ length xs) × (list_any p xs ≡ false)
position-new {X = X} p [] le = (refl, refl)
position-new {X = X} p (x ∷ xs) le = by (p x) (λ above. position-new p xs above) le
  where
    by : (b : Bool) → (length xs ≤ position_or_len p xs → (position_or_len p xs ≡ length xs) × (list_any p xs ≡ false)) →
        suc (length xs) ≤ cond (not b) (1 + position_or_len p xs) 0 →
        (cond (not b) (1 + position_or_len p xs) 0 ≡ suc (length xs)) × ((b || list_any p xs) ≡ false)
    by true rest above = absurd (omega arith)
    by false rest above = let r = rest (omega arith) in let e = r.0 in (omega arith, r.1)

pub known-table : (old t : Table) (key : FlowKey) → flow_number old.keys key < length old.keys → (is_known key old.keys ≡ true → t ≡ old) → t ≡ old
known-table old t key lt same = same (position-known (key_eq key) old.keys lt)

pub flow-more : (flows : List FlowState) (g : ℕ) → flow_at (flows ++ new_flow ∷ []) g ≡ flow_at flows g
flow-more [] zero = refl
flow-more [] (suc g) = refl
flow-more (s ∷ flows) zero = refl
flow-more (s ∷ flows) (suc g) = flow-more flows g

-- The last flow, which is new, has no place.
pub last-placeless : (flows more : List FlowState) → more ≡ flows ++ new_flow ∷ [] → (flow_at more (length more - 1)).reserved ≡ false
last-placeless flows more is =
    let l = length-more flows new_flow in
    let n = ap {B = ℕ} (λ (fs : List FlowState). length fs) is in
    let last : length more - 1 ≡ length flows = omega arith in
    (λ i. (flow_at (is i) (last i)).reserved) ∙ ap (λ (s : FlowState). s.reserved) (flow-more flows (length flows) ∙ get_or_past flows (length flows) new_flow (omega arith))

-- The table has one flow more, which is new.
pub record IsOneMore (key : FlowKey) (old new : Table) : Type 0 where
  pub keys : new.keys ≡ old.keys ++ key ∷ []
  pub flows : new.flows ≡ old.flows ++ new_flow ∷ []
  pub number : flow_number old.keys key ≡ length old.keys

pub new-table : (old t : Table) (key : FlowKey) → length old.keys ≤ flow_number old.keys key → t.keys ≡ with_key key old.keys → t.flows ≡ flows_with key old → IsOneMore key old t
new-table old t key le keys flows =
    let p = position-new (key_eq key) old.keys le in
    record {
      keys = keys ∙ ap (λ b. cond b old.keys (old.keys ++ key ∷ [])) p.1;
      flows = flows ∙ ap (λ b. cond b old.flows (old.flows ++ new_flow ∷ [])) p.1;
      number = p.0;
    }

-- Its queues are as long as they were.
pub lengths-more : (key : FlowKey) (old t : Table) → IsOneMore key old t → (f : ℕ) → queue_lengths t.flows f ≡ queue_lengths old.flows f
lengths-more key old t one f = ap (λ (fs : List FlowState). queue_lengths fs f) one.flows ∙ ap (λ (s : FlowState). length s.backlog) (flow-more old.flows f)

abbrev pub with_table : Parts → Table → Parts
with_table p t = record { rule = p.rule; accepted = p.accepted; flows = t; links = p.links; waiting = p.waiting; line = p.line }

abbrev pub with_flows : State → Table → State
with_flows s t = record { parts = with_table s.parts t; heap = s.heap; shared = s.shared; configured = s.configured; now = s.now; calls = s.calls }

pub same-reserves : (old new : Parts) (t : Table) → t ≡ old.flows → OnlyMakesRoom (with_table old t) new → OnlyMakesRoom old new
same-reserves old new t e r = subst (λ (x : Table). OnlyMakesRoom (with_table old x) new) e r

-- A known flow leaves the table as it is, so what is room beside it is room.
pub known-reserves : (old new : Parts) (t : Table) (key : FlowKey) → flow_number old.flows.keys key < length old.flows.keys →
    (is_known key old.flows.keys ≡ true → t ≡ old.flows) → OnlyMakesRoom (with_table old t) new → OnlyMakesRoom old new
known-reserves old new t key lt same room = same-reserves old new t (known-table old.flows t key lt same) room

pub only-parts : (old : State) (new : Parts) → OnlyMakesRoom old.parts new → KeepsPlaces old.parts.flows.flows new.flows.flows →
    OnlyReserves old (record { parts = new; heap = old.heap; shared = old.shared; configured = old.configured; now = old.now; calls = old.calls })
only-parts old new r placed = record {
  parts = r;
  placed = placed;
  heap = record { keys = refl; moves = refl; room = omega arith };
  shared = refl;
  keeps = record { rule = r.rule; configured = refl; now = refl; calls = refl };
}

-- ---- The last flow is taken out

take-last : {X : Type 0} (xs : List X) (y : X) → take (length (xs ++ y ∷ []) - 1) (xs ++ y ∷ []) ≡ xs
take-last xs y = let m = length-more xs y in let e : length (xs ++ y ∷ []) - 1 ≡ length xs = omega arith in ap (λ n. take n (xs ++ y ∷ [])) e ∙ take-append_seam xs (y ∷ [])

-- A table whose last flow is new and was taken out is the table before it.
pub without-new : (old : State) (t : Table) (key : FlowKey) → IsOneMore key old.parts.flows t → (new : State) → OnlyReserves (without_last (with_flows old t)) new → OnlyReserves old new
without-new old t key more new o =
    but-for-room old t.spare new (subst (λ (x : Table). OnlyReserves (with_flows old x) new) (λ i. record {
      keys = (ap (λ (ks : List FlowKey). take (length ks - 1) ks) more.keys ∙ take-last old.parts.flows.keys key) i;
      flows = (ap (λ (fs : List FlowState). take (length fs - 1) fs) more.flows ∙ take-last old.parts.flows.flows new_flow) i;
      spare = t.spare;
    }) o)
  where
    but-for-room : (s : State) (n : ℕ) (new : State) → OnlyReserves (with_flows s (record { keys = s.parts.flows.keys; flows = s.parts.flows.flows; spare = n })) new → OnlyReserves s new
    but-for-room s n new r = record {
      parts = record {
        rule = r.parts.rule;
        accepted = r.parts.accepted;
        keys = r.parts.keys;
        homes = r.parts.homes;
        waiting = r.parts.waiting;
        pending = r.parts.pending;
        pushed = r.parts.pushed;
        room = r.parts.room;
        holds = r.parts.holds;
        flows = r.parts.flows;
        many = r.parts.many;
        views = r.parts.views;
      };
      placed = r.placed;
      heap = r.heap;
      shared = r.shared;
      keeps = record { rule = r.keeps.rule; configured = r.keeps.configured; now = r.keeps.now; calls = r.keeps.calls };
    }

module _ (old mid : State) (o : OnlyReserves old mid) (t : Table) (keys : t.keys ≡ take (length mid.parts.flows.keys - 1) mid.parts.flows.keys)
    (flows : t.flows ≡ take (length mid.parts.flows.flows - 1) mid.parts.flows.flows)
    (empty : queue_lengths old.parts.flows.flows (length old.parts.flows.flows - 1) ≡ 0)
    (placeless : (flow_at old.parts.flows.flows (length old.parts.flows.flows - 1)).reserved ≡ false) where
  abbrev pub most : ℕ
  most = length old.parts.flows.flows - 1

  flows-are : t.flows ≡ take most mid.parts.flows.flows
  flows-are = flows ∙ ap (λ n. take (n - 1) mid.parts.flows.flows) o.parts.many

  many-left : length t.flows ≡ length (take most old.parts.flows.flows)
  many-left =
      let m = o.parts.many in
      ap (λ (fs : List FlowState). length fs) flows-are
      ∙ length-take-le most mid.parts.flows.flows (omega arith)
      ∙ sym (length-take-le most old.parts.flows.flows (omega arith))

  flows-left : (g : ℕ) → SameFlow (flow_at (take most old.parts.flows.flows) g) (flow_at t.flows g)
  flows-left g = ⊎_elim below beyond (cases_lt g most)
    where
      below : g < most → SameFlow (flow_at (take most old.parts.flows.flows) g) (flow_at t.flows g)
      below lt =
          let a : flow_at (take most old.parts.flows.flows) g ≡ flow_at old.parts.flows.flows g = get_or-take most old.parts.flows.flows g new_flow lt in
          let b : flow_at t.flows g ≡ flow_at mid.parts.flows.flows g = ap (λ (fs : List FlowState). flow_at fs g) flows-are ∙ get_or-take most mid.parts.flows.flows g new_flow lt in
          subst (λ (x : FlowState × FlowState). SameFlow x.0 x.1) (λ i. (sym a i, sym b i)) (o.parts.flows g)

      beyond : most ≤ g → SameFlow (flow_at (take most old.parts.flows.flows) g) (flow_at t.flows g)
      beyond le =
          let n = length-take-le most old.parts.flows.flows (omega arith) in
          let m = many-left in
          let a : flow_at (take most old.parts.flows.flows) g ≡ new_flow = get_or_past (take most old.parts.flows.flows) g new_flow (omega arith) in
          let b : flow_at t.flows g ≡ new_flow = get_or_past t.flows g new_flow (omega arith) in
          subst (λ (x : FlowState × FlowState). SameFlow x.0 x.1) (λ i. (sym a i, sym b i)) (same-flow new_flow)

  -- The last flow has no packet, so without it the links are seen as they were.
  lengths-left : (g : ℕ) → queue_lengths (take most old.parts.flows.flows) g ≡ queue_lengths old.parts.flows.flows g
  lengths-left g = ⊎_elim below beyond (cases_lt g most)
    where
      none : (fs : List FlowState) → length fs ≤ g → queue_lengths fs g ≡ 0
      none fs le = ap {B = ℕ} (λ (s : FlowState). length s.backlog) (get_or_past fs g new_flow le)

      below : g < most → queue_lengths (take most old.parts.flows.flows) g ≡ queue_lengths old.parts.flows.flows g
      below lt = ap {B = ℕ} (λ (s : FlowState). length s.backlog) (get_or-take most old.parts.flows.flows g new_flow lt)

      last : (most < g) ⊎ (g ≤ most) → most ≤ g → queue_lengths old.parts.flows.flows g ≡ 0
      last (inl past) le = none old.parts.flows.flows (omega arith)
      last (inr here) le = let e : g ≡ most = omega arith in ap (queue_lengths old.parts.flows.flows) e ∙ empty

      beyond : most ≤ g → queue_lengths (take most old.parts.flows.flows) g ≡ queue_lengths old.parts.flows.flows g
      beyond le = let l = length-take-le most old.parts.flows.flows (omega arith) in none (take most old.parts.flows.flows) (omega arith) ∙ sym (last (cases_lt most g) le)

  lengths-now : (g : ℕ) → queue_lengths t.flows g ≡ queue_lengths mid.parts.flows.flows g
  lengths-now g =
      ap {B = ℕ} (λ (ws : List Waiting). length ws) (flows-left g).backlog
      ∙ lengths-left g
      ∙ sym (ap {B = ℕ} (λ (ws : List Waiting). length ws) (o.parts.flows g).backlog)

  -- The last flow had no place in the delay line.
  holds-left : HoldsPlaces (without_last old).parts → HoldsPlaces (with_table mid.parts t)
  holds-left h =
      let before = places-before most old.parts.flows.flows (omega arith) (ap (λ b. cond b 1 0) placeless) in
      let then = o.parts.holds (omega arith) in
      let is = ap {B = ℕ} places flows-are in
      let fewer = places-take most mid.parts.flows.flows in
      omega arith

  placed-left : KeepsPlaces (take most old.parts.flows.flows) t.flows
  placed-left g had = ⊎_elim below beyond (cases_lt g most)
    where
      below : g < most → (flow_at t.flows g).reserved ≡ true
      below lt =
          let a : flow_at (take most old.parts.flows.flows) g ≡ flow_at old.parts.flows.flows g = get_or-take most old.parts.flows.flows g new_flow lt in
          let b : flow_at t.flows g ≡ flow_at mid.parts.flows.flows g = ap (λ (fs : List FlowState). flow_at fs g) flows-are ∙ get_or-take most mid.parts.flows.flows g new_flow lt in
          ap (λ (s : FlowState). s.reserved) b ∙ o.placed g (ap (λ (s : FlowState). s.reserved) (sym a) ∙ had)

      beyond : most ≤ g → (flow_at t.flows g).reserved ≡ true
      beyond le =
          let n = length-take-le most old.parts.flows.flows (omega arith) in
          let a : flow_at (take most old.parts.flows.flows) g ≡ new_flow = get_or_past (take most old.parts.flows.flows) g new_flow (omega arith) in
          let none : false ≡ true = sym (ap (λ (s : FlowState). s.reserved) a) ∙ had in
          absurd cc

  -- What is left is the shaper without its last flow, but for room.
  pub forgets : OnlyReserves (without_last old) (with_flows mid t)
  forgets = record {
    parts = record {
      rule = o.parts.rule;
      accepted = o.parts.accepted;
      keys = keys ∙ ap (λ (ks : List FlowKey). take (length ks - 1) ks) o.parts.keys;
      homes = ap homes_of flows-are ∙ homes-take most mid.parts.flows.flows ∙ ap (take most) o.parts.homes ∙ sym (homes-take most old.parts.flows.flows);
      waiting = o.parts.waiting;
      pending = o.parts.pending;
      pushed = o.parts.pushed;
      room = o.parts.room;
      holds = holds-left;
      flows = flows-left;
      many = many-left;
      views = λ place.
          subst (λ (x : List LinkView × List LinkView). KeepsAt (slice_get x.0 place) (slice_get x.1 place))
          (λ i. (
            sym
                (all-seen-same old.parts.links.items (queue_lengths old.parts.flows.flows) (queue_lengths (take most old.parts.flows.flows)) lengths-left) i,
            sym
                (all-seen-same mid.parts.links.items (queue_lengths mid.parts.flows.flows) (queue_lengths t.flows) lengths-now) i,
          ))
          (o.parts.views place);
    };
    placed = placed-left;
    heap = o.heap;
    shared = o.shared;
    keeps = record { rule = o.keeps.rule; configured = o.keeps.configured; now = o.keeps.now; calls = o.keeps.calls };
  }

-- The table has room for more flows, and all else stays.
pub table-ready : (p : Parts) (t : Table) → t.flows ≡ p.flows.flows → KeepsReady p (with_table p t)
table-ready p t same flow ready = record {
  place = subst (λ (fs : List FlowState). (flow_at fs flow).reserved ≡ true) (sym same) ready.place;
  slot = λ h v pipe at there is. ready.slot h v pipe (ap (λ (fs : List FlowState). slice_get (homes_of fs) flow) (sym same) ∙ at) (ap (λ (fs : List FlowState). slice_get (map (view_of (queue_lengths fs)) p.links.items) h.place) (sym same) ∙ there) is;
}

-- ---- What a result says

pub err-of : {X E : Type 0} {A : Type 0} (r : Result X E) → is_err r ≡ true → OnErr r A → A
err-of (Ok x) e a = absurd cc
err-of (Err x) e a = a

pub parts-sound : (old : State) (new : Parts) → OnlyMakesRoom old.parts new → KeepsPlaces old.parts.flows.flows new.flows.flows → IsSound old →
    IsSound (record { parts = new; heap = old.heap; shared = old.shared; configured = old.configured; now = old.now; calls = old.calls })
parts-sound old new r placed s = reserves-sound old (record { parts = new; heap = old.heap; shared = old.shared; configured = old.configured; now = old.now; calls = old.calls }) (only-parts old new r placed) s
