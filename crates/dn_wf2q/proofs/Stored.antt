-- The packets that a `Sched` keeps stay those of its schedule.
use Rattle.dn_wf2q.proofs.Words.{All, All-head, All-push, All-tail, AreStored, Flow, IsMore, IsNext, IsStored, List, Option, Passes, Picks, Queue, Schedule, SendsFirst, Stamped, [], after_arrival}
use Rattle.dn_wf2q.proofs.Words.{after_discard, after_pick, ap, append_assoc, arith, deque_capacity, deque_items, deque_len, drop, drop-map, flow_at, forgotten, get_or, get_or-map}
use Rattle.dn_wf2q.proofs.Words.{get_or-set_same, joined_by, length, length-append, length-map, length-set, map, map-append, map_push, next_of, no_packets, padded, refl, replicate, room_at, set}
use Rattle.dn_wf2q.proofs.Words.{set-get_or, set-set, slice_get, spare, stamped, subst, suc, sym, untagged_of, without_head, zero, ℕ, ◌++◌, ◌+◌, ◌-◌, ◌<◌, ◌∙◌, ◌∷◌, ◌≡◌, ◌≤◌}
use Rattle.dn_wf2q.specs.Stored.{untagged}
use Rattle.dn_wf2q.proofs.Rooms.{known, room_listed}

map-set : {X Y : Type 0} (f : X → Y) (xs : List X) (k : ℕ) (y : X) → map f (set xs k y) ≡ set (map f xs) k (f y)
map-set f [] k y = refl
map-set f (x ∷ xs) zero y = refl
map-set f (x ∷ xs) (suc k) y = ap (λ l. f x ∷ l) (map-set f xs k y)

first_untagged : (ps : List Stamped) → next_of ps ≡ slice_get (map untagged ps) 0
first_untagged [] = refl
first_untagged (p ∷ ps) = refl

untagged_forgotten : (flows : List Flow) → map untagged_of (forgotten flows) ≡ map untagged_of flows
untagged_forgotten [] = refl
untagged_forgotten (fl ∷ fls) = ap (λ l. untagged_of fl ∷ l) (untagged_forgotten fls)

untagged_more : (n : ℕ) (more : List Queue) → length more ≡ n → All (λ q. deque_items q ≡ []) more → map untagged_of (replicate n no_packets) ≡ map deque_items more
untagged_more zero [] e all = refl
untagged_more zero (q ∷ qs) e all = absurd (omega arith)
untagged_more (suc n) [] e all = absurd (omega arith)
untagged_more (suc n) (q ∷ qs) e all =
    let one = All-head (λ q. deque_items q ≡ []) q qs all in
    let rest = untagged_more n qs (omega arith) (All-tail (λ q. deque_items q ≡ []) q qs all) in
    λ i. sym one i ∷ rest i

pub one_more : (xs ys : List Queue) (q : Queue) → IsMore xs ys → deque_items q ≡ [] → IsMore xs (ys ++ q ∷ [])
one_more xs ys q m e = record {
  more = m.more ++ q ∷ [];
  is = ap (λ l. l ++ q ∷ []) m.is ∙ append_assoc xs m.more (q ∷ []);
  empty = All-push (λ q. deque_items q ≡ []) m.more q m.empty e;
}

module _ (flows : List Flow) (queues : List Queue) (stored : AreStored flows queues) where
  pub same_length : length flows ≡ length queues
  same_length = sym (length-map flows untagged_of) ∙ ap length stored ∙ length-map queues deque_items

  module _ (slot : ℕ) (q : Queue) (listed : slot < length queues) (at : q ≡ get_or queues slot q) where
    abbrev fl : Flow
    fl = flow_at flows slot

    pub here : untagged_of fl ≡ deque_items q
    here =
        sym (get_or-map untagged_of flows slot no_packets [] (omega (arith, same_length, listed)))
        ∙ ap (λ l. get_or l slot []) stored ∙ get_or-map deque_items queues slot q [] listed ∙ ap deque_items (sym at)

    replaced : (new : Flow) (r : Queue) → untagged_of new ≡ deque_items r → AreStored (set flows slot new) (set queues slot r)
    replaced new r same = map-set untagged_of flows slot new ∙ (λ i. set (stored i) slot (same i)) ∙ sym (map-set deque_items queues slot r)

    -- Only its room changes.
    pub regrown : (r : Queue) → deque_items r ≡ deque_items q → AreStored flows (set queues slot r)
    regrown r items =
        let was = items ∙ ap deque_items at ∙ sym (get_or-map deque_items queues slot q [] listed) in
        stored ∙ sym (map-set deque_items queues slot r ∙ ap (λ l. set (map deque_items queues) slot l) was ∙ set-get_or (map deque_items queues) slot [])

    -- A packet arrives.
    pub joined : (v len weight : ℕ) (r : Queue) → deque_items r ≡ deque_items q ++ (len, weight) ∷ []
        → AreStored (after_arrival flows slot v len weight) (set queues slot r)
    joined v len weight r items =
        let x = stamped slot fl v len weight in
        replaced (joined_by fl x) r (map_push untagged fl.backlog x ∙ ap (λ l. l ++ (len, weight) ∷ []) here ∙ sym items)

    -- The first packet leaves.
    pub left : (r : Queue) → deque_items r ≡ drop 1 (deque_items q) → AreStored (after_pick flows slot) (set queues slot r)
    left r items = replaced (without_head fl) r (sym (drop-map untagged 1 fl.backlog) ∙ ap (drop 1) here ∙ sym items)

    pub next_stored : (r : Queue) (next : Option (ℕ × ℕ)) → deque_items r ≡ drop 1 (deque_items q) → next ≡ slice_get (deque_items r) 0
        → IsNext next (drop 1 fl.backlog)
    next_stored r next items e =
        e ∙ ap (λ l. slice_get l 0) (items ∙ ap (drop 1) (sym here) ∙ drop-map untagged 1 fl.backlog) ∙ sym (first_untagged (drop 1 fl.backlog))

    pub cleared : (r : Queue) → deque_items r ≡ [] → AreStored (after_discard flows slot) (set queues slot r)
    cleared r items = replaced no_packets r (sym items)

  pub begun : AreStored (forgotten flows) queues
  begun = untagged_forgotten flows ∙ stored

  -- A packet comes to an empty flow and leaves.
  pub passed : (slot v len weight : ℕ) → slot < length queues → (flow_at flows slot).backlog ≡ []
      → AreStored (after_pick (after_arrival flows slot v len weight) slot) queues
  passed slot v len weight listed empty =
      let fl = flow_at flows slot in
      let x = stamped slot fl v len weight in
      let one = joined_by fl x in
      let none : untagged_of (without_head one) ≡ [] = ap (λ (ps : List Stamped). map untagged (drop 1 (ps ++ x ∷ []))) empty in
      let was : get_or (map untagged_of flows) slot [] ≡ [] = get_or-map untagged_of flows slot no_packets [] (omega (arith, same_length, listed)) ∙ ap (map untagged) empty in
      ap (λ (f : Flow). map untagged_of (set (set flows slot one) slot (without_head f))) (get_or-set_same flows slot one no_packets (omega (arith, same_length, listed)))
      ∙ ap (map untagged_of) (set-set flows slot one (without_head one))
      ∙ map-set untagged_of flows slot (without_head one)
      ∙ ap (λ l. set (map untagged_of flows) slot l) (none ∙ sym was)
      ∙ set-get_or (map untagged_of flows) slot [] ∙ stored

  -- Slots are added.
  pub extended : (n : ℕ) (ys : List Queue) → IsMore queues ys → length ys ≡ n → AreStored (padded flows n) ys
  extended n ys m e =
      let long : length m.more ≡ n - length flows = omega (arith, same_length, length-append queues m.more, ap length m.is) in
      map-append untagged_of flows (replicate (n - length flows) no_packets)
      ∙ (λ i. stored i ++ untagged_more (n - length flows) m.more long m.empty i)
      ∙ sym (map-append deque_items queues m.more) ∙ ap (map deque_items) (sym m.is)

-- A slot where a packet waits is there.
pub waits_listed : (flows : List Flow) (slot : ℕ) → 0 < length (flow_at flows slot).backlog → slot < length flows
waits_listed [] slot w = absurd (omega arith)
waits_listed (fl ∷ fls) zero w = omega arith
waits_listed (fl ∷ fls) (suc slot) w = let l = waits_listed fls slot w in omega arith

module _ (heads : Schedule) (queues : List Queue) (kept : IsStored heads queues) (slot : ℕ) where
  -- The heads have room at each slot that has a queue.
  pub has_room : slot < length queues → 0 < room_at heads.room slot
  has_room listed = rw kept.rooms (known heads.flows slot (omega (arith, same_length heads.flows queues kept.stored, listed)))

  pub has_queue : 0 < length (flow_at heads.flows slot).backlog → slot < length queues
  has_queue waits = omega (arith, waits_listed heads.flows slot waits, same_length heads.flows queues kept.stored)

pub has_place : (queues : List Queue) (slot : ℕ) (q : Queue) → q ≡ get_or queues slot q → 0 < room_at (map spare queues) slot → deque_len q < deque_capacity q
has_place queues slot q at room =
    let is : room_at (map spare queues) slot ≡ spare q = get_or-map spare queues slot q 0 (room_listed spare queues slot room) ∙ ap spare (sym at) in
    omega (arith, is, room)

pub room_here : (queues : List Queue) (slot : ℕ) (r : Queue) → slot < length queues → room_at (map spare (set queues slot r)) slot ≡ spare r
room_here queues slot r listed =
    get_or-map spare (set queues slot r) slot r 0 (omega (arith, listed, length-set queues slot r)) ∙ ap spare (get_or-set_same queues slot r r listed)

-- The room of a schedule isn't what it sends.
pub picks_with : (a b : List ℕ) (h : Stamped) (old new : Schedule) → Picks h old new → Picks h (record old { room = a }) (record new { room = b })
picks_with a b h old new p = record { head = p.head; flows = p.flows; virtual_time = p.virtual_time; picks = p.picks; one_fewer = p.one_fewer }

pub passes_with : (a b : List ℕ) (slot len weight : ℕ) (old new : Schedule) → Passes slot len weight old new → Passes slot len weight (record old { room = a }) (record new { room = b })
passes_with a b slot len weight old new p = record {
  packet = p.packet;
  here = p.here;
  one_more = p.one_more;
  picked = p.picked;
  picks = record { head = p.picks.head; flows = p.picks.flows; virtual_time = p.picks.virtual_time; picks = p.picks.picks; one_fewer = p.picks.one_fewer };
  arrivals = p.arrivals;
}

-- The first packet of the slot has left.
pub sent_stored : (old mid new : Schedule) (queues : List Queue) (slot : ℕ) → mid.flows ≡ old.flows → (first : SendsFirst slot mid) → Picks first.packet mid new
    → AreStored (after_pick old.flows slot) queues → AreStored new.flows queues
sent_stored old mid new queues slot same first p stored =
    subst (λ (fs : List Flow). AreStored fs queues) (sym (p.flows ∙ (λ i. after_pick (same i) (first.here i)))) stored
