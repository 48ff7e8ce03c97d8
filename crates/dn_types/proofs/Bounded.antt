-- The trace of calls in range is bounded: the lengths of packets, the bytes that a queue holds, and each start.
use Rattle.dn_types.proofs.Words.{Accepted, Advance, All, All-drop, All-push, Bool, Call, Collect, Command, Configure, Deleted, Event, FlowKey, IsInRange, IsLimitInRange, Kbytes, Limit, Link}
use Rattle.dn_types.proofs.Words.{List, None, Option, Packet, Reply, Settings, Show, Slots, Some, Start, Submit, Target, Treatment, Verdict, [], accept, after_command, after_verdict, arith}
use Rattle.dn_types.proofs.Words.{arrived, backlog, bandwidth_of, cond, discard_reached, discarded, drop, effective_moment, eqb-true, false, first_start, flow_number, free, is_full, is_lost}
use Rattle.dn_types.proofs.Words.{is_of, join, key_of, keys, length, length-map, link_of, links, loses, map, max, nat_eq, nat_le, nat_tests, next_packet, next_start, no_target, opened, opening}
use Rattle.dn_types.proofs.Words.{option_map, pipe_of, reaches, refl, refuses, reply_to_command, settings, settle, settled, slice_get, start_at, started, subst, suc, sum, sum-map, sum_by}
use Rattle.dn_types.proofs.Words.{sum_by-le, sum_by-take-drop, sum_by_push, takes, trace_of, treatment, true, verdict, verdict_by, waiting, waiting_all, zero, ℕ, ⊤, ◌&&◌, ◌*◌, ◌++◌, ◌+◌, ◌<◌, ◌^◌}
use Rattle.dn_types.proofs.Words.{◌∷◌, ◌≡◌, ◌≤◌}
use Rattle.dn_types.specs.declared.target.Target.TheVariants.{Pipe as ToPipe}
use Rattle.dn_types.proofs.Ranges.{all-first, all-rest, clock-in-range, AreInRange, settings-in-range, IsTreatmentInRange, treatment-in-range, delay-in-range, transmission-in-range}
use Rattle.dn_types.proofs.Settled.{and-left, link_eq-true, first_start-of}
use Rattle.dn_types.proofs.Settling.{and-right, next_packet-first}

-- The length of a packet, and the bytes that wait in a queue.
abbrev pub len_of : Accepted → ℕ
len_of p = p.stamped.len

abbrev pub bytes : Link → ℕ → List Event → ℕ
bytes link flow trace = sum_by len_of (backlog link flow trace)

-- Each packet is short, and its queue holds it with those before it: 10,000 packets of 65,535 bytes at most. Each start
-- is in time, and so are the transmission and the delay of its packet.
abbrev pub IsBounded : List Event → Type 0
IsBounded [] = ⊤
IsBounded (arrived p ∷ trace) = (p.stamped.len ≤ 65535) × (bytes p.link p.stamped.flow trace + p.stamped.len ≤ 655350000) × IsBounded trace
IsBounded (started s ∷ trace) = (s.moment ≤ 2 ^ 62) × (s.transmission ≤ 524280000000000) × (s.delay ≤ 3600000000000) × IsBounded trace
IsBounded (_ ∷ trace) = IsBounded trace

-- ---- The packets that wait

abbrev pub IsShort : Accepted → Type 0
IsShort p = len_of p ≤ 65535

pub first-all : (P : Accepted → Type 0) (p : Accepted) (q : List Accepted) → slice_get q 0 ≡ Some p → All P q → P p
first-all P p [] e h = absurd cc
first-all P p (r ∷ q) e h = let same : r ≡ p = cc in subst P same (h 0 r (omega arith))

module _ (link : Link) (flow : ℕ) where
  short-none : All IsShort []
  short-none = λ k d h. absurd (omega arith)

  short-push : (p : Accepted) (q : List Accepted) (b : Bool) → IsShort p → All IsShort q → All IsShort (cond b (q ++ p ∷ []) q)
  short-push p q true one h = All-push IsShort q p h one
  short-push p q false one h = h

  short-drop : (q : List Accepted) (b : Bool) → All IsShort q → All IsShort (cond b (drop 1 q) q)
  short-drop q true h = All-drop IsShort 1 q h
  short-drop q false h = h

  short-clear : (q : List Accepted) (b : Bool) → All IsShort q → All IsShort (cond b [] q)
  short-clear q true h = short-none
  short-clear q false h = h

  pub backlog-short : (trace : List Event) → IsBounded trace → All IsShort (backlog link flow trace)
  backlog-short [] h = short-none
  backlog-short (arrived p ∷ trace) h = short-push p (backlog link flow trace) (is_of link flow p) h.0 (backlog-short trace h.2)
  backlog-short (started s ∷ trace) h = short-drop (backlog link flow trace) (is_of link flow s.packet) (backlog-short trace h.3)
  backlog-short (discarded f ∷ trace) h = short-clear (backlog link flow trace) (nat_eq f flow) (backlog-short trace h)
  backlog-short (_ ∷ trace) h = backlog-short trace h

  -- A packet that joins another queue adds nothing to this one.
  bytes-push : (p : Accepted) (trace : List Event) (b : Bool) → is_of link flow p ≡ b → bytes p.link p.stamped.flow trace + p.stamped.len ≤ 655350000
      → bytes link flow trace ≤ 655350000 → sum_by len_of (cond b (backlog link flow trace ++ p ∷ []) (backlog link flow trace)) ≤ 655350000
  bytes-push p trace true e fits h =
      let l = link_eq-true p.link link (and-left _ (nat_eq p.stamped.flow flow) e) in
      let f = eqb-true p.stamped.flow flow (and-right _ (nat_eq p.stamped.flow flow) e) in
      let here : bytes p.link p.stamped.flow trace ≡ bytes link flow trace = λ i. bytes (l i) (f i) trace in
      let more = sum_by_push len_of (backlog link flow trace) p in
      omega (arith, here, more, fits)
  bytes-push p trace false e fits h = h

  bytes-drop : (q : List Accepted) (b : Bool) → sum_by len_of q ≤ 655350000 → sum_by len_of (cond b (drop 1 q) q) ≤ 655350000
  bytes-drop q true h = let parts = sum_by-take-drop len_of q 1 in omega (arith, parts, h)
  bytes-drop q false h = h

  bytes-clear : (q : List Accepted) (b : Bool) → sum_by len_of q ≤ 655350000 → sum_by len_of (cond b [] q) ≤ 655350000
  bytes-clear q true h = omega arith
  bytes-clear q false h = h

  -- No queue holds more bytes.
  pub bytes-bounded : (trace : List Event) → IsBounded trace → bytes link flow trace ≤ 655350000
  bytes-bounded [] h = omega arith
  bytes-bounded (arrived p ∷ trace) h = bytes-push p trace (is_of link flow p) refl h.1 (bytes-bounded trace h.2)
  bytes-bounded (started s ∷ trace) h = bytes-drop (backlog link flow trace) (is_of link flow s.packet) (bytes-bounded trace h.3)
  bytes-bounded (discarded f ∷ trace) h = bytes-clear (backlog link flow trace) (nat_eq f flow) (bytes-bounded trace h)
  bytes-bounded (_ ∷ trace) h = bytes-bounded trace h

-- A queue that isn't full has room for one packet more.
room : (limit : Limit) (q : List Accepted) (len : ℕ) → IsLimitInRange limit → All IsShort q → is_full limit (map len_of q) ≡ false → len ≤ 65535 → sum_by len_of q + len ≤ 655350000
room (Slots count) q len h short e one =
    let few : length (map len_of q) < count = grind (arith, nat_tests) in
    let same = length-map q len_of in
    let most = sum_by-le len_of 65535 q short in
    omega (arith, few, same, most, h, one)
room (Kbytes count) q len h short e one =
    let few : sum (map len_of q) ≤ count * 1024 = grind (arith, nat_tests) in
    let same = sum-map len_of q in
    omega (arith, few, same, h, one)

-- ---- Starts

starting : (set : Settings) (link : Link) (p : Accepted) (at : ℕ) (trace : List Event) → AreInRange set
    → at ≤ 2 ^ 62 → IsShort p → IsBounded trace → IsBounded (started (start_at set link p at) ∷ trace)
starting set link p at trace within soon short h =
    let pipe = set (ToPipe (pipe_of link)) in
    (soon, transmission-in-range (bandwidth_of pipe) (len_of p) short, delay-in-range pipe (within (ToPipe (pipe_of link))), h)

next-bounded : (set : Settings) (at : ℕ) (link : Link) (trace : List Event) (s : Start) → AreInRange set
    → at ≤ 2 ^ 62 → IsBounded trace → next_start set at link trace ≡ Some s → IsBounded (started s ∷ trace)
next-bounded set at link trace s within soon h e = by (nat_le (free link trace) at) (next_packet link trace) refl refl e
  where
    by : (b : Bool) (o : Option Accepted) → nat_le (free link trace) at ≡ b → next_packet link trace ≡ o
        → cond b (option_map (λ p. start_at set link p (free link trace)) o) None ≡ Some s → IsBounded (started s ∷ trace)
    by false o is next e = absurd cc
    by true None is next e = absurd cc
    by true (Some p) is next e =
        let same : start_at set link p (free link trace) ≡ s = cc in
        let first = next_packet-first link trace p next in
        let short = first-all IsShort p (backlog link first.0 trace) first.1 (backlog-short link first.0 trace h) in
        let early : free link trace ≤ at = grind (arith, nat_tests) in
        subst (λ (x : Start). IsBounded (started x ∷ trace)) same (starting set link p (free link trace) trace within (omega (arith, early, soon)) short h)

settle-bounded : (most : ℕ) (set : Settings) (at : ℕ) (trace : List Event) → AreInRange set → at ≤ 2 ^ 62 → IsBounded trace → IsBounded (settle most set at trace)
settle-bounded zero set at trace within soon h = h
settle-bounded (suc most) set at trace within soon h = step (first_start set at (links trace) trace) refl (λ t g. settle-bounded most set at t within soon g)
  where
    step : (o : Option Start) → first_start set at (links trace) trace ≡ o → ((t : List Event) → IsBounded t → IsBounded (settle most set at t))
        → IsBounded (elim o as (λ _. List Event) [ None ↦ trace | Some s ↦ settle most set at (started s ∷ trace) ])
    step None e rest = h
    step (Some s) e rest = let of = first_start-of set at (links trace) trace s e in rest (started s ∷ trace) (next-bounded set at of.0 trace s within soon h of.1)

pub settled-bounded : (set : Settings) (at : ℕ) (trace : List Event) → AreInRange set → at ≤ 2 ^ 62 → IsBounded trace → IsBounded (settled set at trace)
settled-bounded set at trace within soon h = settle-bounded (waiting_all (links trace) trace) set at trace within soon h

-- ---- Submits

-- What a verdict takes into a queue has room there.
abbrev Fits : Verdict → List Event → Type 0
Fits (takes link flow how) trace = IsLimitInRange how.limit × (is_full how.limit (map len_of (backlog link flow trace)) ≡ false)
Fits _ trace = ⊤

verdict-fits : (known : List FlowKey) (target : Target) (packet : Packet) (o : Option Treatment) (trace : List Event) → IsTreatmentInRange o → Fits (verdict_by known target packet o trace) trace
verdict-fits known target packet None trace h = tt
verdict-fits known target packet (Some how) trace h =
    let flow = flow_number known (key_of target packet.tuple how) in
    let link = link_of target flow how.pipe in
    by link flow (is_lost how.loss packet.word) (is_full how.limit (map len_of (backlog link flow trace))) refl
  where
    by : (link : Link) (flow : ℕ) (b c : Bool) → is_full how.limit (map len_of (backlog link flow trace)) ≡ c → Fits (cond b (loses link flow) (cond c (refuses link flow) (takes link flow how))) trace
    by link flow true c e = tt
    by link flow false true e = tt
    by link flow false false e = (h, e)

join-bounded : (set : Settings) (at : ℕ) (p : Accepted) (trace : List Event) → AreInRange set → at ≤ 2 ^ 62 → IsBounded (arrived p ∷ trace) → IsBounded (join set at p trace)
join-bounded set at p trace within soon h = by (nat_le (free p.link trace) at)
  where
    by : (b : Bool) → IsBounded (cond b (started (start_at set p.link p at) ∷ arrived p ∷ trace) (arrived p ∷ trace))
    by true = starting set p.link p at (arrived p ∷ trace) within soon h.0 h
    by false = h

-- The beginning of a busy period changes no queue.
opened-bounded : (b : Bool) (link : Link) (trace : List Event) → IsBounded trace → IsBounded (cond b (opened link ∷ trace) trace)
opened-bounded true link trace h = h
opened-bounded false link trace h = h

opened-bytes : (b : Bool) (l link : Link) (flow : ℕ) (trace : List Event) → bytes l flow (cond b (opened link ∷ trace) trace) ≡ bytes l flow trace
opened-bytes true l link flow trace = refl
opened-bytes false l link flow trace = refl

verdict-bounded : (set : Settings) (at : ℕ) (packet : Packet) (v : Verdict) (trace : List Event) → AreInRange set
    → at ≤ 2 ^ 62 → packet.len ≤ 65535 → Fits v trace → IsBounded trace → IsBounded (after_verdict set at packet v trace)
verdict-bounded set at packet no_target trace within soon short fits h = h
verdict-bounded set at packet (loses link flow) trace within soon short fits h = h
verdict-bounded set at packet (refuses link flow) trace within soon short fits h = h
verdict-bounded set at packet (takes link flow how) trace within soon short fits h =
    let b = nat_eq (waiting link trace) 0 && nat_le (free link trace) at in
    let same = opened-bytes b link link flow trace in
    let fit = room how.limit (backlog link flow trace) packet.len fits.0 (backlog-short link flow trace h) fits.1 short in
    join-bounded set at (accept link packet flow how (opening link at trace)) (opening link at trace) within soon (short, omega (arith, same, fit), opened-bounded b link trace h)

-- ---- Calls

discard-bounded : (command : Command) (flow : ℕ) (known : List FlowKey) (trace : List Event) → IsBounded trace → IsBounded (discard_reached command flow known trace)
discard-bounded command flow [] trace h = h
discard-bounded command flow (key ∷ known) trace h = discard-bounded command (flow + 1) known (cond (reaches command key) (discarded flow ∷ trace) trace) (one (reaches command key))
  where
    one : (b : Bool) → IsBounded (cond b (discarded flow ∷ trace) trace)
    one true = h
    one false = h

command-bounded : (r : Reply) (command : Command) (known : List FlowKey) (trace : List Event) → IsBounded trace → IsBounded (after_command r command known trace)
command-bounded Deleted command known trace h = discard-bounded command 0 known trace h
command-bounded _ command known trace h = h

-- The moment of a further call, with those before it.
pub later-in-range : (calls : List Call) (moment : ℕ) → All IsInRange calls → moment ≤ 2 ^ 62 → max (effective_moment calls) moment ≤ 2 ^ 62
later-in-range calls moment h soon = let before = clock-in-range calls h in omega arith

pub trace-bounded : (calls : List Call) → All IsInRange calls → IsBounded (trace_of calls)
trace-bounded [] h = tt
trace-bounded (Configure command ∷ calls) h = command-bounded (reply_to_command calls command) command (keys calls) (trace_of calls) (trace-bounded calls (all-rest (Configure command) calls h))
trace-bounded (Submit target packet moment ∷ calls) h =
    let rest = all-rest (Submit target packet moment) calls h in
    let given = all-first (Submit target packet moment) calls h in
    let at = max (effective_moment calls) moment in
    let soon = later-in-range calls moment rest given.1 in
    let within = settings-in-range calls rest in
    let before = settled (settings calls) at (trace_of calls) in
    verdict-bounded (settings calls) at packet (verdict calls target packet before) before within soon given.0
    (verdict-fits (keys calls) target packet (treatment (settings calls target)) before (treatment-in-range (settings calls target) (within target)))
    (settled-bounded (settings calls) at (trace_of calls) within soon (trace-bounded calls rest))
trace-bounded (Advance moment ∷ calls) h =
    let rest = all-rest (Advance moment) calls h in
    let soon = later-in-range calls moment rest (all-first (Advance moment) calls h) in
    settled-bounded (settings calls) (max (effective_moment calls) moment) (trace_of calls) (settings-in-range calls rest) soon (trace-bounded calls rest)
trace-bounded (Collect moment ∷ calls) h =
    let rest = all-rest (Collect moment) calls h in
    let soon = later-in-range calls moment rest (all-first (Collect moment) calls h) in
    settled-bounded (settings calls) (max (effective_moment calls) moment) (trace_of calls) (settings-in-range calls rest) soon (trace-bounded calls rest)
trace-bounded (Show ∷ calls) h = trace-bounded calls (all-rest Show calls h)
