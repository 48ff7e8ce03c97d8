-- What a call adds to the trace, and how each start of it comes about.
use Rattle.dn_laws.proofs.Words.{Bool, List, None, Option, Some, [], ap, append_cancel_right, arith, cond, eqb-true, eqb_tells, false, inl, inr, is_some, length, map, max, nat_eq, nat_le}
use Rattle.dn_laws.proofs.Words.{nat_tests, option_and_then, option_map, refl, slice_get, subst, suc, sym, true, zero, ℕ, ⊎_elim, ⊤, ◌&&◌, ◌++◌, ◌+◌, ◌<◌, ◌∙◌, ◌∷◌, ◌≡◌, ◌≢◌, ◌≤◌, ◌⊎◌}
use Rattle.dn_laws.proofs.LawWords.{link_of, Verdict, no_target, loses, refuses, takes, accept, join, after_verdict, verdict_by, verdict, reaches, discard_reached, after_command, trace_of}
use Rattle.dn_laws.proofs.LawWords.{effective_moment, Settings, settings, reply_to_command, is_lost, is_full, Treatment, treatment, keys, key_of, flow_number, free, waiting, opening, next_packet}
use Rattle.dn_laws.proofs.LawWords.{virtual_time, link_heads, next_start, first_start, settle, settled, start_at, waiting_all, Link, own, shared, pipe_of, link_eq, Accepted, Start, Event, opened}
use Rattle.dn_laws.proofs.LawWords.{arrived, started, lost, refused, discarded, collected, is_of, backlog, flow_bound, links, is_arrival, accepted_count, Stamped, pick, Call, Configure, Submit}
use Rattle.dn_laws.proofs.LawWords.{Advance, Collect, Show, Command, FlowKey, Packet, Target, ToPipe, Reply, Deleted}
use Rattle.dn_types.proofs.{Firsts.heads-same, Firsts.stamped_of, Giving.count-event, InForce.pipe-there, Known.AreKnown, Known.all-known, Known.fewer-started, Known.known-started}
use Rattle.dn_types.proofs.{Known.pipe_of-link}
use Rattle.dn_types.proofs.{Ordered.GoesHome, Ordered.IsHome, Ordered.empty-home, Ordered.of-own, Ordered.one-first, Ordered.opened-backlog, Ordered.opened-free, Ordered.verdict-home}
use Rattle.dn_types.proofs.{Picks.heads-alone, Picks.pick-alone, Settled.and-left, Settled.first_start-of, Settled.next_start-link, Settled.settled-ends, Settling.next_start-packet}
use Rattle.dn_types.proofs.{Settling.and-no, Settling.next_packet-first}

-- A packet waited for the link before, and none has arrived since.
abbrev pub HasWaited : List Event → Link → List Event → Type 0
HasWaited old link f = ((flow : ℕ) × (0 < length (backlog link flow old))) × (accepted_count (f ++ old) ≡ accepted_count old)

-- What a settling adds are starts: all that waits is known and has waited before.
pub record HasSettled (set : Settings) (known : List FlowKey) (old f : List Event) : Type 0 where
  pub are_known : AreKnown set known (f ++ old)
  pub waited : (link : Link) (flow : ℕ) → 0 < length (backlog link flow (f ++ old)) → 0 < length (backlog link flow old)
  pub accepted : accepted_count (f ++ old) ≡ accepted_count old

pub none-settled : (set : Settings) (known : List FlowKey) (old : List Event) → AreKnown set known old → HasSettled set known old []
none-settled set known old h = record { are_known = h; waited = λ link flow some. some; accepted = refl }

pub settled-more : (set : Settings) (known : List FlowKey) (old : List Event) (s : Start) (f : List Event) → HasSettled set known old f → HasSettled set known old (started s ∷ f)
settled-more set known old s f h = record {
  are_known = known-started set known s (f ++ old) h.are_known;
  waited = λ link flow some. h.waited link flow (fewer-started (is_of link flow s.packet) (backlog link flow (f ++ old)) some);
  accepted = let more = count-event is_arrival (started s) (f ++ old) in let before = h.accepted in omega arith;
}

-- A start has the bandwidth and the delay in force, it is of its link's next packet, and it is at the moment when the
-- link is free, or of a packet that has just arrived.
pub record IsBegun (set : Settings) (at : ℕ) (old : List Event) (s : Start) (f : List Event) : Type 0 where
  pub configured : s ≡ start_at set s.packet.link s.packet s.moment
  pub carried : is_some (set (ToPipe (pipe_of s.packet.link))) ≡ true
  pub picked : next_packet s.packet.link (f ++ old) ≡ Some s.packet
  pub soon : s.moment ≤ at
  pub when : ((s.moment ≡ free s.packet.link (f ++ old)) × HasWaited old s.packet.link f) ⊎ ((s.moment ≡ at) × ((older : List Event) × (f ≡ arrived s.packet ∷ older)))

pub next_start-is : (set : Settings) (at : ℕ) (link : Link) (trace : List Event) (s : Start) → next_start set at link trace ≡ Some s → (s ≡ start_at set link s.packet (free link trace))
    × (s.moment ≡ free link trace) × (s.moment ≤ at)
next_start-is set at link trace s e = by (nat_le (free link trace) at) refl (next_packet link trace) e
  where
    by : (b : Bool) → nat_le (free link trace) at ≡ b → (o : Option Accepted) → cond b (option_map (λ p. start_at set link p (free link trace)) o) None ≡ Some s →
        (s ≡ start_at set link s.packet (free link trace)) × (s.moment ≡ free link trace) × (s.moment ≤ at)
    by false is o e = absurd cc
    by true is None e = absurd cc
    by true is (Some p) e =
        let same : start_at set link p (free link trace) ≡ s = cc in
        let packet : p ≡ s.packet = ap (λ (x : Start). x.packet) same in
        let moment : s.moment ≡ free link trace = ap (λ (x : Start). x.moment) (sym same) in
        let soon : free link trace ≤ at = grind (arith, nat_tests) in
        (sym same ∙ ap (λ (x : Accepted). start_at set link x (free link trace)) packet, moment, omega arith)

pub begun-next : (set : Settings) (known : List FlowKey) (at : ℕ) (old : List Event) (link : Link) (s : Start) (f : List Event) → HasSettled set known old f →
    next_start set at link (f ++ old) ≡ Some s → IsBegun set at old s f
begun-next set known at old link s f all e =
    let is = next_start-is set at link (f ++ old) s e in
    let l = next_start-link set at link (f ++ old) s e in
    let first = next_packet-first link (f ++ old) s.packet (next_start-packet set at link (f ++ old) s e) in
    let waits = some (backlog link first.0 (f ++ old)) first.1 in
    let k = all.are_known link first.0 waits in
    let waited = all.waited link first.0 waits in
    let here = ap (λ (m : Link). length (backlog m first.0 old)) l in
    let pipe : pipe_of s.packet.link ≡ k.key.pipe = ap pipe_of (l ∙ k.link_is) ∙ pipe_of-link k.key.target first.0 k.key.pipe in
    record {
      configured = is.0 ∙ (λ i. start_at set (sym l i) s.packet (sym is.1 i));
      carried = ap (λ (n : ℕ). is_some (set (ToPipe n))) pipe ∙ k.pipe_is;
      picked = ap (λ (m : Link). next_packet m (f ++ old)) l ∙ next_start-packet set at link (f ++ old) s e;
      soon = is.2;
      when = inl (is.1 ∙ ap (λ (m : Link). free m (f ++ old)) (sym l), ((first.0, omega (arith, waited, here)), all.accepted));
    }
  where
    some : (q : List Accepted) → slice_get q 0 ≡ Some s.packet → 0 < length q
    some [] h = absurd cc
    some (p ∷ q) h = omega arith

-- A packet that arrives where none waits is next.
alone-next : (link : Link) (p : Accepted) (trace : List Event) → p.link ≡ link → IsHome link p.stamped.flow → ((flow : ℕ) → IsHome link flow → backlog link flow trace ≡ []) →
    next_packet link (arrived p ∷ trace) ≡ Some p
alone-next link p trace l home none = by link l home none
  where
    is_own : (m : Link) (flow : ℕ) → p.link ≡ m → p.stamped.flow ≡ flow → is_of m flow p ≡ true
    is_own m flow e f = sym (λ i. is_of (e i) (f i) p) ∙ of-own p

    first : (m : Link) (flow : ℕ) → p.link ≡ m → p.stamped.flow ≡ flow → backlog m flow trace ≡ [] → slice_get (backlog m flow (arrived p ∷ trace)) 0 ≡ Some p
    first m flow e f empty = one-first m flow p (is_of m flow p) (backlog m flow trace) (is_own m flow e f) empty

    by : (m : Link) → p.link ≡ m → IsHome m p.stamped.flow → ((flow : ℕ) → IsHome m flow → backlog m flow trace ≡ []) → next_packet m (arrived p ∷ trace) ≡ Some p
    by (own pipe flow) e home none = first (own pipe flow) flow e (sym home) (none flow refl)
    by (shared pipe) e home none =
        ap (option_and_then (λ (h : Stamped). slice_get (backlog (shared pipe) h.flow (arrived p ∷ trace)) 0)) picked
        ∙ first (shared pipe) p.stamped.flow e refl (none p.stamped.flow tt)
      where
        here : stamped_of (backlog (shared pipe) p.stamped.flow (arrived p ∷ trace)) ≡ p.stamped ∷ []
        here = (λ i. stamped_of (cond (is_own (shared pipe) p.stamped.flow e refl i) (none p.stamped.flow tt i ++ p ∷ []) (none p.stamped.flow tt i)))

        elsewhere : (f : ℕ) → f ≢ p.stamped.flow → is_of (shared pipe) f p ≡ false
        elsewhere f ne = and-no (link_eq p.link (shared pipe)) (nat_eq p.stamped.flow f) (⊎_elim (λ same. absurd (ne (sym same.1))) (λ other. other.0) (eqb_tells p.stamped.flow f))

        others : (f : ℕ) → f ≢ p.stamped.flow → stamped_of (backlog (shared pipe) f (arrived p ∷ trace)) ≡ []
        others f ne = (λ i. stamped_of (cond (elsewhere f ne i) (none f tt i ++ p ∷ []) (none f tt i)))

        alone : link_heads (shared pipe) (arrived p ∷ trace) ≡ p.stamped ∷ []
        alone =
            sym (heads-same (flow_bound (arrived p ∷ trace)) (λ f. stamped_of (backlog (shared pipe) f (arrived p ∷ trace))) (λ f. backlog (shared pipe) f (arrived p ∷ trace)) (λ f. refl))
            ∙ heads-alone (λ f. stamped_of (backlog (shared pipe) f (arrived p ∷ trace))) p.stamped.flow p.stamped here others (flow_bound (arrived p ∷ trace)) (omega arith)

        picked : pick (virtual_time (shared pipe) (arrived p ∷ trace)) (link_heads (shared pipe) (arrived p ∷ trace)) ≡ Some p.stamped
        picked = ap (λ (hs : List Stamped). pick (virtual_time (shared pipe) (arrived p ∷ trace)) hs) alone ∙ pick-alone (virtual_time (shared pipe) (arrived p ∷ trace)) p.stamped

module _ (P : Event → List Event → Type 0) (old : List Event) where
  abbrev pub AllEvents : List Event → Type 0
  AllEvents [] = ⊤
  AllEvents (e ∷ f) = P e f × AllEvents f

  -- What was added, and that each event of it is so.
  abbrev pub Adds : List Event → Type 0
  Adds new = (f : List Event) × (new ≡ f ++ old) × AllEvents f

  pub adds-settle : (I : List Event → Type 0) (set : Settings) (at : ℕ) → ((s : Start) (f : List Event) → I f → I (started s ∷ f)) → ((link : Link) (s : Start) (f : List Event) → I f →
      next_start set at link (f ++ old) ≡ Some s → P (started s) f) → (most : ℕ) (f : List Event) → I f → AllEvents f → Adds (settle most set at (f ++ old))
  adds-settle I set at keep each zero f i all = (f, refl, all)
  adds-settle I set at keep each (suc most) f i all = step (first_start set at (links (f ++ old)) (f ++ old)) refl (λ g. adds-settle I set at keep each most g)
    where
      step : (o : Option Start) → first_start set at (links (f ++ old)) (f ++ old) ≡ o → ((g : List Event) → I g → AllEvents g → Adds (settle most set at (g ++ old))) →
          Adds (elim o as (λ _. List Event) [ None ↦ f ++ old | Some s ↦ settle most set at (started s ∷ f ++ old) ])
      step None e rest = (f, refl, all)
      step (Some s) e rest = let of = first_start-of set at (links (f ++ old)) (f ++ old) s e in rest (started s ∷ f) (keep s f i) (each of.0 s f i of.1, all)

  adds-discard : ((flow : ℕ) (f : List Event) → P (discarded flow) f) → (command : Command) (flow : ℕ) (known : List FlowKey) (f : List Event) → AllEvents f →
      Adds (discard_reached command flow known (f ++ old))
  adds-discard each command flow [] f all = (f, refl, all)
  adds-discard each command flow (key ∷ known) f all = by (reaches command key) (λ g. adds-discard each command (flow + 1) known g)
    where
      by : (b : Bool) → ((g : List Event) → AllEvents g → Adds (discard_reached command (flow + 1) known (g ++ old))) →
          Adds (discard_reached command (flow + 1) known (cond b (discarded flow ∷ f ++ old) (f ++ old)))
      by true rest = rest (discarded flow ∷ f) (each flow f, all)
      by false rest = rest f all

  abbrev add : (e : Event) (new : List Event) (h : Adds new) → P e h.0 → Adds (e ∷ new)
  add e new h p = (e ∷ h.0, ap (λ (r : List Event). e ∷ r) h.1, (p, h.2))

  -- An event among what was added.
  among : (later between : List Event) (e : Event) (f : List Event) → f ≡ later ++ e ∷ between → AllEvents f → P e between
  among later between e f is all = find later (subst AllEvents is all)
    where
      find : (later : List Event) → AllEvents (later ++ e ∷ between) → P e between
      find [] h = h.0
      find (x ∷ later) h = find later h.1

  pub adds-among : (new later between : List Event) (e : Event) → Adds new → new ≡ later ++ e ∷ between ++ old → P e between
  adds-among new later between e h is = among later between e h.0 (append_cancel_right h.0 (later ++ e ∷ between) old (sym h.1 ∙ is ∙ shape later)) h.2
    where
      shape : (later : List Event) → later ++ e ∷ between ++ old ≡ (later ++ e ∷ between) ++ old
      shape [] = refl
      shape (x ∷ later) = ap (λ (r : List Event). x ∷ r) (shape later)

-- What a Submit accepts: the packet, by the treatment in force for its target, with tags by what came before, which is
-- what an Advance to its moment leaves and, where the link is idle, the beginning of a busy period.
abbrev pub IsTaken : List Call → Call → Accepted → List Event → Type 0
IsTaken calls (Submit target packet moment) p f =
    (how : Treatment) × (treatment (settings calls target) ≡ Some how)
    × (p ≡ accept (link_of target (flow_number (keys calls) (key_of target packet.tuple how)) how.pipe) packet (flow_number (keys calls) (key_of target packet.tuple how)) how (f ++ trace_of calls))
    × (f ++ trace_of calls ≡ opening (link_of target (flow_number (keys calls) (key_of target packet.tuple how)) how.pipe)
    (effective_moment (Advance moment ∷ calls)) (trace_of (Advance moment ∷ calls)))
IsTaken calls _ p f = ⊥

-- How each event of a call comes about.
abbrev pub IsCaused : List Call → Call → Event → List Event → Type 0
IsCaused calls c (started s) f = IsBegun (settings calls) (effective_moment (c ∷ calls)) (trace_of calls) s f
IsCaused calls c (arrived p) f = IsTaken calls c p f
IsCaused calls c (opened l) f = waiting l (f ++ trace_of calls) ≡ 0
IsCaused calls c _ f = ⊤

module _ (calls : List Call) (c : Call) where
  abbrev pub Causes : List Event → Type 0
  Causes new = Adds (IsCaused calls c) (trace_of calls) new

  abbrev set : Settings
  set = settings calls

  abbrev old : List Event
  old = trace_of calls

  abbrev at : ℕ
  at = effective_moment (c ∷ calls)

  causes-settled : Causes (settled (settings calls) (effective_moment (c ∷ calls)) (trace_of calls))
  causes-settled = adds-settle (IsCaused calls c) old (HasSettled set (keys calls) old) set at (λ s f i. settled-more set (keys calls) old s f i)
      (λ link s f i e. begun-next set (keys calls) at old link s f i e) (waiting_all (links old) old) [] (none-settled set (keys calls) old (all-known calls)) tt

  causes-join : (p : Accepted) (trace : List Event) (h : Causes trace) → IsTaken calls c p h.0 → is_some (set (ToPipe (pipe_of p.link))) ≡ true → (free p.link trace ≤ at →
      next_packet p.link (arrived p ∷ trace) ≡ Some p) → Causes (join set at p trace)
  causes-join p trace h taken carried next = by (nat_le (free p.link trace) at) refl
    where
      arrives : Causes (arrived p ∷ trace)
      arrives = add (IsCaused calls c) old (arrived p) trace h taken

      by : (b : Bool) → nat_le (free p.link trace) at ≡ b → Causes (cond b (started (start_at set p.link p at) ∷ arrived p ∷ trace) (arrived p ∷ trace))
      by true e =
          let soon : free p.link trace ≤ at = grind (arith, nat_tests) in
          let begun : IsBegun set at old (start_at set p.link p at) (arrived p ∷ h.0) = record {
            configured = refl;
            carried = carried;
            picked = ap (λ (r : List Event). next_packet p.link r) (sym arrives.1) ∙ next soon;
            soon = omega arith;
            when = inr (refl, (h.0, refl));
          } in
          add (IsCaused calls c) old (started (start_at set p.link p at)) (arrived p ∷ trace) arrives begun
      by false e = arrives

  causes-opened : (b : Bool) (link : Link) (trace : List Event) → (b ≡ true → waiting link trace ≡ 0) → Causes trace → Causes (cond b (opened link ∷ trace) trace)
  causes-opened true link trace none h = add (IsCaused calls c) old (opened link) trace h (ap (λ (r : List Event). waiting link r) (sym h.1) ∙ none refl)
  causes-opened false link trace none h = h

  -- A packet is taken as the verdict has it.
  abbrev IsGiven : Packet → List Event → Verdict → Type 0
  IsGiven packet trace (takes link flow how) = ((h : Causes (opening link at trace)) → IsTaken calls c (accept link packet flow how (opening link at trace)) h.0)
      × (is_some (set (ToPipe (pipe_of link))) ≡ true)
  IsGiven packet trace _ = ⊤

  causes-verdict : (packet : Packet) (v : Verdict) (trace : List Event) → GoesHome v → IsGiven packet trace v → Causes trace → ((link : Link) → next_start set at link trace ≡ None) →
      Causes (after_verdict set at packet v trace)
  causes-verdict packet no_target trace home given h ends = h
  causes-verdict packet (loses link flow) trace home given h ends = add (IsCaused calls c) old (lost link flow) trace h tt
  causes-verdict packet (refuses link flow) trace home given h ends = add (IsCaused calls c) old (refused link flow) trace h tt
  causes-verdict packet (takes link flow how) trace home given h ends =
      let b = nat_eq (waiting link trace) 0 && nat_le (free link trace) at in
      let p = accept link packet flow how (opening link at trace) in
      let opens = causes-opened b link trace (λ e. eqb-true (waiting link trace) 0 (and-left (nat_eq (waiting link trace) 0) (nat_le (free link trace) at) e)) h in
      causes-join p (opening link at trace) opens (given.0 opens) given.1
      (λ soon. let e = opened-free b link link trace in alone-next link p (opening link at trace) refl home (λ g at_home. opened-backlog b link link g trace
      ∙ empty-home set at link g trace at_home (ends link) (omega arith)))

taken-by : (calls : List Call) (target : Target) (packet : Packet) (moment : ℕ) (o : Option Treatment) → treatment (settings calls target) ≡ o →
    IsGiven calls (Submit target packet moment) packet (trace_of (Advance moment ∷ calls)) (verdict_by (keys calls) target packet o (trace_of (Advance moment ∷ calls)))
taken-by calls target packet moment None is = tt
taken-by calls target packet moment (Some how) is =
    let flow = flow_number (keys calls) (key_of target packet.tuple how) in
    let link = link_of target flow how.pipe in
    by link flow (
      λ h. (how, is, ap (λ (r : List Event). accept link packet flow how r) h.1, sym h.1),
      ap (λ (n : ℕ). is_some (settings calls (ToPipe n))) (pipe_of-link target flow how.pipe) ∙ pipe-there calls target how is,
    )
    (is_lost how.loss packet.word) (is_full how.limit (map (λ p. p.stamped.len) (backlog link flow (trace_of (Advance moment ∷ calls)))))
  where
    before : List Event
    before = trace_of (Advance moment ∷ calls)

    by : (link : Link) (flow : ℕ) → IsGiven calls (Submit target packet moment) packet before (takes link flow how) → (b c : Bool) →
        IsGiven calls (Submit target packet moment) packet before (cond b (loses link flow) (cond c (refuses link flow) (takes link flow how)))
    by link flow given true c = tt
    by link flow given false true = tt
    by link flow given false false = given

-- Each event that a call adds comes about by what is in force before it.
pub call-causes : (calls : List Call) (c : Call) → Causes calls c (trace_of (c ∷ calls))
call-causes calls (Configure command) = by (reply_to_command calls command)
  where
    by : (r : Reply) → Causes calls (Configure command) (after_command r command (keys calls) (trace_of calls))
    by Deleted = adds-discard (IsCaused calls (Configure command)) (trace_of calls) (λ flow f. tt) command 0 (keys calls) [] tt
    by _ = ([], refl, tt)
call-causes calls (Submit target packet moment) =
    let at = max (effective_moment calls) moment in
    let before = settled (settings calls) at (trace_of calls) in
    causes-verdict calls (Submit target packet moment) packet
    (verdict calls target packet before) before (verdict-home (keys calls) target packet (treatment (settings calls target)) before)
    (taken-by calls target packet moment (treatment (settings calls target)) refl) (causes-settled calls (Submit target packet moment))
    (λ link. settled-ends (settings calls) at link (trace_of calls))
call-causes calls (Advance moment) = causes-settled calls (Advance moment)
call-causes calls (Collect moment) =
    add (IsCaused calls (Collect moment)) (trace_of calls) (collected (max (effective_moment calls) moment))
    (settled (settings calls) (max (effective_moment calls) moment) (trace_of calls)) (causes-settled calls (Collect moment)) tt
call-causes calls Show = ([], refl, tt)
