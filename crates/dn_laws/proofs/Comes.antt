-- What a call adds to the trace: an arrival is of the packet that it submits, and a discard of a flow that it deletes.
use Rattle.dn_laws.proofs.Words.{Bool, DiscardsAreDeletes, IsReached, List, Some, [], and-left, and-right, ap, arith, cond, eqb-true, false, max, nat_eq, nat_le, nat_tests, refl, slice_get, subst}
use Rattle.dn_laws.proofs.Words.{suc, sym, target_eq-true, true, ℕ, ⊤, ◌&&◌, ◌++◌, ◌+◌, ◌∙◌, ◌∷◌, ◌≡◌, ◌≤◌}
use Rattle.dn_laws.proofs.LawWords.{Verdict, no_target, loses, refuses, takes, verdict, accept, join, after_verdict, reaches, discard_reached, after_command, trace_of, effective_moment, Settings}
use Rattle.dn_laws.proofs.LawWords.{settings, reply_to_command, keys, free, IsDelete, waiting, opening, settled, start_at, waiting_all, Link, Accepted, Event, opened, arrived, started, lost, refused}
use Rattle.dn_laws.proofs.LawWords.{discarded, collected, links, accepted_count, Call, Configure, Submit, Advance, Collect, Show, Command, Pipe, Queue, DeletePipe, DeleteQueue, FlowKey, Packet, Reply}
use Rattle.dn_laws.proofs.LawWords.{Deleted, Target, ToQueue}
use Rattle.dn_laws.proofs.Begun.{Adds, adds-settle, adds-among}
use Rattle.dn_laws.proofs.DropLaws.{not-exhausted}
use Rattle.dn_types.proofs.StepFacts.{opened-count}

-- A packet that is taken arrives as it is accepted, when nothing but the beginning of a busy period has come since.
abbrev pub IsTakenBy : Verdict → Packet → Accepted → List Event → List Event → Type 0
IsTakenBy (takes link flow how) packet p now before = (p ≡ accept link packet flow how now) × (accepted_count now ≡ accepted_count before)
IsTakenBy _ packet p now before = ⊥

abbrev pub Arrives : List Call → Call → Accepted → List Event → Type 0
Arrives calls (Submit target packet moment) p now = IsTakenBy (verdict calls target packet (trace_of (Advance moment ∷ calls))) packet p now (trace_of (Advance moment ∷ calls))
Arrives calls _ p now = ⊥

-- A discard is of a flow that the command reaches.
abbrev pub IsReachedAt : Command → List FlowKey → ℕ → Type 0
IsReachedAt command known flow = (key : FlowKey) × (slice_get known flow ≡ Some key) × IsReached command key

abbrev pub Empties : List Call → Call → ℕ → Type 0
Empties calls (Configure command) flow = (reply_to_command calls command ≡ Deleted) × IsReachedAt command (keys calls) flow
Empties calls _ flow = ⊥

abbrev pub Gathers : Call → ℕ → Type 0
Gathers (Collect moment) at = ⊤
Gathers _ at = ⊥

abbrev pub Comes : List Call → Call → Event → List Event → Type 0
Comes calls c (arrived p) f = Arrives calls c p (f ++ trace_of calls)
Comes calls c (discarded flow) f = Empties calls c flow
Comes calls c (opened link) f = (free link (f ++ trace_of calls) ≤ effective_moment (c ∷ calls)) × (waiting link (f ++ trace_of calls) ≡ 0)
Comes calls c (collected at) f = Gathers c at
Comes calls c _ f = ⊤

reached-by : (command : Command) (key : FlowKey) → reaches command key ≡ true → IsReached command key
reached-by (DeletePipe number) key e = eqb-true key.pipe number e
reached-by (DeleteQueue number) key e = target_eq-true key.target (ToQueue number) e
reached-by (Pipe number bw delay limit loss buckets mask) key e = absurd cc
reached-by (Queue number pipe weight limit loss buckets mask) key e = absurd cc

module _ (calls : List Call) (c : Call) where
  abbrev old : List Event
  old = trace_of calls

  abbrev Adds-so : List Event → Type 0
  Adds-so new = Adds (Comes calls c) (trace_of calls) new

  more : (e : Event) (new : List Event) (h : Adds-so new) → Comes calls c e h.0 → Adds-so (e ∷ new)
  more e new h p = (e ∷ h.0, ap (λ (r : List Event). e ∷ r) h.1, (p, h.2))

  comes-settled : (set : Settings) (at : ℕ) → Adds-so (settled set at (trace_of calls))
  comes-settled set at = adds-settle (Comes calls c) old (λ f. ⊤) set at (λ s f i. tt) (λ link s f i e. tt) (waiting_all (links old) old) [] tt tt

  -- What a delete discards.
  comes-discards : (command : Command) → ((flow : ℕ) → IsReachedAt command (keys calls) flow → Empties calls c flow) → (from : ℕ) (known : List FlowKey) → ((n : ℕ) (key : FlowKey) →
      slice_get known n ≡ Some key → slice_get (keys calls) (n + from) ≡ Some key) → (new : List Event) → Adds-so new → Adds-so (discard_reached command from known new)
  comes-discards command each from [] place new h = h
  comes-discards command each from (key ∷ known) place new h =
      comes-discards command each (from + 1) known
      (λ n k e. let s : n + 1 + from ≡ n + (from + 1) = omega arith in subst (λ (m : ℕ). slice_get (keys calls) m ≡ Some k) s (place (n + 1) k (next n k e)))
      (cond (reaches command key) (discarded from ∷ new) new) (by (reaches command key) refl)
    where
      next : (n : ℕ) (k : FlowKey) → slice_get known n ≡ Some k → slice_get (key ∷ known) (n + 1) ≡ Some k
      next n k e = let s : suc n ≡ n + 1 = omega arith in subst (λ (m : ℕ). slice_get (key ∷ known) m ≡ Some k) s e

      by : (b : Bool) → reaches command key ≡ b → Adds-so (cond b (discarded from ∷ new) new)
      by true e =
          let s : 0 + from ≡ from = omega arith in
          more (discarded from) new h (each from (key, subst (λ (m : ℕ). slice_get (keys calls) m ≡ Some key) s (place 0 key refl), reached-by command key e))
      by false e = h

module _ (calls : List Call) (target : Target) (packet : Packet) (moment : ℕ) where
  abbrev submit : Call
  submit = Submit target packet moment

  abbrev before : List Event
  before = trace_of (Advance moment ∷ calls)

  abbrev AddsTo : List Event → Type 0
  AddsTo new = Adds (Comes calls (Submit target packet moment)) (trace_of calls) new

  comes-join : (set : Settings) (at : ℕ) (p : Accepted) (new : List Event) (h : AddsTo new) → Arrives calls (Submit target packet moment) p (h.0 ++ trace_of calls) → AddsTo (join set at p new)
  comes-join set at p new h taken = by (nat_le (free p.link new) at)
    where
      by : (b : Bool) → AddsTo (cond b (started (start_at set p.link p at) ∷ arrived p ∷ new) (arrived p ∷ new))
      by true = more calls submit (started (start_at set p.link p at)) (arrived p ∷ new) (more calls submit (arrived p) new h taken) tt
      by false = more calls submit (arrived p) new h taken

  comes-opened : (b : Bool) (link : Link) (new : List Event) → (b ≡ true → (free link new ≤ effective_moment (Submit target packet moment ∷ calls)) × (waiting link new ≡ 0)) → AddsTo new →
      AddsTo (cond b (opened link ∷ new) new)
  comes-opened true link new idle h =
      more calls submit (opened link) new h (subst (λ (t : List Event). (free link t ≤ effective_moment (Submit target packet moment ∷ calls)) × (waiting link t ≡ 0)) h.1 (idle refl))
  comes-opened false link new idle h = h

  is-idle : (link : Link) (at : ℕ) → at ≡ effective_moment (Submit target packet moment ∷ calls)
      → (nat_eq (waiting link (trace_of (Advance moment ∷ calls))) 0 && nat_le (free link (trace_of (Advance moment ∷ calls))) at) ≡ true →
      (free link (trace_of (Advance moment ∷ calls)) ≤ effective_moment (Submit target packet moment ∷ calls)) × (waiting link (trace_of (Advance moment ∷ calls)) ≡ 0)
  is-idle link at same e =
      let soon : nat_le (free link before) at ≡ true = and-right (nat_eq (waiting link before) 0) (nat_le (free link before) at) e in (
        by-test (free link before) at (effective_moment (Submit target packet moment ∷ calls)) same soon,
        eqb-true (waiting link before) 0 (and-left (nat_eq (waiting link before) 0) (nat_le (free link before) at) e),
      )
    where
      by-test : (a b c : ℕ) → b ≡ c → nat_le a b ≡ true → a ≤ c
      by-test a b c same h = grind (arith, nat_tests)

  comes-verdict : (set : Settings) (at : ℕ) → at ≡ effective_moment (Submit target packet moment ∷ calls) → (v : Verdict)
      → verdict calls target packet (trace_of (Advance moment ∷ calls)) ≡ v → AddsTo (trace_of (Advance moment ∷ calls)) →
      AddsTo (after_verdict set at packet v (trace_of (Advance moment ∷ calls)))
  comes-verdict set at now_is no_target is h = h
  comes-verdict set at now_is (loses link flow) is h = more calls submit (lost link flow) before h tt
  comes-verdict set at now_is (refuses link flow) is h = more calls submit (refused link flow) before h tt
  comes-verdict set at now_is (takes link flow how) is h =
      let b = nat_eq (waiting link before) 0 && nat_le (free link before) at in
      let now = opening link at before in
      let opens = comes-opened b link before (is-idle link at now_is) h in
      comes-join set at (accept link packet flow how now) now opens
      (subst (λ (v : Verdict). IsTakenBy v packet (accept link packet flow how now) (opens.0 ++ trace_of calls) before) (sym is)
      (ap (λ (r : List Event). accept link packet flow how r) opens.1, ap (λ (r : List Event). accepted_count r) (sym opens.1) ∙ opened-count b link before))

-- So each event that a call adds comes of it.
pub call-comes : (calls : List Call) (c : Call) → Adds (Comes calls c) (trace_of calls) (trace_of (c ∷ calls))
call-comes calls (Configure command) = by (reply_to_command calls command) refl
  where
    by : (r : Reply) → reply_to_command calls command ≡ r → Adds (Comes calls (Configure command)) (trace_of calls) (after_command r command (keys calls) (trace_of calls))
    by Deleted e =
        comes-discards calls (Configure command) command (λ flow h. (e, h)) 0 (keys calls)
        (λ n key is. let s : n ≡ n + 0 = omega arith in subst (λ (m : ℕ). slice_get (keys calls) m ≡ Some key) s is) (trace_of calls) ([], refl, tt)
    by _ e = ([], refl, tt)
call-comes calls (Submit target packet moment) =
    let at = max (effective_moment calls) moment in
    comes-verdict calls target packet moment (settings calls) at refl (verdict calls target packet (trace_of (Advance moment ∷ calls))) refl
    (comes-settled calls (Submit target packet moment) (settings calls) at)
call-comes calls (Advance moment) = comes-settled calls (Advance moment) (settings calls) (max (effective_moment calls) moment)
call-comes calls (Collect moment) =
    more calls (Collect moment) (collected (max (effective_moment calls) moment)) (trace_of (Advance moment ∷ calls))
    (comes-settled calls (Collect moment) (settings calls) (max (effective_moment calls) moment)) tt
call-comes calls Show = ([], refl, tt)

-- A queue is emptied by a delete alone.
pub discards-are-deletes : DiscardsAreDeletes
discards-are-deletes rule calls c later between flow few e =
    by c (adds-among (Comes calls c) (trace_of calls) (trace_of (c ∷ calls)) later between (discarded flow) (call-comes calls c) e)
  where
    by : (c : Call) → Empties calls c flow → IsDelete rule calls c flow
    by (Configure command) h = (not-exhausted rule calls (Configure command) few ∙ h.0, h.1)
    by _ h = absurd h
