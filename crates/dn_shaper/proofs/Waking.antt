-- The earliest moment of the heap and of the delay line is that of the trace, and before it a Collect gives nothing.
use Rattle.dn_shaper.proofs.Words.{All, All-contains, All-head, All-tail, Call, Collect, Contains, Delivery, Event, Holds, IfSome, IsLeast, IsLinkAt, IsSound, LinkView, List, NextStart, None}
use Rattle.dn_shaper.proofs.Words.{Option, Rule, Settings, Some, StandsAt, State, [], ap, append-nil, arith, cond, counted, counted_reply, earliest, effective_moment, false, filter, first_start}
use Rattle.dn_shaper.proofs.Words.{given, items_in, length, links, map, max, min, nat_le, nat_lt, nat_tests, next_at, next_free, next_start_cmp, next_start_of, next_starts, option_map, refl}
use Rattle.dn_shaper.proofs.Words.{reply, settings, settings_of, settled, slice_get, slice_index_or, subst, suc, sym, trace_of, true, undelivered, views_of, waiting_all, wake_of, zero, ℕ, ⊎_elim}
use Rattle.dn_shaper.proofs.Words.{◌<◌, ◌∙◌, ◌∷◌, ◌≡◌, ◌≤◌, ◌⊎◌}
use Rattle.dn_shaper.specs.Waking.{earlier}
use Rattle.dn_shaper.proofs.Counting.{counts}
use Rattle.dn_shaper.proofs.FirstStart.{settle-none}
use Rattle.dn_shaper.proofs.Next.{nexts-from}
use Rattle.dn_shaper.proofs.NextStarts.{not_before, held_by, zero_from_none}
use Rattle.dn_shaper.proofs.Settles.{none-starts}

-- ---- The earliest of moments

-- No moment is before m, where there is one.
abbrev IsFrom : ℕ → Option ℕ → Type 0
IsFrom m o = IfSome o (λ n. m ≤ n)

from-earlier : (m : ℕ) (o p : Option ℕ) → IsFrom m o → IsFrom m p → IsFrom m (earlier o p)
from-earlier m None p one other = other
from-earlier m (Some a) None one other = one
from-earlier m (Some a) (Some b) one other = omega arith

keeps-first : (m : ℕ) (o : Option ℕ) → IsFrom m o → earlier (Some m) o ≡ Some m
keeps-first m None from = refl
keeps-first m (Some n) from = let same : min m n ≡ m = omega arith in ap (λ x. Some x) same

takes-first : (m : ℕ) (o : Option ℕ) → IsFrom m o → earlier o (Some m) ≡ Some m
takes-first m None from = refl
takes-first m (Some n) from = let same : min n m ≡ m = omega arith in ap (λ x. Some x) same

some-from : (m : ℕ) (o : Option ℕ) → ((n : ℕ) → o ≡ Some n → m ≤ n) → IsFrom m o
some-from m None h = tt
some-from m (Some n) h = h n refl

earliest-from : (m : ℕ) (os : List (Option ℕ)) → ((i n : ℕ) → next_at os i ≡ Some n → m ≤ n) → IsFrom m (earliest os)
earliest-from m [] h = tt
earliest-from m (o ∷ os) h = from-earlier m o (earliest os) (some-from m o (λ n e. h 0 n e)) (earliest-from m os (λ i n e. h (suc i) n e))

-- A moment that is there and that none is before is the earliest.
earliest-some : (m : ℕ) (os : List (Option ℕ)) (place : ℕ) → next_at os place ≡ Some m → ((i n : ℕ) → next_at os i ≡ Some n → m ≤ n) → earliest os ≡ Some m
earliest-some m [] place e h = absurd cc
earliest-some m (o ∷ os) zero e h = ap (λ (x : Option ℕ). earlier x (earliest os)) e ∙ keeps-first m (earliest os) (earliest-from m os (λ i n e. h (suc i) n e))
earliest-some m (o ∷ os) (suc place) e h = ap (earlier o) (earliest-some m os place e (λ i n e. h (suc i) n e)) ∙ takes-first m o (some-from m o (λ n e. h 0 n e))

earliest-none : (os : List (Option ℕ)) → ((i n : ℕ) → next_at os i ≡ Some n → ⊥) → earliest os ≡ None
earliest-none [] h = refl
earliest-none (None ∷ os) h = earliest-none os (λ i n e. h (suc i) n e)
earliest-none (Some m ∷ os) h = absurd (h 0 m refl)

-- The moment is before both, where it is before the earlier.
before-both : (at : ℕ) (o p : Option ℕ) → IfSome (earlier o p) (λ n. at < n) → IfSome o (λ n. at < n) × IfSome p (λ n. at < n)
before-both at None p h = (tt, h)
before-both at (Some a) None h = (h, tt)
before-both at (Some a) (Some b) h = (omega arith, omega arith)

before-each : (at : ℕ) (os : List (Option ℕ)) → IfSome (earliest os) (λ n. at < n) → (i n : ℕ) → next_at os i ≡ Some n → at < n
before-each at [] h i n e = absurd cc
before-each at (o ∷ os) h zero n e = subst (λ (x : Option ℕ). IfSome x (λ m. at < m)) e (before-both at o (earliest os) h).0
before-each at (o ∷ os) h (suc i) n e = before-each at os (before-both at o (earliest os) h).1 i n e

-- ---- The packets under way

due-from : (m : ℕ) (ds : List Delivery) → All (λ d. m ≤ d.due) ds → IsFrom m (earliest (map (λ (d : Delivery). Some d.due) ds))
due-from m [] h = tt
due-from m (d ∷ ds) h = from-earlier m (Some d.due) (earliest (map (λ (e : Delivery). Some e.due) ds)) (All-head (λ (e : Delivery). m ≤ e.due) d ds h)
    (due-from m ds (All-tail (λ (e : Delivery). m ≤ e.due) d ds h))

-- What the delay line tells of its packets.
pub record TellsDue (due : Option ℕ) (ds : List Delivery) : Type 0 where
  pub value : due ≡ option_map (λ (d : Delivery). d.due) (slice_get ds 0)
  pub least : IfSome due (λ first. All (λ (d : Delivery). first ≤ d.due) ds)

due-is : (due : Option ℕ) (ds : List Delivery) → TellsDue due ds → due ≡ earliest (map (λ (d : Delivery). Some d.due) ds)
due-is due [] tells = tells.value
due-is due (d ∷ ds) tells =
    let least : All (λ (e : Delivery). d.due ≤ e.due) (d ∷ ds) = subst (λ (o : Option ℕ). IfSome o (λ first. All (λ (e : Delivery). first ≤ e.due) (d ∷ ds))) tells.value tells.least in
    tells.value ∙ sym (keeps-first d.due (earliest (map (λ (e : Delivery). Some e.due) ds)) (due-from d.due ds (All-tail (λ (e : Delivery). d.due ≤ e.due) d ds least)))

all-due : (at : ℕ) (ds : List Delivery) → IfSome (earliest (map (λ (d : Delivery). Some d.due) ds)) (λ n. at < n) → filter (λ (d : Delivery). nat_le d.due at) ds ≡ []
all-due at [] h = refl
all-due at (d ∷ ds) h =
    let both = before-both at (Some d.due) (earliest (map (λ (e : Delivery). Some e.due) ds)) h in
    let later : at < d.due = both.0 in
    let test : nat_le d.due at ≡ false = grind (arith, nat_tests) in
    rw test (all-due at ds both.1)

-- ---- The links with a backlog

module _ (nexts : List (Option ℕ)) (keys : List NextStart) (h : Holds nexts keys) where
  pub first-some : (top : NextStart) → Contains keys top → IsLeast next_start_cmp top keys → Some top.moment ≡ earliest nexts
  first-some top held least = sym
      (earliest-some top.moment nexts top.place (All-contains (λ (k : NextStart). next_at nexts k.place ≡ Some k.moment) keys top h.moments held)
      (held_by (λ m place. top.moment ≤ m) nexts keys h (λ j d lt. (not_before top (slice_index_or keys j d) (least j d lt)).0)))

  pub first-none : (0 < length keys → false ≡ true) → None ≡ earliest nexts
  first-none none = sym
      (earliest-none nexts (λ i n e. held_by (λ m place. ⊥) nexts keys h (λ j d lt. absurd (let z = zero_from_none (length keys) none in omega arith)) i n e))

  all-later : (at : ℕ) → IfSome (earliest nexts) (λ n. at < n) → All (λ k. at < k.moment) keys
  all-later at before = λ j d lt. let k = slice_index_or keys j d in before-each at nexts before k.place k.moment (h.moments j d lt)

next-is : (rule : Rule) (flows : ℕ) (trace : List Event) (v : LinkView) → IsLinkAt rule flows trace v → next_start_of v ≡ next_free trace v.link
next-is rule flows trace v is = λ i. cond (nat_lt 0 (is.waits_are i)) (Some (is.free_is i)) None

-- ---- The shaper

module _ (s : State) (rule : Rule) (calls : List Call) (sound : IsSound s) (stands : StandsAt rule s calls) where
  nexts-are : next_starts (views_of s.parts) ≡ map (next_free (trace_of calls)) (links (trace_of calls))
  nexts-are =
      nexts-from (next_free (trace_of calls)) (views_of s.parts) (λ k v e. next-is s.parts.rule (length s.parts.flows.keys) (trace_of calls) v (stands.agrees.views_are k v e))
      ∙ ap (map (next_free (trace_of calls))) (stands.agrees.links_are ∙ append-nil (links (trace_of calls)))

  pending-are : s.parts.line.pending ≡ undelivered rule (trace_of calls)
  pending-are = stands.agrees.pending_is ∙ ap (λ (r : Rule). undelivered r (trace_of calls)) stands.rule_is

  pub wake-is : (due first : Option ℕ) → TellsDue due s.parts.line.pending → first ≡ earliest (next_starts (views_of s.parts)) → earlier due first ≡ wake_of rule (trace_of calls)
  wake-is due first tells first-is = λ i. earlier
      ((due-is due s.parts.line.pending tells ∙ ap (λ (ds : List Delivery). earliest (map (λ (d : Delivery). Some d.due) ds)) pending-are) i)
      ((first-is ∙ ap earliest nexts-are) i)

  gives-nothing : (at : ℕ) → IfSome (wake_of rule (trace_of calls)) (λ n. at < n) → given rule at (settled (settings calls) at (trace_of calls)) ≡ []
  gives-nothing at before =
      let trace = trace_of calls in
      let both = before-both at (earliest (map (λ (d : Delivery). Some d.due) (undelivered rule trace))) (earliest (map (next_free trace) (links trace))) before in
      let later = all-later (next_starts (views_of s.parts)) s.heap.keys sound.kept.held at (subst (λ (os : List (Option ℕ)). IfSome (earliest os) (λ n. at < n)) (sym nexts-are) both.1) in
      let none = none-starts (settings_of s.configured) sound.kept later [] trace stands.agrees in
      let none' : first_start (settings calls) at (links trace) trace ≡ None = ap (λ (x : Settings). first_start x at (links trace) trace) (sym stands.settings_are) ∙ none in
      let same : settled (settings calls) at trace ≡ trace = settle-none (waiting_all (links trace) trace) (settings calls) at trace none' in
      ap (given rule at) same ∙ all-due at (undelivered rule trace) both.0

-- Before the earliest moment a Collect has no packet in its reply.
pub quiet : (s : State) (rule : Rule) (calls : List Call) → IsSound s → StandsAt rule s (counted calls) → (moment : ℕ) →
    IfSome (wake_of rule (trace_of (counted calls))) (λ next. max (effective_moment (counted calls)) moment < next) → items_in (reply rule calls (Collect moment)) ≡ 0
quiet s rule calls sound stands moment before = ⊎_elim
    (λ few. ap items_in few.2 ∙ subst (λ (cs : List Call). items_in (counted_reply rule cs (Collect moment)) ≡ 0) few.1 none)
    (λ many. ap items_in many.1)
    (counts rule calls (Collect moment))
  where
    none : items_in (counted_reply rule (counted calls) (Collect moment)) ≡ 0
    none = ap (λ (ds : List Delivery). length ds) (gives-nothing s rule (counted calls) sound stands (max (effective_moment (counted calls)) moment) before)
