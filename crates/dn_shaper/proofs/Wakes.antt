-- At the earliest moment a Collect gives a packet, unless one starts.
use Rattle.dn_shaper.proofs.Words.{Accepted, Advance, Bool, Call, Collect, Delivery, Event, IfSome, Link, List, None, Option, Rule, Some, [], ap, arith, backlog, busy-link, cases_lt, cond}
use Rattle.dn_shaper.proofs.Words.{counted, counted_reply, earliest, effective_moment, false, filter, flow_bound, free, given, items_in, length, links, ltb-true, map, max, nat_le, nat_lt}
use Rattle.dn_shaper.proofs.Words.{nat_tests, next_free, refl, reply, settings, settled, subst, suc, sym, total, trace_of, true, undelivered, waiting, wake_of, zero, ℕ, ⊎_elim, ◌<◌, ◌^◌, ◌∙◌, ◌∷◌}
use Rattle.dn_shaper.proofs.Words.{◌≡◌, ◌≤◌}
use Rattle.dn_shaper.specs.Waking.{earlier}
use Rattle.dn_shaper.proofs.Counting.{counts}

abbrev IsAfter : ℕ → Option ℕ → Type 0
IsAfter at o = IfSome o (λ n. at < n)

after-earlier : (at : ℕ) (o p : Option ℕ) → IsAfter at o → IsAfter at p → IsAfter at (earlier o p)
after-earlier at None p one other = other
after-earlier at (Some a) None one other = one
after-earlier at (Some a) (Some b) one other = omega arith

-- ---- Links with a backlog are busy beyond the clock

some-waits : (n : ℕ) (q : ℕ → List Accepted) → 0 < total n q → (flow : ℕ) × (0 < length (q flow))
some-waits zero q h = absurd (omega arith)
some-waits (suc n) q h = ⊎_elim (λ more. (n, more)) (λ none. some-waits n q (omega (arith, h, none))) (cases_lt 0 (length (q n)))

link-later : (calls : List Call) (link : Link) → IsAfter (effective_moment calls) (next_free (trace_of calls) link)
link-later calls link = by (nat_lt 0 (waiting link (trace_of calls))) refl
  where
    by : (b : Bool) → nat_lt 0 (waiting link (trace_of calls)) ≡ b → IsAfter (effective_moment calls) (cond b (Some (free link (trace_of calls))) None)
    by true e =
        let some = some-waits (flow_bound (trace_of calls)) (λ flow. backlog link flow (trace_of calls)) (ltb-true 0 (waiting link (trace_of calls)) e) in
        busy-link calls link some.0 some.1
    by false e = tt

links-later : (calls : List Call) (ls : List Link) → IsAfter (effective_moment calls) (earliest (map (next_free (trace_of calls)) ls))
links-later calls [] = tt
links-later calls (l ∷ ls) =
    after-earlier (effective_moment calls) (next_free (trace_of calls) l) (earliest (map (next_free (trace_of calls)) ls)) (link-later calls l) (links-later calls ls)

-- ---- Where none is given, none is due

none-due : (at : ℕ) (ds : List Delivery) → length (filter (λ (d : Delivery). nat_le d.due at) ds) ≡ 0 → IsAfter at (earliest (map (λ (d : Delivery). Some d.due) ds))
none-due at [] h = tt
none-due at (d ∷ ds) h = by (nat_le d.due at) refl h (none-due at ds)
  where
    by : (b : Bool) → nat_le d.due at ≡ b → length (cond b (d ∷ filter (λ (e : Delivery). nat_le e.due at) ds) (filter (λ (e : Delivery). nat_le e.due at) ds)) ≡ 0 →
        (length (filter (λ (e : Delivery). nat_le e.due at) ds) ≡ 0 → IsAfter at (earliest (map (λ (e : Delivery). Some e.due) ds))) →
        IsAfter at (earliest (map (λ (e : Delivery). Some e.due) (d ∷ ds)))
    by true e h rest = absurd (omega (arith, h))
    by false e h rest = after-earlier at (Some d.due) (earliest (map (λ (e : Delivery). Some e.due) ds)) (later e) (rest h)
      where
        later : nat_le d.due at ≡ false → at < d.due
        later e = grind (arith, nat_tests)

gives : (rule : Rule) (calls : List Call) (next : ℕ) → wake_of rule (trace_of calls) ≡ Some next → trace_of (Advance next ∷ calls) ≡ trace_of calls →
    0 < length (given rule (max (effective_moment calls) next) (trace_of (Advance next ∷ calls)))
gives rule calls next is same = ⊎_elim (λ some. some) (λ none. absurd (late (omega (arith, none)))) (cases_lt 0 (length (given rule at (trace_of (Advance next ∷ calls)))))
  where
    at : ℕ
    at = max (effective_moment calls) next

    late : length (given rule at (trace_of (Advance next ∷ calls))) ≡ 0 → ⊥
    late none =
        let dues = none-due at (undelivered rule (trace_of calls)) (ap (λ (t : List Event). length (given rule at t)) (sym same) ∙ none) in
        let frees : IsAfter at (earliest (map (next_free (trace_of calls)) (links (trace_of calls)))) =
        subst (λ (t : List Event). IsAfter at (earliest (map (next_free t) (links (trace_of calls))))) same (links-later (Advance next ∷ calls) (links (trace_of calls))) in
        let both = after-earlier at (earliest (map (λ (d : Delivery). Some d.due) (undelivered rule (trace_of calls))))
        (earliest (map (next_free (trace_of calls)) (links (trace_of calls)))) dues frees in
        let beyond : at < next = subst (λ (o : Option ℕ). IsAfter at o) is both in
        omega (arith, beyond)

-- So where no packet starts up to the earliest moment, a Collect there has one in its reply.
pub wakes : (rule : Rule) (calls : List Call) → length calls < 2 ^ 62 → (next : ℕ) → wake_of rule (trace_of (counted calls)) ≡ Some next →
    trace_of (Advance next ∷ calls) ≡ trace_of calls → 0 < items_in (reply rule calls (Collect next))
wakes rule calls few next is same = ⊎_elim (λ c. told c.1 c.2) (λ many. let more = many.0 in absurd (omega (arith, few, more))) (counts rule calls (Collect next))
  where
    told : counted calls ≡ calls → reply rule calls (Collect next) ≡ counted_reply rule calls (Collect next) → 0 < items_in (reply rule calls (Collect next))
    told all answer =
        let here = gives rule calls next (ap (λ (cs : List Call). wake_of rule (trace_of cs)) (sym all) ∙ is) same in
        subst (λ (n : ℕ). 0 < n) (sym (ap items_in answer)) here
