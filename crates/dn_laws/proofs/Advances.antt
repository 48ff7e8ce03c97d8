-- A settling up to one moment and then to a later one is one up to the later.
use Rattle.dn_laws.proofs.Words.{Bool, List, None, Option, Some, [], ap, arith, cond, false, max, nat_le, nat_lt, nat_tests, option_map, refl, settle-ends, subst, suc, sym, true, zero, ℕ, ⊎_elim}
use Rattle.dn_laws.proofs.Words.{◌<◌, ◌∙◌, ◌∷◌, ◌≡◌, ◌≤◌}
use Rattle.dn_laws.proofs.LawWords.{verdict_by, after_verdict, trace_of, effective_moment, moment_of, Settings, settings, treatment, keys, free, IsTimed, next_packet, start_at, next_start, sooner}
use Rattle.dn_laws.proofs.LawWords.{first_start, settle, settled, waiting_all, Link, Accepted, Start, Event, started, collected, links, Call, Configure, Submit, Advance, Collect, Show}
use Rattle.dn_laws.proofs.PartStarts.{HasEnded, settle-is, settle-one, sooner-one}

-- A start up to the moment stays the start up to a later one, and where there is none it comes after the moment.
abbrev IsStill : ℕ → Option Start → Option Start → Type 0
IsStill at (Some x) o = (o ≡ Some x) × (x.moment ≤ at)
IsStill at None o = (w : Start) → o ≡ Some w → at < w.moment

first-late : (x w : Start) (at : ℕ) → x.moment ≤ at → at < w.moment → nat_lt w.moment x.moment ≡ false
first-late x w at le lt = grind (arith, nat_tests)

last-late : (y w : Start) (at : ℕ) → y.moment ≤ at → at < w.moment → nat_lt y.moment w.moment ≡ true
last-late y w at le lt = grind (arith, nat_tests)

still-sooner : (at : ℕ) (o o' p p' : Option Start) → IsStill at o o' → IsStill at p p' → IsStill at (sooner o p) (sooner o' p')
still-sooner at None o' None p' h k = λ w e. ⊎_elim (λ left. h w left) (λ right. k w right) (sooner-one o' p' w e)
still-sooner at None o' (Some y) p' h k = (by o' refl ∙ refl, k.1)
  where
    by : (q : Option Start) → o' ≡ q → sooner o' p' ≡ Some y
    by None e = (λ i. sooner (e i) (k.0 i))
    by (Some w) e = (λ i. sooner (e i) (k.0 i)) ∙ ap (λ b. Some (cond b y w)) (last-late y w at k.1 (h w e))
still-sooner at (Some x) o' None p' h k = (by p' refl ∙ refl, h.1)
  where
    by : (q : Option Start) → p' ≡ q → sooner o' p' ≡ Some x
    by None e = (λ i. sooner (h.0 i) (e i))
    by (Some w) e = (λ i. sooner (h.0 i) (e i)) ∙ ap (λ b. Some (cond b w x)) (first-late x w at h.1 (k w e))
still-sooner at (Some x) o' (Some y) p' h k = ((λ i. sooner (h.0 i) (k.0 i)), either (nat_lt y.moment x.moment))
  where
    either : (b : Bool) → (cond b y x).moment ≤ at
    either true = k.1
    either false = h.1

module _ (set : Settings) (at to : ℕ) (le : at ≤ to) where
  still-next : (l : Link) (t : List Event) → IsStill at (next_start set at l t) (next_start set to l t)
  still-next l t = by (nat_le (free l t) at) refl (nat_le (free l t) to) refl (next_packet l t)
    where
      soon : nat_le (free l t) at ≡ true → nat_le (free l t) to ≡ false → ⊥
      soon e f = absurd (let one : free l t ≤ at = grind (arith, nat_tests) in let two : nat_le (free l t) to ≡ true = grind (arith, nat_tests) in let z : true ≡ false = sym two ∙ f in cc)

      by : (b : Bool) → nat_le (free l t) at ≡ b → (c : Bool) → nat_le (free l t) to ≡ c → (o : Option Accepted) →
          IsStill at (cond b (option_map (λ p. start_at set l p (free l t)) o) None) (cond c (option_map (λ p. start_at set l p (free l t)) o) None)
      by true e true f None = λ w g. absurd cc
      by true e true f (Some p) = (refl, let one : free l t ≤ at = grind (arith, nat_tests) in one)
      by true e false f o = absurd (soon e f)
      by false e c f None = λ w g. absurd (none c w g)
        where
          none : (c : Bool) (w : Start) → cond {A = Option Start} c None None ≡ Some w → ⊥
          none true w g = absurd cc
          none false w g = absurd cc
      by false e true f (Some p) = λ w g.
          let same : start_at set l p (free l t) ≡ w = cc in
          let lt : at < free l t = grind (arith, nat_tests) in
          subst (λ (x : Start). at < x.moment) same lt
      by false e false f (Some p) = λ w g. absurd cc

  still-first : (ls : List Link) (t : List Event) → IsStill at (first_start set at ls t) (first_start set to ls t)
  still-first [] t = λ w e. absurd cc
  still-first (l ∷ ls) t = still-sooner at (next_start set at l t) (next_start set to l t) (first_start set at ls t) (first_start set to ls t) (still-next l t) (still-first ls t)

  -- One start more is one of the later settling.
  one-more : (t : List Event) (s : Start) → first_start set to (links t) t ≡ Some s → settled set to (started s ∷ t) ≡ settled set to t
  one-more t s e =
      let m = waiting_all (links (started s ∷ t)) (started s ∷ t) in
      let n = waiting_all (links t) t in
      let is = settle-is set to m t (Some s) e in
      sym is
      ∙ settle-one set to (suc m) n t (subst (HasEnded set to) (sym is) (settle-ends m set to (started s ∷ t) (omega arith))) (settle-ends n set to t (omega arith))

  again : (k : ℕ) (t : List Event) → settled set to (settle k set at t) ≡ settled set to t
  again zero t = refl
  again (suc k) t = by (first_start set at (links t) t) refl (λ x. again k (started x ∷ t))
    where
      first : (s : Start) → first_start set at (links t) t ≡ Some s → first_start set to (links t) t ≡ Some s
      first s e = (subst (λ (o : Option Start). IsStill at o (first_start set to (links t) t)) e (still-first (links t) t)).0

      by : (o : Option Start) → first_start set at (links t) t ≡ o → ((x : Start) → settled set to (settle k set at (started x ∷ t)) ≡ settled set to (started x ∷ t)) →
          settled set to (elim o as (λ _. List Event) [ None ↦ t | Some s ↦ settle k set at (started s ∷ t) ]) ≡ settled set to t
      by None e rest = refl
      by (Some s) e rest = rest s ∙ one-more t s (first s e)

  pub settled-again : (t : List Event) → settled set to (settled set at t) ≡ settled set to t
  settled-again t = again (waiting_all (links t) t) t

module _ (calls : List Call) (moment : ℕ) where
  settled-less : (m : ℕ) → moment ≤ max (effective_moment calls) m →
      settled (settings (Advance moment ∷ calls)) (max (effective_moment (Advance moment ∷ calls)) m) (trace_of (Advance moment ∷ calls))
      ≡ settled (settings calls) (max (effective_moment calls) m) (trace_of calls)
  settled-less m le =
      let at = max (effective_moment calls) moment in
      let to = max (effective_moment calls) m in
      let same : max at m ≡ to = omega (arith, le) in
      ap (λ n. settled (settings calls) n (settled (settings calls) at (trace_of calls))) same ∙ settled-again (settings calls) at to (omega (arith, le)) (trace_of calls)

  at-same : (m : ℕ) → moment ≤ max (effective_moment calls) m → max (max (effective_moment calls) moment) m ≡ max (effective_moment calls) m
  at-same m le = omega (arith, le)

  pub advances-are-no-more : (c : Call) → IsTimed c → moment ≤ max (effective_moment calls) (moment_of c) → trace_of (c ∷ Advance moment ∷ calls) ≡ trace_of (c ∷ calls)
  advances-are-no-more (Configure command) h le = absurd h
  advances-are-no-more (Submit target packet m) h le =
      let b = settled-less m le in
      λ i. after_verdict (settings calls) (at-same m le i) packet (verdict_by (keys calls) target packet (treatment (settings calls target)) (b i)) (b i)
  advances-are-no-more (Advance m) h le = settled-less m le
  advances-are-no-more (Collect m) h le =
      λ i. collected (at-same m le i) ∷ settled-less m le i
  advances-are-no-more Show h le = absurd h
