-- The callers of one service, step by step.
use Rattle.dn_replay.proofs.Words.{Absent, All, All-cons, All-head, All-nil, All-tail, AllSubmitted, AreCallersOf, Call, CallerView, CloseFault, Collect, Entry, HasSubmitted, IfOk, IsAccountedFor}
use Rattle.dn_replay.proofs.Words.{IsCloseFault, IsOf, IsSameCaller, List, Ok, Result, Row, ServiceView, [], ap, append-nil, arith, calls_by, calls_given, calls_of, eq-eqb, get_or, has_number}
use Rattle.dn_replay.proofs.Words.{length, length-map, length-set, map, ne_eqb, new_callers, own_entries, refl, rows_of_caller, set, submitted, subst, suc, sym, true, true≢false, zero, ℕ, ◌++◌}
use Rattle.dn_replay.proofs.Words.{◌+◌, ◌<◌, ◌^◌, ◌∙◌, ◌∷◌, ◌≡◌, ◌≤◌}
use mathlib.Core.Logic.{dite}
use native.Mathlib.Decide.{ℕ_discrete}

-- What the threads gave back is what each caller has submitted.
pub all_back : {E : Type 0} (n : ℕ) (rows : List Row) (befores afters : List CallerView) (back : List (Result CallerView E)) → map Ok afters ≡ back → length back ≡ length befores
    → ((k : ℕ) (d : Result CallerView E) → k < length befores → (job : CallerView) × ((e : CallerView) → get_or befores k e ≡ job) × IfOk (get_or back k d) (λ after. HasSubmitted n rows job after))
    → AllSubmitted n rows befores afters
all_back n rows [] [] back is size each = tt
all_back n rows [] (after ∷ afters) back is size each = let none : length (after ∷ afters) ≡ 0 = sym (length-map (after ∷ afters) Ok) ∙ ap length is ∙ size in absurd (omega arith)
all_back n rows (before ∷ befores) [] back is size each = let none : 0 ≡ length (before ∷ befores) = ap length is ∙ size in absurd (omega arith)
all_back {E} n rows (before ∷ befores) (after ∷ afters) back is size each =
    let one = each 0 (Ok after) (omega arith) in
    let came : get_or back 0 (Ok after) ≡ Ok after = ap (λ (l : List (Result CallerView E)). get_or l 0 (Ok after)) (sym is) in
    let did = subst (λ (r : Result CallerView E). IfOk r (λ a. HasSubmitted n rows one.0 a)) came one.2 in
    let whole : length (map {A = CallerView} {B = Result CallerView E} Ok afters) ≡ length befores = length-map afters Ok
    ∙ (let long : suc (length afters) ≡ suc (length befores) = sym (length-map (after ∷ afters) Ok) ∙ ap length is ∙ size in omega arith) in (
      subst (λ (b : CallerView). HasSubmitted n rows b after) (sym (one.1 before)) did,
      all_back n rows befores afters (map Ok afters) refl whole
          (λ k d lt. let next = each (suc k) d (omega arith) in
          (next.0, next.1, subst (λ (l : List (Result CallerView E)). IfOk (get_or l (suc k) d) (λ a. HasSubmitted n rows next.0 a)) (sym is) next.2)),
    )

-- The callers by what each has made, whatever is said of lower numbers.
callers_as : (service : ServiceView) (made made' : ℕ → List Call) (k : ℕ) (callers : List CallerView) → ((j : ℕ) → k ≤ j → made j ≡ made' j) → AreCallersOf service made k callers
    → AreCallersOf service made' k callers
callers_as service made made' k [] same is = tt
callers_as service made made' k (c ∷ callers) same is = (is.0, is.1, is.2 ∙ same k (omega arith), callers_as service made made' (k + 1) callers (λ j le. same j (omega arith)) is.3)

pub callers_new : (service : ServiceView) (k n : ℕ) → AreCallersOf service (λ _. []) k (new_callers service k n)
callers_new service k zero = tt
callers_new service k (suc n) = (refl, refl, refl, callers_new service (k + 1) n)

pub new_length : (service : ServiceView) (k n : ℕ) → length (new_callers service k n) ≡ n
new_length service k zero = refl
new_length service k (suc n) = let rest = new_length service (k + 1) n in omega arith

-- What each has made, where caller 0 has made other calls.
abbrev changed : List Call → (ℕ → List Call) → ℕ → List Call
changed calls made zero = calls
changed calls made (suc k) = made (suc k)

others_same : (calls : List Call) (made : ℕ → List Call) (j : ℕ) → 1 ≤ j → made j ≡ changed calls made j
others_same calls made zero le = absurd (omega arith)
others_same calls made (suc j) le = refl

callers_first : (service : ServiceView) (made : ℕ → List Call) (more : List Call → List Call) (callers : List CallerView) (d after : CallerView) → 0 < length callers
    → IsSameCaller (get_or callers 0 d) after
    → calls_by after ≡ more (calls_by (get_or callers 0 d)) → AreCallersOf service made 0 callers → AreCallersOf service (changed (more (made 0)) made) 0 (set callers 0 after)
callers_first service made more [] d after some same calls is = tt
callers_first service made more (c ∷ callers) d after some same calls is =
    (same.service ∙ is.0, same.number ∙ is.1, calls ∙ ap more is.2, callers_as service made (changed (more (made 0)) made) 1 callers (others_same (more (made 0)) made) is.3)

callers_rows : (service : ServiceView) (made : ℕ → List Call) (n : ℕ) (rows : List Row) (k : ℕ) (befores afters : List CallerView) → AllSubmitted n rows befores afters
    → AreCallersOf service made k befores
    → AreCallersOf service (λ j. submitted (made j) (rows_of_caller n j rows)) k afters
callers_rows service made n rows k [] [] all is = tt
callers_rows service made n rows k [] (after ∷ afters) all is = absurd all
callers_rows service made n rows k (before ∷ befores) [] all is = absurd all
callers_rows service made n rows k (before ∷ befores) (after ∷ afters) all is = (
  all.0.same.service ∙ is.0,
  all.0.same.number ∙ is.1,
  all.0.calls ∙ (λ i. submitted (is.2 i) (rows_of_caller n (is.1 i) rows)),
  callers_rows service made n rows (k + 1) befores afters all.1 is.3,
)

pub all_length : (n : ℕ) (rows : List Row) (befores afters : List CallerView) → AllSubmitted n rows befores afters → length afters ≡ length befores
all_length n rows [] [] all = refl
all_length n rows [] (after ∷ afters) all = absurd all
all_length n rows (before ∷ befores) [] all = absurd all
all_length n rows (before ∷ befores) (after ∷ afters) all = let rest = all_length n rows befores afters all.1 in omega arith

-- The calls of the callers after the configuration and the rows, and after the last call.
abbrev begun : ℕ → List Call → List Row → ℕ → List Call
begun n calls rows j = submitted (changed (calls ++ []) (λ _. []) j) (rows_of_caller n j rows)

given_is : (n : ℕ) (calls : List Call) (rows : List Row) (j : ℕ) → 0 ≤ j → changed (Collect (2 ^ 62) ∷ begun n calls rows 0) (begun n calls rows) j ≡ calls_given n calls rows j
given_is n calls rows zero le = ap (λ (l : List Call). Collect (2 ^ 62) ∷ submitted l (rows_of_caller n 0 rows)) (append-nil calls)
given_is n calls rows (suc j) le = refl

-- Caller 0 made the calls of a configuration, all submitted, and caller 0 made the last call.
pub callers_done : (n : ℕ) (calls : List Call) (rows : List Row) (xs ys : List CallerView) (v₁ c₁ v₂ c₂ : CallerView)
    → v₁ ≡ get_or xs 0 v₁ → IsSameCaller v₁ c₁ → calls_by c₁ ≡ calls ++ calls_by v₁ → AllSubmitted n rows (set xs 0 c₁) ys
    → v₂ ≡ get_or ys 0 v₂ → IsSameCaller v₂ c₂ → calls_by c₂ ≡ Collect (2 ^ 62) ∷ calls_by v₂
    → 0 < length xs → 0 < length ys → (service : ServiceView) → AreCallersOf service (λ _. []) 0 xs
    → (length (set ys 0 c₂) ≡ length xs) × AreCallersOf service (calls_given n calls rows) 0 (set ys 0 c₂)
callers_done n calls rows xs ys v₁ c₁ v₂ c₂ is₁ same₁ made₁ all is₂ same₂ made₂ some₁ some₂ service callers =
    let one = callers_first service (λ _. []) (λ l. calls ++ l) xs v₁ c₁ some₁ (subst (λ (v : CallerView). IsSameCaller v c₁) is₁ same₁)
    (subst (λ (v : CallerView). calls_by c₁ ≡ calls ++ calls_by v) is₁ made₁) callers in
    let ran = callers_rows service (changed (calls ++ []) (λ _. [])) n rows 0 (set xs 0 c₁) ys all one in
    let last = callers_first service (begun n calls rows) (λ l. Collect (2 ^ 62) ∷ l) ys v₂ c₂ some₂ (subst (λ (v : CallerView). IsSameCaller v c₂) is₂ same₂)
    (subst (λ (v : CallerView). calls_by c₂ ≡ Collect (2 ^ 62) ∷ calls_by v) is₂ made₂) ran in (
      length-set ys 0 c₂ ∙ (all_length n rows (set xs 0 c₁) ys all ∙ length-set xs 0 c₁),
      callers_as service (changed (Collect (2 ^ 62) ∷ begun n calls rows 0) (begun n calls rows)) (calls_given n calls rows) 0 (set ys 0 c₂) (given_is n calls rows) last,
    )

pub callers_of : (service : ServiceView) (made : ℕ → List Call) (k : ℕ) (callers : List CallerView) → AreCallersOf service made k callers → All (IsOf service) callers
callers_of service made k [] is = All-nil (IsOf service)
callers_of service made k (c ∷ callers) is = All-cons (IsOf service) c callers is.0 (callers_of service made (k + 1) callers is.3)

-- No caller is missing.
callers_there : (service : ServiceView) (made : ℕ → List Call) (k : ℕ) (callers : List CallerView) (j : ℕ) → AreCallersOf service made k callers → k ≤ j → j < k + length callers
    → has_number j callers ≡ true
callers_there service made k [] j is low high = absurd (omega arith)
callers_there service made k (c ∷ callers) j is low high = dite (ℕ_discrete c.number j) (λ e. rw (eq-eqb c.number j e) refl)
    (λ ne. rw (ne_eqb c.number j ne) (let at = is.1 in callers_there service made (k + 1) callers j is.3 (omega arith) (omega arith)))

pub nobody_absent : (service : ServiceView) (made : ℕ → List Call) (callers : List CallerView) → AreCallersOf service made 0 callers → length callers ≡ service.callers
    → (fault : CloseFault) → IsCloseFault service.callers callers fault → ⊥
nobody_absent service made callers is size (Absent k) missing =
    let low = missing.below in
    let there = callers_there service made 0 callers k is (omega arith) (omega arith) in true≢false (sym there ∙ missing.missing)

-- The history has the calls of each.
pub callers_calls : (service : ServiceView) (made : ℕ → List Call) (history : List Entry) (k : ℕ) (callers : List CallerView) → All (IsAccountedFor history) callers
    → AreCallersOf service made k callers
    → (j : ℕ) → k ≤ j → j < k + length callers → calls_of (own_entries j history) ≡ made j
callers_calls service made history k [] all is j low high = absurd (omega arith)
callers_calls service made history k (c ∷ callers) all is j low high = dite (ℕ_discrete k j)
    (λ e. subst (λ (z : ℕ). calls_of (own_entries z history) ≡ made z) e
    (ap calls_of (sym ((All-head (IsAccountedFor history) c callers all).own ∙ ap (λ (z : ℕ). own_entries z history) is.1)) ∙ is.2))
    (λ ne. callers_calls service made history (k + 1) callers (All-tail (IsAccountedFor history) c callers all) is.3 j (omega arith) (omega arith))
