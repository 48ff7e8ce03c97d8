-- Calls count up to the limit, and those beyond it change nothing.
use Rattle.dn_shaper.proofs.Words.{Call, CanNeedMemory, Does, Err, Exhausted, IfOk, IsOk, IsSound, List, Ok, OnErr, Reply, Result, Rule, StandsAfter, StandsAt, State, StillStands, ap, arith}
use Rattle.dn_shaper.proofs.Words.{cases_lt, cond, counted, counted_reply, drop, inl, inr, le-leb, length, length-drop, lt-leb, refl, reply, subst, suc, sym, ◌-◌, ◌<◌, ◌^◌, ◌∙◌, ◌∷◌, ◌≡◌, ◌≤◌}
use Rattle.dn_shaper.proofs.Words.{◌⊎◌}

pub all-count : (calls : List Call) → length calls ≤ 2 ^ 62 → counted calls ≡ calls
all-count calls le = let none : length calls - 2 ^ 62 ≡ 0 = omega arith in ap (λ n. drop n calls) none

no-more : (call : Call) (calls : List Call) → 2 ^ 62 ≤ length calls → counted (call ∷ calls) ≡ counted calls
no-more call calls le = let one : length (call ∷ calls) - 2 ^ 62 ≡ suc (length calls - 2 ^ 62) = omega arith in ap (λ n. drop n (call ∷ calls)) one

-- What a call that counts is answered, and what one beyond the limit is.
pub counts : (rule : Rule) (calls : List Call) (call : Call) →
    ((length calls < 2 ^ 62) × (counted calls ≡ calls) × (reply rule calls call ≡ counted_reply rule calls call)) ⊎ ((2 ^ 62 ≤ length calls) × (reply rule calls call ≡ Exhausted))
counts rule calls call = by (cases_lt (length calls) (2 ^ 62))
  where
    by : (length calls < 2 ^ 62) ⊎ (2 ^ 62 ≤ length calls) →
        ((length calls < 2 ^ 62) × (counted calls ≡ calls) × (reply rule calls call ≡ counted_reply rule calls call)) ⊎ ((2 ^ 62 ≤ length calls) × (reply rule calls call ≡ Exhausted))
    by (inl few) = inl (few, all-count calls (omega arith), ap (λ b. cond b Exhausted (counted_reply rule calls call)) (lt-leb (2 ^ 62) (length calls) few))
    by (inr many) = inr (many, ap (λ b. cond b Exhausted (counted_reply rule calls call)) (le-leb (2 ^ 62) (length calls) many))

-- The call is answered and the shaper stands after one call more.
abbrev pub Answers : Call → State → State → Reply → Type 0
Answers call old new r = (rule : Rule) (calls : List Call) → StandsAfter rule old calls → (r ≡ reply rule calls call) × StandsAfter rule new (call ∷ calls)

pub exhausted : (call : Call) (s t : State) → s ≡ t → s.calls ≡ 2 ^ 62 → Answers call t t Exhausted
exhausted call s t is full rule calls stands =
    let n = ap (λ (x : State). x.calls) is in
    let c = stands.calls_are in
    let l = length-drop (length calls - 2 ^ 62) calls in
    let many : 2 ^ 62 ≤ length calls = omega arith in
    (sym (ap (λ b. cond b Exhausted (counted_reply rule calls call)) (le-leb (2 ^ 62) (length calls) many)), subst (λ (cs : List Call). StandsAt rule t cs) (sym (no-more call calls many)) stands)

pub answers : (call named : Call) (old s new : State) (r : Reply) → named ≡ call → old ≡ s → (old.calls ≡ 2 ^ 62 → ⊥) → Does call old new r → Answers named s new r
answers call named old s new r same is room does = subst (λ (x : Call × State). Answers x.0 x.1 new r) (λ i. (sym same i, is i)) one
  where
    one : Answers call old new r
    one rule calls stands = by (counts rule calls call)
      where
        by : ((length calls < 2 ^ 62) × (counted calls ≡ calls) × (reply rule calls call ≡ counted_reply rule calls call)) ⊎ ((2 ^ 62 ≤ length calls) × (reply rule calls call ≡ Exhausted)) →
            (r ≡ reply rule calls call) × StandsAfter rule new (call ∷ calls)
        by (inl few) =
            let d = does rule calls (subst (λ (cs : List Call). StandsAt rule old cs) few.1 stands) in
            let lt = few.0 in
            (d.0 ∙ sym few.2, subst (λ (cs : List Call). StandsAt rule new cs) (sym (all-count (call ∷ calls) (omega arith))) d.1)
        by (inr many) =
            let c = stands.calls_are in
            let l = length-drop (length calls - 2 ^ 62) calls in
            let le = many.0 in
            absurd (room (omega arith))

module _ {E : Type 0} where
  pub answers-ok : (call named : Call) (old s new : State) (result : Result Reply E) → named ≡ call → old ≡ s → (old.calls ≡ 2 ^ 62 → ⊥) →
      IfOk result (λ r. Does call old new r) → IfOk result (λ r. Answers named s new r)
  answers-ok call named old s new (Ok r) same is room does = answers call named old s new r same is room does
  answers-ok call named old s new (Err e) same is room does = tt

  -- A call that is answered at all is within the limit.
  pub never-full : (old s : State) (result : Result Reply E) → old ≡ s → (old.calls ≡ 2 ^ 62 → ⊥) → (rule : Rule) (calls : List Call) → StandsAfter rule s calls → 2 ^ 62 ≤ length calls → IsOk result
  never-full old s result is room rule calls stands many =
      let n = ap (λ (x : State). x.calls) is in
      let c = stands.calls_are in
      let l = length-drop (length calls - 2 ^ 62) calls in
      absurd (room (omega arith))

  -- Where memory is refused the shaper stands after the same calls.
  pub refuses : (old s new : State) (result : Result Reply E) → old ≡ s → OnErr result (StillStands old new) →
      OnErr result ((rule : Rule) (calls : List Call) → StandsAfter rule s calls → StandsAfter rule new calls)
  refuses old s new (Ok r) is still = tt
  refuses old s new (Err e) is still = λ rule calls stands. still rule (counted calls) (subst (λ (x : State). StandsAt rule x (counted calls)) (sym is) stands)

  -- What is known of a call that was refused memory, where the list is of the calls that count.
  pub needs : (call named : Call) (old s : State) (result : Result Reply E) → named ≡ call → old ≡ s →
      OnErr result ((rule : Rule) (calls : List Call) → StandsAt rule old calls → CanNeedMemory calls call) →
      OnErr result ((rule : Rule) (calls : List Call) → StandsAfter rule s calls → CanNeedMemory (counted calls) named)
  needs call named old s (Ok r) same is need = tt
  needs call named old s (Err e) same is need = λ rule calls stands. subst (λ (c : Call). CanNeedMemory (counted calls) c) (sym same)
      (need rule (counted calls) (subst (λ (x : State). StandsAt rule x (counted calls)) (sym is) stands))

-- What holds between calls.
abbrev pub Holds : State → Type 0
Holds s = IsSound s × ((rule : Rule) × (calls : List Call) × StandsAfter rule s calls)

pub holds-then : (call : Call) (old new : State) (r : Reply) → (old.calls ≡ 2 ^ 62 → ⊥) → Holds old → IsSound new → Does call old new r → Holds new
holds-then call old new r room h sound does = let t = h.1 in (sound, (t.0, call ∷ t.1, (answers call call old old new r refl refl room does t.0 t.1 t.2).1))

module _ {E : Type 0} where
  pub holds-ok : (call : Call) (old new : State) (result : Result Reply E) → (old.calls ≡ 2 ^ 62 → ⊥) → Holds old → IsSound new →
      IfOk result (λ r. Does call old new r) → OnErr result (StillStands old new) → Holds new
  holds-ok call old new (Ok r) room h sound does still = holds-then call old new r room h sound does
  holds-ok call old new (Err e) room h sound does still = let t = h.1 in (sound, (t.0, t.1, still t.0 (counted t.1) t.2))

  -- A state that is the same stands after the same calls.
  pub same-stands : (old new : State) (result : Result Reply E) → OnErr result (new ≡ old) → OnErr result (StillStands old new)
  same-stands old new (Ok r) same = tt
  same-stands old new (Err e) same = λ rule calls s. subst (λ (x : State). StandsAt rule x calls) (sym same) s
