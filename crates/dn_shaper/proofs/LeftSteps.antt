-- The heap of links after each step, with the keys that emptied links left there.
use Rattle.dn_shaper.proofs.Words.{Bool, Contains, Contains-permutation, Err, HasKept, Heap, Holds, IfSome, IsFirstCounting, IsLeast, IsPermutation, IsPermutation-refl, IsPermutation-sym}
use Rattle.dn_shaper.proofs.Words.{IsPermutation-trans, IsTidy, KeepsCounting, List, NextStart, None, Ok, OnErr, OnOk, Option, Result, Some, [], ap, arith, backlogged, cases_Bool, counting}
use Rattle.dn_shaper.proofs.Words.{eqb-true, false, filter, inl, inr, is_left, is_some, keys_at, length, length-set, length_permutation, max, nat_eq, next_at, next_start_cmp, refl, set, subst}
use Rattle.dn_shaper.proofs.Words.{sum_by-IsPermutation, sym, true, ℕ, ◌+◌, ◌<◌, ◌^◌, ◌∙◌, ◌∷◌, ◌≡◌, ◌≤◌}
use Rattle.dn_shaper.proofs.KeyCounts.{contains_counted, count_of, count-cons, one_if, same_counts}
use Rattle.dn_shaper.proofs.LeavesKey.{leaves-held}
use Rattle.dn_shaper.proofs.LeftKeys.{alike-first, alike-held, back-fewer, back-first, back-held, back-keys, back-not, cleared-first, cleared-held}
use Rattle.dn_shaper.proofs.LeftKeys.{cleared-keys, counted-lengths, left-once, none-at, none-left, one-least, with-first, with-held, with-keys, without-held}

module _ (heap : Heap NextStart) (E : List (Option ℕ)) (key : NextStart) (heap' : Heap NextStart) where
  -- ---- A key that counts comes or leaves

  module _ (counts : is_left E key ≡ false) where
    pub pushed-tidy : IsTidy heap E → IsPermutation (key ∷ heap.keys) heap'.keys → heap'.room + 1 ≡ heap.room → IsTidy heap' E
    pushed-tidy tidy perm room =
        let long = length_permutation (key ∷ heap.keys) heap'.keys perm in
        let p = tidy.kept.places in
        record {
          kept = record { left = with-held E key heap.keys heap'.keys counts perm tidy.kept.left; places = omega arith };
          first = with-first E key heap.keys heap'.keys counts perm tidy.first;
        }

    pub popped-kept : HasKept heap E → IsPermutation heap.keys (key ∷ heap'.keys) → heap'.room ≡ heap.room + 1 → HasKept heap' E
    popped-kept kept perm room =
        let long = length_permutation heap.keys (key ∷ heap'.keys) perm in
        let p = kept.places in
        record {
          left = without-held E key heap'.keys heap.keys counts (IsPermutation-sym heap.keys (key ∷ heap'.keys) perm) kept.left;
          places = omega arith;
        }

    pub popped-keys : IsPermutation heap.keys (key ∷ heap'.keys) → IsPermutation (counting E heap.keys) (key ∷ counting E heap'.keys)
    popped-keys perm =
        IsPermutation-sym (key ∷ counting E heap'.keys) (counting E heap.keys)
        (with-keys E key heap'.keys heap.keys counts (IsPermutation-sym heap.keys (key ∷ heap'.keys) perm))

  -- ---- A key that was left leaves the heap

  module _ (kept : HasKept heap E) (left : is_left E key ≡ true) (perm : IsPermutation heap.keys (key ∷ heap'.keys)) (room : heap'.room ≡ heap.room + 1) where
    pub dropped-kept : HasKept heap' (set E key.place None)
    dropped-kept =
        let long = length_permutation heap.keys (key ∷ heap'.keys) perm in
        let p = kept.places in
        let many = length-set E key.place None in
        record {
          left = without-held (set E key.place None) key heap'.keys heap.keys (back-not E heap.keys kept.left key left)
              (IsPermutation-sym heap.keys (key ∷ heap'.keys) perm) (back-held E heap.keys kept.left key left);
          places = omega arith;
        }

    pub dropped-keys : IsPermutation (counting E heap.keys) (counting (set E key.place None) heap'.keys)
    dropped-keys =
        let E' = set E key.place None in
        let back = back-keys E heap.keys kept.left key left in
        let out = with-keys E' key heap'.keys heap.keys (back-not E heap.keys kept.left key left) (IsPermutation-sym heap.keys (key ∷ heap'.keys) perm) in
        same_counts (counting E heap.keys) (counting E' heap'.keys) (λ k.
        let a = count-cons k key (counting E heap.keys) in
        let b = count-cons k key (counting E' heap'.keys) in
        let c = sum_by-IsPermutation (one_if k) (key ∷ counting E heap.keys) (counting E' heap.keys) back in
        let d = sum_by-IsPermutation (one_if k) (key ∷ counting E' heap'.keys) (counting E' heap.keys) out in
        omega (arith, a, b, c, d))

    pub dropped : heap'.moves ≡ heap.moves → KeepsCounting heap E heap' (set E key.place None)
    dropped moves = record {
      keys = dropped-keys;
      room = let f = back-fewer E heap.keys kept.left key left in omega arith;
      moves = moves;
      places = length-set E key.place None;
    }

module _ (heap : Heap NextStart) (E : List (Option ℕ)) (key : NextStart) where
  -- ---- A key that was left counts again

  pub back-tidy : IsTidy heap E → is_left E key ≡ true → IsTidy heap (set E key.place None)
  back-tidy tidy left =
      let many = length-set E key.place None in
      let p = tidy.kept.places in
      record {
        kept = record { left = back-held E heap.keys tidy.kept.left key left; places = omega arith };
        first = back-first E heap.keys tidy.kept.left key left tidy.first;
      }

  -- ---- A link leaves its key

  pub left-kept : HasKept heap E → key.place < length E → next_at E key.place ≡ None → Contains (counting E heap.keys) key →
      keys_at key.place (counting E heap.keys) ≡ 1 → HasKept heap (set E key.place (Some key.moment))
  left-kept kept inside none held once =
      let many = length-set E key.place (Some key.moment) in
      let p = kept.places in
      record { left = leaves-held E heap.keys kept.left key inside none held once; places = omega arith }

-- ---- All keys that were left leave

module _ (heap heap' : Heap NextStart) (E E' : List (Option ℕ)) (kept : HasKept heap E) (perm : IsPermutation (counting E heap.keys) heap'.keys)
    (room : length heap'.keys + heap'.room ≡ length heap.keys + heap.room) (none : (place : ℕ) → next_at E' place ≡ None)
    (many : length E' ≡ length E) (count : backlogged E' ≡ 0) where
  pub cleared-kept : HasKept heap' E'
  cleared-kept = let p = kept.places in record { left = cleared-held E' none heap'.keys; places = omega arith }

  pub cleared : heap'.moves ≡ heap.moves → KeepsCounting heap E heap' E'
  cleared moves = record {
    keys = IsPermutation-trans (counting E heap.keys) heap'.keys (counting E' heap'.keys) perm (cleared-keys E' none heap'.keys);
    room =
        let l = counted-lengths E heap.keys kept.left in
        let long = length_permutation (counting E heap.keys) heap'.keys perm in
        omega arith;
    moves = moves;
    places = many;
  }

-- ---- The steps of a loop

pub keeps-none : (heap : Heap NextStart) (E : List (Option ℕ)) → KeepsCounting heap E heap E
keeps-none heap E = record { keys = IsPermutation-refl (counting E heap.keys); room = refl; moves = refl; places = refl }

pub keeps-more : (a b c : Heap NextStart) (E F G : List (Option ℕ)) → KeepsCounting a E b F → KeepsCounting b F c G → KeepsCounting a E c G
keeps-more a b c E F G x y = record {
  keys = IsPermutation-trans (counting E a.keys) (counting F b.keys) (counting G c.keys) x.keys y.keys;
  room = y.room ∙ x.room;
  moves = y.moves ∙ x.moves;
  places = y.places ∙ x.places;
}

-- ---- The first key

module _ (heap : Heap NextStart) (E : List (Option ℕ)) (kept : HasKept heap E) where
  in-heap : (k : NextStart) → is_left E k ≡ true → Contains heap.keys k
  in-heap k left = let one = left-once E heap.keys kept.left k left in contains_counted k heap.keys (omega arith)

  pub first-of-none : length heap.keys ≡ 0 → IsFirstCounting heap.keys E
  first-of-none none k least = elim (cases_Bool (is_left E k)) [
    | inl left ↦ absurd (let lt = (in-heap k left).1 in omega arith)
    | inr f ↦ f
  ]

  module _ (top : NextStart) (held : Contains heap.keys top) (least-top : IsLeast next_start_cmp top heap.keys) where
    pub first-of-top : is_left E top ≡ false → IsFirstCounting heap.keys E
    first-of-top f k least = elim (cases_Bool (is_left E k)) [
      | inl left ↦
          let same : k ≡ top = one-least heap.keys k top (in-heap k left) least held least-top in
          absurd (let t = subst (λ (y : NextStart). is_left E y ≡ true) same left in cc)
      | inr g ↦ g
    ]

-- What a pop takes is the key that was seen.
pub record TopPopped (heap : Heap NextStart) (top : NextStart) (heap' : Heap NextStart) : Type 0 where
  pub keys : IsPermutation heap.keys (top ∷ heap'.keys)
  pub room : heap'.room ≡ heap.room + 1

pub top-popped : (heap heap' : Heap NextStart) (top : NextStart) (o : Option NextStart) → Contains heap.keys top → IsLeast next_start_cmp top heap.keys →
    (0 < length heap.keys → is_some o ≡ true) → IfSome o (λ k. IsLeast next_start_cmp k heap.keys) → IfSome o (λ k. IsPermutation heap.keys (k ∷ heap'.keys)) →
    IfSome o (λ k. heap'.room ≡ heap.room + 1) → TopPopped heap top heap'
top-popped heap heap' top None held least some least' keys room = absurd (let lt = held.1 in let e = some (omega arith) in cc)
top-popped heap heap' top (Some k) held least some least' keys room =
    let in_keys = Contains-permutation (k ∷ heap'.keys) heap.keys k (IsPermutation-sym heap.keys (k ∷ heap'.keys) keys) (0, omega arith, refl) in
    let same : k ≡ top = one-least heap.keys k top in_keys least' held least in
    record { keys = subst (λ (x : NextStart). IsPermutation heap.keys (x ∷ heap'.keys)) same keys; room = room }

-- Fewer keys by one.
pub popped-fewer : (heap heap' : Heap NextStart) (top : NextStart) → TopPopped heap top heap' → length heap'.keys + 1 ≡ length heap.keys
popped-fewer heap heap' top p = let long = length_permutation heap.keys (top ∷ heap'.keys) p.keys in omega arith

pub popped-held : (heap heap' : Heap NextStart) (key : NextStart) → IsPermutation heap.keys (key ∷ heap'.keys) → Contains heap.keys key
popped-held heap heap' key perm = Contains-permutation (key ∷ heap'.keys) heap.keys key (IsPermutation-sym heap.keys (key ∷ heap'.keys) perm) (0, omega arith, refl)

-- ---- No link left a key

none-there : (E : List (Option ℕ)) (b : Bool) → b ≡ nat_eq (backlogged E) 0 → b ≡ true → (place : ℕ) → next_at E place ≡ None
none-there E b is t = let zero : backlogged E ≡ 0 = eqb-true (backlogged E) 0 (sym is ∙ t) in none-at E zero

pub first-of-empty : (heap : Heap NextStart) (E : List (Option ℕ)) (b : Bool) → b ≡ nat_eq (backlogged E) 0 → b ≡ true → IsFirstCounting heap.keys E
first-of-empty heap E b is t = cleared-first E (none-there E b is t) heap.keys

pub counts-of-empty : (E : List (Option ℕ)) (b : Bool) → b ≡ nat_eq (backlogged E) 0 → b ≡ true → (key : NextStart) → is_left E key ≡ false
counts-of-empty E b is t key = none-left E key (none-there E b is t key.place)

-- There is none after all were forgotten.
pub first-of-zero : (heap : Heap NextStart) (E : List (Option ℕ)) → backlogged E ≡ 0 → IsFirstCounting heap.keys E
first-of-zero heap E zero = cleared-first E (none-at E zero) heap.keys

pub counts-of-zero : (E : List (Option ℕ)) → backlogged E ≡ 0 → (key : NextStart) → is_left E key ≡ false
counts-of-zero E zero key = none-left E key (none-at E zero key.place)

pub none-of : (E : List (Option ℕ)) (place : ℕ) (b : Bool) → b ≡ is_some (next_at E place) → b ≡ false → next_at E place ≡ None
none-of E place b is f = by (next_at E place) (sym is ∙ f)
  where
    by : (o : Option ℕ) → is_some o ≡ false → o ≡ None
    by None e = refl
    by (Some m) e = absurd cc

-- ---- Places and room

-- A place that callers see is one of the list.
pub place-there : (heap heap' : Heap NextStart) (E E' : List (Option ℕ)) → HasKept heap' E' → KeepsCounting heap E heap' E' → (place : ℕ) →
    place < length (counting E heap.keys) + (heap.room + backlogged E) → place < length E'
place-there heap heap' E E' kept keeps place within =
    let same = length_permutation (counting E heap.keys) (counting E' heap'.keys) keeps.keys in
    let all = counted-lengths E' heap'.keys kept.left in
    let room = keeps.room in
    let p = kept.places in
    omega (arith, same, all, room, p, within)

pub reserved-most : {A B : Type 0} (r : Result A B) (old new : Heap NextStart) (n : ℕ) → OnOk r (new.room ≡ max old.room n) → OnErr r (new ≡ old) → new.room ≤ max old.room n
reserved-most (Ok a) old new n ok err = omega arith
reserved-most (Err e) old new n ok err = let same = ap {B = ℕ} (λ (h : Heap NextStart). h.room) err in omega arith

-- `wanted` is as many places as keys and room, as far as a number goes.
pub reserved-tidy : (heap heap' : Heap NextStart) (E E' : List (Option ℕ)) (n wanted : ℕ) → IsTidy heap E → ((place : ℕ) → next_at E' place ≡ next_at E place) →
    heap'.keys ≡ heap.keys → heap'.room ≤ max heap.room n → (wanted < 2 ^ 63 → length heap.keys + max heap.room n ≤ wanted) → wanted ≤ length E' → length E' < 2 ^ 63 → IsTidy heap' E'
reserved-tidy heap heap' E E' n wanted tidy same keys room enough places few =
    let long = ap {B = ℕ} (λ (ks : List NextStart). length ks) keys in
    let all = enough (omega arith) in
    record {
      kept = record {
        left = subst (λ (ks : List NextStart). Holds E' (filter (is_left E') ks)) (sym keys) (alike-held E E' same heap.keys tidy.kept.left);
        places = omega arith;
      };
      first = subst (λ (ks : List NextStart). IsFirstCounting ks E') (sym keys) (alike-first E E' same heap.keys tidy.first);
    }
