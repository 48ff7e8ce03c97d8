-- What the library's heap says of its reversed keys, said of the keys.
use Rattle.dn_heap.proofs.Words.{All, All-cons, All-from_recursion, All-map, All-nil, Bool, IsLeast, IsPermutation, IsPermutation-map, IsUpperBound, List, Ordering, Reverse, [], ap, cond, false}
use Rattle.dn_heap.proofs.Words.{filter, is_lt, list_any, map, or_parts, refl, subst, true, ◌∷◌, ◌≡◌}

abbrev pub keys_of : {K : Type 0} → List (Reverse K) → List K
keys_of xs = map (λ r. r.0) xs

pub least_from_greatest : {K : Type 0} (cmp : K → K → Ordering) (x : Reverse K) (xs : List (Reverse K)) → IsUpperBound (λ a b. cmp b.0 a.0) x xs → IsLeast cmp x.0 (keys_of xs)
least_from_greatest cmp x xs h = All-map (λ y. is_lt (cmp y x.0) ≡ false) (λ r. r.0) xs (All-from_recursion (λ y. is_lt (cmp y.0 x.0) ≡ false) xs h)

pub keys_permuted : {K : Type 0} (xs ys : List (Reverse K)) → IsPermutation xs ys → IsPermutation (keys_of xs) (keys_of ys)
keys_permuted xs ys h = IsPermutation-map (λ r. r.0) xs ys h

-- no element passes where the test of the whole list says so
pub none_passes : {K : Type 0} (p : K → Bool) (xs : List (Reverse K)) → list_any (λ r. p r.0) xs ≡ false → All (λ k. p k ≡ false) (keys_of xs)
none_passes p [] h = All-nil (λ k. p k ≡ false)
none_passes p (x ∷ xs) h =
    let e : (p x.0 ≡ false) × (list_any (λ r. p r.0) xs ≡ false) = or_parts _ _ h in
    All-cons (λ k. p k ≡ false) x.0 (keys_of xs) e.0 (none_passes p xs e.1)

kept_or_not : {K : Type 0} (b : Bool) (x : Reverse K) (xs : List (Reverse K)) (ys : List K) → keys_of xs ≡ ys → keys_of (cond b (x ∷ xs) xs) ≡ cond b (x.0 ∷ ys) ys
kept_or_not {K} true x xs ys e = ap (λ (l : List K). x.0 ∷ l) e
kept_or_not false x xs ys e = e

-- keys are filtered as what the heap holds
filter_keys : {K : Type 0} (p : K → Bool) (xs : List (Reverse K)) → keys_of (filter (λ r. p r.0) xs) ≡ filter p (keys_of xs)
filter_keys p [] = refl
filter_keys p (x ∷ xs) = kept_or_not (p x.0) x _ _ (filter_keys p xs)

pub kept_permuted : {K : Type 0} (p : K → Bool) (xs ys : List (Reverse K)) → IsPermutation (filter (λ r. p r.0) xs) ys → IsPermutation (filter p (keys_of xs)) (keys_of ys)
kept_permuted {K} p xs ys h = subst (λ (ks : List K). IsPermutation ks (keys_of ys)) (filter_keys p xs) (keys_permuted _ _ h)
