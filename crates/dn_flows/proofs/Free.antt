-- The places of the store that are free: what is told of each key where one of them is taken, or one more is left.
use Rattle.dn_flows.proofs.Words.{AllByRecursion, AreFree, Bool, IsDistinct, IsDistinct-IsPermutation, IsDistinct-cons, IsDistinct-head, IsDistinct-tail, IsPermutation, IsPermutation-push_more}
use Rattle.dn_flows.proofs.Words.{IsPermutation-refl, IsPermutation-sym, IsSome, List, None, Option, Some, [], ap, arith, cases_eq, cond, false, get_or, inl, inr, is_some, length}
use Rattle.dn_flows.proofs.Words.{length-le_from_distinct_below, list_any, list_any-IsPermutation, nat_eq, or_parts, refl, set, slice_get, subst, suc, sym, true, zero, ℕ, ◌++◌, ◌<◌, ◌||◌, ◌∙◌}
use Rattle.dn_flows.proofs.Words.{◌∷◌, ◌≡◌, ◌≢◌, ◌≤◌, ◌⊎◌}
use Rattle.dn_flows.proofs.Places.{eq-yes, eq-no, get-set, get-set-other, get-below, get-some, get-read, length-more}

flips : (x y : ℕ) → nat_eq x y ≡ nat_eq y x
flips x y = by (cases_eq x y)
  where
    by : (x ≡ y) ⊎ (x ≡ y → ⊥) → nat_eq x y ≡ nat_eq y x
    by (inl e) = eq-yes x y e ∙ sym (eq-yes y x (sym e))
    by (inr ne) = eq-no x y ne ∙ sym (eq-no y x (λ e. ne (sym e)))

apart : (key : ℕ) (keys : List ℕ) → AllByRecursion (λ y. nat_eq key y ≡ false) keys → list_any (nat_eq key) keys ≡ false
apart key [] all = refl
apart key (k ∷ keys) all = ap (λ b. b || list_any (nat_eq key) keys) all.0 ∙ apart key keys all.1

all-apart : (key : ℕ) (keys : List ℕ) → list_any (nat_eq key) keys ≡ false → AllByRecursion (λ y. nat_eq key y ≡ false) keys
all-apart key [] none = tt
all-apart key (k ∷ keys) none = let parts : (nat_eq key k ≡ false) × (list_any (nat_eq key) keys ≡ false) = or_parts _ _ none in (parts.0, all-apart key keys parts.1)

at-end : (keys : List ℕ) (key : ℕ) → IsPermutation (keys ++ key ∷ []) (key ∷ keys)
at-end keys key = IsPermutation-push_more keys keys (key ∷ keys) key (IsPermutation-refl keys) (IsPermutation-refl (key ∷ keys))

one-more : (keys : List ℕ) (key other : ℕ) → list_any (nat_eq other) (keys ++ key ∷ []) ≡ (nat_eq other key || list_any (nat_eq other) keys)
one-more keys key other = list_any-IsPermutation (nat_eq other) (keys ++ key ∷ []) (key ∷ keys) (at-end keys key)

-- The last of the free keys, and what is told of the others.
pub is-free : (keys : List ℕ) (key : ℕ) → list_any (nat_eq key) (keys ++ key ∷ []) ≡ true
is-free keys key = one-more keys key key ∙ ap (λ b. b || list_any (nat_eq key) keys) (eq-yes key key refl)

pub same-free : (keys : List ℕ) (key other : ℕ) → other ≢ key → list_any (nat_eq other) (keys ++ key ∷ []) ≡ list_any (nat_eq other) keys
same-free keys key other ne = one-more keys key other ∙ ap (λ b. b || list_any (nat_eq other) keys) (eq-no other key ne)

-- ---- The last of the free keys is taken

module _ (keys : List ℕ) (key places : ℕ) (are : AreFree (keys ++ key ∷ []) places) where
  distinct : IsDistinct nat_eq (key ∷ keys)
  distinct = IsDistinct-IsPermutation nat_eq flips (keys ++ key ∷ []) (key ∷ keys) (at-end keys key) are.distinct

  pub there : key < places
  there = are.within key (is-free keys key)

  pub not-free-now : list_any (nat_eq key) keys ≡ false
  not-free-now = apart key keys (IsDistinct-head nat_eq key keys distinct)

  pub still-free : AreFree keys places
  still-free = record {
    distinct = IsDistinct-tail nat_eq key keys distinct;
    within = λ other free. are.within other (one-more keys key other ∙ ap (λ b. nat_eq other key || b) free ∙ or-true (nat_eq other key));
  }
    where
      or-true : (b : Bool) → (b || true) ≡ true
      or-true true = refl
      or-true false = refl

-- ---- One more key is free

pub one-more-free : (keys : List ℕ) (key places : ℕ) → AreFree keys places → key < places → list_any (nat_eq key) keys ≡ false → AreFree (keys ++ key ∷ []) places
one-more-free keys key places are below none = record {
  distinct =
      IsDistinct-IsPermutation nat_eq flips (key ∷ keys) (keys ++ key ∷ [])
      (IsPermutation-sym (keys ++ key ∷ []) (key ∷ keys) (at-end keys key))
      (IsDistinct-cons nat_eq key keys (all-apart key keys none) are.distinct);
  within = λ other free. by other free (cases_eq other key);
}
  where
    by : (other : ℕ) → list_any (nat_eq other) (keys ++ key ∷ []) ≡ true → (other ≡ key) ⊎ (other ≡ key → ⊥) → other < places
    by other free (inl e) = subst (λ k. k < places) (sym e) below
    by other free (inr ne) = are.within other (sym (same-free keys key other ne) ∙ free)

-- There are no more free keys than places.
pub no-more-than-places : (keys : List ℕ) (places : ℕ) → AreFree keys places → length keys ≤ places
no-more-than-places keys places are = length-le_from_distinct_below keys places are.distinct are.within

pub fewer-than-places : (keys : List ℕ) (key places : ℕ) → AreFree keys places → key < places → list_any (nat_eq key) keys ≡ false → length keys < places
fewer-than-places keys key places are below none =
    let all = no-more-than-places (keys ++ key ∷ []) places (one-more-free keys key places are below none) in
    let more = length-more keys key in
    omega arith

-- ---- What lies under a key

module _ {X : Type 0} where
  abbrev pub under : List ℕ → List X → ℕ → Option X
  under free places key = cond (list_any (nat_eq key) free) None (slice_get places key)

  under-used : (free : List ℕ) (places : List X) (key : ℕ) → list_any (nat_eq key) free ≡ false → under free places key ≡ slice_get places key
  under-used free places key used = ap (λ b. cond b None (slice_get places key)) used

  pub under-free : (free : List ℕ) (places : List X) (key : ℕ) → list_any (nat_eq key) free ≡ true → under free places key ≡ None
  under-free free places key is = ap (λ b. cond b None (slice_get places key)) is

  -- A key under which something lies.
  pub record IsUsed (free : List ℕ) (places : List X) (key : ℕ) : Type 0 where
    pub used : list_any (nat_eq key) free ≡ false
    pub within : key < length places
    pub item : X
    pub held : slice_get places key ≡ Some item

  pub is-used : (free : List ℕ) (places : List X) (key : ℕ) → IsSome (under free places key) → IsUsed free places key
  is-used free places key some = by (list_any (nat_eq key) free) refl (slice_get places key) refl
    where
      by : (b : Bool) → list_any (nat_eq key) free ≡ b → (x : Option X) → slice_get places key ≡ x → IsUsed free places key
      by true free-is x e = let none : false ≡ true = sym (ap is_some (under-free free places key free-is)) ∙ some in absurd cc
      by false used None e = let none : false ≡ true = sym (ap is_some (under-used free places key used ∙ e)) ∙ some in absurd cc
      by false used (Some x) e = record { used = used; within = get-below places key x e; item = x; held = e }

  pub read-used : (free : List ℕ) (places : List X) (key : ℕ) (x : X) → IsUsed free places key → x ≡ get_or places key x → under free places key ≡ Some x
  read-used free places key x is read = under-used free places key is.used ∙ get-read places key x is.within read

  -- What is put at a place lies under its key, and under the other keys what lay there.
  pub put-here : (free : List ℕ) (places : List X) (key : ℕ) (x : X) → list_any (nat_eq key) free ≡ false → key < length places → under free (set places key x) key ≡ Some x
  put-here free places key x used within =
      let there = get-some places key within in
      under-used free (set places key x) key used ∙ get-set places key there.0 x there.1

  pub put-elsewhere : (free : List ℕ) (places : List X) (key other : ℕ) (x : X) → other ≢ key → under free (set places key x) other ≡ under free places other
  put-elsewhere free places key other x ne = ap (cond (list_any (nat_eq other) free) None) (get-set-other places key other x ne)

  pub same-but : (keys : List ℕ) (places : List X) (key other : ℕ) → other ≢ key → under (keys ++ key ∷ []) places other ≡ under keys places other
  same-but keys places key other ne = ap (λ b. cond b None (slice_get places other)) (same-free keys key other ne)

  -- Where no place is free, a new one is put at the end.
  pub none-at-end : (places : List X) → slice_get places (length places) ≡ None
  none-at-end [] = refl
  none-at-end (x ∷ places) = none-at-end places

  pub other-than-last : (places : List X) (x : X) (other : ℕ) → other ≢ length places → slice_get (places ++ x ∷ []) other ≡ slice_get places other
  other-than-last [] x zero ne = absurd (ne refl)
  other-than-last [] x (suc other) ne = refl
  other-than-last (y ∷ places) x zero ne = refl
  other-than-last (y ∷ places) x (suc other) ne = other-than-last places x other (λ e. ne (ap suc e))

  pub under-all : (free : List ℕ) (places : List X) (key : ℕ) → free ≡ [] → under free places key ≡ slice_get places key
  under-all free places key none = ap (λ l. under l places key) none

pub none-free : (keys : List ℕ) (places : ℕ) → keys ≡ [] → AreFree keys places
unfolding IsDistinct
none-free keys places none = subst (λ l. AreFree l places) (sym none) (record { distinct = tt; within = λ key free. absurd cc })

pub none-left : (keys : List ℕ) → length keys ≡ 0 → keys ≡ []
none-left [] none = refl
none-left (key ∷ keys) none = absurd (omega arith)
