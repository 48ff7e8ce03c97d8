-- What keeps a run in ascending order, and which key of a heap and its run is a least one.
use Rattle.dn_heap.proofs.Words.{All, All-append, All-cons, All-contains, All-get_or, All-head, All-nil, All-push, All-tail, All-weaker, Bool, Contains, Equal, Greater, IsAscending, IsLeast}
use Rattle.dn_heap.proofs.Words.{IsStrictWeakOrder, IsTotalOrder, Leads, Less, List, Ordering, [], arith, false, get_or, is_ge, is_lt, items_where_true, length, ranks_by, refl, subst, suc, sym}
use Rattle.dn_heap.proofs.Words.{true, zero, ℕ, ◌++◌, ◌+◌, ◌<◌, ◌∷◌, ◌≡◌}

pub at_least : (o : Ordering) → is_ge o ≡ true → is_lt o ≡ false
at_least Less e = absurd (let z : false ≡ true = e in cc)
at_least Equal e = refl
at_least Greater e = refl

module _ {K : Type 0} {cmp : K → K → Ordering} (order : IsTotalOrder cmp) where
  strict : IsStrictWeakOrder (λ x y. is_lt (cmp x y))
  strict = ranks_by order (λ (x : K). x)

  never : (x : K) (b : Bool) → is_lt (cmp x x) ≡ b → is_lt (cmp x x) ≡ false
  never x true e = strict.one_way x x e
  never x false e = e

  itself : (x : K) → is_lt (cmp x x) ≡ false
  itself x = never x _ refl

  -- the last key is less than none
  last_is_greatest : (xs : List K) (n : ℕ) (last : K) → n + 1 ≡ length xs → last ≡ get_or xs n last → IsAscending cmp xs → All (λ k. is_lt (cmp last k) ≡ false) xs
  last_is_greatest [] n last long e ascending = absurd (omega arith)
  last_is_greatest (x ∷ []) zero last long e ascending =
      All-cons (λ k. is_lt (cmp last k) ≡ false) x [] (subst (λ k. is_lt (cmp last k) ≡ false) e (itself last))
      (All-nil (λ k. is_lt (cmp last k) ≡ false))
  last_is_greatest (x ∷ []) (suc n) last long e ascending = absurd (omega arith)
  last_is_greatest (x ∷ y ∷ ys) zero last long e ascending = absurd (omega arith)
  last_is_greatest (x ∷ y ∷ ys) (suc n) last long e ascending =
      let here = All-get_or (λ k. is_lt (cmp k x) ≡ false) (y ∷ ys) n last (omega arith) ascending.0 in
      All-cons (λ k. is_lt (cmp last k) ≡ false) x (y ∷ ys) (subst (λ k. is_lt (cmp k x) ≡ false) (sym e) here) (last_is_greatest (y ∷ ys) n last (omega arith) e ascending.1)

  pub none_greater : (xs : List K) (n : ℕ) (key last : K) → n + 1 ≡ length xs → last ≡ get_or xs n last → is_lt (cmp key last) ≡ false → IsAscending cmp xs → All (λ k. is_lt (cmp key k) ≡ false) xs
  none_greater xs n key last long e below ascending =
      All-weaker (λ k. is_lt (cmp last k) ≡ false) (λ k. is_lt (cmp key k) ≡ false) (λ k h. strict.chain key last k below h) xs (last_is_greatest xs n last long e ascending)

  -- a key that is not less than another is not less than what that one is not less than
  under : (xs : List K) (least other : K) → is_lt (cmp least other) ≡ false → IsLeast cmp least xs → IsLeast cmp other xs
  under xs least other h l = All-weaker (λ k. is_lt (cmp k least) ≡ false) (λ k. is_lt (cmp k other) ≡ false) (λ k e. strict.chain k least other e h) xs l

  first_is_least : (xs : List K) (first : K) → first ≡ get_or xs 0 first → IsAscending cmp xs → IsLeast cmp first xs
  first_is_least [] first e ascending = All-nil (λ k. is_lt (cmp k first) ≡ false)
  first_is_least (x ∷ xs) first e ascending = subst (λ k. IsLeast cmp k (x ∷ xs)) (sym e) (All-cons (λ k. is_lt (cmp k x) ≡ false) x xs (itself x) ascending.0)

  pub joined : (xs : List K) (key : K) → IsAscending cmp xs → All (λ k. is_lt (cmp key k) ≡ false) xs → IsAscending cmp (xs ++ key ∷ [])
  joined [] key ascending none = (All-nil (λ k. is_lt (cmp k key) ≡ false), tt)
  joined (x ∷ xs) key ascending none = (
    All-push (λ k. is_lt (cmp k x) ≡ false) xs key ascending.0 (All-head (λ k. is_lt (cmp key k) ≡ false) x xs none),
    joined xs key
        ascending.1 (All-tail (λ k. is_lt (cmp key k) ≡ false) x xs none),
  )

  All_where_true : (P : K → Type 0) (bs : List Bool) (xs : List K) → All P xs → All P (items_where_true bs xs)
  All_where_true P [] xs h = All-nil P
  All_where_true P (b ∷ bs) [] h = All-nil P
  All_where_true P (true ∷ bs) (x ∷ xs) h = All-cons P x (items_where_true bs xs) (All-head P x xs h) (All_where_true P bs xs (All-tail P x xs h))
  All_where_true P (false ∷ bs) (x ∷ xs) h = All_where_true P bs xs (All-tail P x xs h)

  -- what is left where some keys are taken out
  pub thinned : (bs : List Bool) (xs : List K) → IsAscending cmp xs → IsAscending cmp (items_where_true bs xs)
  thinned [] xs ascending = tt
  thinned (b ∷ bs) [] ascending = tt
  thinned (true ∷ bs) (x ∷ xs) ascending = (All_where_true (λ k. is_lt (cmp k x) ≡ false) bs xs ascending.0, thinned bs xs ascending.1)
  thinned (false ∷ bs) (x ∷ xs) ascending = thinned bs xs ascending.1

  -- The run leads, where its first key is less than a least key of the heap.
  pub run_leads : (rs hs : List K) (first top : K) → 0 < length rs → first ≡ get_or rs 0 first → is_lt (cmp first top) ≡ true → IsLeast cmp top hs → Leads cmp rs hs
  run_leads [] hs first top some e less l = absurd (omega arith)
  run_leads (x ∷ rs) hs first top some e less l =
      λ key least. under hs first key (subst (λ k. is_lt (cmp k key) ≡ false) (sym e) (All-head (λ k. is_lt (cmp k key) ≡ false) x rs least)) (under hs top first (strict.one_way first top less) l)

  -- The heap leads, where the first key of the run is not less than a key of the heap.
  pub heap_leads : (rs hs : List K) (first top : K) → first ≡ get_or rs 0 first → is_lt (cmp first top) ≡ false → Contains hs top → IsAscending cmp rs → Leads cmp hs rs
  heap_leads rs hs first top e not_less held ascending =
      λ key least. under rs first key (strict.chain first top key not_less (All-contains (λ k. is_lt (cmp k key) ≡ false) hs top least held)) (first_is_least rs first e ascending)

  -- What is least of the keys that lead is least of all.
  pub first_of_all : (hs rs : List K) (first : K) → first ≡ get_or rs 0 first → IsAscending cmp rs → Leads cmp rs hs → IsLeast cmp first (hs ++ rs)
  first_of_all hs rs first e ascending leads =
      let least = first_is_least rs first e ascending in
      All-append (λ k. is_lt (cmp k first) ≡ false) hs rs (leads first least) least

  pub top_of_all : (hs rs : List K) (top : K) → IsLeast cmp top hs → Leads cmp hs rs → IsLeast cmp top (hs ++ rs)
  top_of_all hs rs top least leads = All-append (λ k. is_lt (cmp k top) ≡ false) hs rs least (leads top least)
