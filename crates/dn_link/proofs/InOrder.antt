-- The packets of a heap, in the order in which they are given: a push puts one into its place, and a pop of the least
-- takes the first.
use Rattle.std.proofs.Common.{◌≡◌, ℕ, suc, ◌<◌, Bool, true, false, cond, List, [], ◌∷◌, length, All, Contains, IsPermutation, refl, sym, ap, ◌∙◌, arith}
use Rattle.std.proofs.Common.{remove, Option, Some, None, is_some, nat_le, IsSome, IfSome}
use Rattle.std.specs.declared.cmp.Ordering.{Ordering}
use Rattle.std.specs.declared.cmp.Ordering.TheVariants.{Less, Equal, Greater}
use Rattle.std.specs.Cmp.{IsTotalOrder}
use Rattle.std.specs.Ordering.{is_lt, is_gt, ordering_reverse, ordering_then, nat_cmp}
use Rattle.std.proofs.lemmas.Cmp.{then_total, on_total, nat_cmp_total, upto, tied_itself}
use Rattle.dn_types.specs.declared.delivery.Delivery.{Delivery}
use Rattle.dn_types.specs.Deliveries.{delivery_cmp, is_given_before, in_order}
use Rattle.dn_link.specs.Line.{all_in_order, due_first, after_due}
use Rattle.std.proofs.lemmas.List.Sorted.{IsPermutation-remove, All-permutation}
use Rattle.std.proofs.lemmas.List.Elements.{All-tail}
use Rattle.dn_link.proofs.Placed.{placed, all_placed, IsStrict, none_from_all, all_placed_permuted, all_placed_least}

-- The order of deliveries is total.
pub delivery_total : IsTotalOrder delivery_cmp
delivery_total =
    then_total (on_total (λ (d : Delivery). d.due) nat_cmp_total) (then_total (on_total (λ (d : Delivery). d.packet) nat_cmp_total)
    (then_total (on_total (λ (d : Delivery). d.flow) nat_cmp_total) (on_total (λ (d : Delivery). d.start) nat_cmp_total)))

-- A comparison the other way round is the reverse.
back_way : (a b : Delivery) → delivery_cmp a b ≡ ordering_reverse (delivery_cmp b a)
back_way a b = delivery_total.antisymm a b

-- What follows of two orderings of which each is the other's reverse.
lt_gt : (r s : Ordering) → r ≡ ordering_reverse s → is_lt r ≡ is_gt s
lt_gt r Less e = ap is_lt e
lt_gt r Equal e = ap is_lt e
lt_gt r Greater e = ap is_lt e

equal_only : (r s : Ordering) → r ≡ ordering_reverse s → is_lt r ≡ false → is_lt s ≡ false → r ≡ Equal
equal_only r Less e h k = absurd (let z : true ≡ false = k in cc)
equal_only r Equal e h k = e
equal_only r Greater e h k = absurd (cc)

less_not_back : (r s : Ordering) → s ≡ ordering_reverse r → is_lt r ≡ true → is_lt s ≡ false
less_not_back Less s e h = ap is_lt e
less_not_back Equal s e h = ap is_lt e
less_not_back Greater s e h = absurd (cc)

-- Numbers that compare as equal are the same, and so are deliveries.
equal_numbers : (x y : ℕ) → nat_cmp x y ≡ Equal → x ≡ y
equal_numbers x y h = grind arith

then_first : (r s : Ordering) → ordering_then r s ≡ Equal → (r ≡ Equal) × (s ≡ Equal)
then_first Less s h = absurd (let z : Less ≡ Equal = h in cc)
then_first Equal s h = (refl, h)
then_first Greater s h = absurd (cc)

same_delivery : (a b : Delivery) → delivery_cmp a b ≡ Equal → a ≡ b
same_delivery a b h =
    let p = then_first (nat_cmp a.due b.due) _ h in
    let q = then_first (nat_cmp a.packet b.packet) _ p.1 in
    let r = then_first (nat_cmp a.flow b.flow) _ q.1 in
    let d = equal_numbers a.due b.due p.0 in
    let e = equal_numbers a.packet b.packet q.0 in
    let f = equal_numbers a.flow b.flow r.0 in
    let g = equal_numbers a.start b.start r.1 in
    λ i. record { due = d i; packet = e i; flow = f i; start = g i }

-- To be given before is a strict order.
pub strict : IsStrict is_given_before
strict = record {
  own = λ x. ap is_lt (tied_itself delivery_total x);
  back = λ x y h. less_not_back (delivery_cmp x y) (delivery_cmp y x) (back_way y x) h;
  through =
      λ x y z h k. lt_gt (delivery_cmp z x) (delivery_cmp x z) (back_way z x)
      ∙ upto delivery_total x y z (sym (lt_gt (delivery_cmp y x) (delivery_cmp x y) (back_way y x)) ∙ h) (sym (lt_gt (delivery_cmp z y) (delivery_cmp y z) (back_way z y)) ∙ k);
  same = λ x y h k. same_delivery x y (equal_only (delivery_cmp x y) (delivery_cmp y x) (back_way x y) h k);
}

-- The definition's words are those of lists in order by insertion.
pub in_order_placed : (d : Delivery) (ds : List Delivery) → in_order d ds ≡ placed is_given_before d ds
in_order_placed d [] = refl
in_order_placed d (e ∷ es) = let ih = in_order_placed d es in λ i. cond (is_given_before d e) (d ∷ e ∷ es) (e ∷ ih i)

pub all_in_order_placed : (ds : List Delivery) → all_in_order ds ≡ all_placed is_given_before ds
all_in_order_placed [] = refl
all_in_order_placed (d ∷ ds) = ap (in_order d) (all_in_order_placed ds) ∙ in_order_placed d (all_placed is_given_before ds)

-- The order of a heap's keys doesn't matter.
pub all_in_order_permuted : (xs ys : List Delivery) → IsPermutation xs ys → all_in_order xs ≡ all_in_order ys
all_in_order_permuted xs ys h = all_in_order_placed xs ∙ all_placed_permuted is_given_before strict xs ys h ∙ sym (all_in_order_placed ys)

-- The least stands first.
pub all_in_order_least : (d : Delivery) (ds : List Delivery) → All (λ e. is_lt (delivery_cmp e d) ≡ false) ds → all_in_order (d ∷ ds) ≡ d ∷ all_in_order ds
all_in_order_least d ds h = all_in_order_placed (d ∷ ds) ∙ all_placed_least is_given_before strict d ds (none_from_all is_given_before d ds h) ∙ ap (λ l. d ∷ l) (sym (all_in_order_placed ds))

-- As many packets as before, and one more.
length-in_order : (d : Delivery) (ds : List Delivery) → length (in_order d ds) ≡ suc (length ds)
length-in_order d [] = refl
length-in_order d (e ∷ es) = by (length-in_order d es) (is_given_before d e)
  where
    by : length (in_order d es) ≡ suc (length es) → (b : Bool) → length (cond b (d ∷ e ∷ es) (e ∷ in_order d es)) ≡ suc (suc (length es))
    by ih true = refl
    by ih false = ap (λ n. suc n) ih

pub length-all_in_order : (ds : List Delivery) → length (all_in_order ds) ≡ length ds
length-all_in_order [] = refl
length-all_in_order (d ∷ ds) = length-in_order d (all_in_order ds) ∙ ap (λ n. suc n) (length-all_in_order ds)

-- A least packet that a heap holds is the first of its packets in order.
pub first_in_order : (d : Delivery) (ds : List Delivery) → Contains ds d → All (λ e. is_lt (delivery_cmp e d) ≡ false) ds → (rest : List Delivery) × (all_in_order ds ≡ d ∷ rest)
first_in_order d ds h k =
    let p : IsPermutation ds (d ∷ remove ds h.0) = IsPermutation-remove ds h.0 d h.1 (sym h.2) in
    let a : All (λ e. is_lt (delivery_cmp e d) ≡ false) (d ∷ remove ds h.0) = All-permutation (λ e. is_lt (delivery_cmp e d) ≡ false) ds (d ∷ remove ds h.0) p k in
    (all_in_order (remove ds h.0), all_in_order_permuted ds (d ∷ remove ds h.0) p ∙ all_in_order_least d (remove ds h.0) (All-tail (λ e. is_lt (delivery_cmp e d) ≡ false) d (remove ds h.0) a))

-- A pop of the least leaves the packets behind the first.
pub popped_in_order : (d : Delivery) (xs ys : List Delivery) → IsPermutation xs (d ∷ ys) → All (λ e. is_lt (delivery_cmp e d) ≡ false) xs → all_in_order xs ≡ d ∷ all_in_order ys
popped_in_order d xs ys p k =
    let a : All (λ e. is_lt (delivery_cmp e d) ≡ false) (d ∷ ys) = All-permutation (λ e. is_lt (delivery_cmp e d) ≡ false) xs (d ∷ ys) p k in
    all_in_order_permuted xs (d ∷ ys) p ∙ all_in_order_least d ys (All-tail (λ e. is_lt (delivery_cmp e d) ≡ false) d ys a)

-- Whether the first is due, and what `pop_due` answers and leaves where it is.
pub first_due : (at : ℕ) (d : Delivery) (rest l : List Delivery) → l ≡ d ∷ rest → is_some (due_first at l) ≡ nat_le d.due at
first_due at d rest l e = ap (λ l. is_some (due_first at l)) e ∙ by (nat_le d.due at)
  where
    by : (b : Bool) → is_some (cond b (Some d) None) ≡ b
    by true = refl
    by false = refl

pub gives_first : (at : ℕ) (d : Delivery) (rest l : List Delivery) → l ≡ d ∷ rest → is_some (due_first at l) ≡ true → (Some d ≡ due_first at l) × (rest ≡ after_due at l)
gives_first at d rest l e h =
    let t : nat_le d.due at ≡ true = sym (first_due at d rest l e) ∙ h in
    (sym (ap (due_first at) e ∙ ap (λ b. cond b (Some d) None) t), sym (ap (after_due at) e ∙ ap (λ b. cond b rest (d ∷ rest)) t))

-- The same of a heap, by the clauses of its `pop`.
pub pop_gives : (at : ℕ) (r : Option Delivery) (old new : List Delivery) → is_some (due_first at (all_in_order old)) ≡ true
    → (0 < length old → IsSome r) → IfSome r (λ d. IsPermutation old (d ∷ new))
    → IfSome r (λ d. All (λ e. is_lt (delivery_cmp e d) ≡ false) old)
    → (r ≡ due_first at (all_in_order old)) × (all_in_order new ≡ after_due at (all_in_order old))
pop_gives at (Some d) old new h some p least = gives_first at d (all_in_order new) (all_in_order old) (popped_in_order d old new p least) h
pop_gives at None [] new h some p least = absurd (let z : false ≡ true = h in cc)
pop_gives at None (x ∷ xs) new h some p least = absurd (let z : false ≡ true = some (omega arith) in cc)

-- Named for the attribute of `len`, which takes no name with a dash.
pub ruleset lengths = (length-all_in_order)

-- Whether the first of a heap's packets is due, by its least.
pub first_is_due : (at : ℕ) (d : Delivery) (ds : List Delivery) → Contains ds d → All (λ e. is_lt (delivery_cmp e d) ≡ false) ds → is_some (due_first at (all_in_order ds)) ≡ nat_le d.due at
first_is_due at d ds held least = let found = first_in_order d ds held least in first_due at d found.0 (all_in_order ds) found.1
