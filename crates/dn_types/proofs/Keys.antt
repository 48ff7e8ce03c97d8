-- The keys of flows are told apart, so that each stands in one place.
use Rattle.dn_types.proofs.Words.{Bool, Call, FiveTuple, FlowKey, List, Mask, None, Option, Some, Submit, Target, Treatment, [], and_from, and_parts, ap, arith, cond, eq-eqb, eqb-true, false}
use Rattle.dn_types.proofs.Words.{key_eq, key_of, keys, keys_with, list_any, mask_eq, nat_eq, refl, settings, slice_get, slice_get_within, suc, sym, target_eq, treatment, true, tuple_eq, with_key}
use Rattle.dn_types.proofs.Words.{zero, ℕ, ⊎_elim, ⊤, ◌&&◌, ◌++◌, ◌||◌, ◌∙◌, ◌∷◌, ◌≡◌}
use Rattle.dn_types.specs.declared.target.Target.TheVariants.{Pipe as ToPipe, Queue as ToQueue}
use Rattle.dn_types.proofs.InForce.{target_eq-true}
use Rattle.dn_types.proofs.Settled.{true_or_false}

-- ---- Equal keys

all-five : (a b c d e a' b' c' d' e' : ℕ) → (nat_eq a a' && nat_eq b b' && nat_eq c c' && nat_eq d d' && nat_eq e e') ≡ true
    → (a ≡ a') × (b ≡ b') × (c ≡ c') × (d ≡ d') × (e ≡ e')
all-five a b c d e a' b' c' d' e' all =
    let four = and_parts (nat_eq a a' && nat_eq b b' && nat_eq c c' && nat_eq d d') (nat_eq e e') all in
    let three = and_parts (nat_eq a a' && nat_eq b b' && nat_eq c c') (nat_eq d d') four.0 in
    let two = and_parts (nat_eq a a' && nat_eq b b') (nat_eq c c') three.0 in
    let one = and_parts (nat_eq a a') (nat_eq b b') two.0 in
    (eqb-true a a' one.0, eqb-true b b' one.1, eqb-true c c' two.1, eqb-true d d' three.1, eqb-true e e' four.1)

tuple_eq-true : (a b : FiveTuple) → tuple_eq a b ≡ true → a ≡ b
tuple_eq-true a b e =
    let (src, dst, proto, sport, dport) = all-five a.src a.dst a.proto a.sport a.dport b.src b.dst b.proto b.sport b.dport e in
    (λ i. record { src = src i; dst = dst i; proto = proto i; sport = sport i; dport = dport i })

mask_eq-true : (a b : Mask) → mask_eq a b ≡ true → a ≡ b
mask_eq-true a b e =
    let (src, dst, proto, sport, dport) = all-five a.src a.dst a.proto a.sport a.dport b.src b.dst b.proto b.sport b.dport e in
    (λ i. record { src = src i; dst = dst i; proto = proto i; sport = sport i; dport = dport i })

pub key_eq-true : (a b : FlowKey) → key_eq a b ≡ true → a ≡ b
key_eq-true a b e =
    let three = and_parts (target_eq a.target b.target && nat_eq a.pipe b.pipe && mask_eq a.mask b.mask) (tuple_eq a.tuple b.tuple) e in
    let two = and_parts (target_eq a.target b.target && nat_eq a.pipe b.pipe) (mask_eq a.mask b.mask) three.0 in
    let one = and_parts (target_eq a.target b.target) (nat_eq a.pipe b.pipe) two.0 in
    let target = target_eq-true a.target b.target one.0 in
    let pipe = eqb-true a.pipe b.pipe one.1 in
    let mask = mask_eq-true a.mask b.mask two.1 in
    let tuple = tuple_eq-true a.tuple b.tuple three.1 in
    (λ i. record { target = target i; pipe = pipe i; mask = mask i; tuple = tuple i })

same : (n : ℕ) → nat_eq n n ≡ true
same n = eq-eqb n n refl

pub target_eq-refl : (t : Target) → target_eq t t ≡ true
target_eq-refl (ToPipe n) = same n
target_eq-refl (ToQueue n) = same n

five : (a b c d e : ℕ) → (nat_eq a a && nat_eq b b && nat_eq c c && nat_eq d d && nat_eq e e) ≡ true
five a b c d e = and_from _ _ (and_from _ _ (and_from _ _ (and_from _ _ (same a) (same b)) (same c)) (same d)) (same e)

pub key_eq-refl : (k : FlowKey) → key_eq k k ≡ true
key_eq-refl k =
    and_from _ _ (and_from _ _ (and_from _ _ (target_eq-refl k.target) (same k.pipe)) (five k.mask.src k.mask.dst k.mask.proto k.mask.sport k.mask.dport))
    (five k.tuple.src k.tuple.dst k.tuple.proto k.tuple.sport k.tuple.dport)

-- ---- Each key stands once

abbrev AreApart : List FlowKey → Type 0
AreApart [] = ⊤
AreApart (k ∷ known) = (list_any (key_eq k) known ≡ false) × AreApart known

any-push : (k key : FlowKey) (known : List FlowKey) → list_any (key_eq k) known ≡ false → key_eq k key ≡ false → list_any (key_eq k) (known ++ key ∷ []) ≡ false
any-push k key [] none other = ap (λ b. b || false) other
any-push k key (x ∷ known) none other = by (key_eq k x) none (λ e. any-push k key known e other)
  where
    by : (b : Bool) → (b || list_any (key_eq k) known) ≡ false → (list_any (key_eq k) known ≡ false → list_any (key_eq k) (known ++ key ∷ []) ≡ false) →
        (b || list_any (key_eq k) (known ++ key ∷ [])) ≡ false
    by true e rest = absurd cc
    by false e rest = rest e

apart-push : (key : FlowKey) (known : List FlowKey) → AreApart known → list_any (key_eq key) known ≡ false → AreApart (known ++ key ∷ [])
apart-push key [] h none = (refl, tt)
apart-push key (x ∷ known) h none = by (key_eq key x) refl none (λ n. apart-push key known h.1 n)
  where
    other : key_eq key x ≡ false → key_eq x key ≡ false
    other e = ⊎_elim (λ is. let t : false ≡ true = sym e ∙ ap (λ (k : FlowKey). key_eq k x) (sym (key_eq-true x key is))
        ∙ key_eq-refl x in absurd cc) (λ no'. no') (true_or_false (key_eq x key))

    by : (b : Bool) → key_eq key x ≡ b → (b || list_any (key_eq key) known) ≡ false → (list_any (key_eq key) known ≡ false → AreApart (known ++ key ∷ [])) →
        AreApart (x ∷ (known ++ key ∷ []))
    by true e n rest = absurd cc
    by false e n rest = (any-push x key known h.0 (other e), rest n)

apart-with : (key : FlowKey) (known : List FlowKey) → AreApart known → AreApart (with_key key known)
apart-with key known h = by (list_any (key_eq key) known) refl
  where
    by : (b : Bool) → list_any (key_eq key) known ≡ b → AreApart (cond b known (known ++ key ∷ []))
    by true e = h
    by false e = apart-push key known h e

pub keys-apart : (calls : List Call) → AreApart (keys calls)
keys-apart [] = tt
keys-apart (Submit target packet moment ∷ calls) = by (treatment (settings calls target)) (keys-apart calls)
  where
    by : (o : Option Treatment) → AreApart (keys calls) → AreApart (keys_with target packet.tuple o (keys calls))
    by None h = h
    by (Some how) h = apart-with (key_of target packet.tuple how) (keys calls) h
keys-apart (_ ∷ calls) = keys-apart calls

among : (key : FlowKey) (known : List FlowKey) (i : ℕ) → slice_get known i ≡ Some key → list_any (key_eq key) known ≡ true
among key [] i e = let none = slice_get_within [] i key e in absurd (omega arith)
among key (x ∷ known) zero e = let is : x ≡ key = cc in ap (λ b. b || list_any (key_eq key) known) (ap (λ (k : FlowKey). key_eq key k) is ∙ key_eq-refl key)
among key (x ∷ known) (suc i) e = by (key_eq key x) (among key known i e)
  where
    by : (b : Bool) → list_any (key_eq key) known ≡ true → (b || list_any (key_eq key) known) ≡ true
    by true there = refl
    by false there = there

-- A key stands in one place.
pub one-place : (known : List FlowKey) (i j : ℕ) (key : FlowKey) → AreApart known → slice_get known i ≡ Some key → slice_get known j ≡ Some key → i ≡ j
one-place [] i j key h e f = let none = slice_get_within [] i key e in absurd (omega arith)
one-place (x ∷ known) zero zero key h e f = refl
one-place (x ∷ known) zero (suc j) key h e f =
    let is : x ≡ key = cc in
    let t : false ≡ true = sym h.0 ∙ ap (λ (k : FlowKey). list_any (key_eq k) known) is ∙ among key known j f in
    absurd cc
one-place (x ∷ known) (suc i) zero key h e f =
    let is : x ≡ key = cc in
    let t : false ≡ true = sym h.0 ∙ ap (λ (k : FlowKey). list_any (key_eq k) known) is ∙ among key known i e in
    absurd cc
one-place (x ∷ known) (suc i) (suc j) key h e f = ap {A = ℕ} suc (one-place known i j key h.1 e f)

-- ---- Keys stay

pub get-more : (known more : List FlowKey) (i : ℕ) (key : FlowKey) → slice_get known i ≡ Some key → slice_get (known ++ more) i ≡ Some key
get-more [] more i key e = let none = slice_get_within [] i key e in absurd (omega arith)
get-more (x ∷ known) more zero key e = e
get-more (x ∷ known) more (suc i) key e = get-more known more i key e

pub keys-stay : (calls : List Call) (c : Call) (flow : ℕ) (key : FlowKey) → slice_get (keys calls) flow ≡ Some key → slice_get (keys (c ∷ calls)) flow ≡ Some key
keys-stay calls (Submit target packet moment) flow key e = by (treatment (settings calls target))
  where
    with : (more : FlowKey) (b : Bool) → slice_get (cond b (keys calls) (keys calls ++ more ∷ [])) flow ≡ Some key
    with more true = e
    with more false = get-more (keys calls) (more ∷ []) flow key e

    by : (o : Option Treatment) → slice_get (keys_with target packet.tuple o (keys calls)) flow ≡ Some key
    by None = e
    by (Some how) = with (key_of target packet.tuple how) (list_any (key_eq (key_of target packet.tuple how)) (keys calls))
keys-stay calls _ flow key e = e
