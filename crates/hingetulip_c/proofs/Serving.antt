-- What is so of the value that a handle holds is so of the handle, and each turn of the loops over handles does one more.
use Rattle.hingetulip_c.proofs.Words.{CallerHandle, CallerView, Client, Holds, HoldsBoth, LastingView, Ledger, List, NotTaken, Opened, RefusedBy, ServiceView, [], all_held, ap, arith, drop}
use Rattle.hingetulip_c.proofs.Words.{drop-map, drop_at, drop_min, get_or, having_faced, having_lost, held_new, length, length-take, length_push, map, map-append, min, new_caller, new_callers}
use Rattle.hingetulip_c.proofs.Words.{one_more_caller, refl, replicate, replicate_next, set, subst, suc, sym, take, take-map, take_at, take_min, take_more, take_more_set, waiting, zero, ℕ, ◌++◌}
use Rattle.hingetulip_c.proofs.Words.{◌+◌, ◌<◌, ◌∙◌, ◌∷◌, ◌≡◌}

pub holds : {A : Type 0} (is : A → Type 0) (x : A) (xs : List A) → xs ≡ x ∷ [] → is x → Holds is xs
holds {A} is x xs e so = subst (λ (l : List A). Holds is l) (sym e) so

pub holds_both : {A : Type 0} (is : A → A → Type 0) (b a : A) (xs ys : List A) → xs ≡ b ∷ [] → ys ≡ a ∷ [] → is b a → HoldsBoth is xs ys
holds_both {A} is b a xs ys e f so = subst (λ (l : List A). HoldsBoth is l ys) (sym e) (subst (λ (l : List A). HoldsBoth is (b ∷ []) l) (sym f) so)

-- The call found caller k in a call.
pub lost_to : (k : ℕ) (b : Client) (c : CallerView) → c ≡ having_lost k b.caller → RefusedBy 15 k (b ∷ []) (record { caller = c; last = b.last } ∷ [])
lost_to k b c is = record {
  busy = λ at. ap (λ (x : CallerView). record { caller = x; last = b.last } ∷ []) is;
  memory = λ at. absurd (omega (arith, at));
  other = λ at more. absurd (at refl);
}

-- The caller was in a call, and memory was refused.
pub lacked : (holder : ℕ) (b : Client) (c : CallerView) → c ≡ having_faced c.faced b.caller → RefusedBy 6 holder (b ∷ []) (record { caller = c; last = b.last } ∷ [])
lacked holder b c is = record {
  busy = λ at. absurd (omega (arith, at));
  memory = λ at. (c.faced, ap (λ (x : CallerView). record { caller = x; last = b.last } ∷ []) is);
  other = λ at more. absurd (more refl);
}

-- What is so of both lists of one value is so of both handles.
of_both : {A : Type 0} (is : List A → List A → Type 0) (b a : A) (xs ys : List A) → xs ≡ b ∷ [] → ys ≡ a ∷ [] → is (b ∷ []) (a ∷ []) → is xs ys
of_both {A} is b a xs ys e f so = subst (λ (l : List A). is l ys) (sym e) (subst (λ (l : List A). is (b ∷ []) l) (sym f) so)

pub refused_by : (status holder : ℕ) (b a : Client) (xs ys : List Client) → xs ≡ b ∷ [] → ys ≡ a ∷ [] → RefusedBy status holder (b ∷ []) (a ∷ [])
    → RefusedBy status holder xs ys
refused_by status holder = of_both (RefusedBy status holder)

pub not_taken : (status holder : ℕ) (b a : Ledger) (xs ys : List Ledger) → xs ≡ b ∷ [] → ys ≡ a ∷ [] → NotTaken status holder (b ∷ []) (a ∷ [])
    → NotTaken status holder xs ys
not_taken status holder = of_both (NotTaken status holder)

-- One handle more is closed.
pub closed_more : (handles : List CallerHandle) (place : ℕ) (h : CallerHandle) → place < length handles
    → all_held (take place handles) ≡ replicate place [] → h.held ≡ [] → all_held (take (place + 1) (set handles place h)) ≡ replicate (place + 1) []
closed_more handles place h room so_far closed =
    ap all_held (take_more_set handles place h room)
    ∙ map-append (λ (x : CallerHandle). x.held) (take place handles) (h ∷ [])
    ∙ (λ i. so_far i ++ closed i ∷ [])
    ∙ sym (replicate_next place [])

callers_many : (service : ServiceView) (k n : ℕ) → length (new_callers service k n) ≡ n
callers_many service k zero = refl
callers_many service k (suc n) = ap suc (callers_many service (k + 1) n)

-- Of n callers and one the last is the service's own.
pub last_is_own : (service : ServiceView) (n : ℕ) (all rest : List CallerView) (own : CallerView) → all ≡ new_callers service 0 (n + 1) → all ≡ rest ++ own ∷ []
    → (rest ≡ new_callers service 0 n) × (own ≡ new_caller service n) × (length rest ≡ n)
last_is_own service n all rest own e f =
    let both : rest ++ own ∷ [] ≡ new_callers service 0 n ++ new_caller service n ∷ [] = sym f ∙ e ∙ sym (one_more_caller service n) in
    let more : length rest + 1 ≡ n + 1 = sym (length_push rest own) ∙ ap length (sym f ∙ e) ∙ callers_many service 0 (n + 1) in
    let long : length rest ≡ n = omega (arith, more) in (
      sym (take_at rest (own ∷ []) n long) ∙ ap (take n) both ∙ take_at (new_callers service 0 n) (new_caller service n ∷ []) n (callers_many service 0 n),
      ap (λ (l : List CallerView). get_or l 0 own) (sym (drop_at rest (own ∷ []) n long) ∙ ap (drop n) both
          ∙ drop_at (new_callers service 0 n) (new_caller service n ∷ []) n (callers_many service 0 n)),
      long,
    )

pub opened : (n : ℕ) (service : ServiceView) (l : Ledger) (rest : List CallerView) (clients : List (List Client)) → service.callers ≡ n + 1
    → l.taker.lasting ≡ record { service = service; taken = [] } → l.taker.caller ≡ new_caller service n → waiting l ≡ []
    → rest ≡ new_callers service 0 n → clients ≡ map held_new rest → Opened n (l ∷ []) clients
opened n service l rest clients count is own none rest_is held = (
  ap (λ (v : LastingView). v.service.callers) is ∙ count,
  own ∙ ap (λ (v : LastingView). new_caller v.service n) (sym is),
  ap (λ (v : LastingView). v.taken) is,
  none,
  held ∙ ap (map held_new) rest_is ∙ ap (λ (v : LastingView). map held_new (new_callers v.service 0 n)) (sym is),
)

-- A place beyond the end is as the end.
pub rest_of : {X : Type 0} (given : List X) (from n : ℕ) → n ≡ min from (length given) → drop n given ≡ drop from given
rest_of {X} given from n is = ap (λ (k : ℕ). drop k given) is ∙ drop_min from given

pub front_of : {X : Type 0} (given : List X) (most n : ℕ) → n ≡ min most (length given) → take n given ≡ take most given
front_of {X} given most n is = ap (λ (k : ℕ). take k given) is ∙ take_min most given

-- A part of a list as it is copied.
pub part_copied : {X Y : Type 0} (of : X → Y) (given : List X) (from room : ℕ) (part : List X) (list : List Y) → part ≡ take room (drop from given)
    → take (length part) list ≡ map of part → take (length part) list ≡ take (length part) (drop from (map of given))
part_copied {X} {Y} of given from room part list is copied =
    let rest = drop from given in
    let whole : take (length part) rest ≡ part =
    ap (λ (l : List X). take (length l) rest) is ∙ ap (λ (n : ℕ). take n rest) (length-take room rest) ∙ take_min room rest ∙ sym is in
    copied ∙ sym (ap (map of) whole) ∙ sym (take-map of (length part) rest) ∙ ap (take (length part)) (sym (drop-map of from given))
