-- The packets of a queue, by the head's finish tag and those behind it.
use Rattle.dn_wf2q.proofs.Words.{All, All-head, All-tail, IfNone, IsChained, IsPayable, List, None, Option, QueuedPacket, Some, [], ap, arith, cond, drop, false, finishing, is_some, last_behind}
use Rattle.dn_wf2q.proofs.Words.{length, nat_lt, nat_tests, option_to_list, refl, scaled, slice_get, stamped_behind, stamped_from, start_tag_on_arrival, starting, true, ℕ, ◌++◌, ◌+◌, ◌<◌, ◌==◌}
use Rattle.dn_wf2q.proofs.Words.{◌^◌, ◌∙◌, ◌∷◌, ◌≡◌}

stamped_behind-push : (f : ℕ) (ps : List QueuedPacket) (p : QueuedPacket) → stamped_behind f (ps ++ p ∷ []) ≡ stamped_behind f ps ++ starting (last_behind f ps) p ∷ []
stamped_behind-push f [] p = refl
stamped_behind-push f (x ∷ ps) p = ap (λ l. starting f x ∷ l) (stamped_behind-push (f + scaled x.len x.weight) ps p)

last_behind-push : (f : ℕ) (ps : List QueuedPacket) (p : QueuedPacket) → last_behind f (ps ++ p ∷ []) ≡ last_behind f ps + scaled p.len p.weight
last_behind-push f [] p = refl
last_behind-push f (x ∷ ps) p = last_behind-push (f + scaled x.len x.weight) ps p

-- A packet that joins others starts at the last finish tag.
pub joined : (b arrived f v : ℕ) (behind : List QueuedPacket) (head : Option QueuedPacket) (p : QueuedPacket) → is_some head ≡ true
    → IsChained b arrived behind head
    → stamped_from head f (behind ++ p ∷ []) ≡ stamped_from head f behind ++ starting (start_tag_on_arrival (length (stamped_from head f behind) == 0) (cond (nat_lt b arrived) (last_behind f behind) 0) v) p ∷ []
joined b arrived f v behind None p e k = absurd (cc)
joined b arrived f v behind (Some h) p e k =
    let t : nat_lt b arrived ≡ true = grind (arith, nat_tests) in
    let z : (length (stamped_from (Some h) f behind) == 0) ≡ false = grind (arith, nat_tests) in
    rw (z, t, stamped_behind-push f behind p) refl

-- And its finish tag is the last one.
pub joined_last : (b arrived f v : ℕ) (behind : List QueuedPacket) (head : Option QueuedPacket) (p : QueuedPacket) → is_some head ≡ true
    → IsChained b arrived behind head
    → last_behind f (behind ++ p ∷ []) ≡ start_tag_on_arrival (length (stamped_from head f behind) == 0) (cond (nat_lt b arrived) (last_behind f behind) 0) v + scaled p.len p.weight
joined_last b arrived f v behind None p e k = absurd (cc)
joined_last b arrived f v behind (Some h) p e k =
    let t : nat_lt b arrived ≡ true = grind (arith, nat_tests) in
    let z : (length (stamped_from (Some h) f behind) == 0) ≡ false = grind (arith, nat_tests) in
    rw (z, t, last_behind-push f behind p) refl

pub joined_chained : (b arrived later : ℕ) (behind : List QueuedPacket) (head : Option QueuedPacket) (p : QueuedPacket) → is_some head ≡ true → b < later
    → IsChained b arrived behind head
    → IsChained b later (behind ++ p ∷ []) head
joined_chained b arrived later behind None p e m k = absurd (cc)
joined_chained b arrived later behind (Some h) p e m k = m

-- A queue without packets has none behind the head, whatever its finish tag is.
pub emptied : (b arrived f : ℕ) (behind : List QueuedPacket) (head : Option QueuedPacket) → length (stamped_from head f behind) ≡ 0
    → IsChained b arrived behind head → (head ≡ None) × (behind ≡ [])
emptied b arrived f behind None e k = (refl, k)
emptied b arrived f behind (Some h) e k = absurd (omega arith)

-- A queue whose packets go or never came counts for any busy period.
pub unchained : (a b c d f : ℕ) (behind : List QueuedPacket) (head : Option QueuedPacket) → length (stamped_from head f behind) ≡ 0
    → IsChained a c behind head → IsChained b d behind head
unchained a b c d f behind None e k = k
unchained a b c d f behind (Some h) e k = absurd (omega arith)

-- What a head that is there says.
module _ (head : Option QueuedPacket) (h : QueuedPacket) (is : head ≡ Some h) (f : ℕ) (behind : List QueuedPacket) where
  pub headed : stamped_from head f behind ≡ finishing f h ∷ stamped_behind f behind
  headed = rw is refl

  pub head_payable : All IsPayable (stamped_from head f behind) → (0 < h.weight) × (f < 2 ^ 96)
  head_payable all = All-head IsPayable (finishing f h) (stamped_behind f behind) (rw is at all)

  pub behind_payable : All IsPayable (stamped_from head f behind) → All IsPayable (stamped_behind f behind)
  behind_payable all = All-tail IsPayable (finishing f h) (stamped_behind f behind) (rw is at all)

-- The first of some packets, where there is one, and the others.
pub first_and_rest : (ps qs : List QueuedPacket) (o : Option QueuedPacket) → o ≡ slice_get ps 0 → qs ≡ drop 1 ps → ps ≡ option_to_list o ++ qs
first_and_rest [] qs o first rest = rw (first, rest) refl
first_and_rest (p ∷ ps) qs o first rest = rw (first, rest) refl

pub none_behind : (ps qs : List QueuedPacket) (o : Option QueuedPacket) → o ≡ slice_get ps 0 → qs ≡ drop 1 ps → IfNone o (qs ≡ [])
none_behind [] qs o first rest = rw (first, rest) refl
none_behind (p ∷ ps) qs o first rest = rw first tt

-- The first of the packets behind a head.
module _ (f : ℕ) (ps qs : List QueuedPacket) (o : Option QueuedPacket) (p : QueuedPacket) (is : ps ≡ option_to_list o ++ qs) (some : o ≡ Some p) where
  first_is : ps ≡ p ∷ qs
  first_is = is ∙ ap (λ x. option_to_list x ++ qs) some

  pub next_payable : All IsPayable (stamped_behind f ps) → (0 < p.weight) × (f + scaled p.len p.weight < 2 ^ 96)
  next_payable all = All-head IsPayable (starting f p) (stamped_behind (f + scaled p.len p.weight) qs) (rw first_is at all)

-- There is none.
module _ (f : ℕ) (ps qs : List QueuedPacket) (o : Option QueuedPacket) (is : ps ≡ option_to_list o ++ qs) (none : o ≡ None) (all : IfNone o (qs ≡ [])) where
  none_left : qs ≡ []
  none_left = rw none at all

  pub no_next : stamped_from o f qs ≡ stamped_behind f ps
  no_next =
      let empty : ps ≡ [] = is ∙ ap (λ x. option_to_list x ++ qs) none ∙ none_left in
      rw (none, empty) refl

  pub none_chained : (b arrived : ℕ) → IsChained b arrived qs o
  none_chained b arrived = rw none none_left
