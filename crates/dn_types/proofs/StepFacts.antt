-- Facts of one step that several proofs share: of a queue, of a count, and of the sooner of two starts.
use Rattle.dn_types.proofs.Words.{Accepted, Bool, Event, Link, List, None, Option, Some, Start, [], accepted_count, arith, cond, drop, false, length, length-append, opened, refl, sooner, true, ℕ}
use Rattle.dn_types.proofs.Words.{◌++◌, ◌+◌, ◌<◌, ◌∷◌, ◌≡◌, ◌≤◌}

-- ---- A queue: a packet joins it or leaves it, or all are discarded

pub push-length : (b : Bool) (q : List Accepted) (p : Accepted) → length (cond b (q ++ p ∷ []) q) ≡ length q + cond b 1 0
push-length true q p = length-append q (p ∷ [])
push-length false q p = omega arith

pub drop-length : (b : Bool) (q : List Accepted) → length (cond b (drop 1 q) q) ≤ length q
drop-length true [] = omega arith
drop-length true (p ∷ q) = omega arith
drop-length false q = omega arith

pub clear-length : (b : Bool) (q : List Accepted) → length (cond b [] q) + cond b (length q) 0 ≡ length q
clear-length true q = omega arith
clear-length false q = omega arith

pub clear-some : (b : Bool) (q : List Accepted) → 0 < length (cond b [] q) → 0 < length q
clear-some true q some = absurd (omega arith)
clear-some false q some = some

pub clear-none : (b : Bool) (q : List Accepted) → q ≡ [] → cond b [] q ≡ []
clear-none true q e = refl
clear-none false q e = e

-- ---- Counts

pub at-most-one : (b : Bool) → cond {A = ℕ} b 1 0 ≤ 1
at-most-one true = omega arith
at-most-one false = omega arith

pub opened-count : (b : Bool) (link : Link) (t : List Event) → accepted_count (cond b (opened link ∷ t) t) ≡ accepted_count t
opened-count true link t = refl
opened-count false link t = refl

-- ---- The sooner of two starts

pub sooner-left : (o p : Option Start) → sooner o p ≡ None → o ≡ None
sooner-left None p e = refl
sooner-left (Some s) None e = absurd cc
sooner-left (Some s) (Some t) e = absurd cc

pub sooner-right : (o p : Option Start) → sooner o p ≡ None → p ≡ None
sooner-right None p e = e
sooner-right (Some s) None e = refl
sooner-right (Some s) (Some t) e = absurd cc
