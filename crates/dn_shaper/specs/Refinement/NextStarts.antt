-- The next start of each link with a backlog, at the moment from which the link is free, and the heap that holds them.
use Rattle.std.specs.Prelude.{◌≡◌, ℕ, ◌==◌, cond, Bool, List, Option, Some, None, is_some, slice_index_or}
use Rattle.std.specs.List.{All, sum_by}
use Rattle.std.specs.Ordering.{nat_cmp, ordering_then}
use Rattle.std.specs.declared.cmp.Ordering.{Ordering}
use Rattle.dn_shaper.specs.declared.links.next_start.NextStart.{NextStart}

-- By moment, and then by place.
abbrev pub next_start_cmp : NextStart → NextStart → Ordering
next_start_cmp x y = ordering_then (nat_cmp x.moment y.moment) (nat_cmp x.place y.place)

-- When the link at a place starts next, where it has a backlog.
abbrev pub next_at : List (Option ℕ) → ℕ → Option ℕ
next_at nexts place = slice_index_or nexts place None

-- How often a place stands in a key.
abbrev pub one_at : ℕ → NextStart → ℕ
one_at place k = cond (k.place == place) 1 0

-- How often it stands among all of them.
abbrev pub keys_at : ℕ → List NextStart → ℕ
keys_at place keys = sum_by (one_at place) keys

-- Whether a link has a backlog, counted.
abbrev pub one_backlogged : Option ℕ → ℕ
one_backlogged next = cond (is_some next) 1 0

-- How many links have a backlog.
abbrev pub backlogged : List (Option ℕ) → ℕ
backlogged nexts = sum_by one_backlogged nexts

-- The heap holds each link with a backlog once, by its next start, and no other.
pub record Holds (nexts : List (Option ℕ)) (keys : List NextStart) : Type 0 where
  pub once : (place : ℕ) → keys_at place keys ≡ cond (is_some (next_at nexts place)) 1 0
  pub moments : All (λ k. next_at nexts k.place ≡ Some k.moment) keys
