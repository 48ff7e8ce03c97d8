-- The callers of one service, in the order of their numbers, and the calls that each has made.
use Rattle.std.specs.Prelude.{◌≡◌, ⊤, ℕ, zero, suc, ◌+◌, ◌%◌, ◌==◌, cond, List, [], ◌∷◌, length}
use Rattle.dn_types.specs.History.{calls_of}
use Rattle.dn_types.specs.declared.call.Call.{Call}
use Rattle.dn_service.specs.Callers.{CallerView, IsSameCaller, ServiceView}
use Rattle.dn_replay.specs.Rows.{submitted}
use Rattle.dn_replay.specs.Runs.{replayed}
use Rattle.dn_files.specs.declared.row.Row.{Row}

-- The calls that a caller has made, newest first.
abbrev pub calls_by : CallerView → List Call
calls_by c = calls_of c.own

-- The rows at the places whose remainder by n is k, where the first of the rows has this place.
abbrev pub rows_at : ℕ → ℕ → ℕ → List Row → List Row
rows_at n k place [] = []
rows_at n k place (row ∷ rest) = cond (place % n == k) (row ∷ rows_at n k (place + 1) rest) (rows_at n k (place + 1) rest)

-- The rows of caller k among n: row i, from 1, falls to caller (i - 1) mod n.
abbrev pub rows_of_caller : ℕ → ℕ → List Row → List Row
rows_of_caller n k rows = rows_at n k 0 rows

-- The calls of caller k among n in a replay, newest first. Caller 0 makes those of the configuration before its rows, and
-- takes what is delivered after them.
abbrev pub calls_given : ℕ → List Call → List Row → ℕ → List Call
calls_given n calls rows zero = replayed calls (rows_of_caller n 0 rows)
calls_given n calls rows (suc k) = submitted [] (rows_of_caller n (suc k) rows)

-- A caller has submitted its rows, in order, and made no other call.
pub record HasSubmitted (n : ℕ) (rows : List Row) (before after : CallerView) : Type 0 where
  pub same : IsSameCaller before after
  pub calls : calls_by after ≡ submitted (calls_by before) (rows_of_caller n before.number rows)

-- Each of the callers has, and they stand in the same order.
abbrev pub AllSubmitted : ℕ → List Row → List CallerView → List CallerView → Type 0
AllSubmitted n rows [] [] = ⊤
AllSubmitted n rows [] (after ∷ afters) = ⊥
AllSubmitted n rows (before ∷ befores) [] = ⊥
AllSubmitted n rows (before ∷ befores) (after ∷ afters) = HasSubmitted n rows before after × AllSubmitted n rows befores afters

-- These are the callers k, k + 1 and so on of a service, each of which has made the calls that `made` gives for its number.
abbrev pub AreCallersOf : ServiceView → (ℕ → List Call) → ℕ → List CallerView → Type 0
AreCallersOf service made k [] = ⊤
AreCallersOf service made k (c ∷ callers) = (c.service ≡ service) × (c.number ≡ k) × (calls_by c ≡ made k) × AreCallersOf service made (k + 1) callers

-- The callers of whatever service, which had made no call, have made the calls of a replay, and they are as many.
abbrev pub Replay : ℕ → List Call → List Row → List CallerView → List CallerView → Type 0
Replay n calls rows old new = (service : ServiceView) → AreCallersOf service (λ _. []) 0 old →
    (length new ≡ length old)
    × AreCallersOf service (calls_given n calls rows) 0 new
