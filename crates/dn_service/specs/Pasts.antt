-- What was called so far, and the book, which has the part of it that was not taken out yet.
use Rattle.std.specs.Prelude.{◌≡◌, ℕ, ◌+◌, ◌<◌, ◌≤◌, ◌^◌, List, [], ◌∷◌, ◌++◌, length}
use Rattle.dn_types.specs.History.{IsLawful, calls_of}
use Rattle.dn_types.specs.declared.entry.Entry.{Entry}
use Rattle.dn_types.specs.declared.rule.Rule.TheVariants.{Ordered}
use Rattle.dn_shaper.specs.Shaper.{StandsAfter}
use Rattle.dn_shaper.specs.declared.state.State.{State}

-- All entries so far, and those of them, from the front, that were taken out.
pub record Past : Type 0 where
  pub history : List Entry
  pub shed : List Entry

-- A book: the state of its shaper, the entries that it has, and the count of those that were taken out of it.
pub record BookView : Type 0 where
  pub shaper : State
  pub kept : List Entry
  pub gone : ℕ

-- A number of 64 bits that counts to n, or is the greatest one.
abbrev pub IsCount : ℕ → ℕ → Type 0
IsCount n c = (n < 2 ^ 64 → c ≡ n) × (2 ^ 64 ≤ n → c + 1 ≡ 2 ^ 64)

-- The book's shaper stands after all calls of the past, which is lawful, and the book has all entries that were not taken out.
pub record Keeps (past : Past) (b : BookView) : Type 0 where
  pub lawful : IsLawful Ordered past.history
  pub stands : StandsAfter Ordered b.shaper (calls_of past.history)
  pub whole : past.history ≡ past.shed ++ b.kept
  pub gone : IsCount (length past.shed) b.gone

-- Nothing was called.
abbrev pub no_past : Past
no_past = record { history = []; shed = [] }

-- One entry more.
abbrev pub with_entry : Past → Entry → Past
with_entry p e = record { history = p.history ++ e ∷ []; shed = p.shed }

-- All entries were taken out.
abbrev pub all_shed : Past → Past
all_shed p = record { history = p.history; shed = p.history }
