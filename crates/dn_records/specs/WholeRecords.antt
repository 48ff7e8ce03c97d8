-- A text that ends between two records, so that what follows it is read by itself.
use Rattle.std.specs.Prelude.{◌≡◌, ℕ, List, [], ◌∷◌, ◌++◌}
use Rattle.csv.specs.Machine.{step}
use Rattle.csv.specs.Reading.{default_config}
use Rattle.csv.specs.declared.parser.State.{State}
use Rattle.csv.specs.declared.parser.State.TheVariants as st

-- The state of csv's reader behind a text.
unfoldable pub state_after : State → List ℕ → State
state_after state [] = state
state_after state (byte ∷ rest) = state_after (step default_config state byte).0 rest

-- Behind a text csv's reader stands at the start of a record, as at its front, so that what follows is read by itself.
abbrev pub IsWhole : List ℕ → Type 0
IsWhole text = state_after st.StartRecord text ≡ st.StartRecord

-- A text begins with whole records, and then the rest follows.
pub record BeginsRecords (text rest : List ℕ) : Type 0 where
  pub front : List ℕ
  pub whole : IsWhole front
  pub stands : text ≡ front ++ rest
