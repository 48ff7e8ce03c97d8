-- The rule of the table of the book, true between any two steps of any threads.
-- The lock word is 0 where the book is at home, and k + 1 where the seat of caller k has taken it.
use Rattle.std.specs.Prelude.{◌≡◌, ◌≢◌, ℕ, ◌+◌, ◌<◌, ◌≤◌, List, length, slice_index, Some, None}
use mathlib.Core.Option.{Option, some}
use lib.ListN.{get_elem?}
use Rattle.atomic_table.specs.Table.{State}
use Rattle.dn_types.specs.History.{IsLawful, own_entries}
use Rattle.dn_types.specs.declared.entry.Entry.{Entry}
use Rattle.dn_types.specs.declared.rule.Rule.TheVariants.{Ordered}
use Rattle.dn_service.specs.Histories.{StartsWith, AreBelow}
use Rattle.dn_service.specs.Pasts.{Past, BookView, Keeps}
use Rattle.dn_service.specs.Accounts.{Account, Each, Has}
use Rattle.dn_service.specs.Seats.{SeatView, Slot, met_in_all}

-- What the caller has seen begins the history, and the account has all its entries so far.
pub record Follows (history : List Entry) (a : Account) : Type 0 where
  pub front : StartsWith history a.front
  pub own : a.own ≡ own_entries a.number history

-- The account is that of a caller below n who sits at this seat, and it follows the history.
pub record Sits (n : ℕ) (history : List Entry) (seat_of : ℕ → ℕ) (seat : ℕ) (a : Account) : Type 0 where
  pub below : a.number < n
  pub seated : seat_of a.number ≡ seat
  pub follows : Follows history a

-- While the word doesn't name the caller, it knows how many tries have found it in a call.
abbrev pub Faces : ℕ → (ℕ → ℕ) → Account → Type 0
Faces w tally a = w ≢ a.number + 1 → a.faced ≡ tally a.number

-- What holds of one seat where the lock word is w: each of its callers sits here, and it has the past in its hands
-- exactly where the word names one of them. What it was told of begins the history, and only the first seat has entries
-- taken out, which are then all that were.
pub record SeatFits (n w : ℕ) (tally : ℕ → ℕ) (past : Past) (seat_of : ℕ → ℕ) (seat : ℕ) (v : SeatView) : Type 0 where
  pub count : 0 < length v.accounts → v.count ≡ n
  pub accounts : Each (Sits n past.history seat_of seat) v.accounts
  pub faced : Each (Faces w tally) v.accounts
  pub free : w ≡ 0 → v.taken ≡ None
  pub taken : (k : ℕ) → w ≡ k + 1 → seat_of k ≡ seat → v.taken ≡ Some past
  pub idle : (k : ℕ) → w ≡ k + 1 → seat_of k ≢ seat → v.taken ≡ None
  pub seen : StartsWith past.history v.seen
  pub shed : (s : List Entry) → v.shed ≡ Some s → (seat ≡ 0) × (s ≡ past.shed)

-- The book is in the slot, and keeps the past.
abbrev pub IsHome : Past → List (Option Slot) → Type 0
IsHome past homes = (book : BookView) × (get_elem? homes 0 ≡ some (some (Some book))) × Keeps past book

-- The rule for n callers: there is one past, which is lawful, and while the word is 0 the book that keeps it is in
-- the slot. Each caller below n sits at exactly one seat. So many tries as the tally says have found caller k in a call: what each
-- seat knows of its own tries adds up to it, and caller k, which knows the sum unless the word names it, leaves no seat to add to it then.
pub record SeatRule (n : ℕ) (s : State Slot SeatView) : Type 0 where
  pub past : Past
  pub seat_of : ℕ → ℕ
  pub tally : ℕ → ℕ
  pub met : (k : ℕ) → met_in_all k s.views ≡ tally k
  pub one_word : length s.words ≡ 1
  pub one_slot : length s.homes ≡ 1
  pub word : slice_index s.words 0 ≤ n
  pub lawful : IsLawful Ordered past.history
  pub below : AreBelow n past.history
  pub home : slice_index s.words 0 ≡ 0 → IsHome past s.homes
  pub seats : (j : ℕ) (v : SeatView) → get_elem? s.views j ≡ some v → SeatFits n (slice_index s.words 0) tally past seat_of j v
  pub held : (k : ℕ) → k < n → (v : SeatView) × (get_elem? s.views (seat_of k) ≡ some v) × Has k v.accounts
