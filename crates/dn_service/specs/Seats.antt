-- What a seat at the table of the book knows: an account of each caller that it stands for, and the past that it took with the book.
use Rattle.std.specs.Prelude.{◌≡◌, ℕ, ◌+◌, ◌<◌, ◌≤◌, List, [], ◌∷◌, ◌++◌, map, take, drop, Option, Some, None}
use Rattle.atomic_table.specs.Seated.{TableId}
use Rattle.atomic_table.specs.Table.{Me}
use Rattle.dn_types.specs.declared.entry.Entry.{Entry}
use Rattle.dn_service.specs.Accounts.{Account, new_accounts, up_to_date, faces, note, met_by, front_in, own_in, lost_in, faced_in}
use Rattle.dn_service.specs.Pasts.{Past, BookView}

-- A seat: the number of all callers, the accounts of those that it stands for, the past that came with the book where
-- the seat has taken it, a history that it was told of, and, of the one seat that has entries taken out, these.
-- A spent seat has no accounts.
pub record SeatView : Type 0 where
  pub count : ℕ
  pub accounts : List Account
  pub taken : Option Past
  pub seen : List Entry
  pub shed : Option (List Entry)

-- What the slot holds: the book, or nothing.
abbrev pub Slot : Type 0
Slot = Option BookView

-- The same of all seats.
abbrev pub met_in_all : ℕ → List SeatView → ℕ
met_in_all k [] = 0
met_in_all k (v ∷ views) = met_by k v.accounts + met_in_all k views

-- A seat that has not taken the book.
abbrev pub seat_with : ℕ → List Account → SeatView
seat_with n accounts = record { count = n; accounts = accounts; taken = None; seen = []; shed = None }

-- The same of the seat that has entries taken out.
abbrev pub keeping : ℕ → List Entry → List Account → SeatView
keeping n shed accounts = record { count = n; accounts = accounts; taken = None; seen = []; shed = Some shed }

-- The seat of one caller, which has not taken the book.
abbrev pub sitting : ℕ → ℕ → List Entry → List Entry → List ℕ → ℕ → SeatView
sitting n k front own lost faced = seat_with n (record { number = k; front = front; own = own; lost = lost; faced = faced } ∷ [])

-- The first seat stands for all callers.
abbrev pub first_seat : ℕ → SeatView
first_seat n = keeping n [] (new_accounts 0 n)

-- A spent seat, whose number of callers is forgotten.
abbrev pub spent : SeatView
spent = seat_with 0 []

-- The seat with this in place of what it has taken.
abbrev pub with_taken : SeatView → Option Past → SeatView
with_taken v t = record { count = v.count; accounts = v.accounts; taken = t; seen = v.seen; shed = v.shed }

-- The seat after its first caller found caller j in a call.
abbrev pub with_loss : SeatView → ℕ → SeatView
with_loss v j = record { count = v.count; accounts = note j v.accounts; taken = v.taken; seen = v.seen; shed = v.shed }

-- The seat after it gave the book back, when its callers had been faced so often.
abbrev pub with_faced : SeatView → (ℕ → ℕ) → SeatView
with_faced v faced = record { count = v.count; accounts = map (faces faced) v.accounts; taken = None; seen = v.seen; shed = v.shed }

-- The same with this history, which each of its callers has seen.
abbrev pub with_history : SeatView → (ℕ → ℕ) → List Entry → SeatView
with_history v faced history = record { count = v.count; accounts = map (up_to_date history faced) v.accounts; taken = None; seen = v.seen; shed = v.shed }

-- The same after it took all entries out.
abbrev pub with_shed : SeatView → (ℕ → ℕ) → List Entry → SeatView
with_shed v faced history = record { count = v.count; accounts = map (up_to_date history faced) v.accounts; taken = None; seen = v.seen; shed = Some history }

-- The seat after its first caller got a seat of its own, and that seat.
abbrev pub without_first : SeatView → SeatView
without_first v = record { count = v.count; accounts = drop 1 v.accounts; taken = v.taken; seen = v.seen; shed = v.shed }

abbrev pub only_first : SeatView → SeatView
only_first v = seat_with v.count (take 1 v.accounts)

-- Two seats in one, which keeps each caller's own account.
abbrev pub joined : SeatView → SeatView → SeatView
joined v w = record { count = w.count; accounts = v.accounts ++ w.accounts; taken = v.taken; seen = v.seen; shed = v.shed }

-- What the seat has taken out.
abbrev pub shed_in : Option (List Entry) → List Entry
shed_in (Some shed) = shed
shed_in None = []

-- A seat's view, and the slots that it has in hand.
abbrev pub SeatState : Type 0
SeatState = Me Slot SeatView

-- The seat of the caller of this number, which is at the table and has nothing in hand.
pub record IsCallerSeat (table : TableId) (number : ℕ) (seat : TableId) (me : SeatState) : Type 0 where
  pub at_table : seat ≡ table
  pub one_word : seat.words ≡ 1
  pub below : number < me.0.count
  pub few : me.0.count ≤ 16
  pub sits : me ≡ (sitting me.0.count number (front_in me.0.accounts) (own_in me.0.accounts) (lost_in me.0.accounts) (faced_in me.0.accounts), [])

-- The seat that the service keeps, which stands for no caller until the service is closed.
pub record IsServiceSeat (table : TableId) (count : ℕ) (seat : TableId) (me : SeatState) : Type 0 where
  pub at_table : seat ≡ table
  pub one_word : seat.words ≡ 1
  pub some : 0 < count
  pub few : count ≤ 16
  pub waits : me ≡ (keeping count [] [], [])

-- The same of a service that lasts, which has had entries taken out.
pub record IsLastingSeat (table : TableId) (count : ℕ) (seat : TableId) (me : SeatState) : Type 0 where
  pub at_table : seat ≡ table
  pub one_word : seat.words ≡ 1
  pub some : 0 < count
  pub few : count ≤ 16
  pub waits : me ≡ (keeping count (shed_in me.0.shed) [], [])

-- The seat stands for the caller of this number alone, and has entries taken out.
abbrev pub IsKeeperOf : ℕ → SeatState → Type 0
IsKeeperOf number m = m ≡ (keeping m.0.count (shed_in m.0.shed) (record { number = number; front = front_in m.0.accounts; own = own_in m.0.accounts; lost = lost_in m.0.accounts; faced = faced_in m.0.accounts } ∷ []), [])
