-- What a seat knows of a history that its callers have not seen: a token of it, and how a caller learns from one.
use Rattle.std.specs.Prelude.{◌≡◌, ℕ, List, [], map, length, nat_le, cond, None}
use Rattle.atomic_table.specs.Seated.{TableId}
use Rattle.dn_types.specs.declared.entry.Entry.{Entry}
use Rattle.dn_service.specs.Accounts.{Account, front_in}
use Rattle.dn_service.specs.Seats.{SeatView, SeatState}

-- The longer of two lists.
abbrev pub longer : List Entry → List Entry → List Entry
longer xs ys = cond (nat_le (length xs) (length ys)) ys xs

-- A seat that stands for no caller, and knows of a history.
abbrev pub witness : ℕ → List Entry → SeatView
witness n seen = record { count = n; accounts = []; taken = None; seen = seen; shed = None }

-- A seat that knows of what the first of these has seen.
abbrev pub witness_of : SeatView → SeatView
witness_of v = witness v.count (front_in v.accounts)

abbrev pub as_it_was : SeatView → SeatView
as_it_was v = v

-- The seat, which was told of what the other knows of.
abbrev pub told_of : SeatView → SeatView → SeatView
told_of v w = record { count = v.count; accounts = v.accounts; taken = v.taken; seen = w.seen; shed = v.shed }

-- The account of a caller who has seen this history too.
abbrev pub having_seen : List Entry → Account → Account
having_seen seen a = record { number = a.number; front = longer a.front seen; own = a.own; lost = a.lost; faced = a.faced }

-- The seat after its callers have seen what it was told of.
abbrev pub learned : SeatView → SeatView
learned v = record { count = v.count; accounts = map (having_seen v.seen) v.accounts; taken = v.taken; seen = []; shed = v.shed }

-- The seat of a token, which knows of a history.
pub record IsTokenSeat (seat : TableId) (me : SeatState) : Type 0 where
  pub one_word : seat.words ≡ 1
  pub knows : me ≡ (witness me.0.count me.0.seen, [])
