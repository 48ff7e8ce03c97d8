-- What each step on the lock word tells the seat that makes it.
use Rattle.std.specs.Prelude.{◌≡◌, ◌≢◌, ℕ, ◌+◌, ◌<◌, ◌≤◌, List, [], ◌∷◌, ◌++◌, Some, None}
use Rattle.atomic_table.specs.Table.{Step, rest}
use Rattle.dn_types.specs.History.{IsLawful}
use Rattle.dn_types.specs.declared.entry.Entry.{Entry}
use Rattle.dn_types.specs.declared.rule.Rule.TheVariants.{Ordered}
use Rattle.dn_service.specs.Histories.{StartsWith, AreBelow}
use Rattle.dn_service.specs.Pasts.{Past, BookView, Keeps}
use Rattle.dn_service.specs.Rule.{Follows}
use Rattle.dn_service.specs.Accounts.{Each, Has, met_by}
use Rattle.dn_service.specs.Seats.{SeatState, SeatView, Slot, spent, with_taken, with_loss, with_faced, with_history, with_shed, shed_in}
use Rattle.dn_service.specs.Tokens.{learned}

-- The seat knows how many tries have found each of its callers in a call. Where it stands for all callers, its own are all tries.
abbrev pub Knows : SeatView → Type 0
Knows v = (tally : ℕ → ℕ) × Each (λ a. a.faced ≡ tally a.number) v.accounts
    × (((k : ℕ) → k < v.count → Has k v.accounts) → (k : ℕ) → met_by k v.accounts ≡ tally k)

-- A try to take the word found 0, and the book came with a past that it keeps, which begins with all that the seat's callers
-- have seen, and of which was taken out what the seat has taken out. Or it found j + 1, and the seat's first caller has noted it: the
-- book is with caller j, who sits at another seat.
abbrev pub tried : Step Slot → SeatState → ℕ → SeatState → Type 0
tried st m found m' =
    (found ≡ 0 → (past : Past) × (book : BookView) × (m' ≡ (with_taken m.0 (Some past), (0, Some book) ∷ m.1))
    × Keeps past book × AreBelow m.0.count past.history × Each (Follows past.history) m.0.accounts
    × ((s : List Entry) → m.0.shed ≡ Some s → s ≡ past.shed) × Knows m.0)
    × (found ≢ 0 → (found ≤ m.0.count) × ((j : ℕ) → found ≡ j + 1 → (m' ≡ (with_loss m.0 j, m.1)) × (¬ Has j m.0.accounts)))

-- The word was given back, with the past as it was taken.
abbrev pub returned : Step Slot → SeatState → ℕ → SeatState → Type 0
returned st m found m' = (faced : ℕ → ℕ) × (m' ≡ (with_faced m.0 faced, rest m.1))

-- The word was given back, with the past as it was taken, which the seat's callers have now seen.
abbrev pub read : Step Slot → SeatState → ℕ → SeatState → Type 0
read st m found m' = (faced : ℕ → ℕ) × ((was : Past) → m.0.taken ≡ Some was → m' ≡ (with_history m.0 faced was.history, rest m.1))

-- The word was given back, and the book in hand had these entries beside those that were taken out.
abbrev pub published : Step Slot → SeatState → ℕ → SeatState → Type 0
published st m found m' = (faced : ℕ → ℕ) × ((was : Past) (book : BookView) → m.0.taken ≡ Some was → m.1 ≡ (0, Some book) ∷ [] → m' ≡ (with_history m.0 faced (was.shed ++ book.kept), []))

-- The word was given back, and all entries were taken out.
abbrev pub emptied : Step Slot → SeatState → ℕ → SeatState → Type 0
emptied st m found m' = (faced : ℕ → ℕ) × ((was : Past) → m.0.taken ≡ Some was → m' ≡ (with_shed m.0 faced was.history, []))

-- There is one history that begins with all that the seat's callers have seen, and with what it was told of. The
-- callers have seen that now.
abbrev pub learnt : Step Slot → SeatState → ℕ → SeatState → Type 0
learnt st m found m' = (history : List Entry) × (m' ≡ (learned m.0, m.1)) × Each (Follows history) m.0.accounts × StartsWith history m.0.seen

-- A new seat, which is spent.
abbrev pub vacant : Step Slot → SeatState → ℕ → SeatState → Type 0
vacant st m found m' = m' ≡ (spent, [])

-- The seat took the book that keeps this past out of the slot.
pub record Won (m m' : SeatState) (book : BookView) : Type 0 where
  pub past : Past
  pub view : m'.0 ≡ with_taken m.0 (Some past)
  pub hand : m'.1 ≡ (0, None) ∷ []
  pub keeps : Keeps past book
  pub below : AreBelow m.0.count past.history
  pub follows : Each (Follows past.history) m.0.accounts
  pub shed : (s : List Entry) → m.0.shed ≡ Some s → s ≡ past.shed
  pub knows : Knows m.0

-- The seat took these entries out, and with those that it had before they are the lawful history, which its callers have seen.
pub record Emptied (m : SeatState) (entries : List Entry) (m' : SeatState) : Type 0 where
  pub faced : ℕ → ℕ
  pub now : m' ≡ (with_shed m.0 faced (shed_in m.0.shed ++ entries), [])
  pub lawful : IsLawful Ordered (shed_in m.0.shed ++ entries)
  pub below : AreBelow m.0.count (shed_in m.0.shed ++ entries)
  pub follows : Each (Follows (shed_in m.0.shed ++ entries)) m.0.accounts
