-- A call: what the seat of one caller knows at each step, and what the caller knows after it.
use Rattle.dn_service.proofs.Words.{Answered, AreBelow, BookView, Call, CallerView, Each, Entry, Follows, Has, IsLawful, IsSameCaller, List, None, Ordered, Past, Reply, SeatState, SeatView, Slot}
use Rattle.dn_service.proofs.Words.{Some, TableId, [], ap, entry_of, faced_in, front_in, having_faced, having_lost, inl, lost_in, map, own_entries, own_in, refl, sitting, subst, sym, up_to_date}
use Rattle.dn_service.proofs.Words.{with_history, with_loss, with_taken, ℕ, ◌++◌, ◌<◌, ◌∙◌, ◌∷◌, ◌≡◌}
use Rattle.dn_service.proofs.HistoryLaws.{own-more, below_more}
use Rattle.dn_service.proofs.Taking.{slot_in}

-- a caller, by its seat
abbrev pub seen_from : TableId → ℕ → SeatState → CallerView
seen_from service k m = record {
  service = record { table = service; callers = m.0.count };
  number = k;
  front = front_in m.0.accounts;
  own = own_in m.0.accounts;
  lost = lost_in m.0.accounts;
  faced = faced_in m.0.accounts;
}

-- the seat is that of the caller k, with nothing in hand
abbrev pub IsSitting : ℕ → SeatState → Type 0
IsSitting k m = m ≡ (sitting m.0.count k (front_in m.0.accounts) (own_in m.0.accounts) (lost_in m.0.accounts) (faced_in m.0.accounts), [])

module _ (k : ℕ) (m : SeatState) (is : IsSitting k m) where
  pub is_idle : m.0.taken ≡ None
  is_idle = ap (λ (x : SeatState). x.0.taken) is

  pub seen_nothing : m.0.seen ≡ []
  seen_nothing = ap (λ (x : SeatState). x.0.seen) is

  pub shed_nothing : m.0.shed ≡ None
  shed_nothing = ap (λ (x : SeatState). x.0.shed) is

  pub has_nothing : m.1 ≡ []
  has_nothing = ap (λ (x : SeatState). x.1) is

  abbrev accounts_is : m.0.accounts ≡ record { number = k; front = front_in m.0.accounts; own = own_in m.0.accounts; lost = lost_in m.0.accounts; faced = faced_in m.0.accounts } ∷ []
  accounts_is = ap (λ (x : SeatState). x.0.accounts) is

  pub stands_for : Has k m.0.accounts
  stands_for = subst (Has k) (sym accounts_is) (inl refl)

  pub has_seen : (history : List Entry) → Each (Follows history) m.0.accounts → Follows history
      (record { number = k; front = front_in m.0.accounts; own = own_in m.0.accounts; lost = lost_in m.0.accounts; faced = faced_in m.0.accounts })
  has_seen history h = (subst (Each (Follows history)) accounts_is h).0

-- two readings of what is in hand agree
pub same_book : (cs : List (ℕ × Slot)) (a b : BookView) → cs ≡ (0, Some a) ∷ [] → cs ≡ (0, Some b) ∷ [] → a ≡ b
same_book cs a b p q = ap (slot_in a) (sym p ∙ q)

-- the seat after the book was given back with a history
pub now_sitting : (k : ℕ) (m m' : SeatState) (x : SeatView) (past : Past) (f : ℕ → ℕ) (later : List Entry) → IsSitting k m → x ≡ with_taken m.0 (Some past)
    → m' ≡ (with_history x f later, []) → m' ≡ (sitting m.0.count k later (own_entries k later) (lost_in m.0.accounts) (f k), [])
now_sitting k m m' x past f later is at told = told ∙ (λ i. (with_history (at i) f later, []))
    ∙ (λ i. (record { count = m.0.count; accounts = map (up_to_date later f) (accounts_is k m is i); taken = None; seen = seen_nothing k m is i; shed = shed_nothing k m is i }, []))

-- the seat after its try found caller j in a call
pub lost_sitting : (k : ℕ) (m m' : SeatState) (j : ℕ) → IsSitting k m → m' ≡ (with_loss m.0 j, m.1)
    → m' ≡ (sitting m.0.count k (front_in m.0.accounts) (own_in m.0.accounts) (lost_in m.0.accounts ++ j ∷ []) (faced_in m.0.accounts), [])
lost_sitting k m m' j is told = told ∙ (λ i. (with_loss (is i).0 j, (is i).1))

-- what a try that was refused leaves of the caller, by its seat
module _ (service service' : TableId) (k : ℕ) (m m' : SeatState) (t : service' ≡ service) where
  pub lost_to : (j : ℕ) → m' ≡ (sitting m.0.count k (front_in m.0.accounts) (own_in m.0.accounts) (lost_in m.0.accounts ++ j ∷ []) (faced_in m.0.accounts), [])
      → seen_from service' k m' ≡ having_lost j (seen_from service k m)
  lost_to j now = λ i. seen_from (t i) k (now i)

  pub had_it : (n : ℕ) → m' ≡ (sitting m.0.count k (front_in m.0.accounts) (own_in m.0.accounts) (lost_in m.0.accounts) n, [])
      → seen_from service' k m' ≡ having_faced (faced_in m'.0.accounts) (seen_from service k m)
  had_it n now = (λ i. seen_from (t i) k (now i)) ∙ ap (λ z. having_faced z (seen_from service k m)) (sym (ap (λ (x : SeatState). faced_in x.0.accounts) now))

  pub same_one : m'.0.count ≡ m.0.count → IsSameCaller (seen_from service k m) (seen_from service' k m')
  same_one count = record { service = λ i. record { table = t i; callers = count i }; number = refl }

pub answers : (service : TableId) (k : ℕ) (m m' : SeatState) (service' : TableId) (history : List Entry) (c : Call) (a : Reply) → IsSitting k m → k < m.0.count
    → IsLawful Ordered (history ++ entry_of k c a ∷ []) → AreBelow m.0.count history → Each (Follows history) m.0.accounts
    → (faced : ℕ) → m' ≡ (sitting m.0.count k (history ++ entry_of k c a ∷ []) (own_entries k (history ++ entry_of k c a ∷ [])) (lost_in m.0.accounts) faced, [])
    → Answered (seen_from service k m) c a (seen_from service' k m')
answers service k m m' service' history c a is small lawful below follows faced e =
    let f = has_seen k m is history follows in let x : Entry = entry_of k c a in
    subst (λ (z : SeatState). Answered (seen_from service k m) c a (seen_from service' k z)) (sym e) record {
      lawful = lawful;
      below = below_more m.0.count history x below small;
      between = f.front.0;
      front = ap (λ l. l ++ x ∷ []) f.front.1;
      own = own-more k history x refl ∙ ap (λ l. l ++ x ∷ []) (sym f.own);
      all_own = refl;
    }
