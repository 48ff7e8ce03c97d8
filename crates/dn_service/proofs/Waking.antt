-- A caller asks when the next packet is due or starts: the step that gives the book back as it was, and what the caller has then seen.
use Rattle.dn_service.proofs.Words.{Allows, AreBelow, BookView, Each, Entry, Follows, IsLawful, IsWakeOf, Keeps, List, Option, Ordered, Past, SeatRule, SeatState, SeatView, Some, TableId, Wakes}
use Rattle.dn_service.proofs.Words.{[], arith, gives, lost_in, own_entries, read, refl, rest, sitting, step, subst, sym, up_to_date, with_history, ℕ, ◌∙◌, ◌∷◌, ◌≡◌}
use mathlib.Core.Option.{none}
use Rattle.dn_service.proofs.Accounts.{has_updated}
use Rattle.dn_service.proofs.Calling.{IsSitting, seen_from, has_seen}
use Rattle.dn_service.proofs.Losses.{met_kept, met_map, faces_now}
use Rattle.dn_service.proofs.Taking.{given_back, has_book, others_fit, updated_some, updated_sit, same_past}

pub reads : (n slots id : ℕ) (me : SeatState) (was : Past) (book : BookView) → me.0.taken ≡ Some was → me.1 ≡ (0, Some book) ∷ [] → Keeps was book
    → Allows (SeatRule n) slots id me 0 (λ _. 0) (λ _. read (step slots 0 0 0 none) me 0)
reads n slots id me was book took carried kept s r deep at _ =
    let f = r.seats id me.0 at in let b = has_book n s r id me.0 was at took in
    let w : SeatView = with_history me.0 r.tally r.past.history in (
      w,
      gives,
      tt,
      given_back n s r id me w r.past book at carried r.below (subst (λ (p : Past). Keeps p book) (sym b.3) kept)
          record {
            count = λ l. f.count (updated_some r.past.history r.tally me.0.accounts l);
            accounts = updated_sit n r.past.history r.past.history r.tally r.seat_of id me.0.accounts f.accounts;
            faced = faces_now 0 r.tally r.past.history me.0.accounts;
            free = λ _. refl;
            taken = λ j e h. absurd (omega arith);
            idle = λ j e h. refl;
            seen = f.seen;
            shed = f.shed;
          }
          (others_fit n s r id me.0 was at took)
          (λ j h. has_updated r.past.history r.tally me.0.accounts j h)
          (λ j. met_kept j s.views id me.0 w at (met_map j (up_to_date r.past.history r.tally) me.0.accounts (λ _. refl)) ∙ r.met j),
      (
        r.tally,
        λ was' is. let same : r.past ≡ was' = b.3 ∙ same_past me.0.taken was was' took is in
            (λ i. (with_history me.0 r.tally (same i).history, rest me.1)),
      ),
    )

pub wakes : (service : TableId) (k : ℕ) (m m' : SeatState) (service' : TableId) (history : List Entry) (next : Option ℕ) → IsSitting k m
    → IsLawful Ordered history → AreBelow m.0.count history → Each (Follows history) m.0.accounts → IsWakeOf history next
    → (faced : ℕ) → m' ≡ (sitting m.0.count k history (own_entries k history) (lost_in m.0.accounts) faced, [])
    → Wakes (seen_from service k m) next (seen_from service' k m')
wakes service k m m' service' history next is lawful below follows wake faced e =
    let f = has_seen k m is history follows in
    subst (λ (z : SeatState). Wakes (seen_from service k m) next (seen_from service' k z)) (sym e) record {
      lawful = lawful;
      below = below;
      seen = f.front;
      own = sym f.own;
      all_own = refl;
      next = wake;
    }
