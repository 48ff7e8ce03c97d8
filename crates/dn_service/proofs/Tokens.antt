-- Seats that know of a history, and seats that are spent: each step with them keeps the rule.
use Rattle.dn_service.proofs.Words.{Account, Allows, Bool, Each, Enters, Entry, Has, Joins, List, SeatFits, SeatRule, SeatState, SeatView, Sits, Splits, StartsWith, [], ap, arith, at_longer, cond}
use Rattle.dn_service.proofs.Words.{false, get_or, having_seen, inl, inr, keeps, learned, learnt, length, longer, map, nat_le, refl, set, set_again, set_else, sitting, spent, step, subst, sym}
use Rattle.dn_service.proofs.Words.{told_of, true, vacant, witness, ℕ, ⊎_elim, ◌++◌, ◌<◌, ◌∙◌, ◌∷◌, ◌≡◌}
use mathlib.Core.Logic.{dite}
use mathlib.Core.Option.{none, some, some-injective}
use native.Mathlib.Decide.{ℕ_discrete}
use lib.ListN.{get_elem?}
use Rattle.dn_service.proofs.Accounts.{each_map}
use Rattle.dn_service.proofs.HistoryLaws.{starts_none}
use Rattle.dn_service.proofs.Losses.{met_last, met_kept, met_map, faces_learned}
use Rattle.dn_service.proofs.Splitting.{fits_witness, reseated, seat_below}
use Rattle.dn_service.proofs.Taking.{TableState, moved}
use Rattle.dn_service.proofs.Views.{seats_set, held_set, added_last}

-- what begins with two histories does so with the longer
pub starts_longer : (history xs ys : List Entry) → StartsWith history xs → StartsWith history ys → StartsWith history (longer xs ys)
starts_longer history xs ys p q = by (nat_le (length xs) (length ys))
  where
    by : (b : Bool) → StartsWith history (cond b ys xs)
    by true = q
    by false = p

has_learned : (seen : List Entry) (xs : List Account) (k : ℕ) → Has k xs → Has k (map (having_seen seen) xs)
has_learned seen [] k has = has
has_learned seen (x ∷ xs) k has = ⊎_elim (λ (e : x.number ≡ k). inl e) (λ (t : Has k xs). inr (has_learned seen xs k t)) has

learned_some : (seen : List Entry) (xs : List Account) → 0 < length (map (having_seen seen) xs) → 0 < length xs
learned_some seen [] l = l
learned_some seen (x ∷ xs) l = omega arith

module _ (n : ℕ) where
  -- a seat that stands for no caller comes to the table
  newcomer : (s : TableState) (r : SeatRule n s) (count : ℕ) (seen : List Entry) → StartsWith r.past.history seen
      → SeatFits n (get_or s.words 0 0) r.tally r.past r.seat_of (length s.views) (witness count seen)
  newcomer s r count seen h = fits_witness n (get_or s.words 0 0) r.tally r.past r.seat_of (length s.views) count seen h
      (λ k e q. let b = r.word in let l = seat_below n s r k (omega arith) in absurd (omega arith))

  comes : (s : TableState) (r : SeatRule n s) (count : ℕ) (seen : List Entry) → StartsWith r.past.history seen
      → SeatRule n record { words = s.words; homes = s.homes; views = s.views ++ witness count seen ∷ [] }
  comes s r count seen h =
      let w : SeatView = witness count seen in
      reseated n s r r.seat_of (s.views ++ w ∷ []) (λ k. let e = met_last k s.views w in let f = r.met k in omega arith)
      (added_last s.views w (SeatFits n (get_or s.words 0 0) r.tally r.past r.seat_of) r.seats (newcomer s r count seen h))
      (λ k l. let t = r.held k l in (t.0, at_longer s.views (w ∷ []) (r.seat_of k) t.0 t.1, t.2))

  pub vacates : (slots : ℕ) (m : SeatState) → Enters (SeatRule n) slots 0 (λ x w. vacant (step slots 0 0 0 none) m x (w, []))
  vacates slots m s r deep _ = (spent, comes s r 0 [] (starts_none r.past.history), refl)

  pub witnesses : (id m k : ℕ) (front own : List Entry) (lost : List ℕ) (faced : ℕ) → Splits (SeatRule n) id (sitting m k front own lost faced) (sitting m k front own lost faced) (witness m front)
  witnesses id m k front own lost faced s r at =
      let v : SeatView = sitting m k front own lost faced in let f = r.seats id v at in
      subst (λ (vs : List SeatView). SeatRule n record { words = s.words; homes = s.homes; views = vs ++ witness m front ∷ [] })
      (sym (set_again s.views id v at)) (comes s r m front f.accounts.0.follows.front)

  pub tells : (id other b : ℕ) (seen : List Entry) (v : SeatView) → Joins (SeatRule n) id v other (witness b seen) (told_of v (witness b seen)) spent
  tells id other b seen v s r at apart there =
      let w : SeatView = witness b seen in let u : SeatView = told_of v w in let x : ℕ = get_or s.words 0 0 in
      let vs : List SeatView = set s.views id u in
      let there' : get_elem? s.views other ≡ some w = sym (set_else s.views id other u apart) ∙ there in
      let f = r.seats id v at in let g = r.seats other w there' in
      let mine : SeatFits n x r.tally r.past r.seat_of id u = record {
        count = f.count;
        accounts = f.accounts;
        faced = f.faced;
        free = f.free;
        taken = f.taken;
        idle = f.idle;
        seen = g.seen;
        shed = f.shed;
      } in
      let gone : SeatFits n x r.tally r.past r.seat_of other spent = fits_witness n x r.tally r.past r.seat_of other 0 [] (starts_none r.past.history) g.taken in
      reseated n s r r.seat_of (set vs other spent) (λ k. met_kept k vs other w spent there refl ∙ (met_kept k s.views id v u at refl ∙ r.met k))
      (seats_set (SeatFits n x r.tally r.past r.seat_of) vs other spent gone
      (λ j c _ e. seats_set (SeatFits n x r.tally r.past r.seat_of) s.views id u mine (λ i d _ q. r.seats i d q) j c e))
      (λ k l. let t = r.held k l in dite (ℕ_discrete (r.seat_of k) other)
      (λ e. absurd (subst (λ (z : SeatView). Has k z.accounts) (some-injective t.0 w (sym t.1 ∙ (ap (get_elem? s.views) e ∙ there'))) t.2))
      (λ ne. let h = held_set s.views id v u at (r.seat_of k) k (λ q. q) t in (h.0, set_else vs other (r.seat_of k) spent ne ∙ h.1, h.2)))

  learned_sit : (past seen : List Entry) (seat_of : ℕ → ℕ) (id : ℕ) (xs : List Account) → StartsWith past seen → Each (Sits n past seat_of id) xs
      → Each (Sits n past seat_of id) (map (having_seen seen) xs)
  learned_sit past seen seat_of id [] q h = tt
  learned_sit past seen seat_of id (x ∷ xs) q h = (
    record { below = h.0.below; seated = h.0.seated; follows = record { front = starts_longer past x.front seen h.0.follows.front q; own = h.0.follows.own } },
    learned_sit past seen seat_of id xs q h.1,
  )

  pub learns : (slots id : ℕ) (me : SeatState) → Allows (SeatRule n) slots id me 0 (λ x. x) (learnt (step slots 0 0 0 none) me)
  learns slots id me s r deep at _ =
      let x : ℕ = get_or s.words 0 0 in let f = r.seats id me.0 at in (
        learned me.0,
        keeps,
        tt,
        moved n s r id me.0 (learned me.0) x s.homes r.past r.tally at r.word r.one_slot r.lawful r.below r.home
            record {
              count = λ l. f.count (learned_some me.0.seen me.0.accounts l);
              accounts = learned_sit r.past.history me.0.seen r.seat_of id me.0.accounts f.seen f.accounts;
              faced = faces_learned x r.tally me.0.seen me.0.accounts f.faced;
              free = f.free;
              taken = f.taken;
              idle = f.idle;
              seen = starts_none r.past.history;
              shed = f.shed;
            }
            (λ j u _ there. r.seats j u there) (λ j h. has_learned me.0.seen me.0.accounts j h)
            (λ k. met_kept k s.views id me.0 (learned me.0) at (met_map k (having_seen me.0.seen) me.0.accounts (λ _. refl)) ∙ r.met k),
        (r.past.history, refl, each_map me.0.accounts (λ y t. t.follows) f.accounts, f.seen),
      )
