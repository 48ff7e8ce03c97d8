-- A seat can be split, two can be joined, and the table can be opened: each keeps the rule.
use Rattle.dn_service.proofs.Words.{Account, BookView, Each, Entry, Faces, Has, Joins, Keeps, List, Past, SeatFits, SeatRule, SeatView, Sits, Some, Splits, StartsWith, [], ap, arith, at_last}
use Rattle.dn_service.proofs.Words.{at_longer, at_set, eq-eqb, eqb, first_seat, get_or, inl, inr, keeping, length, length-set, met_in_all, ne_eqb, new_accounts, no_past, opening, refl, seat_with}
use Rattle.dn_service.proofs.Words.{set, set_else, spent, subst, suc, sym, witness, zero, ℕ, ⊎_elim, ◌++◌, ◌+◌, ◌<◌, ◌∙◌, ◌∷◌, ◌≡◌, ◌≢◌, ◌≤◌}
use mathlib.Core.Logic.{dite}
use mathlib.Core.Option.{some, some-ne-none, some-injective}
use native.Mathlib.Decide.{ℕ_discrete}
use lib.ListN.{get_elem?}
use prog.Atomic.{either}
use Rattle.dn_service.proofs.Accounts.{each_join, has_left, has_right, has_new}
use Rattle.dn_service.proofs.HistoryLaws.{below_none, starts_none}
use Rattle.dn_service.proofs.Losses.{met_set, met_last, met_join, met_new, faces_new}
use Rattle.dn_service.proofs.Taking.{TableState, same_shed}
use Rattle.dn_service.proofs.Views.{set_there, seats_set, held_set, at_inside, added_last}

module _ (n : ℕ) where
  each_new : (j m : ℕ) → j + m ≤ n → Each (Sits n [] (λ _. 0) 0) (new_accounts j m)
  each_new j zero l = tt
  each_new j (suc m) l = (record { below = omega arith; seated = refl; follows = record { front = starts_none []; own = refl } }, each_new (j + 1) m (omega arith))

  -- the same stands, where another seat may stand for them
  rehold : (history : List Entry) (seat_of seat_of' : ℕ → ℕ) (seat seat' : ℕ) (xs : List Account)
      → ((k : ℕ) → Has k xs → seat_of k ≡ seat → seat_of' k ≡ seat') → Each (Sits n history seat_of seat) xs
      → Each (Sits n history seat_of' seat') xs
  rehold history seat_of seat_of' seat seat' [] f h = tt
  rehold history seat_of seat_of' seat seat' (y ∷ ys) f h = (
    record { below = h.0.below; seated = f y.number (inl refl) h.0.seated; follows = h.0.follows },
    rehold history seat_of seat_of' seat seat' ys (λ k t. f k (inr t)) h.1,
  )

  -- a seat that has not taken the book, and whose callers another seat may stand for
  refit : (w : ℕ) (tally : ℕ → ℕ) (past : Past) (seat_of seat_of' : ℕ → ℕ) (seat : ℕ) (u : SeatView)
      → ((k : ℕ) → w ≡ k + 1 → seat_of' k ≡ seat_of k) → ((k : ℕ) → seat_of k ≡ seat → seat_of' k ≡ seat)
      → SeatFits n w tally past seat_of seat u → SeatFits n w tally past seat_of' seat u
  refit w tally past seat_of seat_of' seat u at_word keep f = record {
    count = f.count;
    accounts = rehold past.history seat_of seat_of' seat seat u.accounts (λ k _ e. keep k e) f.accounts;
    faced = f.faced;
    free = f.free;
    taken = λ k e h. f.taken k e (sym (at_word k e) ∙ h);
    idle = λ k e h. f.idle k e (λ q. h (at_word k e ∙ q));
    seen = f.seen;
    shed = f.shed;
  }

  -- the seat that a held caller has is there
  pub seat_below : (s : TableState) (r : SeatRule n s) (k : ℕ) → k < n → r.seat_of k < length s.views
  seat_below s r k l = let h = r.held k l in at_inside s.views (r.seat_of k) h.0 h.1

  -- the same table with other seats, of which the rule's parts that are of seats hold
  pub reseated : (s : TableState) (r : SeatRule n s) (seat_of : ℕ → ℕ) (views : List SeatView) → ((k : ℕ) → met_in_all k views ≡ r.tally k)
      → ((j : ℕ) (v : SeatView) → get_elem? views j ≡ some v → SeatFits n (get_or s.words 0 0) r.tally r.past seat_of j v)
      → ((k : ℕ) → k < n → (v : SeatView) × (get_elem? views (seat_of k) ≡ some v) × Has k v.accounts)
      → SeatRule n record { words = s.words; homes = s.homes; views = views }
  reseated s r seat_of views met seats held = record {
    past = r.past;
    seat_of = seat_of;
    tally = r.tally;
    met = met;
    one_word = r.one_word;
    one_slot = r.one_slot;
    word = r.word;
    lawful = r.lawful;
    below = r.below;
    home = r.home;
    seats = seats;
    held = held;
  }

  -- a seat that stands for no caller, and so hasn't taken the book
  pub fits_witness : (w : ℕ) (tally : ℕ → ℕ) (past : Past) (seat_of : ℕ → ℕ) (seat count : ℕ) (seen : List Entry) → StartsWith past.history seen
      → ((k : ℕ) → w ≡ k + 1 → seat_of k ≡ seat → (witness count seen).taken ≡ Some past) → SeatFits n w tally past seat_of seat (witness count seen)
  fits_witness w tally past seat_of seat count seen h taken = record {
    count = λ l. absurd (omega arith);
    accounts = tt;
    faced = tt;
    free = λ _. refl;
    taken = taken;
    idle = λ _ _ _. refl;
    seen = h;
    shed = λ s' e. absurd (cc);
  }

  -- the seat's first caller goes to a new seat
  pub splits : (id m : ℕ) (out : List Entry) (x : Account) (xs : List Account) → ¬ Has x.number xs → Splits (SeatRule n) id (keeping m out (x ∷ xs)) (keeping m out xs) (seat_with m (x ∷ []))
  splits id m out x xs once s r at =
      let f = r.seats id (keeping m out (x ∷ xs)) at in let u = keeping m out xs in let w = seat_with m (x ∷ []) in
      let vs : List SeatView = set s.views id u in
      let new : ℕ = length vs in
      let size : new ≡ length s.views = length-set s.views id u in
      let seat_of : ℕ → ℕ = λ k. either (eqb k x.number) new (r.seat_of k) in
      let same_seat_of = λ (k : ℕ) (ne : k ≢ x.number). ap (λ b. either b new (r.seat_of k)) (ne_eqb k x.number ne) in
      let new_seat_of = λ (k : ℕ) (e : k ≡ x.number). ap (λ b. either b new (r.seat_of k)) (eq-eqb k x.number e) in
      let count : m ≡ n = f.count (omega arith) in
      let seated : r.seat_of x.number ≡ id = f.accounts.0.seated in
      let at_word : (k : ℕ) → get_or s.words 0 0 ≡ k + 1 → seat_of k ≡ r.seat_of k = λ k e. same_seat_of k (λ q. let t = f.taken k e (ap r.seat_of q ∙ seated) in absurd (cc)) in
      let fits : (j : ℕ) (a : SeatView) → get_elem? vs j ≡ some a → SeatFits n (get_or s.words 0 0) r.tally r.past seat_of j a =
      seats_set (SeatFits n (get_or s.words 0 0) r.tally r.past seat_of) s.views id u
      record {
        count = λ _. count;
        accounts = rehold r.past.history r.seat_of seat_of id id xs (λ k has e. same_seat_of k (λ q. once (subst (λ (z : ℕ). Has z xs) q has)) ∙ e) f.accounts.1;
        faced = f.faced.1;
        free = λ _. refl;
        taken = λ k e h. f.taken k e (sym (at_word k e) ∙ h);
        idle = λ _ _ _. refl;
        seen = f.seen;
        shed = f.shed;
      }
      (λ j a other there. refit (get_or s.words 0 0) r.tally r.past r.seat_of seat_of j a at_word (λ k e. same_seat_of k (λ q. other (sym e ∙ (ap r.seat_of q ∙ seated))) ∙ e) (r.seats j a there)) in
      let fresh : SeatFits n (get_or s.words 0 0) r.tally r.past seat_of new w = record {
        count = λ _. count;
        accounts = (record { below = f.accounts.0.below; seated = new_seat_of x.number refl; follows = f.accounts.0.follows }, tt);
        faced = (f.faced.0, tt);
        free = λ _. refl;
        taken = λ k e h. let b = r.word in let l = seat_below s r k (omega arith) in let q : r.seat_of k ≡ new = sym (at_word k e) ∙ h in absurd (omega arith);
        idle = λ _ _ _. refl;
        seen = starts_none r.past.history;
        shed = λ s' e. absurd (cc);
      } in
      reseated s r seat_of (vs ++ w ∷ [])
      (λ k. let e = met_last k vs w in let d = met_set k s.views id (keeping m out (x ∷ xs)) u at in let f = r.met k in omega arith)
      (added_last vs w (SeatFits n (get_or s.words 0 0) r.tally r.past seat_of) fits fresh)
      (λ k l. dite (ℕ_discrete k x.number)
      (λ e. (w, subst (λ (z : ℕ). get_elem? (vs ++ w ∷ []) z ≡ some w) (sym (new_seat_of k e)) (at_last vs w new refl), inl (sym e)))
      (λ ne. let t = held_set s.views id (keeping m out (x ∷ xs)) u at (r.seat_of k) k (λ has. ⊎_elim (λ (e : x.number ≡ k). absurd (ne (sym e))) (λ (h : Has k xs). h) has) (r.held k l) in
      (t.0, at_longer vs (w ∷ []) (seat_of k) t.0 (ap (get_elem? vs) (same_seat_of k ne) ∙ t.1), t.2)))

  -- the other's callers go to the seat
  pub joins : (id a other b : ℕ) (out : List Entry) (ys zs : List Account) → 0 < length zs → Joins (SeatRule n) id (keeping a out ys) other (seat_with b zs) (keeping b out (ys ++ zs)) spent
  joins id a other b out ys zs some_there s r at apart there =
      let v = keeping a out ys in let w = seat_with b zs in let u = keeping b out (ys ++ zs) in
      let x : ℕ = get_or s.words 0 0 in
      let there' : get_elem? s.views other ≡ some w = sym (set_else s.views id other u apart) ∙ there in
      let f = r.seats id v at in let g = r.seats other w there' in
      let vs : List SeatView = set s.views id u in
      let seat_of : ℕ → ℕ = λ k. either (eqb (r.seat_of k) other) id (r.seat_of k) in
      let same_seat_of = λ (k : ℕ) (ne : r.seat_of k ≢ other). ap (λ c. either c id (r.seat_of k)) (ne_eqb (r.seat_of k) other ne) in
      let new_seat_of = λ (k : ℕ) (e : r.seat_of k ≡ other). ap (λ c. either c id (r.seat_of k)) (eq-eqb (r.seat_of k) other e) in
      let at_word : (k : ℕ) → x ≡ k + 1 → seat_of k ≡ r.seat_of k = λ k e. same_seat_of k (λ q. let t = g.taken k e q in absurd (cc)) in
      let count : b ≡ n = g.count some_there in
      let mine : SeatFits n x r.tally r.past seat_of id u = record {
        count = λ _. count;
        accounts =
            each_join (Sits n r.past.history seat_of id) ys zs
            (rehold r.past.history r.seat_of seat_of id id ys (λ k _ e. same_seat_of k (λ q. apart (sym q ∙ e)) ∙ e) f.accounts)
            (rehold r.past.history r.seat_of seat_of other id zs (λ k _ e. new_seat_of k e) g.accounts);
        faced = each_join (Faces x r.tally) ys zs f.faced g.faced;
        free = λ _. refl;
        taken = λ k e h. f.taken k e (sym (at_word k e) ∙ h);
        idle = λ _ _ _. refl;
        seen = f.seen;
        shed = f.shed;
      } in
      let gone : SeatFits n x r.tally r.past seat_of other spent =
      fits_witness x r.tally r.past seat_of other 0 [] (starts_none r.past.history) (λ k e h. g.taken k e (sym (at_word k e) ∙ h)) in
      reseated s r seat_of (set vs other spent)
      (λ k. let e = met_set k vs other w spent there in let d = met_set k s.views id v u at in let f = met_join k ys zs in let g = r.met k in omega arith)
      (seats_set (SeatFits n x r.tally r.past seat_of) vs other spent gone (λ j c ne e. seats_two (SeatFits n x r.tally r.past seat_of) j c ne e
      mine
      (λ i d not_id not_other e'. refit x r.tally r.past r.seat_of seat_of i d at_word (λ k q. same_seat_of k (λ z. not_other (sym q ∙ z)) ∙ q) (r.seats i d e'))))
      (λ k l. dite (ℕ_discrete (r.seat_of k) other)
      (λ e. (
        u,
        subst (λ (z : ℕ). get_elem? (set vs other spent) z ≡ some u) (sym (new_seat_of k e)) (set_else vs other id spent (λ q. apart (sym q)) ∙ set_there s.views id v u at),
        has_right ys zs k (let t = r.held k l in subst (λ (z : SeatView). Has k z.accounts) (some-injective t.0 w (sym t.1 ∙ (ap (get_elem? s.views) e ∙ there'))) t.2),
      ))
      (λ ne. let t = held_set s.views id v u at (r.seat_of k) k (has_left ys zs k) (r.held k l) in
      (t.0, subst (λ (z : ℕ). get_elem? (set vs other spent) z ≡ some t.0) (sym (same_seat_of k ne)) (set_else vs other (r.seat_of k) spent ne ∙ t.1), t.2)))
    where
      seats_two : (K : ℕ → SeatView → Type 0) (j : ℕ) (c : SeatView) → j ≢ other
          → get_elem? (set s.views id (keeping b out (ys ++ zs))) j ≡ some c → K id (keeping b out (ys ++ zs))
          → ((i : ℕ) (d : SeatView) → i ≢ id → i ≢ other → get_elem? s.views i ≡ some d → K i d) → K j c
      seats_two K j c ne e mine theirs = ⊎_elim (λ (t : (j ≡ id) × (keeping b out (ys ++ zs) ≡ c)). subst (λ (y : ℕ × SeatView). K y.0 y.1) (λ i. (sym t.0 i, t.1 i)) mine)
          (λ (t : (j ≢ id) × (get_elem? s.views j ≡ some c)). theirs j c t.0 ne t.1) (at_set s.views id j (keeping b out (ys ++ zs)) c e)

  pub opens : (book : BookView) → Keeps no_past book → SeatRule n (opening (0 ∷ []) (Some book ∷ []) (first_seat n))
  opens book kept = record {
    past = no_past;
    seat_of = λ _. 0;
    tally = λ _. 0;
    met = λ k. let e = met_new k 0 n in omega arith;
    one_word = refl;
    one_slot = refl;
    word = omega arith;
    lawful = tt;
    below = below_none n;
    home = λ _. (book, refl, kept);
    seats = λ j v e. only_first j v e;
    held = λ k l. (first_seat n, refl, has_new 0 n k (omega arith) (omega arith));
  }
    where
      first_fits : SeatFits n 0 (λ _. 0) no_past (λ _. 0) 0 (first_seat n)
      first_fits = record {
        count = λ _. refl;
        accounts = each_new 0 n (omega arith);
        faced = faces_new 0 n;
        free = λ _. refl;
        taken = λ k e _. absurd (omega arith);
        idle = λ _ _ _. refl;
        seen = starts_none [];
        shed = λ s e. (refl, sym (same_shed (Some []) [] s refl e));
      }

      only_first : (j : ℕ) (v : SeatView) → get_elem? (first_seat n ∷ []) j ≡ some v → SeatFits n 0 (λ _. 0) no_past (λ _. 0) j v
      only_first zero v e = subst (SeatFits n 0 (λ _. 0) no_past (λ _. 0) 0) (some-injective (first_seat n) v e) first_fits
      only_first (suc j) v e = absurd (some-ne-none v (sym e))
