-- Seats that are handed out to callers, and taken in again.
use Rattle.dn_service.proofs.Words.{Account, All, All-cons, All-nil, CallerView, Each, Entry, Follows, Has, IsAccountedFor, IsFaced, IsOf, Joins, List, SeatRule, SeatState, SeatView, ServiceView}
use Rattle.dn_service.proofs.Words.{Splits, [], accounts_of, ap, arith, get_or-append_seam, has_number, inl, inr, joined, keeping, length, length-append, lost_to, map-append, met_by, ne_eqb}
use Rattle.dn_service.proofs.Words.{new_account, new_accounts, new_caller, new_callers, only_first, refl, sitting, spent, subst, suc, sym, times, true, without_first, zero, ℕ, ◌++◌, ◌+◌, ◌-◌, ◌<◌}
use Rattle.dn_service.proofs.Words.{◌∙◌, ◌∷◌, ◌≡◌}
use mathlib.Core.Logic.{dite}
use native.Mathlib.Decide.{ℕ_discrete}
use Rattle.dn_service.proofs.Accounts.{has_none_new}
use Rattle.dn_service.proofs.Splitting.{splits, joins}

pub new_accounts_step : (k n : ℕ) → k < n → new_accounts k (n - k) ≡ new_account k ∷ new_accounts (k + 1) (n - (k + 1))
new_accounts_step k n l = let e : n - k ≡ suc (n - (k + 1)) = omega arith in ap (new_accounts k) e

pub hands_out : (n id count k : ℕ) (m : SeatState) → k < count → m ≡ (keeping count [] (new_accounts k (count - k)), []) → Splits (SeatRule n) id m.0 (without_first m.0) (only_first m.0)
hands_out n id count k m l is = let e : m.0 ≡ keeping count [] (new_account k ∷ new_accounts (k + 1) (count - (k + 1))) = ap (λ x. x.0) is ∙ ap (keeping count []) (new_accounts_step k count l) in
    subst (λ v. Splits (SeatRule n) id v (without_first v) (only_first v)) (sym e)
    (splits n id count [] (new_account k) (new_accounts (k + 1) (count - (k + 1))) (has_none_new (k + 1) (count - (k + 1)) k (omega arith)))

pub left_over : (count k : ℕ) (m : SeatState) → k < count → m ≡ (keeping count [] (new_accounts k (count - k)), []) → without_first m.0 ≡ keeping count [] (new_accounts (k + 1) (count - (k + 1)))
left_over count k m l is = ap without_first (ap (λ x. x.0) is ∙ ap (keeping count []) (new_accounts_step k count l))

pub handed : (count k : ℕ) (m : SeatState) → k < count → m ≡ (keeping count [] (new_accounts k (count - k)), []) → only_first m.0 ≡ sitting count k [] [] [] 0
handed count k m l is = ap only_first (ap (λ x. x.0) is ∙ ap (keeping count []) (new_accounts_step k count l))

new_callers_more : (service : ServiceView) (j n : ℕ) → new_callers service j n ++ new_caller service (j + n) ∷ [] ≡ new_callers service j (n + 1)
new_callers_more service j zero = let e : j + 0 ≡ j = omega arith in ap (λ k. new_caller service k ∷ []) e
new_callers_more service j (suc n) = let e : j + suc n ≡ (j + 1) + n = omega arith in let f : suc n + 1 ≡ suc (n + 1) = omega arith in
    ap (λ l. new_caller service j ∷ l) (ap (λ k. new_callers service (j + 1) n ++ new_caller service k ∷ []) e ∙ new_callers_more service (j + 1) n) ∙ ap (new_callers service j) (sym f)

pub one_more_caller : (service : ServiceView) (n : ℕ) → new_callers service 0 n ++ new_caller service n ∷ [] ≡ new_callers service 0 (n + 1)
one_more_caller service n = let e : n ≡ 0 + n = omega arith in ap (λ k. new_callers service 0 n ++ new_caller service k ∷ []) e ∙ new_callers_more service 0 n

-- the other's seat is that of one caller
pub takes_in : (n id other a b k : ℕ) (out : List Entry) (ys : List Account) (front own : List Entry) (lost : List ℕ) (faced : ℕ) (v w : SeatView) → v ≡ keeping a out ys
    → w ≡ sitting b k front own lost faced → Joins (SeatRule n) id v other w (joined v w) spent
takes_in n id other a b k out ys front own lost faced v w e f =
    subst (λ (p : SeatView × SeatView). Joins (SeatRule n) id p.0 other p.1 (joined p.0 p.1) spent) (λ i. (sym e i, sym f i))
    (joins n id a other b out ys (record { number = k; front = front; own = own; lost = lost; faced = faced } ∷ []) (omega arith))

pub taken_in : (a : ℕ) (out : List Entry) (cs : List CallerView) (c : CallerView) (v w : SeatView) → v ≡ keeping a out (accounts_of cs)
    → w ≡ sitting c.service.callers c.number c.front c.own c.lost c.faced → joined v w ≡ keeping c.service.callers out (accounts_of (cs ++ c ∷ []))
taken_in a out cs c v w e f = (λ i. joined (e i) (f i)) ∙ ap (keeping c.service.callers out)
    (sym (map-append (λ (x : CallerView). record { number = x.number; front = x.front; own = x.own; lost = x.lost; faced = x.faced }) cs (c ∷ [])))

-- what holds of each holds of the one between
pub between : {X : Type 0} (P : X → Type 0) (xs : List X) (y : X) (ys all : List X) → xs ++ (y ∷ ys) ≡ all → All P all → P y
between P xs y ys all e h = subst P (get_or-append_seam xs y ys y) (subst (All P) (sym e) h (length xs) y (omega (arith, length-append xs (y ∷ ys))))

pub account_there : (k : ℕ) (cs : List CallerView) → has_number k cs ≡ true → Has k (accounts_of cs)
account_there k [] e = absurd (cc)
account_there k (c ∷ cs) e = dite (ℕ_discrete c.number k) (λ q. inl q) (λ ne. inr (account_there k cs (rw (ne_eqb c.number k ne) at e)))

pub accounted : (history : List Entry) (cs : List CallerView) → Each (Follows history) (accounts_of cs) → All (IsAccountedFor history) cs
accounted history [] h = All-nil (IsAccountedFor history)
accounted history (c ∷ cs) h = All-cons (IsAccountedFor history) c cs (record { front = h.0.front; own = h.0.own }) (accounted history cs h.1)

met_of : (k : ℕ) (cs : List CallerView) → met_by k (accounts_of cs) ≡ lost_to k cs
met_of k [] = refl
met_of k (c ∷ cs) = ap (λ n. times k c.lost + n) (met_of k cs)

pub faced_all : (tally : ℕ → ℕ) (all cs : List CallerView) → ((k : ℕ) → met_by k (accounts_of all) ≡ tally k) → Each (λ a. a.faced ≡ tally a.number) (accounts_of cs) → All (IsFaced all) cs
faced_all tally all [] sums h = All-nil (IsFaced all)
faced_all tally all (c ∷ cs) sums h = All-cons (IsFaced all) c cs (h.0 ∙ (sym (sums c.number) ∙ met_of c.number all)) (faced_all tally all cs sums h.1)

pub new_are_of : (service : ServiceView) (k n : ℕ) → All (IsOf service) (new_callers service k n)
new_are_of service k zero = All-nil (IsOf service)
new_are_of service k (suc n) = All-cons (IsOf service) (new_caller service k) (new_callers service (k + 1) n) refl (new_are_of service (k + 1) n)
