-- Laws of a seat's accounts.
use Rattle.dn_service.proofs.Words.{Account, Each, Entry, Has, List, [], arith, inl, inr, length, map, new_accounts, suc, up_to_date, zero, ℕ, ⊎_elim, ◌++◌, ◌+◌, ◌<◌, ◌∷◌, ◌≡◌, ◌≤◌}
use mathlib.Core.Logic.{dite}
use native.Mathlib.Decide.{ℕ_discrete}

module _ {P Q : Account → Type 0} where
  pub each_map : (xs : List Account) → ((x : Account) → P x → Q x) → Each P xs → Each Q xs
  each_map [] f h = tt
  each_map (x ∷ xs) f h = (f x h.0, each_map xs f h.1)

pub each_at : (P : Account → Type 0) (xs : List Account) (k : ℕ) → Each P xs → Has k xs → (x : Account) × P x × (x.number ≡ k)
each_at P [] k h has = absurd has
each_at P (x ∷ xs) k h has = ⊎_elim (λ (e : x.number ≡ k). (x, h.0, e)) (λ (t : Has k xs). each_at P xs k h.1 t) has

pub each_join : (P : Account → Type 0) (xs ys : List Account) → Each P xs → Each P ys → Each P (xs ++ ys)
each_join P [] ys p q = q
each_join P (x ∷ xs) ys p q = (p.0, each_join P xs ys p.1 q)

pub has_some : (xs : List Account) (k : ℕ) → Has k xs → 0 < length xs
has_some [] k has = absurd has
has_some (x ∷ xs) k has = omega arith

pub has_updated : (history : List Entry) (f : ℕ → ℕ) (xs : List Account) (k : ℕ) → Has k xs → Has k (map (up_to_date history f) xs)
has_updated history f [] k has = has
has_updated history f (x ∷ xs) k has = ⊎_elim (λ (e : x.number ≡ k). inl e) (λ (t : Has k xs). inr (has_updated history f xs k t)) has

pub has_left : (xs ys : List Account) (k : ℕ) → Has k xs → Has k (xs ++ ys)
has_left [] ys k h = absurd h
has_left (x ∷ xs) ys k h = ⊎_elim (λ (e : x.number ≡ k). inl e) (λ (t : Has k xs). inr (has_left xs ys k t)) h

pub has_right : (xs ys : List Account) (k : ℕ) → Has k ys → Has k (xs ++ ys)
has_right [] ys k h = h
has_right (x ∷ xs) ys k h = inr (has_right xs ys k h)

-- The n new accounts from j on are those of the callers j to j + n - 1.
pub has_new : (j n k : ℕ) → j ≤ k → k < j + n → Has k (new_accounts j n)
has_new j zero k low high = absurd (omega arith)
has_new j (suc n) k low high = dite (ℕ_discrete j k) (λ e. inl e) (λ ne. inr (has_new (j + 1) n k (omega arith) (omega arith)))

pub has_none_new : (j n k : ℕ) → k < j → ¬ Has k (new_accounts j n)
has_none_new j zero k low h = h
has_none_new j (suc n) k low h = ⊎_elim (λ (e : j ≡ k). omega arith) (λ (t : Has k (new_accounts (j + 1) n)). has_none_new (j + 1) n k (omega arith) t) h
