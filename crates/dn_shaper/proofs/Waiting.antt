-- How many packets wait for a link after one arrived, or after a flow's packets were discarded.
use Rattle.dn_shaper.proofs.Words.{Accepted, Event, Link, List, [], and-no, and_from, ap, arith, arrived, backlog, backlog-above, cases_eq, cases_lt, cond, discarded, eq-no, eq-yes, false}
use Rattle.dn_shaper.proofs.Words.{flow_bound, inl, inr, is_of, length, link_eq, link_eq-refl, max, nat_eq, refl, suc, sym, total, true, waiting, zero, ℕ, ⊎_elim, ◌&&◌, ◌++◌, ◌+◌, ◌-◌, ◌<◌, ◌∙◌}
use Rattle.dn_shaper.proofs.Words.{◌∷◌, ◌≡◌, ◌≤◌, ◌⊎◌}

module _ {X : Type 0} where
  pub total-same : (n : ℕ) (q r : ℕ → List X) → ((g : ℕ) → length (r g) ≡ length (q g)) → total n r ≡ total n q
  total-same zero q r h = refl
  total-same (suc n) q r h = let rest = total-same n q r h in let here = h n in omega arith

  total-below : (n f : ℕ) (q r : ℕ → List X) → n ≤ f → ((g : ℕ) → (g ≡ f → ⊥) → length (r g) ≡ length (q g)) → total n r ≡ total n q
  total-below zero f q r le h = refl
  total-below (suc n) f q r le h = let rest = total-below n f q r (omega arith) h in let here = h n (λ e. absurd (omega arith)) in omega arith

  -- One of the lists is changed.
  pub total-one : (n f : ℕ) (q r : ℕ → List X) → f < n → ((g : ℕ) → (g ≡ f → ⊥) → length (r g) ≡ length (q g)) → total n r + length (q f) ≡ total n q + length (r f)
  total-one zero f q r lt h = absurd (omega arith)
  total-one (suc n) f q r lt h = by (cases_eq n f) (λ below. total-one n f q r below h)
    where
      by : (n ≡ f) ⊎ (n ≡ f → ⊥) → (f < n → total n r + length (q f) ≡ total n q + length (r f)) → total (suc n) r + length (q f) ≡ total (suc n) q + length (r f)
      by (inl same) lower =
          let low = total-below n f q r (omega arith) h in
          let e = ap {B = ℕ} (λ i. length (q i)) same in
          let d = ap {B = ℕ} (λ i. length (r i)) same in
          omega arith
      by (inr other) lower =
          let rest = lower (⊎_elim (λ below. below) (λ above. absurd (other (omega arith))) (cases_lt f n)) in
          let here = h n other in
          omega arith

  total-grow : (k n : ℕ) (q : ℕ → List X) → ((g : ℕ) → n ≤ g → q g ≡ []) → total (k + n) q ≡ total n q
  total-grow zero n q h = let e : 0 + n ≡ n = omega arith in ap (λ m. total m q) e
  total-grow (suc k) n q h =
      let e : suc k + n ≡ suc (k + n) = omega arith in
      let t = ap (λ m. total m q) e in
      let rest = total-grow k n q h in
      let here = ap (λ (xs : List X). length xs) (h (k + n) (omega arith)) in
      omega arith

  pub total-wide : (n m : ℕ) (q : ℕ → List X) → n ≤ m → ((g : ℕ) → n ≤ g → q g ≡ []) → total m q ≡ total n q
  total-wide n m q le h = let e : m ≡ (m - n) + n = omega arith in ap (λ i. total i q) e ∙ total-grow (m - n) n q h

  pub total-none : (n : ℕ) (q : ℕ → List X) → total n q ≡ 0 → (g : ℕ) → g < n → q g ≡ []
  total-none zero q e g lt = absurd (omega arith)
  total-none (suc n) q e g lt = by (cases_eq g n) (λ below. total-none n q (omega arith) g below)
    where
      empty : (xs : List X) → length xs ≡ 0 → xs ≡ []
      empty [] z = refl
      empty (x ∷ xs) z = absurd (omega arith)

      by : (g ≡ n) ⊎ (g ≡ n → ⊥) → (g < n → q g ≡ []) → q g ≡ []
      by (inl same) lower = ap q same ∙ empty (q n) (omega arith)
      by (inr other) lower = lower (⊎_elim (λ below. below) (λ above. absurd (other (omega arith))) (cases_lt g n))

length-push : (xs : List Accepted) (x : Accepted) → length (xs ++ x ∷ []) ≡ length xs + 1
length-push [] x = refl
length-push (y ∷ xs) x = let r = length-push xs x in omega arith

-- No packet waits for the link.
pub empty-all : (link : Link) (trace : List Event) → waiting link trace ≡ 0 → (g : ℕ) → backlog link g trace ≡ []
empty-all link trace e g = ⊎_elim (λ below. total-none (flow_bound trace) (λ f. backlog link f trace) e g below) (λ above. backlog-above link g trace above) (cases_lt g (flow_bound trace))

module _ (link : Link) (p : Accepted) (trace : List Event) where
  wide : total (max (flow_bound trace) (p.stamped.flow + 1)) (λ g. backlog link g trace) ≡ waiting link trace
  wide = total-wide (flow_bound trace) (max (flow_bound trace) (p.stamped.flow + 1)) (λ g. backlog link g trace) (omega arith) (λ g le. backlog-above link g trace le)

  pub waiting-arrived : p.link ≡ link → waiting link (arrived p ∷ trace) ≡ waiting link trace + 1
  waiting-arrived on =
      let here : is_of link p.stamped.flow p ≡ true = (λ i. link_eq (on i) link && nat_eq p.stamped.flow p.stamped.flow)
      ∙ and_from (link_eq link link) (nat_eq p.stamped.flow p.stamped.flow) (link_eq-refl link) (eq-yes p.stamped.flow p.stamped.flow refl) in
      let one = total-one (max (flow_bound trace) (p.stamped.flow + 1)) p.stamped.flow (λ g. backlog link g trace) (λ g. backlog link g (arrived p ∷ trace))
      (omega arith)
      (λ g ne. ap {B = ℕ} (λ b. length (cond b (backlog link g trace ++ p ∷ []) (backlog link g trace)))
      (and-no (link_eq p.link link) (nat_eq p.stamped.flow g) (eq-no p.stamped.flow g (λ e. ne (sym e))))) in
      let more = ap {B = ℕ} (λ b. length (cond b (backlog link p.stamped.flow trace ++ p ∷ []) (backlog link p.stamped.flow trace))) here in
      let l = length-push (backlog link p.stamped.flow trace) p in
      let w = wide in
      omega arith

  pub waiting-other : link_eq p.link link ≡ false → waiting link (arrived p ∷ trace) ≡ waiting link trace
  waiting-other apart =
      total-same (max (flow_bound trace) (p.stamped.flow + 1)) (λ g. backlog link g trace) (λ g. backlog link g (arrived p ∷ trace))
      (λ g. ap {B = ℕ} (λ b. length (cond (b && nat_eq p.stamped.flow g) (backlog link g trace ++ p ∷ []) (backlog link g trace))) apart)
      ∙ wide

pub waiting-discarded : (link : Link) (flow : ℕ) (trace : List Event) → waiting link (discarded flow ∷ trace) + length (backlog link flow trace) ≡ waiting link trace
waiting-discarded link flow trace = by (cases_lt flow (flow_bound trace))
  where
    here : backlog link flow (discarded flow ∷ trace) ≡ []
    here = ap (λ b. cond b [] (backlog link flow trace)) (eq-yes flow flow refl)

    other : (g : ℕ) → (g ≡ flow → ⊥) → length (backlog link g (discarded flow ∷ trace)) ≡ length (backlog link g trace)
    other g ne = ap {B = ℕ} (λ b. length (cond b [] (backlog link g trace))) (eq-no flow g (λ e. ne (sym e)))

    by : (flow < flow_bound trace) ⊎ (flow_bound trace ≤ flow) → waiting link (discarded flow ∷ trace) + length (backlog link flow trace) ≡ waiting link trace
    by (inl lt) =
        let one = total-one (flow_bound trace) flow (λ g. backlog link g trace) (λ g. backlog link g (discarded flow ∷ trace)) lt other in
        let none = ap (λ (xs : List Accepted). length xs) here in
        omega arith
    by (inr ge) =
        let same = total-same (flow_bound trace) (λ g. backlog link g trace) (λ g. backlog link g (discarded flow ∷ trace)) each in
        let none = ap (λ (xs : List Accepted). length xs) (backlog-above link flow trace ge) in
        omega arith
      where
        each : (g : ℕ) → length (backlog link g (discarded flow ∷ trace)) ≡ length (backlog link g trace)
        each g = ⊎_elim
            (λ e. ap {B = ℕ} (λ i. length (backlog link i (discarded flow ∷ trace))) e
            ∙ ap (λ (xs : List Accepted). length xs) (here ∙ sym (backlog-above link flow trace ge)) ∙ ap {B = ℕ} (λ i. length (backlog link i trace)) (sym e))
            (λ ne. other g ne) (cases_eq g flow)
