-- Lists that the laws of Collects and of Shows determine, and the reply to a packet.
use Rattle.dn_laws.proofs.Words.{List, Some, [], ap, arith, inl, inr, length, refl, slice_get, subst, suc, sym, zero, ℕ, ⊎_elim, ◌∙◌, ◌∷◌, ◌≡◌}
use Rattle.dn_laws.proofs.LawWords.{Has, ComesBefore, ComeInOrder, IsExplained, IsAtLimit, flow_told, moment_told, Delivery, FlowStatus, Limit, Reply, Queued, Lost, Full}

not-both : (d x : Delivery) → ComesBefore d x → ComesBefore x d → ⊥
not-both d x (inl a) (inl b) = absurd (omega (arith, a, b))
not-both d x (inl a) (inr b) = let e = b.0 in absurd (omega (arith, a, e))
not-both d x (inr a) (inl b) = let e = a.0 in absurd (omega (arith, b, e))
not-both d x (inr a) (inr b) = let m = a.1 in let n = b.1 in absurd (omega (arith, m, n))

pub sorted-one : (a b : List Delivery) → ComeInOrder a → ComeInOrder b → ((d : Delivery) → Has a d → Has b d) → ((d : Delivery) → Has b d → Has a d) → a ≡ b
sorted-one [] [] A B to back = refl
sorted-one [] (y ∷ ys) A B to back = absurd (back y (inl refl))
sorted-one (x ∷ xs) [] A B to back = absurd (to x (inl refl))
sorted-one (x ∷ xs) (y ∷ ys) A B to back = let rest = sorted-one xs ys A.1 B.1 tails others in (λ i. heads i ∷ rest i)
  where
    heads : x ≡ y
    heads = ⊎_elim (λ e. sym e) (λ later. ⊎_elim (λ e. e) (λ behind. absurd (not-both x y (A.0 y behind) (B.0 x later))) (back y (inl refl))) (to x (inl refl))

    tails : (d : Delivery) → Has xs d → Has ys d
    tails d h = ⊎_elim (λ e. absurd (let before = A.0 d h in let self = subst (λ (z : Delivery). ComesBefore x z) (sym e ∙ sym heads) before in not-both x x self self)) (λ rest. rest) (to d (inr h))

    others : (d : Delivery) → Has ys d → Has xs d
    others d h = ⊎_elim (λ e. absurd (let before = B.0 d h in let self = subst (λ (z : Delivery). ComesBefore y z) (sym e ∙ heads) before in not-both y y self self)) (λ rest. rest) (back d (inr h))

pub states-one : (a b : List FlowStatus) → length a ≡ length b → ((i : ℕ) (x y : FlowStatus) → slice_get a i ≡ Some x → slice_get b i ≡ Some y → x ≡ y) → a ≡ b
states-one [] [] e h = refl
states-one [] (y ∷ ys) e h = absurd (omega (arith, e))
states-one (x ∷ xs) [] e h = absurd (omega (arith, e))
states-one (x ∷ xs) (y ∷ ys) e h =
    let head : x ≡ y = h zero x y refl refl in
    let rest = states-one xs ys (omega (arith, e)) (λ i u v p q. h (suc i) u v p q) in
    (λ i. head i ∷ rest i)

module _ (rate draw : ℕ) (most : Limit) (lengths others : ℕ → List ℕ) (same : (flow : ℕ) → lengths flow ≡ others flow) where
  at-limit : (f g : ℕ) → f ≡ g → IsAtLimit most (lengths f) → IsAtLimit most (others g)
  at-limit f g e h = subst (λ (l : List ℕ). IsAtLimit most l) (same f ∙ ap others e) h

  below : (f g : ℕ) → f ≡ g → IsAtLimit most (others g) → IsAtLimit most (lengths f)
  below f g e h = subst (λ (l : List ℕ). IsAtLimit most l) (sym (same f ∙ ap others e)) h

  -- Two replies at one moment, for one flow and with one number, are the same if each is explained.
  pub explained-one : (a b : Reply) → IsExplained rate most draw lengths a → IsExplained rate most draw others b → moment_told a ≡ moment_told b →
      ((f g : ℕ) → flow_told a ≡ Some f → flow_told b ≡ Some g → f ≡ g) →
      ((at f m at' f' n : ℕ) → a ≡ Queued at f m → b ≡ Queued at' f' n → m ≡ n) → a ≡ b
  explained-one (Lost at f) (Lost at' f') A B moments flows numbers =
      let at_one : at ≡ at' = cc in let flow : f ≡ f' = flows f f' refl refl in (λ i. Lost (at_one i) (flow i))
  explained-one (Lost at f) (Full at' f') A B moments flows numbers = let b = B.0 in absurd (omega (arith, A, b))
  explained-one (Lost at f) (Queued at' f' n) A B moments flows numbers = let b = B.0 in absurd (omega (arith, A, b))
  explained-one (Lost at f) b A B moments flows numbers = absurd B
  explained-one (Full at f) (Lost at' f') A B moments flows numbers = let a = A.0 in absurd (omega (arith, a, B))
  explained-one (Full at f) (Full at' f') A B moments flows numbers =
      let at_one : at ≡ at' = cc in let flow : f ≡ f' = flows f f' refl refl in (λ i. Full (at_one i) (flow i))
  explained-one (Full at f) (Queued at' f' n) A B moments flows numbers = absurd (B.1 (at-limit f f' (flows f f' refl refl) A.1))
  explained-one (Full at f) b A B moments flows numbers = absurd B
  explained-one (Queued at f m) (Lost at' f') A B moments flows numbers = let a = A.0 in absurd (omega (arith, a, B))
  explained-one (Queued at f m) (Full at' f') A B moments flows numbers = absurd (A.1 (below f f' (flows f f' refl refl) B.1))
  explained-one (Queued at f m) (Queued at' f' n) A B moments flows numbers =
      let at_one : at ≡ at' = cc in
      let flow : f ≡ f' = flows f f' refl refl in
      let number : m ≡ n = numbers at f m at' f' n refl refl in
      (λ i. Queued (at_one i) (flow i) (number i))
  explained-one (Queued at f m) b A B moments flows numbers = absurd B
  explained-one a b A B moments flows numbers = absurd A
