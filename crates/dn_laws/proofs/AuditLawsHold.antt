-- The laws of audits hold.
use Rattle.dn_laws.proofs.Words.{Call, Entry, IsLawfulAfter, List, Rule, Some, [], ap, append-nil, append_assoc, arith, leb_tells, length, map, refl, reply, slice_get, slice_get_within, subst, suc, sym, take}
use Rattle.dn_laws.proofs.Words.{take-length, zero, ℕ, ⊎_elim, ◌++◌, ◌<◌, ◌∙◌, ◌∷◌, ◌≡◌}
use Rattle.std.proofs.lemmas.List.{reverse-append}
use Rattle.dn_history.specs.Audit.{IsVerdict}
use Rattle.dn_history.specs.declared.verdict.Verdict.{Verdict}
use Rattle.dn_history.specs.declared.verdict.Verdict.TheVariants.{Lawful, Differs}
use Rattle.dn_laws.specs.AuditLaws.{AreRight, IsTrueOf, NoneHasTwoVerdicts, TruthsSuffice, VerdictsAreTrue}
use Rattle.dn_types.specs.History.{IsLawful, calls_of}

module _ (rule : Rule) where
  -- The same behind calls.
  abbrev AreRightAfter : List Call → List Entry → ℕ → Type 0
  AreRightAfter calls history n = (i : ℕ) (e : Entry) → i < n → slice_get history i ≡ Some e → e.reply ≡ reply rule (calls_of (take i history) ++ calls) e.call

  same-calls : (x e : Entry) (history : List Entry) (i : ℕ) (calls : List Call)
      → reply rule (calls_of (take (suc i) (x ∷ history)) ++ calls) e.call ≡ reply rule (calls_of (take i history) ++ (x.call ∷ calls)) e.call
  same-calls x e history i calls =
      let first = reverse-append (x.call ∷ []) (map (λ (y : Entry). y.call) (take i history)) in
      ap (λ (cs : List Call). reply rule cs e.call) (ap (λ (cs : List Call). cs ++ calls) first ∙ append_assoc (calls_of (take i history)) (x.call ∷ []) calls)

  right-after : (calls : List Call) (history : List Entry) (n : ℕ) → IsLawfulAfter rule calls (take n history) → AreRightAfter calls history n
  right-after calls history zero h i e l there = absurd (omega (arith, l))
  right-after calls [] (suc n) h i e l there = absurd cc
  right-after calls (x ∷ history) (suc n) h zero e l there = let is : x ≡ e = cc in subst (λ (y : Entry). y.reply ≡ reply rule calls y.call) is h.0
  right-after calls (x ∷ history) (suc n) h (suc i) e l there = right-after (x.call ∷ calls) history n h.1 i e (omega (arith, l)) there ∙ sym (same-calls x e history i calls)

  lawful-by : (calls : List Call) (history : List Entry) (n : ℕ) → AreRightAfter calls history n → IsLawfulAfter rule calls (take n history)
  lawful-by calls history zero h = tt
  lawful-by calls [] (suc n) h = tt
  lawful-by calls (x ∷ history) (suc n) h =
      (h zero x (omega arith) refl, lawful-by (x.call ∷ calls) history n (λ i e l there. h (suc i) e (omega (arith, l)) there ∙ same-calls x e history i calls))

  no-calls : (history : List Entry) (i : ℕ) (e : Entry) → reply rule (calls_of (take i history) ++ []) e.call ≡ reply rule (calls_of (take i history)) e.call
  no-calls history i e = ap (λ (cs : List Call). reply rule cs e.call) (append-nil (calls_of (take i history)))

  front-right : (history : List Entry) (n : ℕ) → IsLawful rule (take n history) → AreRight rule history n
  front-right history n h i e l there = right-after [] history n h i e l there ∙ no-calls history i e

  front-lawful : (history : List Entry) (n : ℕ) → AreRight rule history n → IsLawful rule (take n history)
  front-lawful history n h = lawful-by [] history n (λ i e l there. h i e l there ∙ sym (no-calls history i e))

  verdict-true : (history : List Entry) (verdict : Verdict) → IsVerdict rule history verdict → IsTrueOf rule history verdict
  verdict-true history Lawful h = λ n i e l there.
      front-right history (length history) (subst (IsLawful rule) (sym (take-length history)) h) i e (slice_get_within history i e there) there
  verdict-true history (Differs i) h = (front-right history i h.1.lawful, (h.0, h.1.there, h.2))

  true-verdict : (history : List Entry) (verdict : Verdict) → IsTrueOf rule history verdict → IsVerdict rule history verdict
  true-verdict history Lawful h = subst (IsLawful rule) (take-length history) (front-lawful history (length history) (h (length history)))
  true-verdict history (Differs i) h = (h.1.0, record { there = h.1.1; lawful = front-lawful history i h.0 }, h.1.2)

  -- Where the first i replies are right, no earlier one is wrong.
  not-before : (history : List Entry) (i j : ℕ) → IsTrueOf rule history (Differs i) → AreRight rule history j → i < j → ⊥
  not-before history i j h right l = h.1.2 (right i h.1.0 l h.1.1)

  one-verdict : (history : List Entry) (verdict other : Verdict) → IsTrueOf rule history verdict → IsTrueOf rule history other → verdict ≡ other
  one-verdict history Lawful Lawful a b = refl
  one-verdict history Lawful (Differs j) a b = absurd (not-before history j (suc j) b (a (suc j)) (omega arith))
  one-verdict history (Differs i) Lawful a b = absurd (not-before history i (suc i) a (b (suc i)) (omega arith))
  one-verdict history (Differs i) (Differs j) a b = ⊎_elim
      (λ first. absurd (not-before history i j a b.0 (omega (arith, first.1))))
      (λ rest. ⊎_elim (λ second. absurd (not-before history j i b a.0 (omega (arith, second.1))))
      (λ least. let same : i ≡ j = omega (arith, rest.1, least.1) in ap Differs same) (leb_tells (suc j) i)) (leb_tells (suc i) j)

pub verdicts-are-true : VerdictsAreTrue
verdicts-are-true rule history verdict h = verdict-true rule history verdict h

pub truths-suffice : TruthsSuffice
truths-suffice rule history verdict h = true-verdict rule history verdict h

pub none-has-two-verdicts : NoneHasTwoVerdicts
none-has-two-verdicts rule history verdict other a b = one-verdict rule history verdict other (verdict-true rule history verdict a) (verdict-true rule history other b)
