-- The laws of audits at a history of two Advances, of which the second has a wrong reply.
use Rattle.dn_laws.proofs.Words.{Advance, Advanced, Entry, List, Ordered, [], arith, refl, reply, subst, suc, zero, ℕ, ◌∷◌, ◌≡◌}
use Rattle.dn_history.specs.Audit.{IsVerdict}
use Rattle.dn_history.specs.declared.verdict.Verdict.{Verdict}
use Rattle.dn_history.specs.declared.verdict.Verdict.TheVariants.{Differs}
use Rattle.dn_laws.proofs.AuditLawsHold.{none-has-two-verdicts, truths-suffice, verdicts-are-true}
use Rattle.dn_laws.specs.AuditLaws.{AreRight}

abbrev entry : ℕ → Entry
entry moment = record { caller = 0; call = Advance moment; reply = Advanced moment }

abbrev history : List Entry
history = entry 5 ∷ entry 4 ∷ []

right : AreRight Ordered history 1
right zero e l there = let is : entry 5 ≡ e = cc in subst (λ (y : Entry). y.reply ≡ reply Ordered [] y.call) is refl
right (suc i) e l there = absurd (omega (arith, l))

wrong : Advanced 4 ≡ reply Ordered (Advance 5 ∷ []) (Advance 4) → ⊥
wrong e = let same : Advanced 4 ≡ Advanced 5 = e in cc

differs : IsVerdict Ordered history (Differs 1)
differs = truths-suffice Ordered history (Differs 1) (right, (entry 4, refl, wrong))

no-other : (verdict : Verdict) → IsVerdict Ordered history verdict → Differs 1 ≡ verdict
no-other verdict h = none-has-two-verdicts Ordered history (Differs 1) verdict differs h

first-right : Advanced 5 ≡ reply Ordered [] (Advance 5)
first-right = (verdicts-are-true Ordered history (Differs 1) differs).0 0 (entry 5) (omega arith) refl
