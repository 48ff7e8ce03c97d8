-- What comes to the audit that a handle holds, and what that finds.
use Rattle.hingetulip_c.proofs.Words.{BadRecord, CVerdict, Err, FileAudit, HasCome, HasVerdict, HoldsText, IsFound, IsUnfed, List, OutOfMemory, ReplayFault, TooLong, [], arith, c_verdict}
use Rattle.hingetulip_c.proofs.Words.{history_in, length, subst, sym, unfed_status, ℕ, ◌++◌, ◌<◌, ◌∙◌, ◌∷◌, ◌≡◌, ◌≢◌, ◌≤◌}
use Rattle.dn_history.specs.declared.verdict.Verdict.{Verdict}

pub holds_text : (a : FileAudit) (limit : ℕ) (xs : List FileAudit) → xs ≡ a ∷ [] → a.limit ≡ limit → HasCome a [] → HoldsText limit xs []
holds_text a limit xs e most come = subst (λ (l : List FileAudit). HoldsText limit l []) (sym e) (most, come)

held_text : (a : FileAudit) (xs : List FileAudit) (limit : ℕ) (text : List ℕ) → xs ≡ a ∷ [] → HoldsText limit xs text → (a.limit ≡ limit) × HasCome a text
held_text a xs limit text e holds = subst (λ (l : List FileAudit). HoldsText limit l text) e holds

-- A part was taken.
pub goes_on : (b a : FileAudit) (xs ys : List FileAudit) (part : List ℕ) → xs ≡ b ∷ [] → ys ≡ a ∷ [] → a.limit ≡ b.limit
    → ((text : List ℕ) → HasCome b text → HasCome a (text ++ part)) → (limit : ℕ) (before : List ℕ) → HoldsText limit xs before → HoldsText limit ys (before ++ part)
goes_on b a xs ys part e f same come limit before holds =
    let held = held_text b xs limit before e holds in
    subst (λ (l : List FileAudit). HoldsText limit l (before ++ part)) (sym f) (same ∙ held.0, come before held.1)

-- It was within the limit.
pub fits : (b a : FileAudit) (xs : List FileAudit) (part : List ℕ) → xs ≡ b ∷ [] → a.limit ≡ b.limit
    → ((text : List ℕ) → HasCome b text → HasCome a (text ++ part)) → (limit : ℕ) (before : List ℕ) → HoldsText limit xs before → length (before ++ part) ≤ limit
fits b a xs part e same come limit before holds =
    let held = held_text b xs limit before e holds in
    subst (λ (n : ℕ). length (before ++ part) ≤ n) (same ∙ held.0) (come before held.1).short

pub closed_fits : (xs : List FileAudit) (part : List ℕ) → xs ≡ [] → (limit : ℕ) (before : List ℕ) → HoldsText limit xs before → length (before ++ part) ≤ limit
closed_fits xs part e limit before holds = absurd (subst (λ (l : List FileAudit). HoldsText limit l before) e holds)

-- A part wasn't taken, for this fault, which has this status.
pub too_long : (b : FileAudit) (xs : List FileAudit) (part : List ℕ) (fault : ReplayFault) (status : ℕ) → xs ≡ b ∷ [] → IsUnfed b part fault
    → status ≡ unfed_status fault → status ≡ 23 → (limit : ℕ) (before : List ℕ) → HoldsText limit xs before → limit < length (before ++ part)
too_long b xs part (TooLong what) status e unfed is long limit before holds =
    let held = held_text b xs limit before e holds in subst (λ (n : ℕ). n < length (before ++ part)) held.0 (unfed.1 before held.1)
too_long b xs part OutOfMemory status e unfed is long limit before holds = absurd (omega (arith, is, long))
too_long b xs part _ status e unfed is long limit before holds = absurd unfed

pub lacks_memory : (b : FileAudit) (xs : List FileAudit) (part : List ℕ) (fault : ReplayFault) (status : ℕ) → xs ≡ b ∷ [] → IsUnfed b part fault
    → status ≡ unfed_status fault → status ≢ 23 → (limit : ℕ) (before : List ℕ) → HoldsText limit xs before → length (before ++ part) ≤ limit
lacks_memory b xs part (TooLong what) status e unfed is short limit before holds = absurd (short is)
lacks_memory b xs part OutOfMemory status e unfed is short limit before holds =
    let held = held_text b xs limit before e holds in subst (λ (n : ℕ). length (before ++ part) ≤ n) held.0 (unfed before held.1)
lacks_memory b xs part _ status e unfed is short limit before holds = absurd unfed

pub found : (a : FileAudit) (xs : List FileAudit) (verdict : Verdict) (entries : ℕ) (told : CVerdict) → xs ≡ a ∷ []
    → ((text : List ℕ) → HasCome a text → HasVerdict text verdict entries) → told ≡ c_verdict verdict entries
    → (limit : ℕ) (text : List ℕ) → HoldsText limit xs text → IsFound text told
found a xs verdict entries told e has is limit text holds = record {
  verdict = verdict;
  entries = entries;
  has_verdict = has text (held_text a xs limit text e holds).1;
  found_is = is;
}

pub faulty : (a : FileAudit) (xs : List FileAudit) (number : ℕ) → xs ≡ a ∷ [] → ((text : List ℕ) → HasCome a text → history_in text ≡ Err (BadRecord number))
    → (limit : ℕ) (text : List ℕ) → HoldsText limit xs text → history_in text ≡ Err (BadRecord number)
faulty a xs number e bad limit text holds = bad text (held_text a xs limit text e holds).1
