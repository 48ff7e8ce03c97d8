-- An audit, one entry at a time.
use Rattle.dn_history.proofs.Words.{Call, CanNeedMemory, CanWantMemory, Differs, Entry, Err, HasAudited, IsLawful, IsLawfulUpTo, IsVerdict, Lawful, List, Ok, OnOk, Result, Rule, RunningAudit}
use Rattle.dn_history.proofs.Words.{StandsAfter, Verdict, [], ap, append_assoc, arith, calls_of, calls_of-more, counted, drop, get_or, get_or-append, get_or-append_seam, get_or_from_slice_get}
use Rattle.dn_history.proofs.Words.{is_ok, lawful-more, length, length-append, length-take-le, refl, reply, slice_get_read, slice_get_within, subst, sym, take, take-append-drop, take-append-le}
use Rattle.dn_history.proofs.Words.{take-append_seam, take_all, take_more, true, ℕ, ◌++◌, ◌+◌, ◌<◌, ◌∙◌, ◌∷◌, ◌≡◌, ◌≢◌, ◌≤◌}
use Rattle.dn_shaper.specs.declared.state.State.{State}

-- One entry more.
module _ (rule : Rule) (history : List Entry) (e : Entry) where
  within : length history < length (history ++ e ∷ [])
  within = omega (arith, length-append history (e ∷ []))

  up-to : IsLawful rule history → IsLawfulUpTo rule (history ++ e ∷ []) (length history) e
  up-to lawful = record {
    there = slice_get_read (history ++ e ∷ []) (length (history ++ e ∷ [])) (length history) e refl within (sym (get_or-append_seam history e [] e));
    lawful = rw (take-append_seam history (e ∷ [])) lawful;
  }

  -- It is alike, differs, or wants memory.
  pub alike : (shaper : State) → IsLawful rule history → e.reply ≡ reply rule (calls_of history) e.call → StandsAfter rule shaper (e.call ∷ calls_of history)
      → HasAudited rule (record { shaper = shaper; verdict = Lawful }) (history ++ e ∷ [])
  alike shaper lawful is stands = record {
    found = lawful-more rule history e lawful is;
    stands = λ _. subst (λ (cs : List Call). StandsAfter rule shaper cs) (sym (calls_of-more history e)) stands;
  }

  pub differing : (shaper : State) → IsLawful rule history → e.reply ≢ reply rule (calls_of history) e.call
      → HasAudited rule (record { shaper = shaper; verdict = Differs (length history) }) (history ++ e ∷ [])
  differing shaper lawful other = record { found = (e, up-to lawful, rw (take-append_seam history (e ∷ [])) other); stands = λ bad. cc bad }

  pub wants : IsLawful rule history → CanNeedMemory (counted (calls_of history)) e.call → CanWantMemory rule (history ++ e ∷ [])
  wants lawful needs = (length history, e, up-to lawful, rw (take-append_seam history (e ∷ [])) needs)

pub is-lawful : (verdict : Verdict) → ((i : ℕ) → verdict ≡ Differs i → ⊥) → verdict ≡ Lawful
is-lawful Lawful none = refl
is-lawful (Differs i) none = absurd (none i refl)

-- What is found of the front of a history and is no lawful history, is found of the whole.
later : (rule : Rule) (front more : List Entry) (i : ℕ) (e : Entry) → IsLawfulUpTo rule front i e → IsLawfulUpTo rule (front ++ more) i e
later rule front more i e found =
    let within = slice_get_within front i e found.there in
    let below : i < length (front ++ more) = omega (arith, within, length-append front more) in
    let is : e ≡ get_or (front ++ more) i e = sym (get_or-append front more e i within ∙ get_or_from_slice_get front i e e found.there) in
    record {
      there = slice_get_read (front ++ more) (length (front ++ more)) i e refl below is;
      lawful = rw (take-append-le i front more (omega (arith, within))) found.lawful;
    }

still-differs : (rule : Rule) (front more : List Entry) (i : ℕ) → IsVerdict rule front (Differs i) → IsVerdict rule (front ++ more) (Differs i)
still-differs rule front more i (e, found, other) =
    let within = slice_get_within front i e found.there in
    (e, later rule front more i e found, rw (take-append-le i front more (omega (arith, within))) other)

still-wants : (rule : Rule) (front more : List Entry) → CanWantMemory rule front → CanWantMemory rule (front ++ more)
still-wants rule front more (i, e, found, needs) =
    let within = slice_get_within front i e found.there in
    (i, e, later rule front more i e found, rw (take-append-le i front more (omega (arith, within))) needs)

pub after-difference : (rule : Rule) (front more : List Entry) (audit : RunningAudit) (i : ℕ) → audit.verdict ≡ Differs i → HasAudited rule audit front → HasAudited rule audit (front ++ more)
after-difference rule front more audit i is audited = record {
  found = rw is (still-differs rule front more i (rw is at audited.found));
  stands = λ lawful. let no = sym is ∙ lawful in cc no;
}

-- The entry at a place among the next entries.
module _ (rule : Rule) (front next : List Entry) (i : ℕ) (e : Entry) (below : i < length next) (there : e ≡ get_or next i e) where
  one-more : (front ++ take i next) ++ e ∷ [] ≡ front ++ take (i + 1) next
  one-more = append_assoc front (take i next) (e ∷ []) ∙ ap (λ (es : List Entry). front ++ es) (sym (take_more next i e below ∙ ap (λ (x : Entry). take i next ++ x ∷ []) (sym there)))

  pub counted-on : (first : ℕ) → first ≡ length front → first + i ≡ length (front ++ take i next)
  counted-on first is = let few = length-take-le i next (omega (arith, below)) in omega (arith, is, few, length-append front (take i next))

  pub next-audited : (audit : RunningAudit) → HasAudited rule audit ((front ++ take i next) ++ e ∷ []) → HasAudited rule audit (front ++ take (i + 1) next)
  next-audited audit audited = subst (λ (es : List Entry). HasAudited rule audit es) one-more audited

  pub wants-later : CanWantMemory rule ((front ++ take i next) ++ e ∷ []) → CanWantMemory rule (front ++ next)
  wants-later wants =
      let here = subst (λ (es : List Entry). CanWantMemory rule es) one-more wants in
      let whole : (front ++ take (i + 1) next) ++ drop (i + 1) next ≡ front ++ next =
      append_assoc front (take (i + 1) next) (drop (i + 1) next) ∙ ap (λ (es : List Entry). front ++ es) (take-append-drop (i + 1) next) in
      subst (λ (es : List Entry). CanWantMemory rule es) whole (still-wants rule (front ++ take (i + 1) next) (drop (i + 1) next) here)

-- No entry is left.
pub all-audited : (rule : Rule) (front next : List Entry) (i : ℕ) (audit : RunningAudit) → length next ≤ i → HasAudited rule audit (front ++ take i next) → HasAudited rule audit (front ++ next)
all-audited rule front next i audit none audited = subst (λ (es : List Entry). HasAudited rule audit (front ++ es)) (take_all i next none) audited

pub when_ok : {T E P : Type 0} (r : Result T E) → is_ok r ≡ true → OnOk r P → P
when_ok (Ok x) good p = p
when_ok (Err e) good p = cc good

pub on_ok : {T E P Q : Type 0} (r : Result T E) → (P → Q) → OnOk r P → OnOk r Q
on_ok (Ok x) f p = f p
on_ok (Err e) f p = tt
