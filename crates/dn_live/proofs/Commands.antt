-- What a configuration line says, by whether it is text and by the grammar's answer.
use Rattle.dn_live.proofs.Words.{Command, Err, IsUtf8, IsUtf8-from_is_utf8, LineFault, List, NotText, Option, Result, cases_Bool, command_in, inl, inr, is_utf8, is_utf8-from_IsUtf8, refl, said, ℕ}
use Rattle.dn_live.proofs.Words.{◌≡◌}
use Rattle.dn_config.specs.Line.{answer}

pub no_text : (line : List ℕ) → (IsUtf8 line → ⊥) → command_in line ≡ Err NotText
no_text line bad = elim (cases_Bool (is_utf8 line)) [
  | inl good ↦ absurd (bad (IsUtf8-from_is_utf8 line good))
  | inr other ↦ rw other refl
]

pub said_is : (line : List ℕ) (parsed : Result (Option Command) LineFault) → IsUtf8 line → answer line ≡ parsed → command_in line ≡ said parsed
said_is line parsed text is = rw (is_utf8-from_IsUtf8 line text, is) refl
