-- Reading configuration lines one after the other.
use Rattle.dn_files.proofs.Words.{Command, ConfigText, Err, IsFaultOf, IsUtf8, IsUtf8-from_is_utf8, LineFault, List, Ok, Option, ReplayFault, Result, [], answer, ap, append-nil, append_assoc}
use Rattle.dn_files.proofs.Words.{cases_Bool, command_at, commands_from, inl, inr, is_utf8, is_utf8-from_IsUtf8, numbered, refl, said_at, sym, ℕ, ◌++◌, ◌+◌, ◌∙◌, ◌∷◌, ◌≡◌}
use Rattle.dn_files.specs.Reading.{◌>>=◌}
use Rattle.dn_files.proofs.Inputs.{carried}

-- The commands that were read, and those that are still read.
abbrev pub with_front : List (ℕ × Command) → Result (List (ℕ × Command)) ReplayFault → Result (List (ℕ × Command)) ReplayFault
with_front front read = read >>= λ commands. Ok (front ++ commands)

pub starts : (read : Result (List (ℕ × Command)) ReplayFault) → with_front [] read ≡ read
starts (Ok commands) = refl
starts (Err fault) = refl

regroup : (front one : List (ℕ × Command)) (read : Result (List (ℕ × Command)) ReplayFault) → with_front front (read >>= λ commands. Ok (one ++ commands)) ≡ with_front (front ++ one) read
regroup front one (Ok commands) = ap (λ (cs : List (ℕ × Command)). Ok cs) (simp append_assoc)
regroup front one (Err fault) = refl

-- One line more.
pub one_more : (front : List (ℕ × Command)) (number : ℕ) (line : List ℕ) (lines all : List (List ℕ)) (command : Option Command) (whole : Result (List (ℕ × Command)) ReplayFault)
    → all ≡ line ∷ lines → command_at number line ≡ Ok command → with_front front (commands_from number all) ≡ whole
    → with_front (front ++ numbered number command) (commands_from (number + 1) lines) ≡ whole
unfolding commands_from
one_more front number line lines all command whole is said so_far =
    let here = rw (is, said) at so_far in
    sym (regroup front (numbered number command) (commands_from (number + 1) lines)) ∙ here

-- No line is left.
pub no_more : (front : List (ℕ × Command)) (number : ℕ) (all : List (List ℕ)) (whole : Result (List (ℕ × Command)) ReplayFault) → all ≡ []
    → with_front front (commands_from number all) ≡ whole → whole ≡ Ok front
unfolding commands_from
no_more front number all whole is so_far = let here = rw is at so_far in sym here ∙ ap (λ (cs : List (ℕ × Command)). Ok cs) (append-nil front)

first_fault : (front : List (ℕ × Command)) (number : ℕ) (line : List ℕ) (lines all : List (List ℕ)) (fault : ReplayFault) (whole : Result (List (ℕ × Command)) ReplayFault)
    → all ≡ line ∷ lines → command_at number line ≡ Err fault → with_front front (commands_from number all) ≡ whole → whole ≡ Err fault
unfolding commands_from
first_fault front number line lines all fault whole is said so_far = let here = rw (is, said) at so_far in sym here

-- What a line gives as its fault is that of the whole.
pub own_fault : (front : List (ℕ × Command)) (number : ℕ) (line : List ℕ) (lines all : List (List ℕ)) (fault : ReplayFault) (whole : Result (List (ℕ × Command)) ReplayFault)
    → all ≡ line ∷ lines → command_at number line ≡ Err fault → IsFaultOf {A = Option Command} (Err fault) fault → with_front front (commands_from number all) ≡ whole → IsFaultOf whole fault
own_fault front number line lines all fault whole is said own so_far =
    carried {A = Option Command} (Err fault) whole fault (λ f e. first_fault front number line lines all f whole is (said ∙ e) so_far) own

-- What a line says that is UTF-8, and one that isn't.
pub said : (number : ℕ) (line : List ℕ) (parsed : Result (Option Command) LineFault) → IsUtf8 line → answer line ≡ parsed → command_at number line ≡ said_at number parsed
unfolding command_at
said number line parsed text is = rw (is_utf8-from_IsUtf8 line text, is) refl

pub no_text : (number : ℕ) (line : List ℕ) → (IsUtf8 line → ⊥) → command_at number line ≡ Err (ConfigText number)
unfolding command_at
no_text number line bad = elim (cases_Bool (is_utf8 line)) [
  | inl good ↦ absurd (bad (IsUtf8-from_is_utf8 line good))
  | inr other ↦ rw other refl
]
