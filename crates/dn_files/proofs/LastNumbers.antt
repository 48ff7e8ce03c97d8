-- The last number of a line, and the end of the line behind it.
use Rattle.dn_files.proofs.Words.{Bool, List, None, Ok, Option, Some, [], ap, behind_byte, behind_end, behind_word, bound, bytes_eq, bytes_eq-Decides, cases_Bool, cond, digits, drop, eqb-true}
use Rattle.dn_files.proofs.Words.{false, inl, inr, length, number_at_end, number_before_return, number_parts, number_until, number_within, option_or, refl, result_ok, some_is, sym, take}
use Rattle.dn_files.proofs.Words.{take-append-drop, true, unit, ℕ, ◌++◌, ◌==◌, ◌∙◌, ◌∷◌, ◌≡◌}
use Rattle.dn_config.specs.Tokens.Addresses.{◌>>=◌}
use Rattle.dn_files.proofs.PlainFields.{EndsIn}

-- A word and what stands behind it.
pub word_stands : (word text rest : List ℕ) → behind_word word text ≡ Some rest → text ≡ word ++ rest
word_stands word text rest e = tested (bytes_eq (take (length word) text) word) refl e
  where
    tested : (b : Bool) → bytes_eq (take (length word) text) word ≡ b → cond {A = Option (List ℕ)} b (Some (drop (length word) text)) None ≡ Some rest → text ≡ word ++ rest
    tested true test e =
        sym (take-append-drop (length word) text) ∙ ap (λ (t : List ℕ). t ++ drop (length word) text) ((bytes_eq-Decides (take (length word) text) word).0 test)
        ∙ ap (λ (t : List ℕ). word ++ t) (some_is (drop (length word) text) rest e)
    tested false test e = cc e

-- The end of a line: a line feed, or a carriage return and a line feed.
pub end_stands : (text rest : List ℕ) → behind_end text ≡ Some rest → EndsIn text [] rest
unfolding behind_end
end_stands text rest e = chosen (behind_word (10 ∷ []) text) refl e
  where
    chosen : (o : Option (List ℕ)) → behind_word (10 ∷ []) text ≡ o → option_or o (behind_word (13 ∷ 10 ∷ []) text) ≡ Some rest → EndsIn text [] rest
    chosen None is e = inr (word_stands (13 ∷ 10 ∷ []) text rest e)
    chosen (Some left) is e = inl (word_stands (10 ∷ []) text rest (is ∙ e))

-- The last number: its digits, and the end of the line behind them.
pub end_parts : (least greatest : ℕ) (text : List ℕ) (n : ℕ) (rest : List ℕ) → number_at_end least greatest text ≡ Some (n, rest)
    → EndsIn text (digits text) rest × (number_within least greatest (digits text) ≡ Ok n)
unfolding number_at_end number_before_return
end_parts least greatest text n rest e = chosen (number_until 10 least greatest text) refl e
  where
    chosen : (o : Option (ℕ × List ℕ)) → number_until 10 least greatest text ≡ o → option_or o (number_before_return least greatest text) ≡ Some (n, rest)
        → EndsIn text (digits text) rest × (number_within least greatest (digits text) ≡ Ok n)
    chosen (Some p) is e = let parts = number_parts 10 least greatest text n rest (is ∙ e) in (inl parts.0, parts.1)
    chosen None is e =
        bound (number_until 13 least greatest text) _ (n, rest) (λ number is_number e1.
        bound (behind_word (10 ∷ []) number.1) _ (n, rest) (λ left is_left e2.
        let both = some_is (number.0, left) (n, rest) e2 in
        let feed : number.1 ≡ 10 ∷ rest = word_stands (10 ∷ []) number.1 left is_left ∙ ap (λ p. 10 ∷ p.1) both in
        let parts = number_parts 13 least greatest text n (10 ∷ rest) (is_number ∙ ap (λ p. Some (p.0, number.1)) both ∙ ap (λ (t : List ℕ). Some (n, t)) feed) in
        (inr parts.0, parts.1)) e1) e

abbrev read_before : ℕ → Option ℕ → List ℕ → Option (ℕ × List ℕ)
read_before byte number behind = number >>= λ m. behind_byte byte behind >>= λ left. Some (m, left)

-- What ends in another byte is not read.
pub other_end : (end other least greatest : ℕ) (text : List ℕ) (n : ℕ) (rest : List ℕ) → (other == end) ≡ false → number_until other least greatest text ≡ Some (n, rest)
    → number_until end least greatest text ≡ None
unfolding number_until
other_end end other least greatest text n rest differs e = go (result_ok (number_within least greatest (digits text))) (unit text) e
  where
    go : (number : Option ℕ) (behind : List ℕ) → read_before other number behind ≡ Some (n, rest) → read_before end number behind ≡ None
    go None behind e = refl
    go (Some m) [] e = refl
    go (Some m) (byte ∷ more) e = elim (cases_Bool (byte == other)) [
      | inl same ↦ rw (eqb-true byte other same, differs) refl
      | inr unlike ↦ let k = rw unlike at e in cc k
    ]
