-- The lines of a text, taken off one by one.
use Rattle.dn_config.proofs.Vocabulary.{List, [], ap, arith, drop, is_line_feed, length, lines_of, position_or_len, refl, slice_split, sym, take, without_empty_end, ℕ, ◌+◌, ◌<◌, ◌∙◌, ◌∷◌, ◌≡◌}
use Rattle.dn_config.proofs.WordCuts.{behind, split_first}

pub no_lines : (xs : List ℕ) → length xs ≡ 0 → lines_of xs ≡ []
unfolding lines_of
no_lines [] e = refl
no_lines (x ∷ xs) e = absurd (omega arith)

after_line : (line rest : List ℕ) → 0 < length line + length rest → without_empty_end (line ∷ behind is_line_feed rest) ≡ line ∷ without_empty_end (slice_split is_line_feed (drop 1 rest))
after_line [] [] l = absurd (omega arith)
after_line (b ∷ line) [] l = refl
after_line line (y ∷ ys) l = rw (split_first is_line_feed ys) refl

-- the first line, and what is left behind its line feed
pub next_line : (xs line rest : List ℕ) → 0 < length line + length rest → line ≡ take (position_or_len is_line_feed xs) xs
    → rest ≡ drop (position_or_len is_line_feed xs) xs → lines_of xs ≡ line ∷ lines_of (drop 1 rest)
unfolding lines_of
next_line xs line rest l e f =
    ap without_empty_end (split_first is_line_feed xs)
    ∙ ap (λ (t : List ℕ). without_empty_end (t ∷ behind is_line_feed (drop (position_or_len is_line_feed xs) xs))) (sym e)
    ∙ ap (λ (t : List ℕ). without_empty_end (line ∷ behind is_line_feed t)) (sym f)
    ∙ after_line line rest l
