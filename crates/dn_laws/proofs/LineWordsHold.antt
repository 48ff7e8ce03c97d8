-- The laws of the words of a line hold.
use Rattle.dn_laws.proofs.Words.{Bool, Has, IsBare, IsWord, List, WordsAreKnown, [], answer, ap, append-nil, arith, before_first, false, filter, inl, inr, is_hash, is_nonempty, is_separator}
use Rattle.dn_laws.proofs.Words.{length, ne_eqb, one-add, refl, separators, slice_split, sym, true, words, words_of, ℕ, ⊎_elim, ◌++◌, ◌<◌, ◌∙◌, ◌∷◌, ◌≡◌, ◌≢◌}

no-hash : (c : ℕ) → c ≢ 35 → is_hash c ≡ false
no-hash c h = ne_eqb _ _ h

no-separator : (c : ℕ) → (Has separators c → ⊥) → is_separator c ≡ false
no-separator c h =
    rw (ne_eqb c 32 (λ e. h (inl (sym e))), ne_eqb c 9 (λ e. h (inr (inl (sym e)))), ne_eqb c 13 (λ e. h (inr (inr (inl (sym e)))))) refl

-- what stands before the first byte of a kind
goes-on : (c : ℕ) (line : List ℕ) → is_hash c ≡ false → before_first is_hash (c ∷ line) ≡ c ∷ before_first is_hash line
goes-on c line h = rw (h, one-add) refl

ends : (c : ℕ) (line : List ℕ) → is_hash c ≡ true → before_first is_hash (c ∷ line) ≡ []
ends c line h = rw h refl

before-bare : (w line : List ℕ) → IsBare w → before_first is_hash (w ++ line) ≡ w ++ before_first is_hash line
before-bare [] line h = refl
before-bare (c ∷ w) line h = goes-on c (w ++ line) (no-hash c h.0) ∙ ap (λ l. c ∷ l) (before-bare w line h.2)

comment-step : (c : ℕ) (line rest : List ℕ) (b : Bool) → is_hash c ≡ b → before_first is_hash (line ++ 35 ∷ rest) ≡ before_first is_hash line
    → before_first is_hash (c ∷ line ++ 35 ∷ rest) ≡ before_first is_hash (c ∷ line)
comment-step c line rest true e h = ends c (line ++ 35 ∷ rest) e ∙ sym (ends c line e)
comment-step c line rest false e h = goes-on c (line ++ 35 ∷ rest) e ∙ ap (λ l. c ∷ l) h ∙ sym (goes-on c line e)

before-comment : (line rest : List ℕ) → before_first is_hash (line ++ 35 ∷ rest) ≡ before_first is_hash line
before-comment [] rest = refl
before-comment (c ∷ line) rest = comment-step c line rest (is_hash c) refl (before-comment line rest)

cut-bare : (w line : List ℕ) (c : ℕ) → IsBare w → is_separator c ≡ true → slice_split is_separator (w ++ c ∷ line) ≡ w ∷ slice_split is_separator line
cut-bare [] line c h s = rw s refl
cut-bare (d ∷ w) line c h s = rw (no-separator d h.1, cut-bare w line c h.2 s) refl

whole-bare : (w : List ℕ) → IsBare w → slice_split is_separator w ≡ w ∷ []
whole-bare [] h = refl
whole-bare (d ∷ w) h = rw (no-separator d h.1, whole-bare w h.2) refl

kept : (w : List ℕ) (ws : List (List ℕ)) → 0 < length w → filter is_nonempty (w ∷ ws) ≡ w ∷ filter is_nonempty ws
kept [] ws l = absurd (omega arith)
kept (c ∷ w) ws l = refl

-- each separator is one, and begins no comment
separates : (c : ℕ) → Has separators c → (is_separator c ≡ true) × (is_hash c ≡ false)
separates c h = ⊎_elim (λ e. rw (← e) (refl, refl)) (λ h. ⊎_elim (λ e. rw (← e) (refl, refl)) (λ h. ⊎_elim (λ e. rw (← e) (refl, refl)) (λ h. absurd h) h) h) h

skips : (c : ℕ) (line : List ℕ) → Has separators c → words (c ∷ line) ≡ words line
unfolding words words_of
skips c line h = let is = separates c h in rw (goes-on c line is.1, is.0) refl

begins : (w : List ℕ) (c : ℕ) (line : List ℕ) → IsWord w → Has separators c → words (w ++ c ∷ line) ≡ w ∷ words line
unfolding words words_of
begins w c line h s =
    let is = separates c s in
    rw (before-bare w (c ∷ line) h.1, goes-on c line is.1, cut-bare w (before_first is_hash line) c h.1 is.0) (kept w (slice_split is_separator (before_first is_hash line)) h.0)

is-last : (w : List ℕ) → IsWord w → words w ≡ w ∷ []
unfolding words words_of
is-last w h =
    let bare : before_first is_hash w ≡ w = rw append-nil at (before-bare w [] h.1) in
    rw (bare, whole-bare w h.1) (kept w [] h.0)

cut-comment : (line rest : List ℕ) → words (line ++ 35 ∷ rest) ≡ words line
unfolding words
cut-comment line rest = rw (before-comment line rest) refl

pub words-are-known : WordsAreKnown
unfolding words words_of answer
words-are-known = record { none = refl; gap = skips; word = begins; last = is-last; comment = cut-comment; answers = λ line. refl }
