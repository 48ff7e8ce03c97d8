-- How a word or a line is taken off those that are left.
use Rattle.std.specs.Prelude.{◌≡◌, ℕ, ◌+◌, ◌<◌, List, [], ◌∷◌, length, MatchOption, Option}
use Rattle.std.specs.Borrow.{Bor}
use Rattle.dn_config.specs.Tokens.Words.{words_of}
use Rattle.dn_config.specs.Tokens.Lines.{lines_of}
use Rattle.dn_config.specs.declared.tokens.words.Words.{Words}
use Rattle.dn_config.specs.declared.tokens.lines.Lines.{Lines}

-- No word is left, or this is the next one, and those behind it are left.
abbrev pub TakesWord : Words → Option (Bor (List ℕ) × Words) → Type 0
TakesWord words r = MatchOption r (words_of words.rest.now ≡ [])
    (λ p. (words_of words.rest.now ≡ p.0.now ∷ words_of p.1.rest.now) × (p.1.position ≡ words.position + 1) × (length p.1.rest.now < length words.rest.now))

-- No line is left, or this is the next one, and those behind it are left.
abbrev pub TakesLine : Lines → Option (Bor (List ℕ) × Lines) → Type 0
TakesLine lines r = MatchOption r (lines_of lines.rest.now ≡ [])
    (λ p. (lines_of lines.rest.now ≡ p.0.now ∷ lines_of p.1.rest.now) × (p.1.number ≡ lines.number + 1) × (length p.1.rest.now < length lines.rest.now))
