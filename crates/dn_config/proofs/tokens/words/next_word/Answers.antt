use Rattle.dn_config.proofs.Vocabulary.{ap, arith, drop, eqb-false, eqb-true, sym, ◌∙◌}
use Rattle.dn_config.proofs.WordCuts.{next_words, no_words, word_nonempty}
use Rattle.dn_config.proofs.tokens.words.next_word.Goals as goal

pub returns-then-is_empty-clause-words : goal.returns-then-is_empty-clause-words
returns-then-is_empty-clause-words c =
    no_words c.args.text.now c.split_at.result.1.now (c.split_at.ensures.back ∙ ap (λ n. drop n c.args.text.now) c.gap_len.ensures.value)
    (eqb-true _ _ (sym c.is_empty.ensures ∙ c.if-is_empty.true))

pub returns-clause-words : goal.returns-clause-words
returns-clause-words c =
    let nonempty = eqb-false _ _ (sym c.is_empty.ensures ∙ c.if-is_empty.false) in
    rw (c.split_at-2.ensures.front, c.split_at-2.ensures.back, c.word_len.ensures.value)
    (next_words c.args.text.now c.split_at.result.1.now (c.split_at.ensures.back ∙ ap (λ n. drop n c.args.text.now) c.gap_len.ensures.value) (omega (arith, nonempty)))

pub returns-clause-shorter : goal.returns-clause-shorter
returns-clause-shorter c =
    let nonempty = eqb-false _ _ (sym c.is_empty.ensures ∙ c.if-is_empty.false) in
    let long = word_nonempty c.args.text.now c.split_at.result.1.now (c.split_at.ensures.back ∙ ap (λ n. drop n c.args.text.now) c.gap_len.ensures.value) (omega (arith, nonempty)) in
    omega (arith, long, c.word_len.ensures.value, c.split_at.ensures.back_len, c.split_at-2.ensures.back_len)
