use Rattle.dn_config.proofs.Vocabulary.{Some, ap, err_from_is_err_and, sym, ◌+◌, ◌∙◌}
use Rattle.dn_config.proofs.OptionSteps.{option_unknown, option_left, option_foreign, option_missing, option_valued, option_bad, option_mask_ok, option_mask_err}
use Rattle.dn_config.proofs.option_group.option.Goals as goal

pub returns-then-left_out-clause-reads : goal.returns-then-left_out-clause-reads
returns-then-left_out-clause-reads c = option_left c.args.kind c.args.at c.args.name c.args.left_out _ c.in_default.is c.if-left_out.true

pub returns-else-left_out-clause-reads : goal.returns-else-left_out-clause-reads
returns-else-left_out-clause-reads c = option_unknown c.args.kind c.args.at c.args.name c.args.left_out _ c.in_default.is c.if-left_out.false

pub returns-in_err-mask-in-Mask-clause-reads : goal.returns-in_err-mask-in-Mask-clause-reads
returns-in_err-mask-in-Mask-clause-reads c =
    let p = err_from_is_err_and c.from_residual.result c.from_residual.ensures.1 in
    rw (p.1, p.2) (option_mask_err c.args.kind c.args.at c.args.name c.args.left_out _ _ (c.in-Some.is ∙ ap Some c.in-Mask.is) c.in_err-mask-in-Mask.ensures.reads)

pub returns-in_ok-mask-in-Mask-clause-reads : goal.returns-in_ok-mask-in-Mask-clause-reads
returns-in_ok-mask-in-Mask-clause-reads c = option_mask_ok c.args.kind c.args.at c.args.name c.args.left_out _ _ _ (c.in-Some.is ∙ ap Some c.in-Mask.is) c.in_ok-mask-in-Mask.ensures.reads

pub returns-then-not-belongs_to-clause-reads : goal.returns-then-not-belongs_to-clause-reads
returns-then-not-belongs_to-clause-reads c =
    option_foreign c.args.kind c.args.at c.args.name c.args.left_out _ _ (c.in-Some.is ∙ ap Some c.in-Valued.is) (sym c.belongs_to.ensures ∙ c.if-not-belongs_to.true)

pub returns-in_default-next-clause-reads : goal.returns-in_default-next-clause-reads
returns-in_default-next-clause-reads c =
    option_missing c.args.kind c.args.at c.args.name c.args.left_out _ _ (c.in-Some.is ∙ ap Some c.in-Valued.is) (sym c.belongs_to.ensures ∙ c.if-not-belongs_to.false) c.in_default-next.ensures

pub returns-in_err-setting-in-Valued-clause-reads : goal.returns-in_err-setting-in-Valued-clause-reads
returns-in_err-setting-in-Valued-clause-reads c =
    let p = err_from_is_err_and c.from_residual-in_err-setting-in-Valued.result c.from_residual-in_err-setting-in-Valued.ensures.1 in
    rw (p.1, p.2) (option_bad c.args.kind c.args.at c.args.name c.args.left_out _ _ _ _ (c.in-Some.is ∙ ap Some c.in-Valued.is)
    (sym c.belongs_to.ensures ∙ c.if-not-belongs_to.false) c.in-Some-next.ensures.0 _ (rw (← c.requires.place) (sym c.in_err-setting-in-Valued.ensures)))

pub returns-in_ok-setting-in-Valued-clause-reads : goal.returns-in_ok-setting-in-Valued-clause-reads
returns-in_ok-setting-in-Valued-clause-reads c =
    option_valued c.args.kind c.args.at c.args.name c.args.left_out _ _ _ _ (c.in-Some.is ∙ ap Some c.in-Valued.is)
    (sym c.belongs_to.ensures ∙ c.if-not-belongs_to.false) c.in-Some-next.ensures.0 _ _ (c.in-Some-next.ensures.1 ∙ ap (λ n. n + 1) c.requires.place)
    (rw (← c.requires.place) (sym c.in_ok-setting-in-Valued.ensures))
