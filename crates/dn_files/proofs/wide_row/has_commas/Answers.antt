use Rattle.dn_files.proofs.Words.{has_commas, sym, ◌∙◌}
use Rattle.dn_files.proofs.WideRows.{mark_met, none_missing, text_ended}
use Rattle.dn_files.proofs.wide_row.has_commas.Goals as goal

pub returns-then-missing-eq0 : goal.returns-then-missing-eq0
returns-then-missing-eq0 c = none_missing c.loop-missing.left.now c.loop-missing.missing (has_commas c.args.count c.args.text.now) c.if-missing-eq0.true c.loop-missing.invariant

pub returns-in_default : goal.returns-in_default
returns-in_default c =
    text_ended c.loop-missing.left.now c.loop-missing.missing (has_commas c.args.count c.args.text.now) c.in_default.len_below c.if-missing-eq0.false c.loop-missing.invariant

pub returns-then-is_mark : goal.returns-then-is_mark
returns-then-is_mark c =
    mark_met c.loop-missing.left.now c.loop-missing.missing (has_commas c.args.count c.args.text.now) c.in-len1-up.len_at_least c.if-missing-eq0.false
    (sym c.is_mark.ensures ∙ c.if-is_mark.true) c.loop-missing.invariant
