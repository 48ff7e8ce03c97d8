use Rattle.dn_config.proofs.Vocabulary.{ap, left, read_mask, sym, ◌∙◌}
use Rattle.dn_config.proofs.MaskSteps.{mask_nil, mask_goes, mask_stops}
use Rattle.dn_config.proofs.mask.read_mask.Goals as goal

pub returns-in_default-clause-reads : goal.returns-in_default-clause-reads
returns-in_default-clause-reads c = ap (read_mask c.args.at) c.in_default.ensures ∙ mask_nil c.args.at

pub returns-then-continues_mask-clause-reads : goal.returns-then-continues_mask-clause-reads
returns-then-continues_mask-clause-reads c =
    rw (mask_goes c.args.at c.args.words.position (left c.args.words) _ _ c.in-Some.ensures.0 c.requires.place (sym c.continues_mask.ensures ∙ c.if-continues_mask.true)) c.fields.ensures.reads

pub returns-else-continues_mask-clause-reads : goal.returns-else-continues_mask-clause-reads
returns-else-continues_mask-clause-reads c = mask_stops c.args.at (left c.args.words) _ _ c.in-Some.ensures.0 (sym c.continues_mask.ensures ∙ c.if-continues_mask.false)
