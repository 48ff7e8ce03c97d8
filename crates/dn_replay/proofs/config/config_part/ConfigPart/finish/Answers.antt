use Rattle.dn_replay.proofs.Words.{sym, ◌∙◌}
use Rattle.dn_replay.proofs.ConfigCuts.{cut_by_end, marked_by_end}
use Rattle.dn_replay.proofs.config.config_part.ConfigPart.finish.Goals as goal

pub returns-then-eq : goal.returns-then-eq
returns-then-eq c = λ text so_far. marked_by_end c.args.self.now text (rw (c.as_slice.ensures.value, c.as_slice-2.ensures) at (sym c.eq.ensures ∙ c.if-eq.true)) so_far

pub returns : goal.returns
returns c = λ text so_far. rw (c.in_ok-extend_from_slice.ensures.items, c.as_slice-3.ensures.value)
    (cut_by_end c.args.self.now text (rw (c.as_slice.ensures.value, c.as_slice-2.ensures) at (sym c.eq.ensures ∙ c.if-eq.false)) so_far)
