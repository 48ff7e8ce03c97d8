use Rattle.dn_replay.proofs.Words.{All-nil, false, sym, ℕ, ◌==◌, ◌∙◌, ◌≡◌}
use Rattle.dn_replay.proofs.ConfigCuts.{line_cut, marked}
use Rattle.dn_replay.proofs.config.config_part.ConfigPart.take_byte.Goals as goal

pub returns-then-is_mark-clause-marked : goal.returns-then-is_mark-clause-marked
returns-then-is_mark-clause-marked c = λ ended text so_far more.
    marked c.args.self.now text more c.args.byte c.if-byte-ne10.false (sym c.is_mark.ensures ∙ c.if-is_mark.true) so_far

pub returns-clause-goes_on : goal.returns-clause-goes_on
returns-clause-goes_on c = λ going text so_far. record {
  line = rw c.clear.ensures.items (All-nil (λ (b : ℕ). (b == 10) ≡ false));
  cuts = λ more. rw (c.clear.ensures.items, c.in_ok-push-2.ensures.items, c.in_ok-extend_from_slice.ensures.items, c.as_slice.ensures.value)
      (line_cut c.args.self.now text more c.args.byte c.if-byte-ne10.false (sym c.is_mark.ensures ∙ c.if-is_mark.false) so_far);
}
