use Rattle.dn_replay.proofs.Words.{List, ap, arith, drop_all, length, ℕ, ◌∙◌, ◌∷◌, ◌≤◌}
use Rattle.dn_replay.proofs.report.line_text.put_line_feed.Goals as goal

pub returns-clause-written : goal.returns-clause-written
returns-clause-written c =
    let all : length c.args.bytes.now ≤ 160 = omega (arith, c.requires) in
    c.put_byte.ensures.written ∙ ap (λ (t : List ℕ). 10 ∷ t) (drop_all 160 c.args.bytes.now all)
