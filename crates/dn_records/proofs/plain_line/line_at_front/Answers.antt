use Rattle.dn_records.proofs.Words.{Decides-eqb, Some, [], refl, strip_suffix_is, take_rest, ◌+◌, ◌∷◌}
use Rattle.dn_records.proofs.PlainLines.{feed-ends, return-ends}
use Rattle.dn_records.proofs.plain_line.line_at_front.Goals as goal

pub returns-in-Some : goal.returns-in-Some
returns-in-Some c =
    let (first, passes) = c.in_ok-feed.ensures in
    rw (take_rest c.args.text.now (c.in_ok-feed.feed + 1)) (return-ends 10 c.args.text.now c.in_ok-feed.feed first passes c.in-Some.line.now refl
    (strip_suffix_is Decides-eqb _ (13 ∷ []) (Some c.in-Some.line) c.in-Some.ensures.cases))

pub returns : goal.returns
returns c =
    let (first, passes) = c.in_ok-feed.ensures in
    rw (take_rest c.args.text.now (c.in_ok-feed.feed + 1)) (feed-ends 10 c.args.text.now c.in_ok-feed.feed first passes refl)
