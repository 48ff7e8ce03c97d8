use Rattle.dn_records.proofs.Words.{false≢true, sym, ◌∙◌}
use Rattle.dn_records.proofs.LastFeed.{cut-last, no-feed, no-quote}
use Rattle.dn_records.proofs.WholeRecords.{none-whole, up-to-feed}
use Rattle.dn_records.proofs.whole_records.behind_records.Goals as goal

pub returns-in_default-clause-begins : goal.returns-in_default-clause-begins
returns-in_default-clause-begins c = none-whole c.args.text.now

pub returns-in_default-clause-last : goal.returns-in_default-clause-last
returns-in_default-clause-last c = λ front rest is none bare. absurd (no-feed c.args.text.now front rest c.in_default.ensures is)

pub returns-then-is_some-clause-begins : goal.returns-then-is_some-clause-begins
returns-then-is_some-clause-begins c = none-whole c.args.text.now

pub returns-clause-begins : goal.returns-clause-begins
returns-clause-begins c =
    let (last, feed) = c.in-Some.ensures in
    up-to-feed c.args.text.now c.split_at.result.0.now c.split_at.result.1.now c.in-Some.last c.memchr.result
    c.split_at.ensures.front c.split_at.ensures.back last.high feed c.memchr.ensures (sym c.is_some.ensures ∙ c.if-is_some.false)

pub returns-then-is_some-clause-last : goal.returns-then-is_some-clause-last
returns-then-is_some-clause-last c = λ front rest is none bare.
    let cut = cut-last c.args.text.now front rest c.in-Some.last c.in-Some.ensures is none in
    let no_quote = no-quote c.split_at.result.0.now front c.memchr.result (c.split_at.ensures.front ∙ cut.lines) bare c.memchr.ensures in
    absurd (false≢true (sym no_quote ∙ sym c.is_some.ensures ∙ c.if-is_some.true))

pub returns-clause-last : goal.returns-clause-last
returns-clause-last c = λ front rest is none bare.
    let cut = cut-last c.args.text.now front rest c.in-Some.last c.in-Some.ensures is none in
    c.split_at.ensures.back ∙ cut.left
