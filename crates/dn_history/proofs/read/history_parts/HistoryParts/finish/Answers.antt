use Rattle.dn_history.proofs.Words.{ap, behind-feed, drop, records_after, records_of, ◌∙◌, ◌≡◌}
use Rattle.csv.specs.declared.parser.State.TheVariants as st
use Rattle.dn_history.proofs.PartsRead.{all-read}
use Rattle.dn_history.proofs.read.history_parts.HistoryParts.finish.Goals as goal

pub returns-clause-left : goal.returns-clause-left
returns-clause-left c = λ text entries read.
    let here = rw (← c.self.view_is) at read in
    let left = c.self.inside.text.items in
    let front : records_of c.as_slice-left.result.now ≡ records_after st.StartRecord (drop 1 left) =
    ap records_of (c.as_slice-left.ensures.value ∙ c.self.invariant.2) ∙ behind-feed (drop 1 left) in
    rw (c.from.ensures.left, c.from.ensures.rule, front) (all-read _ text entries here)
