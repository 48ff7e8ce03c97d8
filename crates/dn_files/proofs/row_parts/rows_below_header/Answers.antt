-- The text is read behind a line feed.
use Rattle.dn_files.proofs.Words.{IfErr-weaker, IfOk-weaker, IsFaultOf, List, ReplayFault, Result, Row, ap, arith, behind-feed, is_ok, records_of, rows_from, rows_left, subst, sym, true, ◌∙◌, ◌≡◌}
use Rattle.dn_files.proofs.PacketParts.{later}
use Rattle.dn_files.proofs.row_parts.rows_below_header.Goals as goal
use Rattle.dn_files.proofs.row_parts.rows_below_header.Goals.{After-as_slice}

read : (c : After-as_slice) → rows_from 1 (records_of c.as_slice.result.now) ≡ rows_left 1 c.args.text.now
read c =
    let first : is_ok c.push.result ≡ true = c.if-is_err.ensures.negation in
    let then : is_ok c.extend_from_slice.result ≡ true = c.if-is_err-2.ensures.negation in
    let fed = rw (first, c.new-lines.ensures.items) at c.push.ensures.items in
    let is = c.as_slice.ensures.value ∙ rw (then, fed) at c.extend_from_slice.ensures.items in
    ap (rows_from 1) (ap records_of is ∙ behind-feed c.args.text.now) ∙ sym (later 1 c.args.text.now (omega arith))

pub returns-clause-ok : goal.returns-clause-ok
returns-clause-ok c = IfOk-weaker c.rows_from_text.result _ _ (λ rows whole. sym (read (goal.at.returns-clause-ok c).After-as_slice) ∙ whole) c.rows_from_text.ensures.ok

pub returns-clause-err : goal.returns-clause-err
returns-clause-err c =
    IfErr-weaker c.rows_from_text.result _ _
    (λ fault own. subst (λ (r : Result (List Row) ReplayFault). IsFaultOf r fault) (read (goal.at.returns-clause-err c).After-as_slice) own) c.rows_from_text.ensures.err
