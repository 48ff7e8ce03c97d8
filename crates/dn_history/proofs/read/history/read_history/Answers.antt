use Rattle.dn_history.proofs.Words.{History, IfErr-weaker, IfOk-weaker, err_from_is_err_and, history_in, history_limit, passed_on, refused}
use Rattle.dn_history.proofs.HistoryFaults.{of_reading}
use Rattle.dn_history.proofs.read.history.read_history.Goals as goal

pub returns-clause-ok : goal.returns-clause-ok
returns-clause-ok g c =
    let text = c.in_ok-text.text.items in
    IfOk-weaker c.history_of_text.result _ _ (λ history read. (text, c.in_ok-text.ensures.text, rw c.in_ok-text.ensures.within (rw c.as_slice.ensures.value at read))) c.history_of_text.ensures.ok

pub returns-clause-err : goal.returns-clause-err
returns-clause-err g c =
    let text = c.in_ok-text.text.items in
    IfErr-weaker c.history_of_text.result _ _ (λ fault own. refused History history_limit history_in (g.I.Inlet.remaining c.args.input.now) (g.I.Inlet.has_failed c.read_input.new.reader) text fault
    c.in_ok-text.ensures.sound c.in_ok-text.ensures.text c.in_ok-text.ensures.within (rw c.as_slice.ensures.value at own)) c.history_of_text.ensures.err

-- The text isn't read.
pub returns-in_err-text-clause-faults : goal.returns-in_err-text-clause-faults
returns-in_err-text-clause-faults g c =
    let known = g.I.Inlet.remaining c.args.input.now in
    let failed = g.I.Inlet.has_failed c.read_input.new.reader in
    let p = err_from_is_err_and c.from_residual.result c.from_residual.ensures.1 in
    rw (p.1, p.2) (of_reading known failed _ (passed_on History history_limit history_in known failed _ c.in_err-text.ensures.err))

-- The text is no history.
pub returns-clause-faults : goal.returns-clause-faults
returns-clause-faults g c =
    let known = g.I.Inlet.remaining c.args.input.now in
    let failed = g.I.Inlet.has_failed c.read_input.new.reader in
    let text = c.in_ok-text.text.items in
    IfErr-weaker c.history_of_text.result _ _ (λ fault own. of_reading known failed fault (refused History history_limit history_in known failed text fault
    c.in_ok-text.ensures.sound c.in_ok-text.ensures.text c.in_ok-text.ensures.within (rw c.as_slice.ensures.value at own))) c.history_of_text.ensures.err
