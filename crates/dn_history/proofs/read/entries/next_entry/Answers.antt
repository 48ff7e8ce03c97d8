use Rattle.dn_history.proofs.Words.{IfErr-weaker, IfOk-weaker, ◌∙◌}
use Rattle.dn_history.proofs.read.entries.next_entry.Goals as goal

pub returns-in-Some-clause-ok : goal.returns-in-Some-clause-ok
returns-in-Some-clause-ok c = IfOk-weaker c.entry_of.result _ _ (λ next is. c.in-Some.ensures.call c.args.version c.args.count ∙ is) c.entry_of.ensures.ok

pub returns-in-Some-clause-err : goal.returns-in-Some-clause-err
returns-in-Some-clause-err c = IfErr-weaker c.entry_of.result _ _ (λ fault own. rw (c.in-Some.ensures.call c.args.version c.args.count) own) c.entry_of.ensures.err
