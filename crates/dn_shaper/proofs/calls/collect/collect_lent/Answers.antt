-- The reply has the list that was gathered.
use Rattle.dn_shaper.proofs.Words.{Collect, Delivered, Delivery, Does, List, subst, sym}
use Rattle.dn_shaper.proofs.calls.collect.collect_lent.Goals as goal

pub returns-clause-does : goal.returns-clause-does
returns-clause-does c = subst (λ (list : List Delivery). Does (Collect c.args.moment) c.args.state.now c.gather.new.state (Delivered c.in_ok-at.at list))
    (sym (c.from_vec.ensures)) c.in_ok-at.ensures.does
