-- The greater of the two counts, and no list in the next reply is longer.
use Rattle.dn_shaper.proofs.Words.{items_in, max, reply, subst, sym, ◌∙◌, ◌≤◌}
use Rattle.dn_shaper.proofs.Holding.{items-few}
use Rattle.dn_shaper.proofs.shaper.Shaper.reply_room.Goals as goal

pub returns-clause-value : goal.returns-clause-value
returns-clause-value c rule calls stands =
    c.max.ensures ∙ (λ i. max (c.held.ensures.value rule calls stands i) (c.flows.ensures.value rule calls stands i))

pub returns-clause-room : goal.returns-clause-room
returns-clause-room c rule calls stands call =
    let value = c.max.ensures ∙ (λ i. max (c.held.ensures.value rule calls stands i) (c.flows.ensures.value rule calls stands i)) in
    subst (λ n. items_in (reply rule calls call) ≤ n) (sym value) (items-few rule calls call)
