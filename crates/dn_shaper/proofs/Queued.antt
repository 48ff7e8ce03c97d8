-- A shared link's slot holds the lengths and weights of its flow's queue, since both hold the packets of the trace.
use Rattle.dn_shaper.proofs.Words.{Accepted, Agrees, HasQueues, Link, LinkView, List, Parts, Some, Stamped, Waiting, [], ap, as_queued, backlog, cost_of, map, own, refl, shared, slice_get}
use Rattle.dn_shaper.proofs.Words.{slotted, stamped_cost_of, stamped_of, sym, views_of, ℕ, ◌∙◌, ◌∷◌, ◌≡◌}

same-costs : (slot : ℕ) (ps : List Accepted) → map stamped_cost_of (map (slotted slot) (stamped_of ps)) ≡ map cost_of (map as_queued ps)
same-costs slot [] = refl
same-costs slot (p ∷ ps) = λ i. (p.stamped.len, p.stamped.weight) ∷ same-costs slot ps i

pub queues-at : (p : Parts) → Agrees p → (place : ℕ) (v : LinkView) → slice_get (views_of p) place ≡ Some v → HasQueues v p.flows.flows v.link
queues-at p agrees place v there = by v.link refl
  where
    by : (l : Link) → v.link ≡ l → HasQueues v p.flows.flows l
    by (own pipe f) is = tt
    by (shared pipe) is = λ slot flow at.
        let held = ((agrees.2.views_are place v there).schedule_is pipe is).slots_are slot flow at in
        ap (λ (ps : List Stamped). map stamped_cost_of ps) held.backlog_is
        ∙ same-costs slot (backlog v.link flow agrees.1)
        ∙ ap (λ (l : Link). map cost_of (map as_queued (backlog l flow agrees.1))) (sym (agrees.2.slots_home place v there slot flow at))
        ∙ ap (λ (ws : List Waiting). map cost_of ws) (sym (agrees.2.flows_are flow).backlog_is)
