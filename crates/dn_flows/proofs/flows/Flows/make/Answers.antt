use Rattle.dn_flows.proofs.Words.{AreListed, AreStored, FlowKey, FlowQueue, List, Unsent, [], all_with_unsent, ap, arith, cond, false, is_known, length, length-map, map, new_flow, new_queue}
use Rattle.dn_flows.proofs.Words.{reservations, reserved_one, rules, state_of, subst, sym, with_key, ◌++◌, ◌∙◌, ◌∷◌, ◌≡◌}
use Rattle.dn_flows.proofs.Counted.{both-more}
use Rattle.dn_flows.proofs.Entries.{listed-more}
use Rattle.dn_flows.proofs.Found.{next-number}
use Rattle.dn_flows.proofs.Places.{length-more, sum-more}
use Rattle.dn_flows.proofs.Tables.{as-many-flows, added, states_added}
use Rattle.dn_flows.proofs.flows.Flows.make.Goals.{After-push_reserved, After-push_reserved-2}
use Rattle.dn_flows.proofs.flows.Flows.make.Goals as goal

-- One queue and one record of counts more.
queues-then : (c : After-push_reserved) → c.push_reserved.new.self.items ≡ c.self.inside.queues.items ++ new_queue ∷ []
queues-then c =
    c.push_reserved.ensures.items ∙ ap (λ (qs : List FlowQueue). qs ++ c.new-queue.result ∷ []) c.reserve.ensures.items
    ∙ ap (λ (q : FlowQueue). c.self.inside.queues.items ++ q ∷ []) c.new-queue.ensures

counts-then : (c : After-push_reserved-2) → c.push_reserved-2.new.self.items ≡ c.self.inside.unsent.items ++ record { lost = 0; full = 0; discarded = 0 } ∷ []
counts-then c = c.push_reserved-2.ensures.items ∙ ap (λ (us : List Unsent). us ++ record { lost = 0; full = 0; discarded = 0 } ∷ []) c.reserve-2.ensures.items

pub invariant_of-self-2 : goal.invariant_of-self-2
invariant_of-self-2 c =
    let unknown : is_known c.args.key c.self.inside.keys.keys ≡ false = rw (← c.self.view_is) at c.requires in
    let w = goal.at.invariant_of-self-2 c in
    let items = queues-then w.After-push_reserved in
    let counts = counts-then w.After-push_reserved-2 in
    let more-queues = ap (λ (qs : List FlowQueue). length qs) items ∙ length-more c.self.inside.queues.items new_queue in
    let more-counts = ap (λ (us : List Unsent). length us) counts ∙ length-more c.self.inside.unsent.items (record { lost = 0; full = 0; discarded = 0 }) in
    let known = c.self.inside.keys.keys in
    let inserted : c.insert_full.new.self.keys ≡ with_key c.args.key known = search (rules, c.in-Ok.ensures.keys, c.new-table_key.ensures) in
    let grown = inserted ∙ ap (λ b. cond b known (known ++ c.args.key ∷ [])) unknown in
    let more-keys = ap (λ (ks : List FlowKey). length ks) grown ∙ length-more known c.args.key in
    let as-many = c.self.invariant.0 in
    let before = c.self.invariant.3 in (
      omega arith,
      (
        c.self.invariant.1.0 ∙ (let more = sum-more reserved_one c.self.inside.queues.items new_queue in let goal : reservations
            c.self.inside.queues.items ≡ reservations (c.self.inside.queues.items ++ new_queue ∷ []) = omega arith in
            goal) ∙ ap reservations (sym items),
        c.self.invariant.1.1,
      ),
      subst (AreStored c.self.inside.packets) (sym items) (added c.self.inside.packets c.self.inside.queues.items c.self.invariant.2),
      omega arith,
      subst (λ (x : List FlowKey × List FlowQueue). AreListed x.0 x.1 c.self.inside.members) (λ i. (sym grown i, sym items i))
          (listed-more known c.self.inside.queues.items c.self.inside.members c.args.key as-many unknown c.self.invariant.4),
    )

pub returns-clause-flows : goal.returns-clause-flows
returns-clause-flows c =
    let unknown : is_known c.args.key c.self.inside.keys.keys ≡ false = rw (← c.self.view_is) at c.requires in
    let w = goal.at.returns-clause-flows c in
    let states = ap (map (state_of c.self.inside.packets)) (queues-then w.After-push_reserved) ∙ states_added c.self.inside.packets c.self.inside.queues.items in
    let more =
    both-more (map (state_of c.self.inside.packets) c.self.inside.queues.items) c.self.inside.unsent.items new_flow
    (record { lost = 0; full = 0; discarded = 0 })
    (c.self.invariant.3 ∙ sym (length-map c.self.inside.queues.items (state_of c.self.inside.packets))) in
    let seen = all_with_unsent (map (state_of c.self.inside.packets) c.self.inside.queues.items) c.self.inside.unsent.items in
    rw (← c.self.view_is) ((λ i. all_with_unsent (states i) (counts-then w.After-push_reserved-2 i)) ∙ more ∙ sym (ap (λ b. cond b seen (seen ++ new_flow ∷ [])) unknown))

pub returns-clause-within : goal.returns-clause-within
returns-clause-within c =
    let many = as-many-flows c.self.inside.packets c.push_reserved.new.self.items c.push_reserved-2.new.self.items in
    omega arith

pub returns-clause-number : goal.returns-clause-number
returns-clause-number c =
    let unknown : is_known c.args.key c.self.inside.keys.keys ≡ false = rw (← c.self.view_is) at c.requires in
    let last : c.len-flow.result ≡ length c.self.inside.keys.keys = omega (arith, c.len-flow.ensures, c.in_ok-reserve.ensures.len, c.self.inside.queues.ok.0, c.self.invariant.0) in
    rw (← c.self.view_is) (last ∙ sym (next-number c.args.key c.self.inside.keys.keys unknown))

pub returns-clause-keys : goal.returns-clause-keys
returns-clause-keys c = rw (← c.self.view_is) (search (rules, c.in-Ok.ensures.keys, c.new-table_key.ensures))
