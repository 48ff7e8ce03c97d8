use Rattle.dn_replay.proofs.Words.{ap, due_of, packet_of, row_number, rules, sorted_by, ◌∙◌}
use Rattle.dn_replay.proofs.Orders.{sorted_by_key}
use Rattle.dn_replay.proofs.report.order.ReportLines.sort.Goals as goal

pub returns-clause-outs : goal.returns-clause-outs
returns-clause-outs c =
    let by_packet = sorted_by_key packet_of c.args.self.now.outs.items _ c.in_ok-sort_by_key.ensures.sorted c.sort_by_key.ensures.stable (λ a r f k. search rules) in
    let by_due = sorted_by_key due_of _ _ c.in_ok-sort_by_key-2.ensures.sorted c.sort_by_key-2.ensures.stable (λ a r f k. search rules) in
    by_due ∙ ap (sorted_by due_of) by_packet

pub returns-clause-others : goal.returns-clause-others
returns-clause-others c = sorted_by_key row_number c.args.self.now.others.items _ c.in_ok-sort_by_key-3.ensures.sorted c.sort_by_key-3.ensures.stable (λ a r f k. search rules)
