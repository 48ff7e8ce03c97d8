-- Of the callers that the service hands out the last is its own, and the others are in the handles.
use Rattle.hingetulip_c.proofs.Words.{all_held, ap, length, waiting, ◌∙◌}
use Rattle.hingetulip_c.proofs.Serving.{last_is_own, opened}
use Rattle.hingetulip_c.proofs.exports.service.open.new_ledger.Goals as goal

pub hand_out-requires : goal.hand_out-requires
hand_out-requires c =
    (last_is_own c.in-Ok.service (length c.args.callers.now) c.in-Ok.all.items c.pop.new.self.items c.in-Some.own c.in-Ok.ensures.callers c.in-Some.ensures.items).2

pub returns-clause-ok : goal.returns-clause-ok
returns-clause-ok c =
    let n = length c.args.callers.now in let made = c.in_ok-ledger.ensures.ok in
    let handed = last_is_own c.in-Ok.service n c.in-Ok.all.items c.pop.new.self.items c.in-Some.own c.in-Ok.ensures.callers c.in-Some.ensures.items in
    opened n c.in-Ok.service c.in_ok-ledger.ledger.value c.pop.new.self.items (all_held c.hand_out.new.handles) c.in-Ok.ensures.service.0
    (ap (λ l. l.taker.lasting) made ∙ ap (λ t. t.lasting) c.new.ensures ∙ c.lasting.ensures)
    (ap (λ l. l.taker.caller) made ∙ ap (λ t. t.caller) c.new.ensures ∙ handed.1)
    (ap waiting made ∙ c.new-2.ensures.items) handed.0 c.in_ok-hand_out.ensures.held
