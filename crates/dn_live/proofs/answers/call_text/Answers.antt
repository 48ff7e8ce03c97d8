use Rattle.dn_live.proofs.Words.{IsEntry, Ordered, Reply, ap, entry_records, subst, text_of, ◌∙◌}
use Rattle.dn_live.proofs.answers.call_text.Goals as goal

pub returns : goal.returns
returns c = λ calls stands.
    let step = c.in_ok-reply.ensures.ok Ordered calls stands in
    let typed = c.entry_in_range.ensures in
    let text = rw (c.reserve.ensures.keeps_text, c.new-writer.ensures.empty) at c.in_ok-write_entry.ensures in (
      step.1,
      c.into_text.ensures.text ∙ text ∙ ap (λ (r : Reply). text_of (entry_records (record { caller = c.args.caller; call = c.args.call; reply = r }))) step.0,
      subst (λ (r : Reply). IsEntry (record { caller = c.args.caller; call = c.args.call; reply = r })) step.0 typed,
    )
