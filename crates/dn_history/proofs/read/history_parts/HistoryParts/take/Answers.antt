use Rattle.dn_history.proofs.Words.{arith, drop, length, refl, sym, take, take_rest, ◌-◌, ◌∙◌, ◌≡◌}
use Rattle.dn_history.proofs.PartsRead.{only-whole, taken}
use Rattle.dn_history.proofs.read.history_parts.HistoryParts.take.Goals as goal

pub returns-clause-ok : goal.returns-clause-ok
returns-clause-ok c = λ text entries read.
    let here = rw (← c.self.view_is) at read in
    let inside = c.self.inside in
    let batch = c.in_ok-entries.field-0 in
    let begins = rw (c.deref.ensures.value, take_rest inside.text.items 1) at c.behind_records.ensures.begins in
    let whole = only-whole batch.left.now c.behind_records-2.result.now c.behind_records-2.ensures.begins (sym c.is_empty.ensures ∙ c.if-not-is_empty.false) in
    let len : c.len.result ≡ length inside.text.items = omega (arith, c.len.ensures, inside.text.ok) in
    let back : take (length c.deref-3.result.now - (c.len.result - length c.behind_records.result.now)) (drop (c.len.result - length c.behind_records.result.now) c.deref-3.result.now)
    ≡ drop (length inside.text.items - length c.behind_records.result.now) inside.text.items =
    take_rest c.deref-3.result.now (c.len.result - length c.behind_records.result.now) ∙ rw (c.deref-3.ensures.value, len) refl in
    taken inside.version inside.given inside.number batch.given batch.number inside.text.items c.behind_records.result.now _ _ batch.left.now c.in_ok-text.text.items text entries batch.entries.items
    c.self.invariant.2 begins (rw (c.deref-2.ensures.value, len) refl) back whole c.in_ok-entries.ensures.read c.in_ok-text.ensures here
