-- The text is the entry's.
use Rattle.hingetulip_c.proofs.Words.{Entry, ap, arith, entry_records, inl, inr, length, text_of, ℕ, ◌∙◌, ◌≡◌, ◌≢◌, ◌⊎◌}
use Rattle.hingetulip_c.proofs.exports.texts.submit.dn_submit_text.Goals as goal

has_length : (status : ℕ) → (status ≡ 0) ⊎ (status ≡ 7) → status ≢ 6
has_length status (inl none) = λ six. omega (arith, none, six)
has_length status (inr room) = λ six. omega (arith, room, six)

pub returns-in-Ok-clause-wrote : goal.returns-in-Ok-clause-wrote
returns-in-Ok-clause-wrote c done =
    c.put_entry.ensures.wrote done ∙ ap (λ (e : Entry). text_of (entry_records e)) c.in-Ok.ensures.ok.0

pub returns-in-Ok-clause-size : goal.returns-in-Ok-clause-size
returns-in-Ok-clause-size c told =
    c.put_entry.ensures.size (has_length c.put_entry.result told)
    ∙ ap (λ (e : Entry). length (text_of (entry_records e))) c.in-Ok.ensures.ok.0
