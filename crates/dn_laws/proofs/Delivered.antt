-- A packet that was queued waits, was discarded, or is delivered once it is due.
use Rattle.dn_laws.proofs.Words.{List, QueuedPacketsAreDelivered, inl, inr, length, refl, subst, ℕ, ⊎_elim, ◌++◌, ◌<◌, ◌∷◌, ◌≡◌, ◌⊎◌}
use Rattle.dn_laws.proofs.LawWords.{trace_of, call_limit, IsDueBy, arrival_time, due_by, last_due, replies, HasStarted, IsDelivered, times_told, Start, Call, Submit, Collect, Rule, Free, Ordered}
use Rattle.dn_laws.proofs.Fates.{queued-packets-stay}
use Rattle.dn_laws.proofs.ToldDeliveries.{told-when-due}

due-is : (rule : Rule) (s : Start) (last : ℕ) → IsDueBy rule s last (due_by rule (arrival_time s) last)
due-is Free s last = refl
due-is Ordered s last = refl

by-start : (rule : Rule) (calls : List Call) (collect flow number : ℕ) → length calls < call_limit → HasStarted number flow (trace_of (Collect collect ∷ calls)) →
    IsDelivered rule number flow (Collect collect ∷ calls)
by-start rule calls collect flow number few h =
    let s : Start = h.2.0 in
    let last = last_due rule s.packet.link h.1 in
    let due = due_by rule (arrival_time s) last in
    let at = due-is rule s last in (
      h.0,
      h.1,
      (
        s,
        (
          due,
          h.2.1,
          h.2.2,
          h.2.3,
          at,
          λ soon. subst (λ (n : ℕ). times_told n (replies rule (Collect collect ∷ calls)) ≡ 1) h.2.2
              (told-when-due rule calls collect due h.0 h.1 s few h.2.1 at soon),
        ),
      ),
    )

pub queued-packets-are-delivered : QueuedPacketsAreDelivered
queued-packets-are-delivered rule after calls target packet moment at flow number collect e few =
    ⊎_elim (λ waits. inl waits)
    (λ ended. ⊎_elim (λ gone. inr (inl gone)) (λ begun. inr (inr (by-start rule (after ++ Submit target packet moment ∷ calls) collect flow number few begun))) ended)
    (queued-packets-stay rule (Collect collect ∷ after) calls target packet moment at flow number e)
