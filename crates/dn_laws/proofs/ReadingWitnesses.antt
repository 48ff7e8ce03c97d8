-- The laws of readings at an example: two packets of 1,000 bytes at 0, at 8 Mbit/s, to a pipe whose queue holds one.
use Rattle.dn_laws.proofs.Words.{List, None, Some, [], arith, leb-true, no_mask, refl, to_pipe, true, ℕ, ◌*◌, ◌++◌, ◌+◌, ◌∷◌, ◌≡◌}
use Rattle.dn_laws.proofs.LawWords.{trace_of, moment_of, settings, subject, reply_to_command, Treatment, treatment, accepted_since, start_count, free, reply, next_start, own, Accepted, Start, arrived}
use Rattle.dn_laws.proofs.LawWords.{backlog, is_of, Call, Configure, Advance, Command, Pipe, DeletePipe, Slots, Ordered, ToPipe}
use Rattle.dn_laws.proofs.Readings.{moments-are-named, subjects-are-named, commands-are-answered, targets-are-treated, links-are-told-apart, queues-are-read, starts-are-due, packets-are-counted}

abbrev narrow : Command
narrow = Pipe 1 8000000 0 (Slots 1) 0 None no_mask

abbrev one : List Call
one = to_pipe 1 0 ∷ Configure narrow ∷ []

abbrev two : List Call
two = to_pipe 1 0 ∷ one

abbrev numbered : ℕ → Accepted
numbered n = record { packet = n; link = own 1 0; stamped = record { flow = 0; len = 1000; weight = 1; start_tag = n * 65536000; finish_tag = (n + 1) * 65536000 } }

its_moment : moment_of (Advance 7) ≡ 7
its_moment = moments-are-named.1 7

its_subject : subject (DeletePipe 1) ≡ ToPipe 1
its_subject = (subjects-are-named 1).2

its_reply : reply Ordered two (Configure (DeletePipe 1)) ≡ reply_to_command two (DeletePipe 1)
its_reply = (commands-are-answered Ordered two (DeletePipe 1) (omega arith)).0

its_pipe : (how : Treatment) × (treatment (Some narrow) ≡ Some how) × (how.pipe ≡ 1) × (how.mask ≡ no_mask)
its_pipe = targets-are-treated.0 narrow no_mask 1 (refl, refl)

apart : own 1 0 ≡ own 1 0
apart = ((links-are-told-apart (own 1 0)).0 (own 1 0)).0 refl

its_flow : is_of (own 1 0) 0 (numbered 1) ≡ true
its_flow = ((links-are-told-apart (own 1 0)).1 0 (numbered 1)).1 refl refl

-- The second arrives and waits.
waits : backlog (own 1 0) 0 (arrived (numbered 1) ∷ trace_of one) ≡ backlog (own 1 0) 0 (trace_of one) ++ numbered 1 ∷ []
waits = (queues-are-read (own 1 0) 0).0.2 (numbered 1) (trace_of one) refl

arrived_before : accepted_since (own 1 0) 0 (trace_of two) ≡ numbered 0 ∷ numbered 1 ∷ []
arrived_before = refl

-- It starts once the link is free of the first, after a millisecond.
starts : (s : Start) × (next_start (settings two) 1000000 (own 1 0) (trace_of two) ≡ Some s) × (s.packet ≡ numbered 1) × (s.moment ≡ free (own 1 0) (trace_of two))
starts = (starts-are-due (settings two) 1000000 (own 1 0) (trace_of two)).0 (numbered 1) refl (leb-true 1000000 1000000 refl)

first_started : start_count 0 (trace_of two) ≡ 1
first_started = (packets-are-counted 0).0 (trace_of two)
