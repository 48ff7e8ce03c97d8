-- The laws of what a link and a flow keep at an example: two packets at 0 to a pipe, of which the second waits.
use Rattle.dn_laws.proofs.Words.{All-cons, All-nil, List, [], arith, drop, pipe, refl, sized, to_pipe, ℕ, ◌*◌, ◌+◌, ◌∷◌, ◌≡◌}
use Rattle.dn_laws.proofs.LawWords.{trace_of, free, reply, virtual_time, last_finish_tag, own, Accepted, Start, arrived, opened, started, Call, Advance, Collect, Delivered, Ordered, ToPipe, IsNoStart}
use Rattle.dn_laws.proofs.LawWords.{IsNoOpening, IsApart}
use Rattle.dn_laws.proofs.{Acceptance.queued-packets-arrive, Kept.links-are-kept, Kept.virtual-time-is-kept, Spares.clock-spares-tags, Tags.tags-are-kept, ToldDeliveries.collects-are-told}

abbrev two : List Call
two = to_pipe 1 0 ∷ to_pipe 1 0 ∷ pipe 1 8000000 0 ∷ []

abbrev packet : ℕ → Accepted
packet n = record { packet = n; link = own 1 0; stamped = record { flow = 0; len = 1000; weight = 1; start_tag = n * 65536000; finish_tag = n * 65536000 + 65536000 } }

abbrev first : Start
first = record { packet = packet 0; moment = 0; transmission = 1000000; delay = 0 }

happened : trace_of two ≡ arrived (packet 1) ∷ started first ∷ arrived (packet 0) ∷ opened (own 1 0) ∷ []
happened = refl

free-still : free (own 1 0) (trace_of two) ≡ 1000000
free-still = ((links-are-kept Ordered (own 1 0) (arrived (packet 1) ∷ []) (drop 2 (trace_of two)) (All-cons (IsNoStart (own 1 0)) (arrived (packet 1)) [] tt (All-nil (IsNoStart (own 1 0))))).0 first refl).0

virtual-still : virtual_time (own 1 0) (trace_of two) ≡ virtual_time (own 1 0) (drop 1 (trace_of two))
virtual-still = (virtual-time-is-kept (own 1 0) (arrived (packet 1) ∷ []) (drop 1 (trace_of two)) (All-cons (IsNoStart (own 1 0)) (arrived (packet 1)) [] tt (All-nil (IsNoStart (own 1 0))))
    (All-cons (IsNoOpening (own 1 0)) (arrived (packet 1)) [] tt (All-nil (IsNoOpening (own 1 0))))).0

tag-still : last_finish_tag (own 1 0) 0 (drop 1 (trace_of two)) ≡ 65536000
tag-still = (tags-are-kept (own 1 0) 0 (started first ∷ []) (drop 3 (trace_of two)) (All-cons (IsApart (own 1 0) 0) (started first) [] tt (All-nil (IsApart (own 1 0) 0)))).0 (packet 0) refl refl

tag-while-the-clock-moves : last_finish_tag (own 1 0) 0 (trace_of (Advance 5000000 ∷ two)) ≡ 131072000
tag-while-the-clock-moves = clock-spares-tags two 5000000 (own 1 0) 0

arrives : (queued-packets-arrive Ordered (drop 1 two) (ToPipe 1) (sized 1000) 0 0 0 1 refl).2.0.packet ≡ 1
arrives = (queued-packets-arrive Ordered (drop 1 two) (ToPipe 1) (sized 1000) 0 0 0 1 refl).2.2

told : reply Ordered two (Collect 1000000) ≡ Delivered 1000000 (collects-are-told Ordered two 1000000 (omega arith)).0
told = (collects-are-told Ordered two 1000000 (omega arith)).1
