-- The law of divided calls at examples: what it speaks of is there, and its condition is needed.
use Rattle.dn_laws.proofs.Words.{Bool, List, [], arith, cond, delivery, false, key, length, map, nat_eq, nat_le, nat_tests, no_mask, own_reply_on, pipe, queue, refl, status, to_pipe, to_queue}
use Rattle.dn_laws.proofs.Words.{true, ℕ, ◌∷◌, ◌≡◌, ◌≤◌}
use Rattle.dn_laws.proofs.LawWords.{call_limit, links_of, own_of, AreDivided, part_of, trace_of, replies, Call, Configure, Advance, Collect, Show, DeletePipe, Reply, Configured, Deleted, Queued}
use Rattle.dn_laws.proofs.LawWords.{NoTarget, Delivered, Status, Ordered, Target, ToPipe, ToQueue}
use Rattle.dn_laws.proofs.AloneReplies.{parts-are-alone}
use Rattle.dn_laws.proofs.PartsAlone.{parts-happen-alone}
use Rattle.dn_types.proofs.ExampleWords.{tuple}

abbrev in_the_first : Target → Bool
in_the_first (ToPipe number) = nat_eq number 1
in_the_first (ToQueue number) = nat_eq number 3

abbrev divided : List Call
divided =
    queue 3 1 1 ∷ Collect 100000000 ∷ to_pipe 1 500000 ∷ pipe 2 1000000 9 ∷ Advance 500000 ∷ to_queue 3 0 ∷ to_pipe 1 0 ∷ to_pipe 2 0 ∷ to_pipe 1 0 ∷ pipe 2 8000000 10 ∷ pipe 1 1000000 0 ∷ []

-- All calls but the second, the fourth, the seventh and the eighth.
abbrev of_the_first : ℕ → Bool
of_the_first place = cond (nat_eq place 1) false (cond (nat_eq place 3) false (cond (nat_eq place 6) false (cond (nat_eq place 7) false true)))

abbrev told_the_first : List Reply
told_the_first =
    Configured ∷ Delivered 100000000 (delivery 0 0 0 8000000 ∷ delivery 1 0 8000000 16000000 ∷ delivery 2 0 16000000 24000000 ∷ [])
    ∷ Queued 500000 0 2 ∷ NoTarget 0 ∷ Queued 0 0 1 ∷ Queued 0 0 0 ∷ Configured ∷ []

alone : replies Ordered (own_of of_the_first divided) ≡ told_the_first
alone = refl

-- In all, its packets are numbered 0, 2 and 3.
in_all : own_of of_the_first (replies Ordered divided)
    ≡ Configured ∷ Delivered 100000000 (delivery 0 0 0 8000000 ∷ delivery 1 1 0 11000000 ∷ delivery 2 0 8000000 16000000 ∷ delivery 3 0 16000000 24000000 ∷ [])
    ∷ Queued 500000 0 3 ∷ NoTarget 0 ∷ Queued 0 0 2 ∷ Queued 0 0 0 ∷ Configured ∷ []
in_all = refl

among_others : map (own_reply_on (links_of in_the_first) divided) (own_of of_the_first (replies Ordered divided)) ≡ told_the_first
among_others = refl

at-most : (a b : ℕ) → nat_le a b ≡ true → a ≤ b
at-most a b h = grind (arith, nat_tests)

-- An own call comes before the clock of all passes its moment. Of another part's call nothing is asked.
soon : (a b : ℕ) → nat_le a b ≡ true → true ≡ true → a ≤ b
soon a b h own = at-most a b h

free : {P : Type 0} → false ≡ true → P
free own = absurd cc

are_divided : AreDivided in_the_first of_the_first divided
are_divided =
    ((refl, refl), soon _ _ refl, (refl, soon _ _ refl, (refl, soon _ _ refl, ((refl, tt), free, (tt, free, earlier)))))
  where
    earlier : AreDivided in_the_first of_the_first (to_queue 3 0 ∷ to_pipe 1 0 ∷ to_pipe 2 0 ∷ to_pipe 1 0 ∷ pipe 2 8000000 10 ∷ pipe 1 1000000 0 ∷ [])
    earlier = (refl, soon _ _ refl, (refl, soon _ _ refl, (refl, free, (refl, soon _ _ refl, ((refl, tt), free, ((refl, tt), soon _ _ refl, tt))))))

the_same : replies Ordered (own_of of_the_first divided) ≡ map (own_reply_on (links_of in_the_first) divided) (own_of of_the_first (replies Ordered divided))
the_same = parts-are-alone Ordered in_the_first of_the_first divided are_divided few
  where
    few : length divided ≤ call_limit
    few = at-most _ _ refl

-- What happens in the part: two arrivals, a third, three starts and a Collect, after the beginning of a busy period.
happens : trace_of (Advance 100000000 ∷ own_of of_the_first divided) ≡ part_of (links_of in_the_first) divided
happens = parts-happen-alone in_the_first of_the_first divided are_divided

eight_events : length (part_of (links_of in_the_first) divided) ≡ 8
eight_events = refl

abbrev out_of_order : List Call
out_of_order = Show ∷ Configure (DeletePipe 1) ∷ Advance 20000000 ∷ to_pipe 1 0 ∷ to_pipe 1 0 ∷ pipe 1 1000000 0 ∷ []

abbrev but_the_advance : ℕ → Bool
but_the_advance place = cond (nat_eq place 3) false true

-- Alone the second packet is discarded, and among the others it started before.
discarded_alone : replies Ordered (own_of but_the_advance out_of_order)
    ≡ Status (status 0 (key (ToPipe 1) 1 no_mask (tuple 0 0 0 0 0)) 0 0 0 0 1 1 ∷ []) ∷ Deleted ∷ Queued 0 0 1 ∷ Queued 0 0 0 ∷ Configured ∷ []
discarded_alone = refl

started_in_all : own_of but_the_advance (replies Ordered out_of_order)
    ≡ Status (status 0 (key (ToPipe 1) 1 no_mask (tuple 0 0 0 0 0)) 0 0 0 0 2 0 ∷ []) ∷ Deleted ∷ Queued 0 0 1 ∷ Queued 0 0 0 ∷ Configured ∷ []
started_in_all = refl
