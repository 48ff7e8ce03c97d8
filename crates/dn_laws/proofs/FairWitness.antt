-- The premises of the law of fair shares are met: two queues of one weight, each with four packets of 1,000 bytes.
use Rattle.dn_laws.proofs.Words.{All, All-cons, All-nil, CostsAtMost, IsWeighted, List, None, [], filter, leb-true, ltb-true, max, nat_eq, no_mask, packet, refl, share, ℕ, ⊤, ◌*◌, ◌+◌, ◌∷◌, ◌≡◌}
use Rattle.dn_laws.proofs.Words.{◌≤◌}
use Rattle.dn_laws.proofs.LawWords.{trace_of, link_heads, virtual_time, shared, Accepted, Start, started, backlog, Call, Configure, Submit, Advance, Pipe, Queue, Slots, ToQueue}
use Rattle.dn_laws.proofs.{ByWeight.shares-by-weight, Fair.shares-fairly, Heads.heads-are-first, Shares.pick-is-fair, Shares.pick-is-least, Shares.raises-to-the-least}
use Rattle.dn_types.proofs.ExampleWords.{tuple}

abbrev weighted : ℕ → Call
weighted weight = Configure (Queue 1 1 weight (Slots 50) 0 None no_mask)

abbrev to : ℕ → Call
to queue = Submit (ToQueue queue) (packet (tuple 0 0 0 0 0) 1000 0) 0

-- The first packet went by the weight 5, which is replaced before the others.
abbrev older : List Call
older = to 2 ∷ to 2 ∷ to 2 ∷ to 2 ∷ to 1 ∷ to 1 ∷ to 1 ∷ weighted 1 ∷ to 1 ∷ weighted 5 ∷ Configure (Queue 2 1 1 (Slots 50) 0 None no_mask) ∷
    Configure (Pipe 1 8000000 0 (Slots 50) 0 None no_mask) ∷ []

abbrev first : Start
first = record {
  packet = record { packet = 1; link = shared 1; stamped = record { flow = 0; len = 1000; weight = 1; start_tag = 13107200; finish_tag = 78643200 } };
  moment = 1000000;
  transmission = 1000000;
  delay = 0;
}

abbrev second : Start
second = record {
  packet = record { packet = 4; link = shared 1; stamped = record { flow = 1; len = 1000; weight = 1; start_tag = 13107200; finish_tag = 78643200 } };
  moment = 2000000;
  transmission = 1000000;
  delay = 0;
}

abbrev Each : (Accepted → Type 0) → List Accepted → Type 0
Each IsSo [] = ⊤
Each IsSo (p ∷ q) = IsSo p × Each IsSo q

each : (IsSo : Accepted → Type 0) (q : List Accepted) → Each IsSo q → All IsSo q
each IsSo [] h = All-nil IsSo
each IsSo (p ∷ q) h = All-cons IsSo p q h.0 (each IsSo q h.1)

-- After the starts at 1 ms and 2 ms, one of each flow. Three and four packets wait.
met : share (shared 1) 1 (started second ∷ started first ∷ []) ≤ share (shared 1) 0 (started second ∷ started first ∷ []) + 65536000 + 65536000 + 65536000
met = shares-fairly (Advance 2000000 ∷ older) 1 0 1 65536000 65536000 [] (started second ∷ []) (trace_of older) first refl refl
    (ltb-true 0 _ refl, (ltb-true 0 _ refl, ltb-true 0 _ refl)) (ltb-true 0 _ refl, (ltb-true 0 _ refl, ltb-true 0 _ refl))
    (each (CostsAtMost 65536000) (backlog (shared 1) 0 (trace_of older)) (leb-true _ _ refl, (leb-true _ _ refl, (leb-true _ _ refl, tt))))
    (each (CostsAtMost 65536000) (backlog (shared 1) 1 (trace_of older)) (leb-true _ _ refl, (leb-true _ _ refl, (leb-true _ _ refl, (leb-true _ _ refl, tt)))))

-- In bytes: 1,000 of each, and the bound is 4,000 and a packet's rounding.
met_in_bytes : 1000 * 1 * 65536 ≤ (1000 * 1 + 2 * 1000 * 1 + 1000 * 1) * 65536 + 1 * 1 * 1
met_in_bytes = shares-by-weight (Advance 2000000 ∷ older) 1 0 1 1 1 1000 1000 [] (started second ∷ []) (trace_of older) first refl refl
    (ltb-true 0 _ refl, (ltb-true 0 _ refl, ltb-true 0 _ refl)) (ltb-true 0 _ refl, (ltb-true 0 _ refl, ltb-true 0 _ refl))
    (ltb-true 0 1 refl)
    (each (IsWeighted 1 1000) (backlog (shared 1) 0 (trace_of older)) ((refl, leb-true _ _ refl), ((refl, leb-true _ _ refl), ((refl, leb-true _ _ refl), tt))))
    (ltb-true 0 1 refl)
    (each (IsWeighted 1 1000) (backlog (shared 1) 1 (trace_of older)) ((refl, leb-true _ _ refl), ((refl, leb-true _ _ refl), ((refl, leb-true _ _ refl), ((refl, leb-true _ _ refl), tt)))))

-- At 1 ms each flow has one head.
one_head : filter (λ h. nat_eq h.flow 1) (link_heads (shared 1) (trace_of older)) ≡ second.packet.stamped ∷ []
one_head = heads-are-first (shared 1) 1 (trace_of older)

-- At 1 ms the first packets of both flows have the same finish tag, and that of the lesser flow number starts.
lesser_flow : 0 ≤ 1
lesser_flow =
    (pick-is-least (virtual_time (shared 1) (trace_of older)) (link_heads (shared 1) (trace_of older)) first.packet.stamped refl 1 second.packet.stamped (ltb-true _ _ refl) (leb-true _ _ refl)).1 refl

-- The pick among heads that are there: the first packet alone.
its_own_finish : All (λ x. first.packet.stamped.start_tag ≤ x.finish_tag) (first.packet.stamped ∷ [])
its_own_finish = pick-is-fair 13107200 (first.packet.stamped ∷ []) first.packet.stamped refl
    (All-cons (λ x. x.start_tag ≤ x.finish_tag) first.packet.stamped [] (leb-true _ _ refl) (All-nil (λ x. x.start_tag ≤ x.finish_tag)))

raised_to_it : (0 ≤ 13107200) × All (λ h. 13107200 ≤ max 0 h.start_tag) (first.packet.stamped ∷ [])
raised_to_it = raises-to-the-least 0 (first.packet.stamped ∷ [])
