-- The laws of fair shares over a stretch of time, by tags and in bytes, and their words.
use Rattle.std.specs.Prelude.{ℕ, ◌≡◌, ◌≤◌, ◌<◌, ◌+◌, ◌-◌, true, cond, List, [], ◌∷◌, ◌++◌, length, ◌*◌}
use Rattle.std.specs.List.{All}
use Rattle.dn_types.specs.Calls.{trace_of}
use Rattle.dn_types.specs.Trace.{Link, shared, Accepted, Start, Event, arrived, started, is_of, backlog}
use Rattle.dn_types.specs.declared.call.Call.{Call}

-- A packet of the flow waits for the link before the stretch, after each of its events, and so throughout.
abbrev pub WaitsThroughout : Link → ℕ → List Event → List Event → Type 0
WaitsThroughout link flow [] earlier = 0 < length (backlog link flow earlier)
WaitsThroughout link flow (e ∷ stretch) earlier = (0 < length (backlog link flow (e ∷ (stretch ++ earlier))))
    × WaitsThroughout link flow stretch earlier

-- What the flow got in the stretch: the costs of its packets that started, each its length over its weight.
abbrev pub share : Link → ℕ → List Event → ℕ
share link flow [] = 0
share link flow (started s ∷ stretch) =
    cond (is_of link flow s.packet) (s.packet.stamped.finish_tag - s.packet.stamped.start_tag) 0 + share link flow stretch
share link flow (_ ∷ stretch) = share link flow stretch

-- Each packet of the flow that waits before the stretch, or arrives in it, is so: and no other packet waits or starts in it.
abbrev pub EachThatWaits : (Accepted → Type 0) → Link → ℕ → List Event → List Event → Type 0
EachThatWaits IsSo link flow [] earlier = All IsSo (backlog link flow earlier)
EachThatWaits IsSo link flow (arrived p ∷ stretch) earlier = (is_of link flow p ≡ true → IsSo p) × EachThatWaits IsSo link flow stretch earlier
EachThatWaits IsSo link flow (_ ∷ stretch) earlier = EachThatWaits IsSo link flow stretch earlier

-- The packet costs at most so much.
abbrev pub CostsAtMost : ℕ → Accepted → Type 0
CostsAtMost most p = p.stamped.finish_tag ≤ p.stamped.start_tag + most

-- From a start of one flow on a shared link, and while packets of it and of another wait throughout, the other gets at most
-- what the one gets, and two of its own packets and one of the one's: by their weights they share the link alike. What cost
-- more before the stretch, or arrived after it, plays no part.
abbrev pub SharesFairly : Type 0
SharesFairly = (calls : List Call) (pipe one other most_one most_other : ℕ) (later stretch earlier : List Event) (r : Start) →
    trace_of calls ≡ later ++ (stretch ++ (started r ∷ earlier)) →
    is_of (shared pipe) one r.packet ≡ true → WaitsThroughout (shared pipe) one (stretch ++ (started r ∷ [])) earlier →
    WaitsThroughout (shared pipe) other (stretch ++ (started r ∷ [])) earlier →
    EachThatWaits (CostsAtMost most_one) (shared pipe) one (stretch ++ (started r ∷ [])) earlier →
    EachThatWaits (CostsAtMost most_other) (shared pipe) other (stretch ++ (started r ∷ [])) earlier →
    share (shared pipe) other (stretch ++ (started r ∷ [])) ≤ share (shared pipe) one (stretch ++ (started r ∷ [])) + most_other + most_other + most_one

-- The packet has the weight, and is not longer.
abbrev pub IsWeighted : ℕ → ℕ → Accepted → Type 0
IsWeighted weight longest p = (p.stamped.weight ≡ weight) × (p.stamped.len ≤ longest)

-- The bytes and the count of the flow's packets that start in the stretch.
abbrev pub bytes_sent : Link → ℕ → List Event → ℕ
bytes_sent link flow [] = 0
bytes_sent link flow (started s ∷ stretch) = cond (is_of link flow s.packet) s.packet.stamped.len 0 + bytes_sent link flow stretch
bytes_sent link flow (_ ∷ stretch) = bytes_sent link flow stretch

abbrev pub packets_sent : Link → ℕ → List Event → ℕ
packets_sent link flow [] = 0
packets_sent link flow (started s ∷ stretch) = cond (is_of link flow s.packet) 1 0 + packets_sent link flow stretch
packets_sent link flow (_ ∷ stretch) = packets_sent link flow stretch

-- From a start of one flow on a shared link, and while packets of it and of another wait throughout, the bytes of the other
-- over its weight are at most those of the one over its weight, and two longest packets of the other and one of the one over
-- their weights: here multiplied by both weights and by 65536, since each packet's cost is rounded down to 1/65536. With the
-- two flows exchanged it bounds the one by the other, from a start of the other on. Only the packets that wait or start in the
-- stretch have the weight: what a flow's weight was before, or is afterwards, plays no part.
abbrev pub SharesByWeight : Type 0
SharesByWeight = (calls : List Call) (pipe one other weight_one weight_other longest_one longest_other : ℕ) (later stretch earlier : List Event) (r : Start) →
    trace_of calls ≡ later ++ (stretch ++ (started r ∷ earlier)) → is_of (shared pipe) one r.packet ≡ true →
    WaitsThroughout (shared pipe) one (stretch ++ (started r ∷ [])) earlier →
    WaitsThroughout (shared pipe) other (stretch ++ (started r ∷ [])) earlier →
    0 < weight_one → EachThatWaits (IsWeighted weight_one longest_one) (shared pipe) one (stretch ++ (started r ∷ [])) earlier →
    0 < weight_other → EachThatWaits (IsWeighted weight_other longest_other) (shared pipe) other (stretch ++ (started r ∷ [])) earlier →
    bytes_sent (shared pipe) other (stretch ++ (started r ∷ [])) * weight_one * 65536
    ≤ (bytes_sent (shared pipe) one (stretch ++ (started r ∷ [])) * weight_other + 2 * longest_other * weight_one + longest_one * weight_other) * 65536
    + packets_sent (shared pipe) other (stretch ++ (started r ∷ [])) * weight_one * weight_other
