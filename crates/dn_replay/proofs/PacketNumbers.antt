-- The numbers of the packets of a run: a packet's is the count of those accepted before it, and each call accepts one or none.
use Rattle.dn_replay.proofs.Words.{Bool, Call, Command, Configure, Deleted, Event, Exhausted, FlowKey, List, Ordered, Packet, Queued, Reply, Settings, Submit, Target, Verdict, [], accept}
use Rattle.dn_replay.proofs.Words.{accepted_count, after_command, after_verdict, ap, arith, call_limit, cond, counted_reply, discard_reached, discarded, effective_moment, false, fate_of, free}
use Rattle.dn_replay.proofs.Words.{is_accepted, keys, length, loses, lost, max, nat_eq, nat_le, nat_tests, no_target, opened-count, opening, reaches, refl, refused, refuses, reply}
use Rattle.dn_replay.proofs.Words.{reply_to_command, reply_to_verdict, settings, settled, takes, trace_of, true, verdict, waiting, ℕ, ◌&&◌, ◌+◌, ◌<◌, ◌∙◌, ◌∷◌, ◌≡◌}
use Rattle.dn_replay.proofs.Accepting.{counts, joined, other-event, settled-accepts}

discards : (command : Command) (flow : ℕ) (known : List FlowKey) (trace : List Event) → accepted_count (discard_reached command flow known trace) ≡ accepted_count trace
discards command flow [] trace = refl
discards command flow (key ∷ known) trace = discards command (flow + 1) known (cond (reaches command key) (discarded flow ∷ trace) trace) ∙ one (reaches command key)
  where
    one : (b : Bool) → accepted_count (cond b (discarded flow ∷ trace) trace) ≡ accepted_count trace
    one true = other-event (discarded flow) trace refl
    one false = refl

-- A command accepts none.
command-accepts : (r : Reply) (command : Command) (known : List FlowKey) (trace : List Event) → accepted_count (after_command r command known trace) ≡ accepted_count trace
command-accepts Deleted command known trace = discards command 0 known trace
command-accepts _ command known trace = refl

pub configured-accepts : (calls : List Call) (command : Command) → accepted_count (trace_of (Configure command ∷ calls)) ≡ accepted_count (trace_of calls)
configured-accepts calls command = command-accepts (reply_to_command calls command) command (keys calls) (trace_of calls)

-- A Submit accepts one where its packet is.
pub verdict-accepts : (set : Settings) (at : ℕ) (packet : Packet) (v : Verdict) (trace : List Event)
    → accepted_count (after_verdict set at packet v trace) ≡ accepted_count trace + cond (is_accepted (fate_of (reply_to_verdict at v trace))) 1 0
verdict-accepts set at packet no_target trace = omega arith
verdict-accepts set at packet (loses link flow) trace = let same = other-event (lost link flow) trace refl in omega (arith, same)
verdict-accepts set at packet (refuses link flow) trace = let same = other-event (refused link flow) trace refl in omega (arith, same)
verdict-accepts set at packet (takes link flow how) trace =
    let before = opening link at trace in
    let same = opened-count (nat_eq (waiting link trace) 0 && nat_le (free link trace) at) link trace in
    let one = joined set at (accept link packet flow how before) before in
    omega (arith, same, one)

pub submitted-accepts : (calls : List Call) (target : Target) (packet : Packet) (moment : ℕ) → length calls < call_limit
    → accepted_count (trace_of (Submit target packet moment ∷ calls)) ≡ accepted_count (trace_of calls) + cond (is_accepted (fate_of (reply Ordered calls (Submit target packet moment)))) 1 0
submitted-accepts calls target packet moment few =
    let at = max (effective_moment calls) moment in
    let before = settled (settings calls) at (trace_of calls) in
    let more = verdict-accepts (settings calls) at packet (verdict calls target packet before) before in
    rw (counts calls (Submit target packet moment) few)
    (more ∙ ap (λ (n : ℕ). n + cond (is_accepted (fate_of (reply_to_verdict at (verdict calls target packet before) before))) 1 0)
    (settled-accepts (settings calls) at (trace_of calls)))

numbered : (at : ℕ) (v : Verdict) (trace : List Event) (at' flow number : ℕ) → reply_to_verdict at v trace ≡ Queued at' flow number → number ≡ accepted_count trace
numbered at (takes l f how) trace at' flow number e = cc
numbered at _ trace at' flow number e = absurd cc

-- A packet's number is the count of those accepted before it, and its call counts.
pub number-is : (calls : List Call) (target : Target) (packet : Packet) (moment at flow number : ℕ) → reply Ordered calls (Submit target packet moment) ≡ Queued at flow number
    → (length calls < call_limit) × (number ≡ accepted_count (trace_of calls))
number-is calls target packet moment at flow number e = by (nat_le call_limit (length calls)) refl e
  where
    clock : ℕ
    clock = max (effective_moment calls) moment

    by : (b : Bool) → nat_le call_limit (length calls) ≡ b → cond b Exhausted (counted_reply Ordered calls (Submit target packet moment)) ≡ Queued at flow number
        → (length calls < call_limit) × (number ≡ accepted_count (trace_of calls))
    by true is e = absurd cc
    by false is e =
        let before = settled (settings calls) (max (effective_moment calls) moment) (trace_of calls) in
        let n = numbered (max (effective_moment calls) moment) (verdict calls target packet before) before at flow number e in
        (grind (arith, nat_tests), n ∙ settled-accepts (settings calls) (max (effective_moment calls) moment) (trace_of calls))
