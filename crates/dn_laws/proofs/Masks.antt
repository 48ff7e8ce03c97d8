-- Which packets are of one flow.
use Rattle.dn_laws.proofs.Words.{Bool, FlowsAreByMask, FlowsHaveTheirKeys, List, Option, Some, StandsAt, [], ap, cond, false, keys-apart, keys-stay, known-flow, length, map, max, nat_le}
use Rattle.dn_laws.proofs.Words.{one-place, refl, slice_get, sym, true, ℕ, ◌++◌, ◌∙◌, ◌∷◌, ◌≡◌}
use Rattle.dn_laws.proofs.LawWords.{link_of, loses, refuses, takes, verdict_by, trace_of, call_limit, effective_moment, settings, is_lost, is_full, AgreeUnder, flow_told, IsMaskedBy, kept_by}
use Rattle.dn_laws.proofs.LawWords.{Treatment, treatment, keys, keys_with, key_of, flow_number, reply, counted_reply, reply_to_verdict, settled, Link, Event, backlog, Call, Submit, Command, Pipe}
use Rattle.dn_laws.proofs.LawWords.{Queue, DeletePipe, DeleteQueue, FiveTuple, FlowKey, Mask, Packet, Exhausted, Rule, Target}

get-at : (before behind : List FlowKey) (key : FlowKey) → slice_get (before ++ key ∷ behind) (length before) ≡ Some key
get-at [] behind key = refl
get-at (x ∷ before) behind key = get-at before behind key

pub stands-get : (known : List FlowKey) (flow : ℕ) (key : FlowKey) → StandsAt known flow key → slice_get known flow ≡ Some key
stands-get known flow key at = ap (λ (ks : List FlowKey). slice_get ks flow) at.parts ∙ ap (slice_get (at.before ++ key ∷ at.behind)) (sym at.place) ∙ get-at at.before at.behind key

-- The reply to a packet names the flow of its key.
told-by : (known : List FlowKey) (target : Target) (packet : Packet) (at : ℕ) (how : Treatment) (trace : List Event) (flow : ℕ) →
    flow_told (reply_to_verdict at (verdict_by known target packet (Some how) trace) trace) ≡ Some flow → flow_number known (key_of target packet.tuple how) ≡ flow
told-by known target packet at how trace flow e = by (link_of target (flow_number known (key_of target packet.tuple how)) how.pipe) (flow_number known (key_of target packet.tuple how))
    (is_lost how.loss packet.word) (is_full how.limit (map (λ p. p.stamped.len)
    (backlog (link_of target (flow_number known (key_of target packet.tuple how)) how.pipe) (flow_number known (key_of target packet.tuple how)) trace))) e
  where
    by : (link : Link) (f : ℕ) (b c : Bool) → flow_told (reply_to_verdict at (cond b (loses link f) (cond c (refuses link f) (takes link f how))) trace) ≡ Some flow → f ≡ flow
    by link f true c e = cc
    by link f false true e = cc
    by link f false false e = cc

told : (rule : Rule) (calls : List Call) (target : Target) (packet : Packet) (moment : ℕ) (how : Treatment) (flow : ℕ) → treatment (settings calls target) ≡ Some how →
    flow_told (reply rule calls (Submit target packet moment)) ≡ Some flow → flow_number (keys calls) (key_of target packet.tuple how) ≡ flow
told rule calls target packet moment how flow is e = by (nat_le call_limit (length calls)) e
  where
    before : List Event
    before = settled (settings calls) (max (effective_moment calls) moment) (trace_of calls)

    by : (b : Bool) → flow_told (cond b Exhausted (counted_reply rule calls (Submit target packet moment))) ≡ Some flow → flow_number (keys calls) (key_of target packet.tuple how) ≡ flow
    by true e = absurd cc
    by false e = told-by (keys calls) target packet (max (effective_moment calls) moment) how before flow
        (ap (λ (o : Option Treatment). flow_told (reply_to_verdict (max (effective_moment calls) moment) (verdict_by (keys calls) target packet o before) before)) (sym is) ∙ e)

abbrev key_by : Target → ℕ → Mask → FiveTuple → FlowKey
key_by target carrier mask tuple = record { target = target; pipe = carrier; mask = mask; tuple = kept_by mask tuple }

-- The treatment by a command gives a packet's key.
keyed : (target : Target) (tuple : FiveTuple) (command : Command) (mask : Mask) (carrier : ℕ) → IsMaskedBy command mask carrier → (how : Treatment)
    × (treatment (Some command) ≡ Some how) × (key_of target tuple how ≡ key_by target carrier mask tuple)
keyed target tuple (Pipe number bw delay limit loss buckets own') mask carrier h =
    (record { pipe = number; weight = 1; mask = own'; loss = loss; limit = limit }, refl, (λ i. key_by target (sym h.1 i) (sym h.0 i) tuple))
keyed target tuple (Queue number pipe weight limit loss buckets own') mask carrier h =
    (record { pipe = pipe; weight = weight; mask = own'; loss = loss; limit = limit }, refl, (λ i. key_by target (sym h.1 i) (sym h.0 i) tuple))
keyed target tuple (DeletePipe number) mask carrier h = absurd h
keyed target tuple (DeleteQueue number) mask carrier h = absurd h

pub flows-have-their-keys : FlowsHaveTheirKeys
flows-have-their-keys rule calls target packet moment command mask carrier flow set by_mask e =
    let k = keyed target packet.tuple command mask carrier by_mask in
    let how : Treatment = k.0 in
    let is : treatment (settings calls target) ≡ Some how = ap treatment set ∙ k.1 in
    let key = key_of target packet.tuple how in
    let number = told rule calls target packet moment how flow is e in
    ap (λ (o : Option Treatment). slice_get (keys_with target packet.tuple o (keys calls)) flow) is
    ∙ ap (slice_get (keys_with target packet.tuple (Some how) (keys calls))) (sym number)
    ∙ stands-get (keys_with target packet.tuple (Some how) (keys calls)) (flow_number (keys calls) key) key (known-flow key (keys calls))
    ∙ ap (λ (x : FlowKey). Some x) k.2

stay : (between calls : List Call) (flow : ℕ) (key : FlowKey) → slice_get (keys calls) flow ≡ Some key → slice_get (keys (between ++ calls)) flow ≡ Some key
stay [] calls flow key e = e
stay (c ∷ between) calls flow key e = keys-stay (between ++ calls) c flow key (stay between calls flow key e)

pub flows-are-by-mask : FlowsAreByMask
flows-are-by-mask rule calls between target a b m n first second mask carrier f g set by_first then by_second told_a told_b = (λ agree. same agree, λ is. fields (equal is))
  where
    later : List Call
    later = Submit target b n ∷ between ++ Submit target a m ∷ calls

    key_a : slice_get (keys later) f ≡ Some (key_by target carrier mask a.tuple)
    key_a = stay (Submit target b n ∷ between) (Submit target a m ∷ calls) f (key_by target carrier mask a.tuple) (flows-have-their-keys rule calls target a m first mask carrier f set by_first told_a)

    key_b : slice_get (keys later) g ≡ Some (key_by target carrier mask b.tuple)
    key_b = flows-have-their-keys rule (between ++ Submit target a m ∷ calls) target b n second mask carrier g then by_second told_b

    same : AgreeUnder mask a.tuple b.tuple → f ≡ g
    same h =
        let tuples : kept_by mask b.tuple ≡ kept_by mask a.tuple = (λ i. record { src = sym h.0 i; dst = sym h.1 i; proto = sym h.2 i; sport = sym h.3 i; dport = sym h.4 i }) in
        one-place (keys later) f g (key_by target carrier mask a.tuple) (keys-apart later) key_a
        (key_b ∙ ap (λ (t : FiveTuple). Some (record { target = target; pipe = carrier; mask = mask; tuple = t })) tuples)

    equal : f ≡ g → key_by target carrier mask a.tuple ≡ key_by target carrier mask b.tuple
    equal is = let both : Some (key_by target carrier mask a.tuple) ≡ Some (key_by target carrier mask b.tuple) = sym key_a ∙ ap (slice_get (keys later)) is ∙ key_b in cc

    fields : key_by target carrier mask a.tuple ≡ key_by target carrier mask b.tuple → AgreeUnder mask a.tuple b.tuple
    fields e = (
      ap (λ (k : FlowKey). k.tuple.src) e,
      ap (λ (k : FlowKey). k.tuple.dst) e,
      ap (λ (k : FlowKey). k.tuple.proto) e,
      ap (λ (k : FlowKey). k.tuple.sport) e,
      ap (λ (k : FlowKey). k.tuple.dport) e,
    )
