-- Where other links carry no packet, each call gets the part of its reply.
use Rattle.dn_laws.proofs.Words.{Bool, IsProper, List, None, Option, Some, [], ap, arith, call_on, cond, count-event, count_by, event_by, false, filter, is_event_on, is_some, length, map, max}
use Rattle.dn_laws.proofs.Words.{nat_eq, nat_le, refl, settled-proper, status_by, suc, sum, sym, trace-proper, true, ℕ, ⊤, ◌+◌, ◌∙◌, ◌∷◌, ◌≡◌}
use Rattle.dn_laws.proofs.LawWords.{link_of, Verdict, no_target, loses, refuses, takes, verdict_by, trace_of, effective_moment, call_limit, Settings, settings, queue_numbers, has_queues}
use Rattle.dn_laws.proofs.LawWords.{command_reply, given, is_lost, is_full, Treatment, treatment, key_of, keys, flow_number, Choice, is_carried, calls_on, place, is_flow_on, is_link_on, is_packet_on}
use Rattle.dn_laws.proofs.LawWords.{part, status_of, statuses_from, reply_to_verdict, counted_reply, reply, replies, reply_by, reply_on, settled, Link, Accepted, Start, Event, opened, arrived}
use Rattle.dn_laws.proofs.LawWords.{started, lost, refused, discarded, collected, backlog, is_loss_of, is_refusal_of, is_start_of, discarded_count, accepted_count, Call, Configure, Submit, Advance}
use Rattle.dn_laws.proofs.LawWords.{Collect, Show, Command, Pipe, Queue, DeletePipe, DeleteQueue, FlowKey, FlowStatus, Packet, Reply, Configured, NoSuchPipe, Deleted, PipeHasQueues, NoSuchQueue}
use Rattle.dn_laws.proofs.LawWords.{Advanced, Delivered, Status, Exhausted, Rule, Target, ToPipe, ToQueue}
use Rattle.dn_types.specs.declared.reply.Reply.TheVariants.{Queued as ReplyQueued}
use Rattle.dn_types.specs.declared.reply.Reply.TheVariants.{Lost as ReplyLost, Full as ReplyFull}
use Rattle.dn_laws.proofs.PartCalls.{is-on, keys-of, IsKeyed, AreTaken, IsVerdictFit, IsAt, IsKeyedFrom, queues-on, settings-on, moment-on, length-on, keys-on, keyed-before, keyed-from, keyed-all}
use Rattle.dn_laws.proofs.PartCalls.{flow-of, taken-before, taken-settled, all-taken, count-on, verdict-on, verdict-fit, verdict-at, verdict-part, link-fit, link-is, trace-fit, settled-on, calls-part}
use Rattle.dn_laws.proofs.PartGiven.{given-part}
use Rattle.dn_laws.proofs.PartStarts.{settled-fit}
use Rattle.dn_laws.proofs.Parts.{IsFit, AreFit, link', accepted', apart-flow, backlog-part}
use Rattle.dn_laws.proofs.Places.{place-eq, place-more, place-same}

module _ (chosen : Choice) (mine taken : ℕ → Bool) where
  abbrev part-on : List Event → List Event
  part-on t = part chosen mine taken t

  abbrev event-on : Event → Event
  event-on e = event_by (place mine) (place taken) e

  abbrev AreFitHere : List Event → Type 0
  AreFitHere t = AreFit chosen mine taken t

  module _ (P Q : Event → Bool) where
    -- An event counts in the part where it counts at all.
    abbrev Counts : Event → Type 0
    Counts e = (is_event_on chosen mine e ≡ true → Q (event-on e) ≡ P e) × (is_event_on chosen mine e ≡ false → P e ≡ false)

    count-one : (e : Event) (t : List Event) → Counts e → count_by Q (part-on t) ≡ count_by P t → count_by Q (part-on (e ∷ t)) ≡ count_by P (e ∷ t)
    count-one e t h rest = by (is_event_on chosen mine e) refl
      where
        by : (b : Bool) → is_event_on chosen mine e ≡ b → count_by Q (cond b (event-on e ∷ part-on t) (part-on t)) ≡ count_by P (e ∷ t)
        by true is =
            let new = count-event Q (event-on e) (part-on t) in
            let same : cond {A = ℕ} (Q (event-on e)) 1 0 ≡ cond (P e) 1 0 = ap {B = ℕ} (λ b. cond b 1 0) (h.0 is) in
            omega (arith, new, count-event P e t, same, rest)
        by false is =
            let none : cond {A = ℕ} (P e) 1 0 ≡ 0 = ap {B = ℕ} (λ b. cond b 1 0) (h.1 is) in
            omega (arith, count-event P e t, none, rest)

    count-part : ((l : Link) → Counts (opened l)) → ((q : Accepted) → Counts (arrived q)) → ((s : Start) → IsFit chosen mine taken s.packet.link s.packet.stamped.flow → Counts (started s)) →
        ((l : Link) (g : ℕ) → IsFit chosen mine taken l g → Counts (lost l g)) → ((l : Link) (g : ℕ) → IsFit chosen mine taken l g → Counts (refused l g))
        → ((g : ℕ) → Counts (discarded g)) → ((at : ℕ) → Counts (collected at)) →
        (t : List Event) → AreFitHere t → count_by Q (part-on t) ≡ count_by P t
    count-part o a s l r d c [] h = refl
    count-part o a s l r d c (opened k ∷ t) h = count-one (opened k) t (o k) (count-part o a s l r d c t h)
    count-part o a s l r d c (arrived q ∷ t) h = count-one (arrived q) t (a q) (count-part o a s l r d c t h.1)
    count-part o a s l r d c (started x ∷ t) h = count-one (started x) t (s x h.0) (count-part o a s l r d c t h.1)
    count-part o a s l r d c (lost k g ∷ t) h = count-one (lost k g) t (l k g h.0) (count-part o a s l r d c t h.1)
    count-part o a s l r d c (refused k g ∷ t) h = count-one (refused k g) t (r k g h.0) (count-part o a s l r d c t h.1)
    count-part o a s l r d c (discarded g ∷ t) h = count-one (discarded g) t (d g) (count-part o a s l r d c t h)
    count-part o a s l r d c (collected m ∷ t) h = count-one (collected m) t (c m) (count-part o a s l r d c t h)

  module _ (f : ℕ) (hf : mine f ≡ true) where
    told : (l : Link) (g : ℕ) → IsFit chosen mine taken l g
        → (is_link_on chosen mine l ≡ true → nat_eq (place mine g) (place mine f) ≡ nat_eq g f) × (is_link_on chosen mine l ≡ false → nat_eq g f ≡ false)
    told l g h = (λ on. place-eq mine g f (h ∙ on) hf, λ off. apart-flow chosen mine taken g f (h ∙ off) hf)

    losses-part : (t : List Event) → AreFitHere t → count_by (is_loss_of (place mine f)) (part-on t) ≡ count_by (is_loss_of f) t
    losses-part t h = count-part (is_loss_of f) (is_loss_of (place mine f)) (λ l. (λ e. refl, λ e. refl))
        (λ q. (λ e. refl, λ e. refl)) (λ s fit. (λ e. refl, λ e. refl)) (λ l g fit. told l g fit) (λ l g fit. (λ e. refl, λ e. refl))
        (λ g. (λ e. refl, λ e. refl)) (λ m. (λ e. refl, λ e. refl)) t h

    refusals-part : (t : List Event) → AreFitHere t → count_by (is_refusal_of (place mine f)) (part-on t) ≡ count_by (is_refusal_of f) t
    refusals-part t h = count-part (is_refusal_of f) (is_refusal_of (place mine f)) (λ l. (λ e. refl, λ e. refl))
        (λ q. (λ e. refl, λ e. refl)) (λ s fit. (λ e. refl, λ e. refl)) (λ l g fit. (λ e. refl, λ e. refl)) (λ l g fit. told l g fit)
        (λ g. (λ e. refl, λ e. refl)) (λ m. (λ e. refl, λ e. refl)) t h

    starts-part : (t : List Event) → AreFitHere t → count_by (is_start_of (place mine f)) (part-on t) ≡ count_by (is_start_of f) t
    starts-part t h = count-part (is_start_of f) (is_start_of (place mine f)) (λ l. (λ e. refl, λ e. refl)) (λ q. (λ e. refl, λ e. refl))
        (λ s fit. told s.packet.link s.packet.stamped.flow fit) (λ l g fit. (λ e. refl, λ e. refl)) (λ l g fit. (λ e. refl, λ e. refl))
        (λ g. (λ e. refl, λ e. refl)) (λ m. (λ e. refl, λ e. refl)) t h

    skip-count : (l : Link) (b : Bool) (e : Event) (u : List Event) → discarded_count l (place mine f) (e ∷ u) ≡ discarded_count l (place mine f) u
        → discarded_count l (place mine f) (cond b (e ∷ u) u) ≡ discarded_count l (place mine f) u
    skip-count l true e u h = h
    skip-count l false e u h = refl

    module _ (l : Link) (on : is_link_on chosen mine l ≡ true) where
      abbrev linked : Link
      linked = link' chosen mine taken l

      waiting-lengths : (t : List Event) → AreFitHere t → length (backlog linked (place mine f) (part-on t)) ≡ length (backlog l f t)
      waiting-lengths t h = ap (λ (ps : List Accepted). length ps) (backlog-part chosen mine taken l on f hf t h) ∙ lengths (backlog l f t)
        where
          lengths : (ps : List Accepted) → length (map (accepted' chosen mine taken) ps) ≡ length ps
          lengths [] = refl
          lengths (p ∷ ps) = ap {A = ℕ} suc (lengths ps)

      discards-one : (g : ℕ) (t : List Event) → AreFitHere t → discarded_count linked (place mine f) (part-on t) ≡ discarded_count l f t →
          discarded_count linked (place mine f) (part-on (discarded g ∷ t)) ≡ discarded_count l f (discarded g ∷ t)
      discards-one g t h rest = by (mine g) refl
        where
          by : (b : Bool) → mine g ≡ b → discarded_count linked (place mine f) (cond b (discarded (place mine g) ∷ part-on t) (part-on t))
              ≡ cond (nat_eq g f) (length (backlog l f t)) 0 + discarded_count l f t
          by true e =
              let lens = waiting-lengths t h in
              λ i. cond (place-eq mine g f e hf i) (lens i) 0 + rest i
          by false e =
              let none : cond {A = ℕ} (nat_eq g f) (length (backlog l f t)) 0 ≡ 0 = ap {B = ℕ} (λ b. cond b (length (backlog l f t)) 0) (apart-flow chosen mine taken g f e hf) in
              omega (arith, rest, none)

      discards-part : (t : List Event) → AreFitHere t → discarded_count linked (place mine f) (part-on t) ≡ discarded_count l f t
      discards-part [] h = refl
      discards-part (opened k ∷ t) h = skip-count linked (is_link_on chosen mine k) (event-on (opened k)) (part-on t) refl ∙ discards-part t h
      discards-part (arrived q ∷ t) h = skip-count linked (is_link_on chosen mine q.link) (event-on (arrived q)) (part-on t) refl ∙ discards-part t h.1
      discards-part (started s ∷ t) h = skip-count linked (is_link_on chosen mine s.packet.link) (event-on (started s)) (part-on t) refl ∙ discards-part t h.1
      discards-part (lost k g ∷ t) h = skip-count linked (is_link_on chosen mine k) (event-on (lost k g)) (part-on t) refl ∙ discards-part t h.1
      discards-part (refused k g ∷ t) h = skip-count linked (is_link_on chosen mine k) (event-on (refused k g)) (part-on t) refl ∙ discards-part t h.1
      discards-part (discarded g ∷ t) h = discards-one g t h (discards-part t h)
      discards-part (collected m ∷ t) h = discards-part t h

  status-part : (f : ℕ) (key : FlowKey) (t : List Event) → mine f ≡ is-on chosen key → is-on chosen key ≡ true
      → AreFitHere t → status_of (place mine f) key (part-on t) ≡ status_by (place mine) (status_of f key t)
  status-part f key t is on h =
      let l = link_of key.target f key.pipe in
      let hf : mine f ≡ true = is ∙ on in
      let fit = link-fit chosen mine taken key f is in
      let there : is_link_on chosen mine (link_of key.target f key.pipe) ≡ true = sym fit ∙ hf in
      let moved = link-is chosen mine taken key.target f key.pipe in
      let lens = ap (λ (m : Link). map (λ p. p.stamped.len) (backlog m (place mine f) (part-on t))) moved
      ∙ ap (λ (ps : List Accepted). map (λ p. p.stamped.len) ps) (backlog-part chosen mine taken (link_of key.target f key.pipe) there f hf t h)
      ∙ lengths (backlog (link_of key.target f key.pipe) f t) in
      let gone = ap (λ (m : Link). discarded_count m (place mine f) (part-on t)) moved ∙ discards-part f hf (link_of key.target f key.pipe) there t h in
      let lo = losses-part f hf t h in
      let re = refusals-part f hf t h in
      let st = starts-part f hf t h in
      λ i. record { flow = place mine f; key = key; queued = length (lens i); bytes = sum (lens i); lost = lo i; full = re i; started = st i; discarded = gone i }
    where
      lengths : (ps : List Accepted) → map (λ p. p.stamped.len) (map (accepted' chosen mine taken) ps) ≡ map (λ p. p.stamped.len) ps
      lengths [] = refl
      lengths (p ∷ ps) = ap (λ (ls : List ℕ). p.stamped.len ∷ ls) (lengths ps)

  abbrev statuses-on : List FlowStatus → List FlowStatus
  statuses-on ss = map (status_by (place mine)) (filter (λ s. mine s.flow) ss)

  statuses-part : (from : ℕ) (known : List FlowKey) (t : List Event) → IsKeyedFrom chosen mine taken from known → AreFitHere t
      → statuses_from (place mine from) (keys-of chosen known) (part-on t) ≡ statuses-on (statuses_from from known t)
  statuses-part from [] t k h = refl
  statuses-part from (key ∷ known) t k h = by (is-on chosen key) refl (statuses-part (from + 1) known t k.1 h)
      ∙ sym (ap (λ b. map (status_by (place mine)) (cond b (status_of from key t ∷ filter (λ s. mine s.flow) (statuses_from (from + 1) known t))
      (filter (λ s. mine s.flow) (statuses_from (from + 1) known t)))) k.0)
    where
      next : from + 1 ≡ suc from
      next = omega arith

      by : (b : Bool) → is-on chosen key ≡ b → statuses_from (place mine (from + 1)) (keys-of chosen known) (part-on t) ≡ statuses-on (statuses_from (from + 1) known t) →
          statuses_from (place mine from) (cond b (key ∷ keys-of chosen known) (keys-of chosen known)) (part-on t) ≡
          map (status_by (place mine)) (cond (is-on chosen key) (status_of from key t ∷ filter (λ s. mine s.flow) (statuses_from (from + 1) known t))
          (filter (λ s. mine s.flow) (statuses_from (from + 1) known t)))
      by true e rest =
          let more : place mine from + 1 ≡ place mine (from + 1) = let two = place-more mine from (k.0 ∙ e) in omega (arith, ap (place mine) next, two) in
          (λ i. status-part from key t k.0 e h i ∷ statuses_from (more i) (keys-of chosen known) (part-on t))
          ∙ ap (λ (ss : List FlowStatus). status_by (place mine) (status_of from key t) ∷ ss) rest
          ∙ sym (ap (λ b. map (status_by (place mine)) (cond b (status_of from key t ∷ filter (λ s. mine s.flow) (statuses_from (from + 1) known t))
          (filter (λ s. mine s.flow) (statuses_from (from + 1) known t)))) e)
      by false e rest =
          let same : place mine from ≡ place mine (from + 1) = sym (ap (place mine) next ∙ place-same mine from (k.0 ∙ e)) in
          ap (λ n. statuses_from n (keys-of chosen known) (part-on t)) same ∙ rest
          ∙ sym (ap (λ b. map (status_by (place mine)) (cond b (status_of from key t ∷ filter (λ s. mine s.flow) (statuses_from (from + 1) known t))
          (filter (λ s. mine s.flow) (statuses_from (from + 1) known t)))) e)

  abbrev reply-part-of : Reply → Reply
  reply-part-of r = reply_by mine taken r

  plain : (set : Settings) (queues : List ℕ) (command : Command) → command_reply set queues command ≡ reply-part-of (command_reply set queues command)
  plain set queues (Pipe number bw delay limit loss buckets mask) = refl
  plain set queues (Queue number carrier weight limit loss buckets mask) = by (is_some (set (ToPipe carrier)))
    where
      by : (b : Bool) → cond b Configured NoSuchPipe ≡ reply-part-of (cond b Configured NoSuchPipe)
      by true = refl
      by false = refl
  plain set queues (DeletePipe number) = by (is_some (set (ToPipe number))) (has_queues set queues number)
    where
      by : (b c : Bool) → cond b (cond c PipeHasQueues Deleted) NoSuchPipe ≡ reply-part-of (cond b (cond c PipeHasQueues Deleted) NoSuchPipe)
      by true true = refl
      by true false = refl
      by false c = refl
  plain set queues (DeleteQueue number) = by (is_some (set (ToQueue number)))
    where
      by : (b : Bool) → cond b Deleted NoSuchQueue ≡ reply-part-of (cond b Deleted NoSuchQueue)
      by true = refl
      by false = refl

  -- A packet with a target is answered with its flow.
  abbrev pub HasTarget : Verdict → Type 0
  HasTarget no_target = ⊥
  HasTarget _ = ⊤

  pub has-target : (known : List FlowKey) (target : Target) (packet : Packet) (o : Option Treatment) (t : List Event)
      → is_carried chosen target packet.tuple o ≡ true → HasTarget (verdict_by known target packet o t)
  has-target known target packet None t e = absurd cc
  has-target known target packet (Some how) t e =
      let flow = flow_number known (key_of target packet.tuple how) in
      let link = link_of target flow how.pipe in
      by link flow (is_lost how.loss packet.word) (is_full how.limit (map (λ p. p.stamped.len) (backlog link flow t)))
    where
      by : (l : Link) (f : ℕ) (b c : Bool) → HasTarget (cond b (loses l f) (cond c (refuses l f) (takes l f how)))
      by l f true c = tt
      by l f false true = tt
      by l f false false = tt

  told-on : (at : ℕ) (v : Verdict) (t : List Event) → HasTarget v → IsVerdictFit chosen mine taken v → IsAt chosen mine taken true v → IsProper t → AreTaken chosen mine taken t →
      reply_to_verdict at (verdict-on chosen mine taken v) (part-on t) ≡ reply-part-of (reply_to_verdict at v t)
  told-on at no_target t there fit on proper all = absurd there
  told-on at (loses l f) t there fit on proper all = sym (ap (λ b. cond b (ReplyLost at (place mine f)) (Advanced at)) (fit ∙ on))
  told-on at (refuses l f) t there fit on proper all = sym (ap (λ b. cond b (ReplyFull at (place mine f)) (Advanced at)) (fit ∙ on))
  told-on at (takes l f how) t there fit on proper all =
      ap (λ n. ReplyQueued at (place mine f) n) (count-on chosen mine taken t proper all)
      ∙ sym (ap (λ b. cond b (ReplyQueued at (place mine f) (place taken (accepted_count t))) (Advanced at)) (fit ∙ on))

  told-off : (at : ℕ) (v : Verdict) (t : List Event) → IsVerdictFit chosen mine taken v → IsAt chosen mine taken false v → Advanced at ≡ reply-part-of (reply_to_verdict at v t)
  told-off at no_target t fit off = refl
  told-off at (loses l f) t fit off = sym (ap (λ b. cond b (ReplyLost at (place mine f)) (Advanced at)) (fit ∙ off))
  told-off at (refuses l f) t fit off = sym (ap (λ b. cond b (ReplyFull at (place mine f)) (Advanced at)) (fit ∙ off))
  told-off at (takes l f how) t fit off = sym (ap (λ b. cond b (ReplyQueued at (place mine f) (place taken (accepted_count t))) (Advanced at)) (fit ∙ off))

  module _ (rule : Rule) (calls : List Call) (all : AreTaken chosen mine taken (trace_of calls)) where
    abbrev less : List Call
    less = calls_on chosen calls

    submit-reply : (target : Target) (packet : Packet) (moment : ℕ) → IsKeyed chosen mine (keys (Submit target packet moment ∷ calls))
        → (b : Bool) → is_carried chosen target packet.tuple (treatment (settings calls target)) ≡ b →
        counted_reply rule (calls_on chosen calls) (cond b (Submit target packet moment) (Advance moment)) ≡ reply-part-of (counted_reply rule calls (Submit target packet moment))
    submit-reply target packet moment k true on =
        let keyed = keyed-before chosen mine calls (Submit target packet moment) k in
        let at = max (effective_moment calls) moment in
        let before = settled (settings calls) at (trace_of calls) in
        let o = treatment (settings calls target) in
        let flow = flow-of chosen mine (keys calls) target packet o k in
        let fit = settled-fit chosen mine taken (settings calls) at (trace_of calls) (trace-fit chosen mine taken calls keyed) in
        let b = settled-on chosen mine taken calls moment keyed (calls-part chosen mine taken calls keyed all) in
        (λ i. reply_to_verdict (max (moment-on chosen calls i) moment) (verdict_by (keys-on chosen calls i) target packet (treatment (settings-on chosen calls i target)) (b i)) (b i))
        ∙ ap (λ (w : Verdict). reply_to_verdict at w (part-on before)) (verdict-part chosen mine taken (keys calls) target packet o before keyed flow on fit)
        ∙ told-on at (verdict_by (keys calls) target packet o before) before (has-target (keys calls) target packet o before on)
        (verdict-fit chosen mine taken (keys calls) target packet o before flow)
        (verdict-at chosen mine taken (keys calls) target packet o before true flow on)
        (settled-proper (settings calls) at (trace_of calls) (trace-proper calls)) (taken-settled chosen mine taken (settings calls) at (trace_of calls) all)
    submit-reply target packet moment k false off =
        let at = max (effective_moment calls) moment in
        let before = settled (settings calls) at (trace_of calls) in
        let o = treatment (settings calls target) in
        let flow = flow-of chosen mine (keys calls) target packet o k in
        ap {A = ℕ} (λ n. Advanced (max n moment)) (moment-on chosen calls)
        ∙ told-off at (verdict_by (keys calls) target packet o before) before (verdict-fit chosen mine taken (keys calls) target packet o before flow)
        (verdict-at chosen mine taken (keys calls) target packet o before false flow off)

    pub counted-reply : (c : Call) → IsKeyed chosen mine (keys (c ∷ calls)) → counted_reply rule (calls_on chosen calls) (call_on chosen calls c) ≡ reply-part-of (counted_reply rule calls c)
    counted-reply (Configure command) k =
        let q = queues-on chosen calls in
        (λ i. command_reply (settings-on chosen calls i) (q i) command) ∙ plain (settings calls) (queue_numbers calls) command
    counted-reply (Submit target packet moment) k = submit-reply target packet moment k (is_carried chosen target packet.tuple (treatment (settings calls target))) refl
    counted-reply (Advance moment) k = ap {A = ℕ} (λ n. Advanced (max n moment)) (moment-on chosen calls)
    counted-reply (Collect moment) k =
        let at = max (effective_moment calls) moment in
        let m = moment-on chosen calls in
        let b = settled-on chosen mine taken calls moment k (calls-part chosen mine taken calls k all) in
        let fit = settled-fit chosen mine taken (settings calls) at (trace_of calls) (trace-fit chosen mine taken calls k) in
        (λ i. Delivered (max (m i) moment) (given rule (max (m i) moment) (b i)))
        ∙ ap (Delivered at) (given-part chosen mine taken rule at (settled (settings calls) at (trace_of calls)) fit
        (settled-proper (settings calls) at (trace_of calls) (trace-proper calls)) (taken-settled chosen mine taken (settings calls) at (trace_of calls) all))
    counted-reply Show k =
        let same = calls-part chosen mine taken calls k all in
        let ks = keys-on chosen calls in
        (λ i. Status (statuses_from 0 (ks i) (same i)))
        ∙ ap Status (statuses-part 0 (keys calls) (trace_of calls) (keyed-from chosen mine taken 0 (keys calls)
        (λ f key e. let zero-on : 0 + f ≡ f = omega arith in ap mine zero-on ∙ k f key e)) (trace-fit chosen mine taken calls k))

    reply-part : (c : Call) → IsKeyed chosen mine (keys (c ∷ calls)) → reply rule (calls_on chosen calls) (call_on chosen calls c) ≡ reply-part-of (reply rule calls c)
    reply-part c k =
        (λ i. cond (nat_le call_limit (length-on chosen calls i)) Exhausted (counted-reply c k i)) ∙ either (nat_le call_limit (length calls))
      where
        either : (b : Bool) → cond b Exhausted (reply-part-of (counted_reply rule calls c)) ≡ reply-part-of (cond b Exhausted (counted_reply rule calls c))
        either true = refl
        either false = refl

  replies-part : (rule : Rule) (calls : List Call) → IsKeyed chosen mine (keys calls) → AreTaken chosen mine taken (trace_of calls)
      → replies rule (calls_on chosen calls) ≡ map (reply_by mine taken) (replies rule calls)
  replies-part rule [] k all = refl
  replies-part rule (c ∷ calls) k all =
      let before = taken-before chosen mine taken calls c all in
      let one = reply-part rule calls before c k in
      let rest = replies-part rule calls (keyed-before chosen mine calls c k) before in
      λ i. one i ∷ rest i

pub other-links-change-no-reply : (rule : Rule) (chosen : Choice) (calls : List Call) → replies rule (calls_on chosen calls) ≡ map (reply_on chosen calls) (replies rule calls)
other-links-change-no-reply rule chosen calls =
    let is_flow = is_flow_on chosen (keys calls) in
    replies-part chosen is_flow (is_packet_on chosen is_flow (trace_of calls)) rule calls (keyed-all chosen (keys calls)) (all-taken chosen is_flow (trace_of calls) (trace-proper calls))
