-- How long a packet takes at most on a pipe whose command stays in force.
use Rattle.dn_laws.proofs.Words.{All, All-cons, All-head, All-nil, All-tail, Bool, KbytesBoundTheDelay, List, Option, SlotsBoundTheDelay, Some, [], add-mul, and_from, ap, append_assoc}
use Rattle.dn_laws.proofs.Words.{append_cancel_right, arith, cond, drop, eq-eqb, false, get_or, length, max, nat_eq, refl, subst, suc, suc-mul, sym, true, zero, ℕ, ⊤, ◌*◌, ◌++◌, ◌+◌, ◌-◌, ◌<◌}
use Rattle.dn_laws.proofs.Words.{◌^◌, ◌∙◌, ◌∷◌, ◌≡◌, ◌≤◌}
use Rattle.dn_laws.proofs.LawWords.{AreInOrder, trace_of, call_limit, effective_moment, settings, IsDueBy, IsDeliveryOf, free, last_due, due_by, arrival_time, transmission_time, StaysInForce, reply}
use Rattle.dn_laws.proofs.LawWords.{bandwidth_of, delay_of, Link, own, shared, link_eq, pipe_of, Accepted, Start, Event, arrived, started, discarded, is_of, backlog, ahead, free_from, IsAtMost, Call}
use Rattle.dn_laws.proofs.LawWords.{Submit, Advance, Collect, Command, Pipe, Delivery, Limit, Slots, Kbytes, Mask, Packet, Queued, Delivered, Exhausted, Rule, Free, Ordered, ToPipe, ToQueue}
use Rattle.dn_laws.proofs.{Ahead.IsPrompt, Begun.IsCaused, Begun.IsTaken, Begun.AllEvents, Begun.call-causes, ConfiguredRate.now, EachWaiting.each-pushed, EachWaiting.each-left}
use Rattle.dn_laws.proofs.{EachWaiting.each-cleared, Rates.shape, Timely.queued, Timely.clock-later, ToldCounts.told-few, ToldDeliveries.collects-are-told, WaitBounds.longer-takes-longer}
use Rattle.dn_laws.proofs.{WaitBounds.time_ahead, WaitBounds.slots-ahead, WaitBounds.kbytes-ahead, Waits.IsJoined, Waits.joined, Waits.IsAwaited, Waits.awaited, Waits.own-pipe, Waits.trace-prompt}
use Rattle.dn_laws.proofs.{Waits.wait-is-known}
use Rattle.dn_types.proofs.{Bounded.first-all, Fifo.IsProper, Fifo.own-first, Ordered.IsHome, Ordered.suffix-proper, Ordered.trace-proper, Settled.and-left, Settled.link_eq-refl}
use Rattle.dn_types.proofs.{Settled.link_eq-true}

module _ (pipe most : ℕ) where
  -- What arrived for a pipe's own flows is short.
  abbrev pub AreShort : List Event → Type 0
  AreShort [] = ⊤
  AreShort (arrived p ∷ trace) = ((flow : ℕ) → p.link ≡ own pipe flow → p.stamped.len ≤ most) × AreShort trace
  AreShort (_ ∷ trace) = AreShort trace

  short-arrival : (calls : List Call) (c : Call) (p : Accepted) (f : List Event) → IsTaken calls c p f → IsAtMost pipe most c → (flow : ℕ) → p.link ≡ own pipe flow → p.stamped.len ≤ most
  short-arrival calls (Submit (ToPipe number) packet moment) p f h one flow on =
      let len = ap (λ (x : Accepted). x.stamped.len) h.2 in
      let carrier : h.0.pipe ≡ pipe = sym (ap (λ (x : Accepted). pipe_of x.link) h.2) ∙ ap pipe_of on in
      let short = one (sym (own-pipe calls number h.0 h.1) ∙ carrier) in
      omega (arith, len, short)
  short-arrival calls (Submit (ToQueue number) packet moment) p f h one flow on =
      let no : shared h.0.pipe ≡ own pipe flow = sym (ap (λ (x : Accepted). x.link) h.2) ∙ on in absurd cc
  short-arrival calls _ p f h one flow on = absurd h

  short-added : (calls : List Call) (c : Call) (f : List Event) → AllEvents (IsCaused calls c) (trace_of calls) f → IsAtMost pipe most c → AreShort (trace_of calls) → AreShort (f ++ trace_of calls)
  short-added calls c [] all one old = old
  short-added calls c (arrived p ∷ f) all one old = (short-arrival calls c p f all.0 one, short-added calls c f all.1 one old)
  short-added calls c (_ ∷ f) all one old = short-added calls c f all.1 one old

  trace-short : (calls : List Call) → All (IsAtMost pipe most) calls → AreShort (trace_of calls)
  trace-short [] h = tt
  trace-short (c ∷ calls) h =
      let new = call-causes calls c in
      subst AreShort (sym new.1) (short-added calls c new.0 new.2 (All-head (IsAtMost pipe most) c calls h) (trace-short calls (All-tail (IsAtMost pipe most) c calls h)))

  module _ (flow : ℕ) where
    abbrev IsShort : Accepted → Type 0
    IsShort q = q.stamped.len ≤ most

    queue-short : (t : List Event) → AreShort t → All (λ q. q.stamped.len ≤ most) (backlog (own pipe flow) flow t)
    queue-short [] h = All-nil IsShort
    queue-short (arrived p ∷ t) h = each-pushed IsShort (is_of (own pipe flow) flow p) (backlog (own pipe flow) flow t) p
        (λ mine. h.0 flow (link_eq-true p.link (own pipe flow) (and-left (link_eq p.link (own pipe flow)) (nat_eq p.stamped.flow flow) mine))) (queue-short t h.1)
    queue-short (started s ∷ t) h = each-left IsShort (is_of (own pipe flow) flow s.packet) (backlog (own pipe flow) flow t) (queue-short t h)
    queue-short (discarded n ∷ t) h = each-cleared IsShort (nat_eq n flow) (backlog (own pipe flow) flow t) (queue-short t h)
    queue-short (_ ∷ t) h = queue-short t h

    start-short : (s : Start) (t : List Event) → IsProper (started s ∷ t) → IsPrompt (started s ∷ t) → AreShort t → link_eq s.packet.link (own pipe flow) ≡ true → s.packet.stamped.len ≤ most
    start-short s t proper prompt short e =
        let same = link_eq-true s.packet.link (own pipe flow) e in
        let home : s.packet.stamped.flow ≡ flow = sym (subst (λ (l : Link). IsHome l s.packet.stamped.flow) same prompt.1) in
        let mine = and_from (link_eq s.packet.link (own pipe flow)) (nat_eq s.packet.stamped.flow flow) e (eq-eqb s.packet.stamped.flow flow home) in
        first-all IsShort s.packet (backlog (own pipe flow) flow t) (own-first (own pipe flow) flow s t proper.0 mine) (queue-short t short)

module _ (pipe bw delay flow by_then : ℕ) where
  -- Each start on the flow's link is by the command, and by the moment.
  abbrev pub AreBy : List Event → Type 0
  AreBy [] = ⊤
  AreBy (started s ∷ g) = (link_eq s.packet.link (own pipe flow) ≡ true → (s.transmission ≡ transmission_time bw s.packet.stamped.len) × (s.delay ≡ delay * 1000000) × (s.moment ≤ by_then))
      × AreBy g
  AreBy (_ ∷ g) = AreBy g

  both-by : (f g : List Event) → AreBy f → AreBy g → AreBy (f ++ g)
  both-by [] g h k = k
  both-by (started s ∷ f) g h k = (h.0, both-by f g h.1 k)
  both-by (_ ∷ f) g h k = both-by f g h k

  back-by : (f g : List Event) → AreBy (f ++ g) → AreBy g
  back-by [] g h = h
  back-by (started s ∷ f) g h = back-by f g h.1
  back-by (_ ∷ f) g h = back-by f g h

  -- The link is free one transmission after the moment, and its last due moment is that and the delay, if they weren't later.
  frees : (most : ℕ) (g old : List Event) → AreBy g → IsProper (g ++ old) → IsPrompt (g ++ old) → AreShort pipe most (g ++ old) →
      free (own pipe flow) (g ++ old) ≤ max (free (own pipe flow) old) (by_then + transmission_time bw most)
  frees most [] old h proper prompt short = omega arith
  frees most (arrived p ∷ g) old h proper prompt short = frees most g old h proper.1 prompt short.1
  frees most (started s ∷ g) old h proper prompt short = by (link_eq s.packet.link (own pipe flow)) refl (frees most g old h.1 proper.2 prompt.2 short)
    where
      by : (b : Bool) → link_eq s.packet.link (own pipe flow) ≡ b → free (own pipe flow) (g ++ old) ≤ max (free (own pipe flow) old) (by_then + transmission_time bw most) →
          cond b (s.moment + s.transmission) (free (own pipe flow) (g ++ old)) ≤ max (free (own pipe flow) old) (by_then + transmission_time bw most)
      by true e rest =
          let made = h.0 e in
          let soon = made.2 in
          let longer = longer-takes-longer bw s.packet.stamped.len most (start-short pipe most flow s (g ++ old) proper prompt short e) in
          omega (arith, made.0, soon, longer)
      by false e rest = rest
  frees most (_ ∷ g) old h proper prompt short = frees most g old h proper prompt short

  due-after : (rule : Rule) (s : Start) (last limit freed : ℕ) → s.delay ≡ delay * 1000000 → last ≤ max limit (freed + delay * 1000000) → freed ≤ s.moment →
      due_by rule (arrival_time s) last ≤ max limit (s.moment + s.transmission + delay * 1000000)
  due-after Free s last limit freed own_delay rest soon = omega (arith, own_delay)
  due-after Ordered s last limit freed own_delay rest soon = omega (arith, own_delay, rest, soon)

  dues : (rule : Rule) (g old : List Event) → AreBy g → IsProper (g ++ old) →
      last_due rule (own pipe flow) (g ++ old) ≤ max (last_due rule (own pipe flow) old) (free (own pipe flow) (g ++ old) + delay * 1000000)
  dues rule [] old h proper = omega arith
  dues rule (arrived p ∷ g) old h proper = dues rule g old h proper.1
  dues rule (started s ∷ g) old h proper = by (link_eq s.packet.link (own pipe flow)) refl (dues rule g old h.1 proper.2)
    where
      by : (b : Bool) → link_eq s.packet.link (own pipe flow) ≡ b →
          last_due rule (own pipe flow) (g ++ old) ≤ max (last_due rule (own pipe flow) old) (free (own pipe flow) (g ++ old) + delay * 1000000) →
          cond b (due_by rule (arrival_time s) (last_due rule (own pipe flow) (g ++ old))) (last_due rule (own pipe flow) (g ++ old)) ≤ max (last_due rule (own pipe flow) old)
          (cond b (s.moment + s.transmission) (free (own pipe flow) (g ++ old)) + delay * 1000000)
      by true e rest =
          let there = ap (λ (l : Link). free l (g ++ old)) (link_eq-true s.packet.link (own pipe flow) e) in
          let bound = due-after rule s (last_due rule (own pipe flow) (g ++ old)) (last_due rule (own pipe flow) old) (free (own pipe flow) (g ++ old)) (h.0 e).1 rest
          (omega (arith, there, proper.1)) in
          bound
      by false e rest = rest
  dues rule (_ ∷ g) old h proper = dues rule g old h proper

-- A link is free by its last due moment.
free-by-due : (rule : Rule) (link : Link) (t : List Event) → free link t ≤ last_due rule link t
free-by-due rule link [] = omega arith
free-by-due rule link (started s ∷ t) = by (link_eq s.packet.link link) rule (free-by-due rule link t)
  where
    by : (b : Bool) (r : Rule) → free link t ≤ last_due rule link t → cond b (s.moment + s.transmission) (free link t) ≤ cond b (due_by r (arrival_time s) (last_due rule link t))
        (last_due rule link t)
    by true Free rest = omega arith
    by true Ordered rest = omega arith
    by false r rest = rest
free-by-due rule link (_ ∷ t) = free-by-due rule link t

module _ (pipe bw delay : ℕ) (limit : Limit) (loss : ℕ) (buckets : Option ℕ) (mask : Mask) (flow by_then : ℕ) where
  call-by : (calls : List Call) (c : Call) (f : List Event) → settings calls (ToPipe pipe) ≡ Some (Pipe pipe bw delay limit loss buckets mask) → effective_moment (c ∷ calls) ≤ by_then →
      AllEvents (IsCaused calls c) (trace_of calls) f → AreBy pipe bw delay flow by_then f
  call-by calls c [] in_force soon h = tt
  call-by calls c (started s ∷ f) in_force soon h = (own-by, call-by calls c f in_force soon h.1)
    where
      own-by : link_eq s.packet.link (own pipe flow) ≡ true → (s.transmission ≡ transmission_time bw s.packet.stamped.len) × (s.delay ≡ delay * 1000000) × (s.moment ≤ by_then)
      own-by e =
          let carrier : pipe_of s.packet.link ≡ pipe = ap pipe_of (link_eq-true s.packet.link (own pipe flow) e) in
          let set = ap (λ (n : ℕ). settings calls (ToPipe n)) carrier ∙ in_force in
          let by = h.0.soon in (
            ap (λ (x : Start). x.transmission) h.0.configured ∙ ap {B = ℕ} (λ (o : Option Command). transmission_time (bandwidth_of o) s.packet.stamped.len) set,
            ap (λ (x : Start). x.delay) h.0.configured ∙ ap {B = ℕ} (λ (o : Option Command). delay_of o) set,
            omega (arith, by, soon),
          )
  call-by calls c (_ ∷ f) in_force soon h = call-by calls c f in_force soon h.1

  calls-by : (after calls : List Call) → StaysInForce (ToPipe pipe) (Pipe pipe bw delay limit loss buckets mask) after calls → effective_moment (after ++ calls) ≤ by_then →
      (g : List Event) × (trace_of (after ++ calls) ≡ g ++ trace_of calls) × AreBy pipe bw delay flow by_then g
  calls-by [] calls h soon = ([], refl, tt)
  calls-by (c ∷ after) calls h soon =
      let rest = calls-by after calls h.1 (omega (arith, soon)) in
      let new = call-causes (after ++ calls) c in (
        new.0 ++ rest.0,
        new.1 ∙ ap (λ (t : List Event). new.0 ++ t) rest.1 ∙ sym (append_assoc new.0 rest.0 (trace_of calls)),
        both-by pipe bw delay flow by_then new.0 rest.0 (call-by (after ++ calls) c new.0 (now pipe bw delay limit loss buckets mask (own pipe flow) refl after calls h.1) soon new.2) rest.2,
      )

module _ (rule : Rule) (after since older : List Call) (pipe bw delay : ℕ) (limit : Limit) (loss : ℕ) (buckets : Option ℕ) (mask : Mask) (packet : Packet) (moment at flow number most : ℕ)
    (in_force : StaysInForce (ToPipe pipe) (Pipe pipe bw delay limit loss buckets mask) since older)
    (stays : StaysInForce (ToPipe pipe) (Pipe pipe bw delay limit loss buckets mask) after (Submit (ToPipe pipe) packet moment ∷ since ++ older))
    (past : last_due rule (own pipe flow) (trace_of older) ≤ at)
    (short : All (IsAtMost pipe most) (Submit (ToPipe pipe) packet moment ∷ since ++ older))
    (told : reply rule (since ++ older) (Submit (ToPipe pipe) packet moment) ≡ Queued at flow number) where
  set-now : settings (since ++ older) (ToPipe pipe) ≡ Some (Pipe pipe bw delay limit loss buckets mask)
  set-now = now pipe bw delay limit loss buckets mask (own pipe flow) refl since older in_force

  clock : at ≡ effective_moment (Submit (ToPipe pipe) packet moment ∷ since ++ older)
  clock = (queued rule (since ++ older) (ToPipe pipe) packet moment at flow number told).0

  -- The link is free one transmission after the acceptance.
  free-soon : free_from pipe flow moment (since ++ older) ≤ at + transmission_time bw most
  free-soon =
      let is = clock in
      let new = calls-by pipe bw delay limit loss buckets mask flow at (Advance moment ∷ since) older (set-now, in_force) (omega (arith, is)) in
      let shorts = All-cons (IsAtMost pipe most) (Advance moment) (since ++ older) tt (All-tail (IsAtMost pipe most) (Submit (ToPipe pipe) packet moment) (since ++ older) short) in
      let by = frees pipe bw delay flow at most new.0 (trace_of older) new.2 (subst IsProper new.1 (trace-proper (Advance moment ∷ since ++ older)))
      (subst IsPrompt new.1 (trace-prompt (Advance moment ∷ since ++ older)))
      (subst (AreShort pipe most) new.1 (trace-short pipe most (Advance moment ∷ since ++ older) shorts)) in
      let same = ap (λ (t : List Event). free (own pipe flow) t) new.1 in
      let first = free-by-due rule (own pipe flow) (trace_of older) in
      omega (arith, by, same, first, past)

  queue : All (λ p. p.stamped.len ≤ most) (ahead pipe flow moment (since ++ older))
  queue = queue-short pipe most flow (trace_of (Advance moment ∷ since ++ older))
      (trace-short pipe most (Advance moment ∷ since ++ older) (All-cons (IsAtMost pipe most) (Advance moment) (since ++ older) tt
      (All-tail (IsAtMost pipe most) (Submit (ToPipe pipe) packet moment) (since ++ older) short)))

  module _ (later earlier : List Event) (s : Start) (e : trace_of (after ++ Submit (ToPipe pipe) packet moment ∷ (since ++ older)) ≡ later ++ started s ∷ earlier)
      (same : s.packet.packet ≡ number) where
    j : IsJoined (since ++ older) pipe packet moment flow number
    j = joined rule (since ++ older) pipe packet moment at flow number told

    starts : s.moment ≤ at + transmission_time bw most + time_ahead bw pipe flow moment (since ++ older)
    starts =
        let exact = wait-is-known rule after (since ++ older) pipe bw delay limit loss buckets mask packet moment at flow number later earlier s stays told e same in
        let soon = free-soon in
        omega (arith, exact, soon)

    w : IsAwaited (since ++ older) pipe packet moment at flow number j later earlier s
    w = awaited rule after (since ++ older) pipe packet moment at flow number later earlier s told e same j

    submit-late : effective_moment (Submit (ToPipe pipe) packet moment ∷ since ++ older) ≤ effective_moment (after ++ Submit (ToPipe pipe) packet moment ∷ (since ++ older))
    submit-late = clock-later after (Submit (ToPipe pipe) packet moment ∷ (since ++ older))

    abbrev IsBy : List Event → Type 0
    IsBy g = AreBy pipe bw delay flow (effective_moment (after ++ Submit (ToPipe pipe) packet moment ∷ (since ++ older))) g

    abbrev AddsBy : List Event → List Event → Type 0
    AddsBy new old = (g : List Event) × (new ≡ g ++ old) × AreBy pipe bw delay flow (effective_moment (after ++ Submit (ToPipe pipe) packet moment ∷ (since ++ older))) g

    newest : AddsBy (trace_of (after ++ Submit (ToPipe pipe) packet moment ∷ (since ++ older))) (trace_of (Submit (ToPipe pipe) packet moment ∷ (since ++ older)))
    newest = calls-by pipe bw delay limit loss buckets mask flow (effective_moment (after ++ Submit (ToPipe pipe) packet moment ∷ (since ++ older))) after
        (Submit (ToPipe pipe) packet moment ∷ (since ++ older)) stays (omega arith)

    newer : AddsBy (trace_of (Submit (ToPipe pipe) packet moment ∷ (since ++ older))) (trace_of (since ++ older))
    newer =
        let new = call-causes (since ++ older) (Submit (ToPipe pipe) packet moment) in (
          new.0,
          new.1,
          call-by pipe bw delay limit loss buckets mask flow (effective_moment (after ++ Submit (ToPipe pipe) packet moment ∷ (since ++ older))) (since ++ older)
              (Submit (ToPipe pipe) packet moment) new.0 set-now submit-late new.2,
        )

    new : AddsBy (trace_of (since ++ older)) (trace_of older)
    new = calls-by pipe bw delay limit loss buckets mask flow (effective_moment (after ++ Submit (ToPipe pipe) packet moment ∷ (since ++ older))) since older in_force
        (let late = submit-late in omega (arith, late))

    earlier-is : earlier ≡ (w.stretch ++ (arrived j.p ∷ (j.between ++ new.0))) ++ trace_of older
    earlier-is =
        w.parts ∙ ap (λ (t : List Event). w.stretch ++ (arrived j.p ∷ (j.between ++ t))) new.1
        ∙ ap (λ (t : List Event). w.stretch ++ (arrived j.p ∷ t)) (sym (append_assoc j.between new.0 (trace_of older)))
        ∙ sym (shape w.stretch (j.between ++ new.0) (arrived j.p) (trace_of older))

    added-by : IsBy (started s ∷ (w.stretch ++ (arrived j.p ∷ (j.between ++ new.0))))
    added-by =
        let parts : trace_of (after ++ Submit (ToPipe pipe) packet moment ∷ (since ++ older)) ≡ (newest.0 ++ (newer.0 ++ new.0)) ++ trace_of older =
        newest.1 ∙ ap (λ (t : List Event). newest.0 ++ t) (newer.1 ∙ ap (λ (t : List Event). newer.0 ++ t) new.1 ∙ sym (append_assoc newer.0 new.0 (trace_of older)))
        ∙ sym (append_assoc newest.0 (newer.0 ++ new.0) (trace_of older)) in
        let shown : (newest.0 ++ (newer.0 ++ new.0)) ++ trace_of older ≡ (later ++ (started s ∷ (w.stretch ++ (arrived j.p ∷ (j.between ++ new.0))))) ++ trace_of older =
        sym parts ∙ e ∙ ap (λ (t : List Event). later ++ started s ∷ t) earlier-is ∙ sym (shape later (w.stretch ++ (arrived j.p ∷ (j.between ++ new.0))) (started s) (trace_of older)) in
        let cut = append_cancel_right (newest.0 ++ (newer.0 ++ new.0)) (later ++ (started s ∷ (w.stretch ++ (arrived j.p ∷ (j.between ++ new.0))))) (trace_of older) shown in
        let all_by = both-by pipe bw delay flow (effective_moment (after ++ Submit (ToPipe pipe) packet moment ∷ (since ++ older))) newest.0 (newer.0 ++ new.0) newest.2
        (both-by pipe bw delay flow (effective_moment (after ++ Submit (ToPipe pipe) packet moment ∷ (since ++ older))) newer.0 new.0 newer.2 new.2) in
        back-by pipe bw delay flow (effective_moment (after ++ Submit (ToPipe pipe) packet moment ∷ (since ++ older))) later
        (started s ∷ (w.stretch ++ (arrived j.p ∷ (j.between ++ new.0)))) (subst IsBy cut all_by)

    on-it : link_eq s.packet.link (own pipe flow) ≡ true
    on-it = ap (λ (x : Accepted). link_eq x.link (own pipe flow)) w.it ∙ ap (λ (l : Link). link_eq l (own pipe flow)) j.on ∙ link_eq-refl (own pipe flow)

    due-of : (r : Rule) (last due : ℕ) → IsDueBy r s last due → last ≤ max at (s.moment + s.delay) → at ≤ s.moment → due ≤ s.moment + s.transmission + s.delay
    due-of Free last due is le early = omega (arith, is)
    due-of Ordered last due is le early = omega (arith, is, le, early)

    dues-soon : (due : ℕ) → IsDueBy rule s (last_due rule s.packet.link earlier) due → due ≤ s.moment + transmission_time bw most + delay * 10 ^ 6
    dues-soon due is =
        let made = added-by.0 on-it in
        let proper = suffix-proper later (started s ∷ earlier) (subst IsProper e (trace-proper (after ++ Submit (ToPipe pipe) packet moment ∷ (since ++ older)))) in
        let last = dues pipe bw delay flow (effective_moment (after ++ Submit (ToPipe pipe) packet moment ∷ (since ++ older))) rule (w.stretch ++ (arrived j.p ∷ (j.between ++ new.0)))
        (trace_of older) added-by.1 (subst IsProper earlier-is proper.2) in
        let on = link_eq-true s.packet.link (own pipe flow) on-it in
        let last_is = ap (λ (l : Link). last_due rule l earlier) on ∙ ap (λ (t : List Event). last_due rule (own pipe flow) t) earlier-is in
        let free_is = ap (λ (l : Link). free l earlier) on ∙ ap (λ (t : List Event). free (own pipe flow) t) earlier-is in
        let delay_is = made.1 in
        let bound = due-of rule (last_due rule s.packet.link earlier) due is (omega (arith, last, last_is, free_is, proper.1, past, delay_is)) (omega (arith, w.start)) in
        let len : s.packet.stamped.len ≡ packet.len = ap (λ (x : Accepted). x.stamped.len) w.it ∙ j.len_is in
        let fits = (All-head (IsAtMost pipe most) (Submit (ToPipe pipe) packet moment) (since ++ older) short) refl in
        let longer = longer-takes-longer bw s.packet.stamped.len most (omega (arith, len, fits)) in
        omega (arith, bound, longer, made.0, delay_is)

    pub bounds : (s.moment ≤ at + transmission_time bw most + time_ahead bw pipe flow moment (since ++ older))
        × ((due : ℕ) → IsDueBy rule s (last_due rule s.packet.link earlier) due → due ≤ s.moment + transmission_time bw most + delay * 10 ^ 6)
    bounds = (starts, dues-soon)

-- So each delivery of the packet that a Collect is told.
module _ (rule : Rule) (after since older : List Call) (pipe bw delay : ℕ) (limit : Limit) (loss : ℕ) (buckets : Option ℕ) (mask : Mask) (packet : Packet)
    (moment at flow number most collect now' : ℕ) (list : List Delivery)
    (in_force : StaysInForce (ToPipe pipe) (Pipe pipe bw delay limit loss buckets mask) since older)
    (stays : StaysInForce (ToPipe pipe) (Pipe pipe bw delay limit loss buckets mask) after (Submit (ToPipe pipe) packet moment ∷ since ++ older))
    (past : last_due rule (own pipe flow) (trace_of older) ≤ at)
    (short : All (IsAtMost pipe most) (Submit (ToPipe pipe) packet moment ∷ since ++ older))
    (told : reply rule (since ++ older) (Submit (ToPipe pipe) packet moment) ≡ Queued at flow number)
    (given : reply rule (after ++ Submit (ToPipe pipe) packet moment ∷ (since ++ older)) (Collect collect) ≡ Delivered now' list) where
  few : length (after ++ Submit (ToPipe pipe) packet moment ∷ (since ++ older)) < call_limit
  few = told-few rule (after ++ Submit (ToPipe pipe) packet moment ∷ (since ++ older)) (Collect collect) (λ none. let t : Exhausted ≡ Delivered now' list = sym none ∙ given in cc)

  deliveries : (ds : List Delivery) × (reply rule (after ++ Submit (ToPipe pipe) packet moment ∷ (since ++ older)) (Collect collect) ≡ Delivered
      (effective_moment (Collect collect ∷ after ++ Submit (ToPipe pipe) packet moment ∷ (since ++ older))) ds)
      × All (λ d. (d.due ≤ effective_moment (Collect collect ∷ after ++ Submit (ToPipe pipe) packet moment ∷ (since ++ older)))
      × IsDeliveryOf rule (trace_of (Collect collect ∷ after ++ Submit (ToPipe pipe) packet moment ∷ (since ++ older))) d) ds
      × AreInOrder ds
  deliveries = collects-are-told rule (after ++ Submit (ToPipe pipe) packet moment ∷ (since ++ older)) collect few

  same : list ≡ deliveries.0
  same = cc (sym given ∙ deliveries.1)

  one : (d : Delivery) → IsDeliveryOf rule (trace_of (Collect collect ∷ after ++ Submit (ToPipe pipe) packet moment ∷ (since ++ older))) d → d.packet ≡ number →
      (d.start ≤ at + transmission_time bw most + time_ahead bw pipe flow moment (since ++ older)) × (d.due ≤ d.start + transmission_time bw most + delay * 10 ^ 6)
  one d h mine =
      let still = now pipe bw delay limit loss buckets mask (own pipe flow) refl after (Submit (ToPipe pipe) packet moment ∷ (since ++ older)) stays in
      let b = bounds rule (Collect collect ∷ after) since older pipe bw delay limit loss buckets mask packet moment at flow number most in_force
      (still, stays) past short told h.later h.earlier h.start h.happened (sym h.number ∙ mine) in
      let begun = b.0 in
      let is = h.moment in
      let soon = b.1 d.due h.due in
      (omega (arith, begun, is), omega (arith, soon, is))

  pub each : All (λ d. d.packet ≡ number → (d.start ≤ at + transmission_time bw most + time_ahead bw pipe flow moment (since ++ older))
      × (d.due ≤ d.start + transmission_time bw most + delay * 10 ^ 6)) list
  each = subst (λ (ds : List Delivery). All (λ d. d.packet ≡ number → (d.start ≤ at + transmission_time bw most + time_ahead bw pipe flow moment (since ++ older))
      × (d.due ≤ d.start + transmission_time bw most + delay * 10 ^ 6)) ds) (sym same)
      (λ k x lt. one (get_or deliveries.0 k x) (deliveries.2 k x lt).1)

-- So many slots are one and one fewer.
slots-of : (slots t : ℕ) → 0 < slots → t + (slots - 1) * t ≡ slots * t
slots-of zero t some = absurd (omega (arith, some))
slots-of (suc n) t some =
    let one : suc n - 1 ≡ n = omega arith in
    let less = ap {B = ℕ} (λ k. k * t) one in
    let parts = suc-mul n t in
    omega (arith, less, parts)

pub slots-bound-the-delay : SlotsBoundTheDelay
slots-bound-the-delay rule after since older pipe bw delay slots loss buckets mask packet moment at flow number most collect now' list in_force stays past short told given = λ k x lt mine.
    let all = each rule after since older pipe bw delay (Slots slots) loss buckets mask packet moment at flow number most collect now' list in_force stays past short told given k x lt mine in
    let set = now pipe bw delay (Slots slots) loss buckets mask (own pipe flow) refl since older in_force in
    let waiting = queue rule after since older pipe bw delay (Slots slots) loss buckets mask packet moment at flow number most in_force stays past short told in
    let few = slots-ahead rule (since ++ older) pipe bw delay slots loss buckets mask packet moment at flow number most set told waiting in
    let parts = slots-of slots (transmission_time bw most) few.0 in
    let more = add-mul slots 1 (transmission_time bw most) in
    let ahead_of = few.1 in
    (omega (arith, all.0, ahead_of, parts), omega (arith, all.0, all.1, ahead_of, parts, more))

pub kbytes-bound-the-delay : KbytesBoundTheDelay
kbytes-bound-the-delay rule after since older pipe bw delay kbytes loss buckets mask packet moment at flow number most collect now' list in_force stays past short told given = λ k x lt mine.
    let all = each rule after since older pipe bw delay (Kbytes kbytes) loss buckets mask packet moment at flow number most collect now' list in_force stays past short told given k x lt mine in
    let set = now pipe bw delay (Kbytes kbytes) loss buckets mask (own pipe flow) refl since older in_force in
    let few = kbytes-ahead rule (since ++ older) pipe bw delay kbytes loss buckets mask packet moment at flow number set told in
    (omega (arith, all.0, few), omega (arith, all.0, all.1, few))
