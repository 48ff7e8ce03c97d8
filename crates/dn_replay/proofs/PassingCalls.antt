-- A Collect at the clock that calls leave gives packets earlier, and changes no later reply to a Submit.
use Rattle.dn_replay.proofs.Words.{All, All-append, All-cons, All-filter, All-head, All-nil, All-tail, Bool, Call, Collect, Delivery, Event, HasPassed, IsPast, Link, List, None, Option, Ordered}
use Rattle.dn_replay.proofs.Words.{Packet, Reply, Settings, Some, Standing, Start, Submit, Target, Traffic, Treatment, Verdict, [], accepted_count, after_verdict_in, ap, append_assoc, arith}
use Rattle.dn_replay.proofs.Words.{busy-link, call_limit, collected, cond, count-event, count_by, counted_reply, counted_reply-standing, counted_step, counted_step_reply, delivered}
use Rattle.dn_replay.proofs.Words.{effective_moment, false, filter, filter-append, first_start, first_start-of, free, gives-in-order, gives-what-is-due, is_arrival, is_loss_of, is_refusal_of}
use Rattle.dn_replay.proofs.Words.{is_start_of, keys, length, links, max, nat_le, nat_lt, nat_tests, next_packet, next_start, option_map, refl, reply, settings, settle, settle_in, settled}
use Rattle.dn_replay.proofs.Words.{settled-traffic, standing_of_counted, standing_of_counted-cons, start_at, started, subst, suc, sym, trace-proper, trace_of, traffic, treatment, true}
use Rattle.dn_replay.proofs.Words.{undelivered-below, verdict, verdict_in, verdict_reply_in, waiting_all, with_given, without_passing, zero, ℕ, ◌++◌, ◌<◌, ◌∙◌, ◌∷◌, ◌≡◌, ◌≤◌}
use Rattle.dn_types.specs.Deliveries.{given as given_at, undelivered, AreInOrder}
use Rattle.dn_types.specs.Trace.{Accepted}
use Rattle.dn_replay.proofs.Accepting.{counts, settled-accepts, verdict-grows}
use Rattle.dn_replay.proofs.PassingTraffic.{IsBusy, after_verdict-behind, next-later, reply-behind, settled-behind, verdict-behind}

-- ---- What is due by a moment, and what is due later

none-by : (at : ℕ) (ds : List Delivery) → All (λ e. at < e.due) ds → filter (λ d. nat_le d.due at) ds ≡ []
none-by at [] h = refl
none-by at (d ∷ ds) h =
    let later = All-head (λ e. at < e.due) d ds h in
    let not_yet : nat_le d.due at ≡ false = grind (arith, nat_tests) in
    rw not_yet (none-by at ds (All-tail (λ e. at < e.due) d ds h))

all-later : (at : ℕ) (ds : List Delivery) → All (λ e. at < e.due) ds → filter (λ d. nat_lt at d.due) ds ≡ ds
all-later at [] h = refl
all-later at (d ∷ ds) h =
    let later = All-head (λ e. at < e.due) d ds h in
    let is : nat_lt at d.due ≡ true = grind (arith, nat_tests) in
    rw is (ap (λ (l : List Delivery). d ∷ l) (all-later at ds (All-tail (λ e. at < e.due) d ds h)))

all-by : (at : ℕ) (ds : List Delivery) → All (λ e. e.due ≤ at) ds → filter (λ d. nat_le d.due at) ds ≡ ds
all-by at [] h = refl
all-by at (d ∷ ds) h =
    let soon = All-head (λ e. e.due ≤ at) d ds h in
    let is : nat_le d.due at ≡ true = grind (arith, nat_tests) in
    rw is (ap (λ (l : List Delivery). d ∷ l) (all-by at ds (All-tail (λ e. e.due ≤ at) d ds h)))

-- In a list in order the one stands before the other.
parted : (at : ℕ) (ds : List Delivery) → AreInOrder ds → filter (λ d. nat_le d.due at) ds ++ filter (λ d. nat_lt at d.due) ds ≡ ds
parted at [] h = refl
parted at (d ∷ ds) h = by (nat_le d.due at) refl (parted at ds h.1)
  where
    by : (b : Bool) → nat_le d.due at ≡ b → filter (λ d. nat_le d.due at) ds ++ filter (λ d. nat_lt at d.due) ds ≡ ds
        → filter (λ d. nat_le d.due at) (d ∷ ds) ++ filter (λ d. nat_lt at d.due) (d ∷ ds) ≡ d ∷ ds
    by true e rest =
        let soon : nat_lt at d.due ≡ false = grind (arith, nat_tests) in
        rw (e, soon) (ap (λ (l : List Delivery). d ∷ l) rest)
    by false e rest =
        let later : at < d.due = grind (arith, nat_tests) in
        let all : All (λ x. at < x.due) (d ∷ ds) = All-cons (λ x. at < x.due) d ds later (λ k x lt. let more = (h.0 k x lt).0 in omega (arith, more, later)) in
        rw (none-by at (d ∷ ds) all, all-later at (d ∷ ds) all) refl

abbrev latest : List Delivery → ℕ
latest [] = 0
latest (d ∷ ds) = max d.due (latest ds)

by-latest : (at : ℕ) (ds : List Delivery) → latest ds ≤ at → filter (λ d. nat_le d.due at) ds ≡ ds
by-latest at [] h = refl
by-latest at (d ∷ ds) h =
    let soon : d.due ≤ at = omega (arith, h) in
    let is : nat_le d.due at ≡ true = grind (arith, nat_tests) in
    rw is (ap (λ (l : List Delivery). d ∷ l) (by-latest at ds (omega (arith, h))))

in-turn : (t : List Event) → AreInOrder (undelivered Ordered t)
in-turn t = subst (λ (ds : List Delivery). AreInOrder ds) (by-latest (latest (undelivered Ordered t)) (undelivered Ordered t) (omega arith)) (gives-in-order Ordered (latest (undelivered Ordered t)) t)

-- ---- A Collect at the clock

module _ (calls : List Call) where
  busy : IsBusy (effective_moment calls) (trace_of calls)
  busy = λ link flow some. busy-link calls link flow some

  -- By the clock no packet starts any more.
  none-starts : first_start (settings calls) (effective_moment calls) (links (trace_of calls)) (trace_of calls) ≡ None
  none-starts = by (first_start (settings calls) (effective_moment calls) (links (trace_of calls)) (trace_of calls)) refl
    where
      soon : (set : Settings) (at : ℕ) (link : Link) (t : List Event) (s : Start) → next_start set at link t ≡ Some s → s.moment ≤ at
      soon set at link t s e = test (nat_le (free link t) at) refl (next_packet link t) e
        where
          test : (b : Bool) → nat_le (free link t) at ≡ b → (o : Option Accepted) → cond b (option_map (λ p. start_at set link p (free link t)) o) None ≡ Some s → s.moment ≤ at
          test false is o e = absurd cc
          test true is None e = absurd cc
          test true is (Some p) e = let same : start_at set link p (free link t) ≡ s = cc in let moment = ap (λ (x : Start). x.moment) same in
              let early : free link t ≤ at = grind (arith, nat_tests) in omega (arith, early, moment)

      by : (o : Option Start) → first_start (settings calls) (effective_moment calls) (links (trace_of calls)) (trace_of calls) ≡ o → o ≡ None
      by None e = refl
      by (Some s) e =
          let of = first_start-of (settings calls) (effective_moment calls) (links (trace_of calls)) (trace_of calls) s e in
          let later = next-later (effective_moment calls) (settings calls) (effective_moment calls) of.0 (trace_of calls) s busy of.1 in
          let early = soon (settings calls) (effective_moment calls) of.0 (trace_of calls) s of.1 in
          absurd (omega (arith, later, early))

  still : settled (settings calls) (effective_moment calls) (trace_of calls) ≡ trace_of calls
  still = by (waiting_all (links (trace_of calls)) (trace_of calls))
    where
      by : (most : ℕ) → settle most (settings calls) (effective_moment calls) (trace_of calls) ≡ trace_of calls
      by zero = refl
      by (suc most) = ap (λ (o : Option Start). elim o as (λ _. List Event)
          [ None ↦ trace_of calls | Some s ↦ settle most (settings calls) (effective_moment calls) (started s ∷ trace_of calls) ]) none-starts

  the-clock : max (effective_moment calls) 0 ≡ effective_moment calls
  the-clock = omega arith

  collected-trace : trace_of (Collect 0 ∷ calls) ≡ collected (effective_moment calls) ∷ trace_of calls
  collected-trace =
      (λ i. collected (the-clock i) ∷ settled (settings calls) (the-clock i) (trace_of calls))
      ∙ ap (λ (t : List Event). collected (effective_moment calls) ∷ t) still

  collected-gives : delivered (counted_reply Ordered calls (Collect 0)) ≡ given_at Ordered (effective_moment calls) (trace_of calls)
  collected-gives =
      (λ i. given_at Ordered (the-clock i) (settled (settings calls) (the-clock i) (trace_of calls)))
      ∙ ap (λ (t : List Event). given_at Ordered (effective_moment calls) t) still

uncounted : (p : Event → Bool) (e : Event) (t : List Event) → p e ≡ false → count_by p (e ∷ t) ≡ count_by p t
uncounted p e t is = let one = count-event p e t in let none : cond {A = ℕ} (p e) 1 0 ≡ 0 = ap {B = ℕ} (λ b. cond b 1 0) is in omega (arith, one, none)

collected-traffic : (at : ℕ) (t : List Event) → traffic Ordered (collected at ∷ t) ≡ record (traffic Ordered t) { undelivered = filter (λ d. nat_lt at d.due) (undelivered Ordered t) }
collected-traffic at t = λ i. record (traffic Ordered (collected at ∷ t)) {
  lost = λ flow. uncounted (is_loss_of flow) (collected at) t refl i;
  full = λ flow. uncounted (is_refusal_of flow) (collected at) t refl i;
  started = λ flow. uncounted (is_start_of flow) (collected at) t refl i;
  accepted = uncounted is_arrival (collected at) t refl i;
}

-- What it gives stands first among what was to be given.
given-first : (given : List Delivery) (at : ℕ) (t : List Event)
    → with_given given (traffic Ordered t) ≡ with_given (given ++ given_at Ordered at t) (traffic Ordered (collected at ∷ t))
given-first given at t =
    let first = filter (λ d. nat_le d.due at) (undelivered Ordered t) in
    let rest = filter (λ d. nat_lt at d.due) (undelivered Ordered t) in
    ap (λ (ds : List Delivery). record (traffic Ordered t) { undelivered = ds })
    (ap (λ (ds : List Delivery). given ++ ds) (sym (parted at (undelivered Ordered t) (in-turn t))) ∙ sym (append_assoc given first rest))
    ∙ ap (with_given (given ++ given_at Ordered at t)) (sym (collected-traffic at t))

-- A Collect gives packets that were accepted.
given-numbers : (calls : List Call)
    → All (λ d. d.packet < accepted_count (trace_of calls)) (given_at Ordered (max (effective_moment calls) 0) (settled (settings calls) (max (effective_moment calls) 0) (trace_of calls)))
given-numbers calls =
    let at = max (effective_moment calls) 0 in
    let trace = settled (settings calls) (max (effective_moment calls) 0) (trace_of calls) in
    let few : accepted_count (settled (settings calls) (max (effective_moment calls) 0) (trace_of calls)) ≤ accepted_count (trace_of calls) =
    (let same = settled-accepts (settings calls) (max (effective_moment calls) 0) (trace_of calls) in omega (arith, same)) in
    All-filter (λ d. nat_le d.due at) (λ d. d.packet < accepted_count (trace_of calls)) (undelivered Ordered trace)
    (undelivered-below (accepted_count (trace_of calls)) Ordered trace (trace-proper (Collect 0 ∷ calls)) few)

-- ---- One call more

-- No Collect in passing was made.
pub passed-none : (calls : List Call) → HasPassed calls calls []
passed-none calls = record { alike = refl; past = All-nil (IsPast (effective_moment calls) (accepted_count (trace_of calls))); no_fewer = omega arith }

module _ (made calls : List Call) (given : List Delivery) (h : HasPassed made calls given) where
  -- What is settled is alike.
  settled-alike : (at : ℕ) → settle_in Ordered (settings made) at (with_given given (traffic Ordered (trace_of made)))
      ≡ with_given given (settle_in Ordered (settings made) at (traffic Ordered (trace_of made)))
  settled-alike at = settled-behind (effective_moment made) (accepted_count (trace_of made)) given h.past (settings made) at (trace_of made) (busy made)

  module _ (target : Target) (packet : Packet) (moment : ℕ) where
    abbrev clock : ℕ
    clock = max (effective_moment made) moment

    abbrev before : Traffic
    before = settle_in Ordered (settings made) (max (effective_moment made) moment) (traffic Ordered (trace_of made))

    before-is : before ≡ traffic Ordered (settled (settings made) (max (effective_moment made) moment) (trace_of made))
    before-is = sym (settled-traffic Ordered (settings made) (max (effective_moment made) moment) (trace_of made))

    accepted-is : before.accepted ≡ accepted_count (trace_of made)
    accepted-is = ap (λ (x : Traffic). x.accepted) before-is ∙ settled-accepts (settings made) (max (effective_moment made) moment) (trace_of made)

    abbrev how : Option Treatment
    how = treatment (settings made target)

    traffic-alike : after_verdict_in Ordered (settings made) (max (effective_moment made) moment) packet
        (verdict_in (keys made) target packet (treatment (settings made target))
        (settle_in Ordered (settings made) (max (effective_moment made) moment) (with_given given (traffic Ordered (trace_of made)))))
        (settle_in Ordered (settings made) (max (effective_moment made) moment) (with_given given (traffic Ordered (trace_of made))))
        ≡ with_given given (after_verdict_in Ordered (settings made) (max (effective_moment made) moment) packet
        (verdict_in (keys made) target packet (treatment (settings made target)) before) before)
    traffic-alike =
        ap (λ (x : Traffic). after_verdict_in Ordered (settings made) clock packet (verdict_in (keys made) target packet how x) x) (settled-alike clock)
        ∙ ap (λ (v : Verdict). after_verdict_in Ordered (settings made) clock packet v (with_given given before))
        (verdict-behind (effective_moment made) (accepted_count (trace_of made)) given h.past (keys made) target packet how before)
        ∙ after_verdict-behind (effective_moment made) (accepted_count (trace_of made)) given h.past (settings made) clock packet (verdict_in (keys made) target packet how before) before
        (omega arith) (let same = accepted-is in omega (arith, same))

    step-alike : counted_step Ordered (without_passing (length calls) given (standing_of_counted Ordered made)) (Submit target packet moment)
        ≡ without_passing (suc (length calls)) given (counted_step Ordered (standing_of_counted Ordered made) (Submit target packet moment))
    step-alike = λ i. record (counted_step Ordered (without_passing (length calls) given (standing_of_counted Ordered made)) (Submit target packet moment)) { traffic = traffic-alike i }

    pub passed-submit : HasPassed (Submit target packet moment ∷ made) (Submit target packet moment ∷ calls) given
    passed-submit =
        let trace = settled (settings made) (max (effective_moment made) moment) (trace_of made) in
        let more = verdict-grows (settings made) (max (effective_moment made) moment) packet (verdict made target packet trace) trace in
        let same = settled-accepts (settings made) (max (effective_moment made) moment) (trace_of made) in
        record {
          alike = standing_of_counted-cons Ordered calls (Submit target packet moment)
              ∙ ap (λ (s : Standing). counted_step Ordered s (Submit target packet moment)) h.alike
              ∙ step-alike
              ∙ ap (without_passing (suc (length calls)) given) (sym (standing_of_counted-cons Ordered made (Submit target packet moment)));
          past = λ k e lt. ((let due = (h.past k e lt).0 in omega (arith, due)), (let below = (h.past k e lt).1 in omega (arith, below, more, same)));
          no_fewer = let fewer = h.no_fewer in omega (arith, fewer);
        }

    submit-alike : counted_reply Ordered calls (Submit target packet moment) ≡ counted_reply Ordered made (Submit target packet moment)
    submit-alike =
        counted_reply-standing Ordered calls (Submit target packet moment)
        ∙ ap (λ (s : Standing). counted_step_reply Ordered s (Submit target packet moment)) h.alike
        ∙ ap (λ (x : Traffic). verdict_reply_in clock (verdict_in (keys made) target packet how x) x) (settled-alike clock)
        ∙ ap (λ (v : Verdict). verdict_reply_in clock v (with_given given before))
        (verdict-behind (effective_moment made) (accepted_count (trace_of made)) given h.past (keys made) target packet how before)
        ∙ reply-behind (effective_moment made) (accepted_count (trace_of made)) given h.past clock (verdict_in (keys made) target packet how before) before
        ∙ sym (counted_reply-standing Ordered made (Submit target packet moment))

    -- A Submit is answered as without the Collects in passing.
    pub same-submit : length made < call_limit → reply Ordered made (Submit target packet moment) ≡ reply Ordered calls (Submit target packet moment)
    same-submit few =
        counts made (Submit target packet moment) few ∙ sym submit-alike
        ∙ sym (counts calls (Submit target packet moment) (let fewer = h.no_fewer in omega (arith, few, fewer)))

  -- A Collect at the clock is one more in passing.
  pub passed-collect : HasPassed (Collect 0 ∷ made) calls (given ++ delivered (counted_reply Ordered made (Collect 0)))
  passed-collect =
      let trace = settled (settings made) (max (effective_moment made) 0) (trace_of made) in
      let none = uncounted is_arrival (collected (max (effective_moment made) 0)) trace refl in
      let same = settled-accepts (settings made) (max (effective_moment made) 0) (trace_of made) in
      let path = given-first given (effective_moment made) (trace_of made)
      ∙ (λ i. with_given (given ++ sym (collected-gives made) i) (traffic Ordered (sym (collected-trace made) i))) in
      record {
        alike = h.alike ∙ (λ i. record (without_passing (length calls) given (standing_of_counted Ordered made)) { effective_moment = sym (the-clock made) i; traffic = path i });
        past = All-append (IsPast (max (effective_moment made) 0) (accepted_count (trace_of (Collect 0 ∷ made)))) given (delivered (counted_reply Ordered made (Collect 0)))
            (λ k e lt. ((let due = (h.past k e lt).0 in omega (arith, due)), (let below = (h.past k e lt).1 in omega (arith, below, none, same))))
            (λ k e lt. (
              gives-what-is-due Ordered (max (effective_moment made) 0) trace k e lt,
              (let below = given-numbers made k e lt in omega (arith, below, none, same)),
            ));
        no_fewer = let fewer = h.no_fewer in omega (arith, fewer);
      }

  last-alike : (moment : ℕ) → delivered (counted_reply Ordered calls (Collect moment)) ≡ given ++ delivered (counted_reply Ordered made (Collect moment))
  last-alike moment =
      let before = settle_in Ordered (settings made) (max (effective_moment made) moment) (traffic Ordered (trace_of made)) in
      ap delivered (counted_reply-standing Ordered calls (Collect moment) ∙ ap (λ (s : Standing). counted_step_reply Ordered s (Collect moment)) h.alike)
      ∙ ap (λ (x : Traffic). filter (λ d. nat_le d.due (max (effective_moment made) moment)) x.undelivered) (settled-alike (max (effective_moment made) moment))
      ∙ filter-append (λ d. nat_le d.due (max (effective_moment made) moment)) given before.undelivered
      ∙ ap (λ (ds : List Delivery). ds ++ filter (λ d. nat_le d.due (max (effective_moment made) moment)) before.undelivered)
      (all-by (max (effective_moment made) moment) given (λ k e lt. let due = (h.past k e lt).0 in omega (arith, due)))
      ∙ ap (λ (ds : List Delivery). given ++ ds) (ap delivered (sym (counted_reply-standing Ordered made (Collect moment))))

  -- What the last Collect gives is what the Collects in passing gave, and then what it gives after these.
  pub same-last : (moment : ℕ) → length made < call_limit → delivered (reply Ordered calls (Collect moment)) ≡ given ++ delivered (reply Ordered made (Collect moment))
  same-last moment few =
      ap delivered (counts calls (Collect moment) (let fewer = h.no_fewer in omega (arith, few, fewer)))
      ∙ last-alike moment
      ∙ ap (λ (r : Reply). given ++ delivered r) (sym (counts made (Collect moment) few))

pub same-collect : (made : List Call) → length made < call_limit → delivered (reply Ordered made (Collect 0)) ≡ delivered (counted_reply Ordered made (Collect 0))
same-collect made few = ap delivered (counts made (Collect 0) few)
