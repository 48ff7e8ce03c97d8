-- What Collects are told: each packet that starts once, and by the first whose effective moment reaches its due moment.
use Rattle.dn_laws.proofs.Words.{All, All-head, All-tail, Bool, CollectsAreTold, List, ToldWhenDue, [], ap, arith, cond, count_by, eq-eqb, eqb-true, false, is_some, length, max, nat_eq, nat_le}
use Rattle.dn_laws.proofs.Words.{refl, subst, sym, true, ℕ, ◌++◌, ◌+◌, ◌<◌, ◌∙◌, ◌∷◌, ◌≡◌, ◌≤◌}
use Rattle.dn_laws.proofs.LawWords.{Verdict, no_target, loses, refuses, takes, verdict, trace_of, call_limit, effective_moment, Settings, settings, has_queues, queue_numbers, command_reply}
use Rattle.dn_laws.proofs.LawWords.{undelivered, given, IsDueBy, IsDeliveryOf, is_packet, is_start_with, start_count, given_count, last_due, counted_reply, reply_to_verdict, replies, settled}
use Rattle.dn_laws.proofs.LawWords.{times_in, times_told, Start, Event, started, collected, Call, Configure, Submit, Advance, Collect, Show, Command, Pipe, Queue, DeletePipe, DeleteQueue, Delivery}
use Rattle.dn_laws.proofs.LawWords.{Configured, NoSuchPipe, Deleted, PipeHasQueues, NoSuchQueue, Exhausted, Rule, Free, Ordered, ToPipe, ToQueue}
use Rattle.dn_laws.proofs.{Begun.AllEvents, Comes.Comes, Comes.Gathers, Comes.call-comes, Delays.all-still, Delays.delays-are-explained, DropLaws.not-exhausted}
use Rattle.dn_types.proofs.{Dues.gives-what-is-due, Dues.leaves-what-is-not-due, Giving.count-delivery, Giving.count-event, Giving.gives-started, InTurn.gives-in-order, Once.starts-once}

pub collects-are-told : CollectsAreTold
collects-are-told rule calls moment few =
    let at = max (effective_moment calls) moment in
    let before = trace_of (Advance moment ∷ calls) in
    let due = gives-what-is-due rule at before in
    let started' = all-still rule (collected at) before (given rule at before) (delays-are-explained rule at before).1 in
    (given rule at before, not-exhausted rule calls (Collect moment) few, λ k d lt. (due k d lt, started' k d lt), gives-in-order rule at before)

module _ (rule : Rule) (number : ℕ) where
  command-times : (set : Settings) (queues : List ℕ) (command : Command) → times_in number (command_reply set queues command) ≡ 0
  command-times set queues (Pipe n bw delay limit loss buckets mask) = refl
  command-times set queues (Queue n pipe weight limit loss buckets mask) = by (is_some (set (ToPipe pipe)))
    where
      by : (b : Bool) → times_in number (cond b Configured NoSuchPipe) ≡ 0
      by true = refl
      by false = refl
  command-times set queues (DeletePipe n) = by (is_some (set (ToPipe n))) (has_queues set queues n)
    where
      by : (b c : Bool) → times_in number (cond b (cond c PipeHasQueues Deleted) NoSuchPipe) ≡ 0
      by true true = refl
      by true false = refl
      by false c = refl
  command-times set queues (DeleteQueue n) = by (is_some (set (ToQueue n)))
    where
      by : (b : Bool) → times_in number (cond b Deleted NoSuchQueue) ≡ 0
      by true = refl
      by false = refl

  verdict-times : (at : ℕ) (v : Verdict) (trace : List Event) → times_in number (reply_to_verdict at v trace) ≡ 0
  verdict-times at no_target trace = refl
  verdict-times at (loses link flow) trace = refl
  verdict-times at (refuses link flow) trace = refl
  verdict-times at (takes link flow how) trace = refl

  -- Only a Collect gives.
  given-still : (calls : List Call) (c : Call) → ((at : ℕ) → Gathers c at → ⊥) → (f : List Event) → AllEvents (Comes calls c) (trace_of calls) f →
      given_count rule number (f ++ trace_of calls) ≡ given_count rule number (trace_of calls)
  given-still calls c no_collect [] h = refl
  given-still calls c no_collect (collected at ∷ f) h = absurd (no_collect at h.0)
  given-still calls c no_collect (_ ∷ f) h = given-still calls c no_collect f h.1

  given-none : (calls : List Call) (c : Call) → ((at : ℕ) → Gathers c at → ⊥) → given_count rule number (trace_of (c ∷ calls)) ≡ given_count rule number (trace_of calls)
  given-none calls c no_collect = let h = call-comes calls c in ap (given_count rule number) h.1 ∙ given-still calls c no_collect h.0 h.2

  counted-times : (calls : List Call) (c : Call) → given_count rule number (trace_of (c ∷ calls)) ≡ times_in number (counted_reply rule calls c) + given_count rule number (trace_of calls)
  counted-times calls (Configure command) =
      let none = given-none calls (Configure command) (λ at h. h) in
      let times = command-times (settings calls) (queue_numbers calls) command in
      omega (arith, none, times)
  counted-times calls (Submit target packet moment) =
      let at = max (effective_moment calls) moment in
      let before = settled (settings calls) at (trace_of calls) in
      let none = given-none calls (Submit target packet moment) (λ at h. h) in
      let times = verdict-times at (verdict calls target packet before) before in
      omega (arith, none, times)
  counted-times calls (Advance moment) = let none = given-none calls (Advance moment) (λ at h. h) in omega (arith, none)
  counted-times calls (Collect moment) =
      ap {B = ℕ} (λ n. count_by (is_packet number) (given rule (max (effective_moment calls) moment) (trace_of (Advance moment ∷ calls))) + n) (given-none calls (Advance moment) (λ at h. h))
  counted-times calls Show = let none = given-none calls Show (λ at h. h) in omega (arith, none)

  -- What was told is what was given.
  told-given : (calls : List Call) → length calls ≤ call_limit → times_told number (replies rule calls) ≡ given_count rule number (trace_of calls)
  told-given [] few = refl
  told-given (c ∷ calls) few =
      let rest = told-given calls (omega (arith, few)) in
      let same = ap (times_in number) (not-exhausted rule calls c (omega (arith, few))) in
      omega (arith, rest, counted-times calls c, same)

  told-most : (calls : List Call) → times_told number (replies rule calls) ≤ given_count rule number (trace_of calls)
  told-most [] = omega arith
  told-most (c ∷ calls) = by (nat_le call_limit (length calls)) (told-most calls)
    where
      by : (b : Bool) → times_told number (replies rule calls) ≤ given_count rule number (trace_of calls) →
          times_in number (cond b Exhausted (counted_reply rule calls c)) + times_told number (replies rule calls) ≤ given_count rule number (trace_of (c ∷ calls))
      by true rest = omega (arith, rest, counted-times calls c)
      by false rest = omega (arith, rest, counted-times calls c)

pub told-once : (rule : Rule) (number : ℕ) (calls : List Call) → times_told number (replies rule calls) ≤ 1
told-once rule number calls =
    let most = told-most rule number calls in
    let all = gives-started rule number (trace_of calls) in
    let once = starts-once number calls in
    omega (arith, most, all, once)

module _ (number : ℕ) where
  start-counted : (s : Start) (trace : List Event) → s.packet.packet ≡ number → start_count number (started s ∷ trace) ≡ 1 + start_count number trace
  start-counted s trace is =
      let one = count-event (is_start_with number) (started s) trace in
      let yes' : cond {A = ℕ} (nat_eq s.packet.packet number) 1 0 ≡ 1 = ap {B = ℕ} (λ b. cond b 1 0) (eq-eqb s.packet.packet number is) in
      omega (arith, one, yes')

  pub has-start : (later : List Event) (s : Start) (earlier : List Event) → s.packet.packet ≡ number → 1 + start_count number earlier ≤ start_count number (later ++ started s ∷ earlier)
  has-start [] s earlier is = let one = start-counted s earlier is in omega (arith, one)
  has-start (e ∷ later) s earlier is =
      let rest = has-start later s earlier is in
      let more = count-event (is_start_with number) e (later ++ started s ∷ earlier) in
      omega (arith, rest, more)

  -- A packet that starts once does so at one place.
  pub one-start : (later later' : List Event) (s s' : Start) (earlier earlier' : List Event) → later ++ started s ∷ earlier ≡ later' ++ started s' ∷ earlier' → s.packet.packet ≡ number →
      s'.packet.packet ≡ number → start_count number (later ++ started s ∷ earlier) ≤ 1 → (s ≡ s') × (earlier ≡ earlier')
  one-start [] [] s s' earlier earlier' e is is' once = let first : s ≡ s' = cc in let rest : earlier ≡ earlier' = cc in (first, rest)
  one-start [] (y ∷ later') s s' earlier earlier' e is is' once =
      let rest : earlier ≡ later' ++ started s' ∷ earlier' = cc in
      let here = start-counted s earlier is in
      let there = has-start later' s' earlier' is' in
      absurd (omega (arith, once, here, there, ap (start_count number) rest))
  one-start (x ∷ later) [] s s' earlier earlier' e is is' once =
      let rest : later ++ started s ∷ earlier ≡ earlier' = cc in
      let here = start-counted s' earlier' is' in
      let there = has-start later s earlier is in
      let all = ap (start_count number) e in
      absurd (omega (arith, once, here, there, ap (start_count number) rest, all))
  one-start (x ∷ later) (y ∷ later') s s' earlier earlier' e is is' once =
      let rest : later ++ started s ∷ earlier ≡ later' ++ started s' ∷ earlier' = cc in
      let more = count-event (is_start_with number) x (later ++ started s ∷ earlier) in
      one-start later later' s s' earlier earlier' rest is is' (omega (arith, once, more))

  none-of : (ds : List Delivery) → All (λ d. is_packet number d ≡ false) ds → count_by (is_packet number) ds ≡ 0
  none-of [] h = refl
  none-of (d ∷ ds) h =
      let rest = none-of ds (All-tail (λ x. is_packet number x ≡ false) d ds h) in
      let one = count-delivery (is_packet number) d ds in
      let no' : cond {A = ℕ} (is_packet number d) 1 0 ≡ 0 = ap {B = ℕ} (λ b. cond b 1 0) (All-head (λ x. is_packet number x ≡ false) d ds h) in
      omega (arith, rest, one, no')

pub one-due : (rule : Rule) (s : Start) (last a b : ℕ) → IsDueBy rule s last a → IsDueBy rule s last b → a ≡ b
one-due Free s last a b h k = h ∙ sym k
one-due Ordered s last a b h k = h ∙ sym k

pub told-when-due : ToldWhenDue
told-when-due rule calls moment due later earlier s few happened is_due soon =
    let told = told-given rule number all (omega (arith, few)) in
    let counts = gives-started rule number (trace_of all) in
    let some = has-start number later s earlier refl in
    let same = ap (start_count number) happened in
    let once = starts-once number all in
    let none = none-of number (undelivered rule (trace_of all)) none-left in
    omega (arith, told, counts, some, same, once, none)
  where
    number : ℕ
    number = s.packet.packet

    all : List Call
    all = Collect moment ∷ calls

    -- What is left is of other packets.
    other : (d : Delivery) → effective_moment (Collect moment ∷ calls) < d.due → IsDeliveryOf rule (trace_of (Collect moment ∷ calls)) d → is_packet s.packet.packet d ≡ false
    other d late of = by (nat_eq d.packet s.packet.packet) refl
      where
        by : (b : Bool) → nat_eq d.packet s.packet.packet ≡ b → b ≡ false
        by false e = refl
        by true e =
            let mine : of.start.packet.packet ≡ s.packet.packet = sym of.number ∙ eqb-true d.packet s.packet.packet e in
            let parts : of.later ++ started of.start ∷ of.earlier ≡ later ++ started s ∷ earlier = sym of.happened ∙ happened in
            let once : start_count s.packet.packet (of.later ++ started of.start ∷ of.earlier) ≤ 1 =
            subst (λ (t : List Event). start_count s.packet.packet t ≤ 1) of.happened (starts-once s.packet.packet (Collect moment ∷ calls)) in
            let one = one-start s.packet.packet of.later later of.start s of.earlier earlier parts mine refl once in
            let at : IsDueBy rule s (last_due rule s.packet.link earlier) d.due =
            (subst (λ (t : List Event). IsDueBy rule s (last_due rule s.packet.link t) d.due) one.1
            (subst (λ (x : Start). IsDueBy rule x (last_due rule x.packet.link of.earlier) d.due) one.0 of.due)) in
            let same = one-due rule s (last_due rule s.packet.link earlier) d.due due at is_due in
            absurd (omega (arith, late, soon, same))

    none-left : All (λ d. is_packet s.packet.packet d ≡ false) (undelivered rule (trace_of (Collect moment ∷ calls)))
    none-left =
        let late = leaves-what-is-not-due rule moment calls in
        let of = (delays-are-explained rule 0 (trace_of (Collect moment ∷ calls))).0 in
        (λ k d lt. other _ (late k d lt) (of k d lt))
