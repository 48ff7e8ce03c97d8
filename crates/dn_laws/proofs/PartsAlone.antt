-- With the calls of other parts left out, the part of all happens: the own calls lag by no more than the clock.
use Rattle.dn_laws.proofs.Words.{Bool, List, None, Option, PartsHappenAlone, Some, [], ap, arith, cond, false, first_start-of, length, max, refl, subst, suc, sym, true, zero, ℕ, ◌∙◌, ◌∷◌, ◌≡◌}
use Rattle.dn_laws.proofs.Words.{◌≤◌}
use Rattle.dn_laws.proofs.LawWords.{verdict_by, after_verdict, after_command, trace_of, effective_moment, Settings, settings, subject, target_eq, queue_numbers, command_reply, setting_after}
use Rattle.dn_laws.proofs.LawWords.{reply_to_command, given, AreDivided, IsOfOnePart, links_of, own_of, Treatment, treatment, keys, keys_with, calls_on, is_carried, reply_to_verdict, counted_reply}
use Rattle.dn_laws.proofs.LawWords.{statuses_from, first_start, settle, settled, waiting_all, Start, Event, started, collected, links, Call, Configure, Submit, Advance, Collect, Show, Command, Pipe}
use Rattle.dn_laws.proofs.LawWords.{Queue, DeletePipe, DeleteQueue, Packet, Delivered, Status, Rule, Ordered, Target, ToPipe}
use Rattle.dn_laws.proofs.Advances.{settled-again}
use Rattle.dn_laws.proofs.Divided.{IsWithin, AreMine, queues-of, within, carried-on, carried-elsewhere, none-uncarried, keys-mine, after-elsewhere, setting-elsewhere, command-same}
use Rattle.dn_laws.proofs.Elsewhere.{quiet}
use Rattle.dn_laws.proofs.OnPipes.{AreOn, settled-on, verdict-on, after-on, after-links, settled-same, after-same}
use Rattle.dn_laws.proofs.PartCalls.{settings-on, keys-on, moment-on, other-links-change-nothing}

-- By the clock nothing is left to settle.
still : (calls : List Call) → settled (settings calls) (effective_moment calls) (trace_of calls) ≡ trace_of calls
still calls = by (waiting_all (links (trace_of calls)) (trace_of calls))
  where
    none : (o : Option Start) → first_start (settings calls) (effective_moment calls) (links (trace_of calls)) (trace_of calls) ≡ o → o ≡ None
    none None e = refl
    none (Some s) e =
        let of = first_start-of (settings calls) (effective_moment calls) (links (trace_of calls)) (trace_of calls) s e in
        let t : Some s ≡ None = sym of.1 ∙ quiet Ordered of.0 calls in
        absurd cc

    by : (most : ℕ) → settle most (settings calls) (effective_moment calls) (trace_of calls) ≡ trace_of calls
    by zero = refl
    by (suc most) = ap (λ (o : Option Start). elim o as (λ _. List Event) [ None ↦ trace_of calls | Some s ↦ settle most (settings calls) (effective_moment calls) (started s ∷ trace_of calls) ])
        (none (first_start (settings calls) (effective_moment calls) (links (trace_of calls)) (trace_of calls)) refl)

module _ (mine : Target → Bool) where
  -- The pipe is the part's.
  abbrev On : ℕ → Type 0
  On number = mine (ToPipe number) ≡ true

  abbrev pub less : List Call → List Call
  less calls = calls_on (links_of mine) calls

  abbrev IsCarried : List Call → Target → Type 0
  IsCarried calls target = (how : Treatment) → treatment (settings calls target) ≡ Some how → On how.pipe

  -- Without the packets of others all links are the part's.
  pub less-on : (calls : List Call) → AreOn On (links (trace_of (less calls)))
  less-on [] = tt
  less-on (Configure command ∷ calls) = after-links On (reply_to_command (less calls) command) command (keys (less calls)) (trace_of (less calls)) (less-on calls)
  less-on (Submit target packet moment ∷ calls) = by (is_carried (links_of mine) target packet.tuple (treatment (settings calls target))) refl (less-on calls)
    where
      by : (b : Bool) → is_carried (links_of mine) target packet.tuple (treatment (settings calls target)) ≡ b → AreOn On (links (trace_of (less calls)))
          → AreOn On (links (trace_of (cond b (Submit target packet moment) (Advance moment) ∷ less calls)))
      by true e h =
          let s = settings-on (links_of mine) calls in
          let at = max (effective_moment (less calls)) moment in
          let before = settled (settings (less calls)) at (trace_of (less calls)) in
          let o = treatment (settings (less calls) target) in
          after-on On (settings (less calls)) at packet (verdict_by (keys (less calls)) target packet o before) before
          (verdict-on On (keys (less calls)) target packet o before
          (λ how is. carried-on mine target packet.tuple (treatment (settings calls target)) e how (sym (ap (λ (f : Settings). treatment (f target)) s) ∙ is)))
          (settled-on On (settings (less calls)) at (trace_of (less calls)) h)
      by false e h = settled-on On (settings (less calls)) (max (effective_moment (less calls)) moment) (trace_of (less calls)) h
  less-on (Advance moment ∷ calls) = settled-on On (settings (less calls)) (max (effective_moment (less calls)) moment) (trace_of (less calls)) (less-on calls)
  less-on (Collect moment ∷ calls) = settled-on On (settings (less calls)) (max (effective_moment (less calls)) moment) (trace_of (less calls)) (less-on calls)
  less-on (Show ∷ calls) = less-on calls

  -- The part's own calls lag by no more than the clock.
  pub record IsBehind (alone whole : List Call) : Type 0 where
    pub set_is : (target : Target) → mine target ≡ true → settings alone target ≡ settings whole target
    pub queues_are : queue_numbers alone ≡ queues-of mine (queue_numbers whole)
    pub keys_are : keys alone ≡ keys whole
    pub lags : effective_moment alone ≤ effective_moment whole
    pub no_more : length alone ≤ length whole
    pub settles : (m : ℕ) → effective_moment whole ≤ m → settled (settings alone) m (trace_of alone) ≡ settled (settings alone) m (trace_of whole)

  module _ (alone whole : List Call) (h : IsBehind alone whole) (on : AreOn On (links (trace_of whole))) where
    same-settled : (at : ℕ) → settled (settings alone) at (trace_of whole) ≡ settled (settings whole) at (trace_of whole)
    same-settled at = settled-same On (settings alone) (settings whole) (λ n is. h.set_is (ToPipe n) is) at (trace_of whole) on

    pub clocks : (m : ℕ) → effective_moment whole ≤ max (effective_moment alone) m → max (effective_moment alone) m ≡ max (effective_moment whole) m
    clocks m le = omega (arith, h.lags, le)

    pub before-same : (m : ℕ) → effective_moment whole ≤ max (effective_moment alone) m →
        settled (settings alone) (max (effective_moment alone) m) (trace_of alone) ≡ settled (settings whole) (max (effective_moment whole) m) (trace_of whole)
    before-same m le =
        let at = max (effective_moment alone) m in
        h.settles at le ∙ same-settled at ∙ ap (λ k. settled (settings whole) k (trace_of whole)) (clocks m le)

    -- At the clock of all, what happened in the part is the same.
    pub at-clock : effective_moment whole ≤ effective_moment alone → trace_of alone ≡ trace_of whole
    at-clock le =
        let c : effective_moment alone ≡ effective_moment whole = omega (arith, h.lags, le) in
        sym (still alone) ∙ h.settles (effective_moment alone) le ∙ same-settled (effective_moment alone) ∙ ap (λ k. settled (settings whole) k (trace_of whole)) c ∙ still whole

    pub own-submit : (target : Target) (packet : Packet) (m : ℕ) → mine target ≡ true → IsCarried whole target → effective_moment whole ≤ max (effective_moment alone) m →
        IsBehind (Submit target packet m ∷ alone) (Submit target packet m ∷ whole)
    own-submit target packet m is carried le =
        let b = before-same m le in
        let s = h.set_is target is in
        let before = settled (settings whole) (max (effective_moment whole) m) (trace_of whole) in
        let o = treatment (settings whole target) in
        let same : trace_of (Submit target packet m ∷ alone) ≡ trace_of (Submit target packet m ∷ whole) =
        (λ i. after_verdict (settings alone) (clocks m le i) packet (verdict_by (h.keys_are i) target packet (treatment (s i)) (b i)) (b i))
        ∙ after-same On (settings alone) (settings whole) (λ n e. h.set_is (ToPipe n) e) (max (effective_moment whole) m) packet (verdict_by (keys whole) target packet o before) before
        (verdict-on On (keys whole) target packet o before carried) in
        record {
          set_is = h.set_is;
          queues_are = h.queues_are;
          keys_are = (λ i. keys_with target packet.tuple (treatment (s i)) (h.keys_are i));
          lags = omega (arith, h.lags);
          no_more = omega (arith, h.no_more);
          settles = λ n later. ap (λ (t : List Event). settled (settings alone) n t) same;
        }

    pub submit-told : (rule : Rule) (target : Target) (packet : Packet) (m : ℕ) → mine target ≡ true → effective_moment whole ≤ max (effective_moment alone) m →
        counted_reply rule alone (Submit target packet m) ≡ counted_reply rule whole (Submit target packet m)
    submit-told rule target packet m is le =
        let b = before-same m le in
        λ i. reply_to_verdict (clocks m le i) (verdict_by (h.keys_are i) target packet (treatment (h.set_is target is i)) (b i)) (b i)

    -- A packet without a target.
    pub own-none : (target : Target) (packet : Packet) (m : ℕ) → treatment (settings alone target) ≡ None → effective_moment whole ≤ max (effective_moment alone) m →
        IsBehind (Submit target packet m ∷ alone) (Advance m ∷ whole)
    own-none target packet m none le =
        let at = max (effective_moment alone) m in
        let before = settled (settings alone) at (trace_of alone) in
        let same : trace_of (Submit target packet m ∷ alone) ≡ trace_of (Advance m ∷ whole) =
        (λ i. after_verdict (settings alone) at packet (verdict_by (keys alone) target packet (none i) before) before) ∙ before-same m le in
        record {
          set_is = h.set_is;
          queues_are = h.queues_are;
          keys_are = (λ i. keys_with target packet.tuple (none i) (keys alone)) ∙ h.keys_are;
          lags = omega (arith, h.lags);
          no_more = omega (arith, h.no_more);
          settles = λ n later. ap (λ (t : List Event). settled (settings alone) n t) same;
        }

    pub own-advance : (m : ℕ) → effective_moment whole ≤ max (effective_moment alone) m → IsBehind (Advance m ∷ alone) (Advance m ∷ whole)
    own-advance m le =
        record {
          set_is = h.set_is;
          queues_are = h.queues_are;
          keys_are = h.keys_are;
          lags = omega (arith, h.lags);
          no_more = omega (arith, h.no_more);
          settles = λ n later. ap (λ (t : List Event). settled (settings alone) n t) (before-same m le);
        }

    pub own-collect : (m : ℕ) → effective_moment whole ≤ max (effective_moment alone) m → IsBehind (Collect m ∷ alone) (Collect m ∷ whole)
    own-collect m le =
        record {
          set_is = h.set_is;
          queues_are = h.queues_are;
          keys_are = h.keys_are;
          lags = omega (arith, h.lags);
          no_more = omega (arith, h.no_more);
          settles = λ n later. (λ i. settled (settings alone) n (collected (clocks m le i) ∷ (before-same m le) i));
        }

    pub collect-told : (rule : Rule) (m : ℕ) → effective_moment whole ≤ max (effective_moment alone) m → counted_reply rule alone (Collect m) ≡ counted_reply rule whole (Collect m)
    collect-told rule m le = let c = clocks m le in λ i. Delivered (c i) (given rule (c i) (before-same m le i))

    pub own-show : IsBehind (Show ∷ alone) (Show ∷ whole)
    own-show =
        record {
          set_is = h.set_is;
          queues_are = h.queues_are;
          keys_are = h.keys_are;
          lags = omega (arith, h.lags);
          no_more = omega (arith, h.no_more);
          settles = λ n later. h.settles n (omega (arith, later));
        }

    pub show-told : (rule : Rule) → effective_moment whole ≤ effective_moment alone → counted_reply rule alone Show ≡ counted_reply rule whole Show
    show-told rule le = λ i. Status (statuses_from 0 (h.keys_are i) (at-clock le i))

    pub command-told : (command : Command) → IsWithin mine (settings whole) → IsOfOnePart mine command → mine (subject command) ≡ true → reply_to_command alone command ≡ reply_to_command whole command
    command-told command inside one is =
        (λ i. command_reply (settings alone) (h.queues_are i) command) ∙ command-same mine (settings alone) (settings whole) h.set_is inside command (queue_numbers whole) one is

    queues-with : (command : Command) → mine (subject command) ≡ true → queue_numbers (Configure command ∷ alone) ≡ queues-of mine (queue_numbers (Configure command ∷ whole))
    queues-with (Queue number pipe weight limit loss buckets mask) is =
        ap (λ (qs : List ℕ). number ∷ qs) h.queues_are
        ∙ sym (ap (λ b. cond b (number ∷ queues-of mine (queue_numbers whole)) (queues-of mine (queue_numbers whole))) is)
    queues-with (Pipe number bw delay limit loss buckets mask) is = h.queues_are
    queues-with (DeletePipe number) is = h.queues_are
    queues-with (DeleteQueue number) is = h.queues_are

    pub own-command : (command : Command) → IsWithin mine (settings whole) → IsOfOnePart mine command → mine (subject command) ≡ true → effective_moment whole ≤ effective_moment alone →
        IsBehind (Configure command ∷ alone) (Configure command ∷ whole)
    own-command command inside one is le =
        let r = command-told command inside one is in
        record {
          set_is = λ target on. (let s = h.set_is target on in λ i. cond (target_eq (subject command) target) (setting_after (r i) command (s i)) (s i));
          queues_are = queues-with command is;
          keys_are = h.keys_are;
          lags = omega (arith, h.lags);
          no_more = omega (arith, h.no_more);
          settles = λ n later. (λ i. settled (settings (Configure command ∷ alone)) n (after_command (r i) command (h.keys_are i) (at-clock le i)));
        }

    pub other-advance : (m : ℕ) → IsBehind alone (Advance m ∷ whole)
    other-advance m =
        let at = max (effective_moment whole) m in
        record {
          set_is = h.set_is;
          queues_are = h.queues_are;
          keys_are = h.keys_are;
          lags = omega (arith, h.lags);
          no_more = omega (arith, h.no_more);
          settles = λ n later.
              h.settles n (omega (arith, later)) ∙ sym (settled-again (settings alone) at n (omega (arith, later)) (trace_of whole))
              ∙ ap (λ (t : List Event). settled (settings alone) n t) (same-settled at);
        }

    pub other-show : IsBehind alone (Show ∷ whole)
    other-show =
        record {
          set_is = h.set_is;
          queues_are = h.queues_are;
          keys_are = h.keys_are;
          lags = omega (arith, h.lags);
          no_more = omega (arith, h.no_more);
          settles = λ n later. h.settles n (omega (arith, later));
        }

    queues-without : (command : Command) → mine (subject command) ≡ false → queue_numbers alone ≡ queues-of mine (queue_numbers (Configure command ∷ whole))
    queues-without (Queue number pipe weight limit loss buckets mask) off =
        h.queues_are ∙ sym (ap (λ b. cond b (number ∷ queues-of mine (queue_numbers whole)) (queues-of mine (queue_numbers whole))) off)
    queues-without (Pipe number bw delay limit loss buckets mask) off = h.queues_are
    queues-without (DeletePipe number) off = h.queues_are
    queues-without (DeleteQueue number) off = h.queues_are

    pub other-command : (command : Command) → mine (subject command) ≡ false → AreMine mine (keys whole) → IsBehind alone (Configure command ∷ whole)
    other-command command off known =
        record {
          set_is = λ target is. h.set_is target is ∙ sym (setting-elsewhere mine whole command target off is);
          queues_are = queues-without command off;
          keys_are = h.keys_are;
          lags = omega (arith, h.lags);
          no_more = omega (arith, h.no_more);
          settles = λ n later.
              h.settles n (omega (arith, later))
              ∙ ap (λ (t : List Event). settled (settings alone) n t) (sym (after-elsewhere mine (reply_to_command whole command) command (keys whole) (trace_of whole) off known));
        }

  module _ (is_own : ℕ → Bool) where
    abbrev pub alone-of : List Call → List Call
    alone-of calls = own_of is_own calls

    pub less-within : (calls : List Call) → AreDivided mine is_own calls → IsWithin mine (settings (less calls))
    less-within calls d = λ target how e. within mine is_own calls d target how (sym (ap (λ (f : Settings). treatment (f target)) (settings-on (links_of mine) calls)) ∙ e)

    less-mine : (calls : List Call) → AreDivided mine is_own calls → AreMine mine (keys (less calls))
    less-mine calls d = subst (AreMine mine) (sym (keys-on (links_of mine) calls)) (keys-mine mine is_own calls d)

    pub in-turn : (calls : List Call) (m : ℕ) → effective_moment calls ≤ max (effective_moment (alone-of calls)) m → effective_moment (less calls) ≤ max (effective_moment (alone-of calls)) m
    in-turn calls m le = omega (arith, moment-on (links_of mine) calls, le)

    pub carried-less : (calls : List Call) (target : Target) (packet : Packet) → is_carried (links_of mine) target packet.tuple (treatment (settings calls target)) ≡ true
        → IsCarried (less calls) target
    carried-less calls target packet e = λ how is.
        carried-on mine target packet.tuple (treatment (settings calls target)) e how (sym (ap (λ (f : Settings). treatment (f target)) (settings-on (links_of mine) calls)) ∙ is)

    -- A packet to a target of the part that isn't carried has none.
    pub none-alone : (calls : List Call) (target : Target) (packet : Packet) → AreDivided mine is_own calls → IsBehind (alone-of calls) (less calls) → mine target ≡ true
        → is_carried (links_of mine) target packet.tuple (treatment (settings calls target)) ≡ false → treatment (settings (alone-of calls) target) ≡ None
    none-alone calls target packet d h is e =
        ap treatment (h.set_is target is) ∙ ap (λ (f : Settings). treatment (f target)) (settings-on (links_of mine) calls)
        ∙ none-uncarried mine target packet.tuple (treatment (settings calls target)) (λ how f. within mine is_own calls d target how f) is e

    submit-behind : (calls : List Call) (target : Target) (packet : Packet) (m : ℕ) → AreDivided mine is_own calls → IsBehind (alone-of calls) (less calls)
        → (b : Bool) → mine target ≡ b → (b ≡ true → effective_moment calls ≤ max (effective_moment (alone-of calls)) m) →
        (c : Bool) → is_carried (links_of mine) target packet.tuple (treatment (settings calls target)) ≡ c →
        IsBehind (cond b (Submit target packet m ∷ alone-of calls) (alone-of calls)) (cond c (Submit target packet m) (Advance m) ∷ less calls)
    submit-behind calls target packet m d h true is le true e =
        own-submit (alone-of calls) (less calls) h (less-on calls) target packet m is (carried-less calls target packet e) (in-turn calls m (le refl))
    submit-behind calls target packet m d h true is le false e =
        own-none (alone-of calls) (less calls) h (less-on calls) target packet m (none-alone calls target packet d h is e) (in-turn calls m (le refl))
    submit-behind calls target packet m d h false is le true e =
        let t : true ≡ false = sym e ∙ carried-elsewhere mine target packet.tuple (treatment (settings calls target)) (λ how f. within mine is_own calls d target how f) is in absurd cc
    submit-behind calls target packet m d h false is le false e = other-advance (alone-of calls) (less calls) h (less-on calls) m

    pub behind : (calls : List Call) → AreDivided mine is_own calls → IsBehind (alone-of calls) (less calls)
    behind [] d = record { set_is = λ target is. refl; queues_are = refl; keys_are = refl; lags = omega arith; no_more = omega arith; settles = λ m le. refl }
    behind (Configure command ∷ calls) d = by (is_own (length calls)) d.0.0 (behind calls d.2) d.1
      where
        by : (b : Bool) → b ≡ mine (subject command) → IsBehind (alone-of calls) (less calls)
            → (b ≡ true → effective_moment calls ≤ effective_moment (Configure command ∷ alone-of calls)) →
            IsBehind (cond b (Configure command ∷ alone-of calls) (alone-of calls)) (Configure command ∷ less calls)
        by true is h le =
            own-command (alone-of calls) (less calls) h (less-on calls) command (less-within calls d.2) d.0.1 (sym is)
            (let late = le refl in omega (arith, moment-on (links_of mine) calls, late))
        by false is h le = other-command (alone-of calls) (less calls) h (less-on calls) command (sym is) (less-mine calls d.2)
    behind (Submit target packet moment ∷ calls) d =
        submit-behind calls target packet moment d.2 (behind calls d.2) (is_own (length calls)) (sym d.0) d.1
        (is_carried (links_of mine) target packet.tuple (treatment (settings calls target))) refl
    behind (Advance moment ∷ calls) d = by (is_own (length calls)) (behind calls d.2) d.1
      where
        by : (b : Bool) → IsBehind (alone-of calls) (less calls) → (b ≡ true → effective_moment calls ≤ max (effective_moment (alone-of calls)) moment) →
            IsBehind (cond b (Advance moment ∷ alone-of calls) (alone-of calls)) (Advance moment ∷ less calls)
        by true h le = own-advance (alone-of calls) (less calls) h (less-on calls) moment (in-turn calls moment (le refl))
        by false h le = other-advance (alone-of calls) (less calls) h (less-on calls) moment
    behind (Collect moment ∷ calls) d = by (is_own (length calls)) d.0 (behind calls d.2) d.1
      where
        by : (b : Bool) → b ≡ true → IsBehind (alone-of calls) (less calls) → (b ≡ true → effective_moment calls ≤ max (effective_moment (alone-of calls)) moment) →
            IsBehind (cond b (Collect moment ∷ alone-of calls) (alone-of calls)) (Collect moment ∷ less calls)
        by true is h le = own-collect (alone-of calls) (less calls) h (less-on calls) moment (in-turn calls moment (le refl))
        by false is h le = absurd cc
    behind (Show ∷ calls) d = by (is_own (length calls)) (behind calls d.2)
      where
        by : (b : Bool) → IsBehind (alone-of calls) (less calls) → IsBehind (cond b (Show ∷ alone-of calls) (alone-of calls)) (Show ∷ less calls)
        by true h = own-show (alone-of calls) (less calls) h (less-on calls)
        by false h = other-show (alone-of calls) (less calls) h (less-on calls)

pub parts-happen-alone : PartsHappenAlone
parts-happen-alone mine is_own calls d =
    let h = behind mine is_own calls d in
    let e = moment-on (links_of mine) calls in
    let alone = own_of is_own calls in
    let whole = less mine calls in
    let at = effective_moment whole in
    let clock : max (effective_moment alone) (effective_moment calls) ≡ at = omega (arith, h.lags, e) in
    ap (λ m. settled (settings alone) m (trace_of alone)) clock ∙ h.settles at (omega arith) ∙ same-settled mine alone whole h (less-on mine calls) at ∙ still whole
    ∙ other-links-change-nothing (links_of mine) calls
