-- A replay falls apart by links.
use Rattle.dn_laws.proofs.Words.{AgreeingCallsAgree, ArePackets, Bool, IsReplay, List, ReplaysFallApart, [], ap, arith, cond, false, filter, is_some, length, max, nat_le, nat_tests, refl, sym}
use Rattle.dn_laws.proofs.Words.{true, ℕ, ◌<◌, ◌∙◌, ◌∷◌, ◌≡◌, ◌≤◌}
use Rattle.dn_laws.proofs.LawWords.{Verdict, no_target, loses, refuses, takes, verdict_by, after_verdict, trace_of, effective_moment, call_limit, Settings, settings, queue_numbers, has_queues}
use Rattle.dn_laws.proofs.LawWords.{command_reply, given, treatment, keys, keys_with, Choice, is_carried, calls_on, AreCommands, own_calls, reply_to_verdict, counted_reply, reply, replies, is_told}
use Rattle.dn_laws.proofs.LawWords.{settled, Event, Call, Configure, Submit, Advance, Collect, Show, Command, Pipe, Queue, DeletePipe, DeleteQueue, Packet, Reply, Configured, NoSuchPipe, Deleted}
use Rattle.dn_laws.proofs.LawWords.{PipeHasQueues, NoSuchQueue, Delivered, Exhausted, Rule, Target, ToPipe, ToQueue}
use Rattle.dn_laws.proofs.Advances.{settled-again}
use Rattle.dn_laws.proofs.PartCalls.{moment-on, length-on, other-links-change-nothing}
use Rattle.dn_laws.proofs.PartReplies.{other-links-change-no-reply}

pub agreeing-calls-agree : AgreeingCallsAgree
agreeing-calls-agree rule chosen calls others same = (
  sym (other-links-change-nothing chosen calls) ∙ ap trace_of same ∙ other-links-change-nothing chosen others,
  sym (other-links-change-no-reply rule chosen calls) ∙ ap (replies rule) same ∙ other-links-change-no-reply rule chosen others,
)

told-verdict : (at : ℕ) (v : Verdict) (t : List Event) → is_told (reply_to_verdict at v t) ≡ true
told-verdict at no_target t = refl
told-verdict at (loses l f) t = refl
told-verdict at (refuses l f) t = refl
told-verdict at (takes l f how) t = refl

told-command : (set : Settings) (queues : List ℕ) (command : Command) → is_told (command_reply set queues command) ≡ true
told-command set queues (Pipe number bw delay limit loss buckets mask) = refl
told-command set queues (Queue number carrier weight limit loss buckets mask) = by (is_some (set (ToPipe carrier)))
  where
    by : (b : Bool) → is_told (cond b Configured NoSuchPipe) ≡ true
    by true = refl
    by false = refl
told-command set queues (DeletePipe number) = by (is_some (set (ToPipe number))) (has_queues set queues number)
  where
    by : (b c : Bool) → is_told (cond b (cond c PipeHasQueues Deleted) NoSuchPipe) ≡ true
    by true true = refl
    by true false = refl
    by false c = refl
told-command set queues (DeleteQueue number) = by (is_some (set (ToQueue number)))
  where
    by : (b : Bool) → is_told (cond b Deleted NoSuchQueue) ≡ true
    by true = refl
    by false = refl

module _ (rule : Rule) where
  keep : (r : Reply) (rs : List Reply) → is_told r ≡ true → filter is_told (r ∷ rs) ≡ r ∷ filter is_told rs
  keep r rs e = ap (λ b. cond b (r ∷ filter is_told rs) (filter is_told rs)) e

  -- A call that counts.
  pub counts : (calls : List Call) (c : Call) → length calls < call_limit → reply rule calls c ≡ counted_reply rule calls c
  counts calls c lt = let few : nat_le call_limit (length calls) ≡ false = grind (arith, nat_tests) in ap (λ b. cond b Exhausted (counted_reply rule calls c)) few

module _ (rule : Rule) (chosen : Choice) where
  abbrev less : List Call → List Call
  less calls = calls_on chosen calls

  abbrev own : List Call → List Call
  own calls = own_calls chosen calls

  -- Commands alone are the same either way.
  own-commands : (calls : List Call) → AreCommands calls → own calls ≡ less calls
  own-commands [] h = refl
  own-commands (Configure command ∷ calls) h = ap (λ (cs : List Call). Configure command ∷ cs) (own-commands calls h)
  own-commands (_ ∷ calls) h = absurd h

  all-told : (calls : List Call) → AreCommands calls → length calls ≤ call_limit → replies rule (less calls) ≡ filter is_told (replies rule (less calls))
  all-told [] h few = refl
  all-told (Configure command ∷ calls) h few =
      let rest = all-told calls h (omega (arith, few)) in
      let one = counts rule (less calls) (Configure command) (let n = length-on chosen calls in omega (arith, n, few)) in
      let told = ap is_told one ∙ told-command (settings (less calls)) (queue_numbers (less calls)) command in
      ap (λ (rs : List Reply). reply rule (less calls) (Configure command) ∷ rs) rest ∙ sym (keep rule (reply rule (less calls) (Configure command)) (replies rule (less calls)) told)
  all-told (_ ∷ calls) h few = absurd h

  -- The one with the chosen packets alone lags by no more than the clock.
  pub record IsBehind (mine whole : List Call) (clock : ℕ) : Type 0 where
    pub set_is : settings mine ≡ settings whole
    pub keys_are : keys mine ≡ keys whole
    pub clock_is : effective_moment whole ≡ clock
    pub no_later : effective_moment mine ≤ clock
    pub no_more : length mine ≤ length whole
    pub settles : (m : ℕ) → clock ≤ m → settled (settings mine) m (trace_of mine) ≡ settled (settings whole) m (trace_of whole)
    pub told : replies rule mine ≡ filter is_told (replies rule whole)

  behind-same : (calls : List Call) (mine : List Call) → mine ≡ less calls
      → replies rule (less calls) ≡ filter is_told (replies rule (less calls)) → IsBehind mine (less calls) (effective_moment calls)
  behind-same calls mine e all =
      let m = moment-on chosen calls in
      record {
        set_is = ap settings e;
        keys_are = ap keys e;
        clock_is = m;
        no_later = let s = ap effective_moment e in omega (arith, s, m);
        no_more = let s = ap {A = List Call} (λ cs. length cs) e in omega (arith, s);
        settles = λ n le. (λ i. settled (settings (e i)) n (trace_of (e i)));
        told = ap (replies rule) e ∙ all;
      }

  -- A packet at the clock after the one list gets the reply that it gets after the other.
  pub submit-same : (mine whole : List Call) (clock : ℕ) (target : Target) (packet : Packet) (moment : ℕ) → IsBehind mine whole clock → length whole < call_limit →
      reply rule mine (Submit target packet (max clock moment)) ≡ reply rule whole (Submit target packet moment)
  submit-same mine whole clock target packet moment h few =
      let at = max clock moment in
      let lags = h.no_later in
      let c = h.clock_is in
      let n = h.no_more in
      let one : max (effective_moment mine) at ≡ at = omega (arith, lags) in
      let two : max (effective_moment whole) moment ≡ at = omega (arith, c) in
      let b = ap (λ k. settled (settings mine) k (trace_of mine)) one ∙ h.settles at (omega arith) ∙ sym (ap (λ k. settled (settings whole) k (trace_of whole)) two) in
      let moments = one ∙ sym two in
      let s = h.set_is in
      let ks = h.keys_are in
      let answer : counted_reply rule mine (Submit target packet at) ≡ counted_reply rule whole (Submit target packet moment) =
      (λ i. reply_to_verdict (moments i) (verdict_by (ks i) target packet (treatment (s i target)) (b i)) (b i)) in
      counts rule mine (Submit target packet at) (omega (arith, n, few)) ∙ answer ∙ sym (counts rule whole (Submit target packet moment) few)

  submit-behind : (mine whole : List Call) (clock : ℕ) (target : Target) (packet : Packet) (moment : ℕ) → IsBehind mine whole clock → length whole < call_limit →
      IsBehind (Submit target packet (max clock moment) ∷ mine) (Submit target packet moment ∷ whole) (max clock moment)
  submit-behind mine whole clock target packet moment h few =
      let at = max clock moment in
      let lags = h.no_later in
      let c = h.clock_is in
      let n = h.no_more in
      let one : max (effective_moment mine) at ≡ at = omega (arith, lags) in
      let two : max (effective_moment whole) moment ≡ at = omega (arith, c) in
      let b = ap (λ k. settled (settings mine) k (trace_of mine)) one ∙ h.settles at (omega arith) ∙ sym (ap (λ k. settled (settings whole) k (trace_of whole)) two) in
      let moments = one ∙ sym two in
      let s = h.set_is in
      let ks = h.keys_are in
      let same : trace_of (Submit target packet at ∷ mine) ≡ trace_of (Submit target packet moment ∷ whole) =
      (λ i. after_verdict (s i) (moments i) packet (verdict_by (ks i) target packet (treatment (s i target)) (b i)) (b i)) in
      let before = settled (settings whole) (max (effective_moment whole) moment) (trace_of whole) in
      let is_one = ap is_told (counts rule whole (Submit target packet moment) few)
      ∙ told-verdict (max (effective_moment whole) moment) (verdict_by (keys whole) target packet (treatment (settings whole target)) before) before in
      let both = submit-same mine whole clock target packet moment h few in
      let rest = h.told in
      record {
        set_is = (λ i t. s i t);
        keys_are = (λ i. keys_with target packet.tuple (treatment (s i target)) (ks i));
        clock_is = two;
        no_later = omega (arith, one);
        no_more = omega (arith, n);
        settles = λ m le. (λ i. settled (λ t. s i t) m (same i));
        told = (λ i. both i ∷ rest i) ∙ sym (keep rule (reply rule whole (Submit target packet moment)) (replies rule whole) is_one);
      }

  advance-behind : (mine whole : List Call) (clock moment : ℕ) → IsBehind mine whole clock → length whole < call_limit → IsBehind mine (Advance moment ∷ whole) (max clock moment)
  advance-behind mine whole clock moment h few =
      let lags = h.no_later in
      let c = h.clock_is in
      let n = h.no_more in
      let at = max (effective_moment whole) moment in
      let right = counts rule whole (Advance moment) few in
      record {
        set_is = h.set_is ∙ (λ i t. settings whole t);
        keys_are = h.keys_are;
        clock_is = omega (arith, c);
        no_later = omega (arith, lags);
        no_more = omega (arith, n);
        settles = λ m le. h.settles m (omega (arith, le)) ∙ sym (settled-again (settings whole) at m (omega (arith, le, c)) (trace_of whole));
        told = h.told ∙ sym (ap (λ b. cond b (reply rule whole (Advance moment) ∷ filter is_told (replies rule whole)) (filter is_told (replies rule whole))) (ap is_told right));
      }

  pub packets-behind : (calls : List Call) → ArePackets calls → length calls ≤ call_limit → IsBehind (own calls) (less calls) (effective_moment calls)
  packets-behind [] h few = behind-same [] [] refl refl
  packets-behind (Configure command ∷ calls) h few = behind-same (Configure command ∷ calls) (own (Configure command ∷ calls))
      (own-commands (Configure command ∷ calls) h) (all-told (Configure command ∷ calls) h few)
  packets-behind (Submit target packet moment ∷ calls) h few =
      by (is_carried chosen target packet.tuple (treatment (settings calls target))) (packets-behind calls h (omega (arith, few)))
    where
      below : length (less calls) < call_limit
      below = let n = length-on chosen calls in omega (arith, n, few)

      by : (b : Bool) → IsBehind (own calls) (less calls) (effective_moment calls) →
          IsBehind (cond b (Submit target packet (max (effective_moment calls) moment) ∷ own calls) (own calls))
          (cond b (Submit target packet moment) (Advance moment) ∷ less calls) (max (effective_moment calls) moment)
      by true rest = submit-behind (own calls) (less calls) (effective_moment calls) target packet moment rest below
      by false rest = advance-behind (own calls) (less calls) (effective_moment calls) moment rest below
  packets-behind (_ ∷ calls) h few = absurd h

  pub collect-same : (mine whole : List Call) (clock moment : ℕ) → IsBehind mine whole clock → length whole < call_limit →
      reply rule mine (Collect (max clock moment)) ≡ reply rule whole (Collect moment)
  collect-same mine whole clock moment h few =
      let at = max clock moment in
      let lags = h.no_later in
      let c = h.clock_is in
      let n = h.no_more in
      let one : max (effective_moment mine) at ≡ at = omega (arith, lags) in
      let two : max (effective_moment whole) moment ≡ at = omega (arith, c) in
      let b = ap (λ k. settled (settings mine) k (trace_of mine)) one ∙ h.settles at (omega arith) ∙ sym (ap (λ k. settled (settings whole) k (trace_of whole)) two) in
      let moments = one ∙ sym two in
      let answer : counted_reply rule mine (Collect at) ≡ counted_reply rule whole (Collect moment) = (λ i. Delivered (moments i) (given rule (moments i) (b i))) in
      counts rule mine (Collect at) (omega (arith, n, few)) ∙ answer ∙ sym (counts rule whole (Collect moment) few)

  collect-told : (mine whole : List Call) (clock moment : ℕ) → IsBehind mine whole clock → length whole < call_limit →
      replies rule (Collect (max clock moment) ∷ mine) ≡ filter is_told (replies rule (Collect moment ∷ whole))
  collect-told mine whole clock moment h few =
      let both = collect-same mine whole clock moment h few in
      let rest = h.told in
      (λ i. both i ∷ rest i) ∙ sym (keep rule (reply rule whole (Collect moment)) (replies rule whole) (ap is_told (counts rule whole (Collect moment) few)))

  replay-told : (calls : List Call) → IsReplay calls → length calls ≤ call_limit → replies rule (own calls) ≡ filter is_told (replies rule (less calls))
  replay-told [] h few = refl
  replay-told (Configure command ∷ calls) h few = (packets-behind (Configure command ∷ calls) h few).told
  replay-told (Submit target packet moment ∷ calls) h few = (packets-behind (Submit target packet moment ∷ calls) h few).told
  replay-told (Advance moment ∷ calls) h few = absurd h
  replay-told (Collect moment ∷ calls) h few =
      collect-told (own calls) (less calls) (effective_moment calls) moment (packets-behind calls h (omega (arith, few))) (let n = length-on chosen calls in omega (arith, n, few))
  replay-told (Show ∷ calls) h few = absurd h

pub replays-fall-apart : ReplaysFallApart
replays-fall-apart rule chosen calls h few = replay-told rule chosen calls h few ∙ ap (filter is_told) (other-links-change-no-reply rule chosen calls)
