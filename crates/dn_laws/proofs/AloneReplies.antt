-- Each part is answered as if the others weren't there.
use Rattle.dn_laws.proofs.Words.{Bool, List, PartsAreAlone, [], ap, arith, cond, false, is_some, length, map, max, own_reply_by, refl, suc, sym, trace-proper, true, ℕ, ◌<◌, ◌∙◌, ◌∷◌, ◌≡◌, ◌≤◌}
use Rattle.dn_laws.proofs.LawWords.{Verdict, no_target, loses, refuses, takes, verdict_by, trace_of, effective_moment, call_limit, Settings, settings, queue_numbers, has_queues, command_reply}
use Rattle.dn_laws.proofs.LawWords.{AreDivided, links_of, own_of, treatment, keys, Choice, is_flow_on, is_packet_on, is_carried, reply_to_verdict, counted_reply, reply, replies, reply_by, settled}
use Rattle.dn_laws.proofs.LawWords.{Event, Call, Configure, Submit, Advance, Collect, Show, Command, Pipe, Queue, DeletePipe, DeleteQueue, Packet, Reply, NoTarget, Advanced, Configured, NoSuchPipe}
use Rattle.dn_laws.proofs.LawWords.{Deleted, PipeHasQueues, NoSuchQueue, Rule, Target, ToPipe, ToQueue}
use Rattle.dn_laws.proofs.Divided.{within, none-uncarried}
use Rattle.dn_laws.proofs.PartCalls.{IsKeyed, AreTaken, moment-on, length-on, keyed-before, taken-before, keyed-all, all-taken}
use Rattle.dn_laws.proofs.PartReplays.{counts}
use Rattle.dn_laws.proofs.PartReplies.{HasTarget, has-target, counted-reply}
use Rattle.dn_laws.proofs.PartsAlone.{less, less-on, in-turn, none-alone, less-within, behind, submit-told, collect-told, show-told, command-told}

module _ (flows packets : ℕ → Bool) where
  abbrev told : Reply → Reply
  told r = own_reply_by flows packets r

  command-stays : (set : Settings) (queues : List ℕ) (command : Command) → reply_by flows packets (command_reply set queues command) ≡ told (command_reply set queues command)
  command-stays set queues (Pipe number bw delay limit loss buckets mask) = refl
  command-stays set queues (Queue number carrier weight limit loss buckets mask) = by (is_some (set (ToPipe carrier)))
    where
      by : (b : Bool) → reply_by flows packets (cond b Configured NoSuchPipe) ≡ told (cond b Configured NoSuchPipe)
      by true = refl
      by false = refl
  command-stays set queues (DeletePipe number) = by (is_some (set (ToPipe number))) (has_queues set queues number)
    where
      by : (b c : Bool) → reply_by flows packets (cond b (cond c PipeHasQueues Deleted) NoSuchPipe) ≡ told (cond b (cond c PipeHasQueues Deleted) NoSuchPipe)
      by true true = refl
      by true false = refl
      by false c = refl
  command-stays set queues (DeleteQueue number) = by (is_some (set (ToQueue number)))
    where
      by : (b : Bool) → reply_by flows packets (cond b Deleted NoSuchQueue) ≡ told (cond b Deleted NoSuchQueue)
      by true = refl
      by false = refl

  pub verdict-stays : (chosen : Choice) (at : ℕ) (v : Verdict) (t : List Event) → HasTarget chosen flows packets v → reply_by flows packets (reply_to_verdict at v t) ≡ told (reply_to_verdict at v t)
  verdict-stays chosen at no_target t h = absurd h
  verdict-stays chosen at (loses l f) t h = refl
  verdict-stays chosen at (refuses l f) t h = refl
  verdict-stays chosen at (takes l f how) t h = refl

module _ (rule : Rule) (mine : Target → Bool) (is_own : ℕ → Bool) (flows packets : ℕ → Bool) where
  abbrev part-of : Reply → Reply
  part-of r = own_reply_by flows packets r

  module _ (calls : List Call) (d : AreDivided mine is_own calls) (all : AreTaken (links_of mine) flows packets (trace_of calls)) where
    abbrev Follows : Call → Type 0
    Follows c = effective_moment calls ≤ effective_moment (c ∷ own_of is_own calls)

    late : (m : ℕ) → effective_moment calls ≤ max (effective_moment (own_of is_own calls)) m → effective_moment (less mine calls) ≤ max (effective_moment (own_of is_own calls)) m
    late m le = in-turn mine is_own calls m le

    clock-late : effective_moment calls ≤ max (effective_moment (own_of is_own calls)) 0 → effective_moment (less mine calls) ≤ effective_moment (own_of is_own calls)
    clock-late le = omega (arith, moment-on (links_of mine) calls, le)

    -- A packet that the part carries.
    carried : (target : Target) (packet : Packet) (m : ℕ) → IsKeyed (links_of mine) flows (keys (Submit target packet m ∷ calls)) → mine target ≡ true → Follows (Submit target packet m)
        → (b : Bool) → is_carried (links_of mine) target packet.tuple (treatment (settings calls target)) ≡ b →
        counted_reply rule (own_of is_own calls) (Submit target packet m) ≡ part-of (counted_reply rule calls (Submit target packet m))
    carried target packet m k is le true on =
        let at = max (effective_moment calls) m in
        let before = settled (settings calls) at (trace_of calls) in
        let o = treatment (settings calls target) in
        let same = counted-reply (links_of mine) flows packets rule calls all (Submit target packet m) k in
        submit-told mine (own_of is_own calls) (less mine calls) (behind mine is_own calls d) (less-on mine calls) rule target packet m is (late m le)
        ∙ sym (ap (λ b. counted_reply rule (less mine calls) (cond b (Submit target packet m) (Advance m))) on) ∙ same
        ∙ verdict-stays flows packets (links_of mine) at (verdict_by (keys calls) target packet o before) before (has-target (links_of mine) flows packets (keys calls) target packet o before on)
    carried target packet m k is le false off =
        let h = behind mine is_own calls d in
        let e = moment-on (links_of mine) calls in
        let at = max (effective_moment (own_of is_own calls)) m in
        let to = max (effective_moment calls) m in
        let mine-before = settled (settings (own_of is_own calls)) at (trace_of (own_of is_own calls)) in
        let before = settled (settings calls) to (trace_of calls) in
        let alone = none-alone mine is_own calls target packet d h is off in
        let whole = none-uncarried mine target packet.tuple (treatment (settings calls target)) (λ how f. within mine is_own calls d target how f) is off in
        let same : at ≡ to = omega (arith, h.lags, e, le) in
        (λ i. reply_to_verdict at (verdict_by (keys (own_of is_own calls)) target packet (alone i) mine-before) mine-before)
        ∙ ap NoTarget same
        ∙ sym (ap part-of (λ i. reply_to_verdict to (verdict_by (keys calls) target packet (whole i) before) before))

    -- Any own call.
    counted-alone : (c : Call) → AreDivided mine is_own (c ∷ calls) → IsKeyed (links_of mine) flows (keys (c ∷ calls)) → is_own (length calls) ≡ true → Follows c →
        counted_reply rule (own_of is_own calls) c ≡ part-of (counted_reply rule calls c)
    counted-alone (Configure command) more k own le =
        command-told mine (own_of is_own calls) (less mine calls) (behind mine is_own calls d) (less-on mine calls) command (less-within mine is_own calls d) more.0.1 (sym more.0.0 ∙ own)
        ∙ counted-reply (links_of mine) flows packets rule calls all (Configure command) k ∙ command-stays flows packets (settings calls) (queue_numbers calls) command
    counted-alone (Submit target packet m) more k own le = carried target packet m k (sym more.0 ∙ own) le (is_carried (links_of mine) target packet.tuple (treatment (settings calls target))) refl
    counted-alone (Advance m) more k own le =
        let same : max (effective_moment (own_of is_own calls)) m ≡ max (effective_moment calls) m = omega (arith, (behind mine is_own calls d).lags, moment-on (links_of mine) calls, le) in
        ap Advanced same
    counted-alone (Collect m) more k own le =
        collect-told mine (own_of is_own calls) (less mine calls) (behind mine is_own calls d) (less-on mine calls) rule m (late m le)
        ∙ counted-reply (links_of mine) flows packets rule calls all (Collect m) k
    counted-alone Show more k own le =
        show-told mine (own_of is_own calls) (less mine calls) (behind mine is_own calls d) (less-on mine calls) rule (clock-late le)
        ∙ counted-reply (links_of mine) flows packets rule calls all Show k

    pub answered : (c : Call) → AreDivided mine is_own (c ∷ calls) → IsKeyed (links_of mine) flows (keys (c ∷ calls)) → is_own (length calls) ≡ true → Follows c → length calls < call_limit →
        reply rule (own_of is_own calls) c ≡ part-of (reply rule calls c)
    answered c more k own le few =
        let fewer = (behind mine is_own calls d).no_more in
        let n = length-on (links_of mine) calls in
        counts rule (own_of is_own calls) c (omega (arith, fewer, n, few)) ∙ counted-alone c more k own le ∙ sym (ap part-of (counts rule calls c few))

  replies-length : (calls : List Call) → length (replies rule calls) ≡ length calls
  replies-length [] = refl
  replies-length (c ∷ calls) = ap {A = ℕ} suc (replies-length calls)

  replies-alone : (calls : List Call) → AreDivided mine is_own calls → length calls ≤ call_limit → IsKeyed (links_of mine) flows (keys calls)
      → AreTaken (links_of mine) flows packets (trace_of calls) → replies rule (own_of is_own calls) ≡ map (own_reply_by flows packets) (own_of is_own (replies rule calls))
  replies-alone [] d few k all = refl
  replies-alone (c ∷ calls) d few k all =
      by (is_own (length calls)) refl (replies-alone calls d.2 (omega (arith, few)) (keyed-before (links_of mine) flows calls c k) before)
      ∙ ap (λ b. map (own_reply_by flows packets) (cond b (reply rule calls c ∷ own_of is_own (replies rule calls)) (own_of is_own (replies rule calls)))) (ap is_own (sym (replies-length calls)))
    where
      before : AreTaken (links_of mine) flows packets (trace_of calls)
      before = taken-before (links_of mine) flows packets calls c all

      by : (b : Bool) → is_own (length calls) ≡ b → replies rule (own_of is_own calls) ≡ map (own_reply_by flows packets) (own_of is_own (replies rule calls)) →
          replies rule (cond b (c ∷ own_of is_own calls) (own_of is_own calls))
          ≡ map (own_reply_by flows packets) (cond b (reply rule calls c ∷ own_of is_own (replies rule calls)) (own_of is_own (replies rule calls)))
      by true own rest =
          let one = answered calls d.2 before c d k own (d.1 own) (omega (arith, few)) in
          λ i. one i ∷ rest i
      by false other rest = rest

pub parts-are-alone : PartsAreAlone
parts-are-alone rule mine is_own calls d few =
    let is_flow = is_flow_on (links_of mine) (keys calls) in
    replies-alone rule mine is_own is_flow (is_packet_on (links_of mine) is_flow (trace_of calls)) calls d few (keyed-all (links_of mine) (keys calls))
    (all-taken (links_of mine) is_flow (trace_of calls) (trace-proper calls))
