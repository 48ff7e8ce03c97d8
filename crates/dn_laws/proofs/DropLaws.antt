-- Loss and limit explain each drop.
use Rattle.dn_laws.proofs.Words.{Bool, DropsAreExplained, List, NoneUnconfigured, Option, Some, ap, arith, cond, false, length, map, max, nat_le, nat_lt, nat_tests, refl, subst, sym, true, ℕ, ◌%◌}
use Rattle.dn_laws.proofs.Words.{◌<◌, ◌^◌, ◌∙◌, ◌≡◌, ◌≤◌}
use Rattle.dn_laws.proofs.LawWords.{trace_of, link_of, loses, refuses, takes, verdict_by, call_limit, effective_moment, settings, is_lost, is_full, IsJudgedBy, IsAtLimit, IsExplained, Treatment}
use Rattle.dn_laws.proofs.LawWords.{treatment, keys, key_of, flow_number, reply, reply_to_verdict, counted_reply, settled, Link, Event, backlog, Call, Submit, Command, Pipe, Queue, DeletePipe}
use Rattle.dn_laws.proofs.LawWords.{DeleteQueue, FlowKey, Limit, Slots, Kbytes, Packet, Reply, Exhausted, Rule, Target}

at-limit : (most : Limit) (lengths : List ℕ) → is_full most lengths ≡ true → IsAtLimit most lengths
at-limit (Slots count) lengths e = grind (arith, nat_tests)
at-limit (Kbytes count) lengths e = grind (arith, nat_tests)

below-limit : (most : Limit) (lengths : List ℕ) → is_full most lengths ≡ false → IsAtLimit most lengths → ⊥
below-limit (Slots count) lengths e h = grind (arith, nat_tests)
below-limit (Kbytes count) lengths e h = grind (arith, nat_tests)

below-rate : (rate draw : ℕ) → nat_lt draw rate ≡ true → draw < rate
below-rate rate draw e = grind (arith, nat_tests)

from-rate : (rate draw : ℕ) → nat_lt draw rate ≡ false → rate ≤ draw
from-rate rate draw e = grind (arith, nat_tests)

module _ (most : Limit) (rate word at : ℕ) (link : ℕ → Link) (trace : List Event) where
  abbrev lengths : ℕ → List ℕ
  lengths flow = map (λ p. p.stamped.len) (backlog (link flow) flow trace)

  by-verdict : (flow : ℕ) (how : Treatment) (b c : Bool) → is_lost rate word ≡ b → is_full most (lengths flow) ≡ c →
      IsExplained rate most (word % 2 ^ 31) lengths (reply_to_verdict at (cond b (loses (link flow) flow) (cond c (refuses (link flow) flow) (takes (link flow) flow how))) trace)
  by-verdict flow how true c lost full = below-rate rate (word % 2 ^ 31) lost
  by-verdict flow how false true lost full = (from-rate rate (word % 2 ^ 31) lost, at-limit most (lengths flow) full)
  by-verdict flow how false false lost full = (from-rate rate (word % 2 ^ 31) lost, below-limit most (lengths flow) full)

-- How a treatment and how the command that gives it judge.
module _ (known : List FlowKey) (target : Target) (packet : Packet) (at : ℕ) (trace : List Event) where
  abbrev lengths_on : ℕ → ℕ → List ℕ
  lengths_on carrier flow = map (λ p. p.stamped.len) (backlog (link_of target flow carrier) flow trace)

  abbrev answer : Option Treatment → Reply
  answer o = reply_to_verdict at (verdict_by known target packet o trace) trace

  by-treatment : (how : Treatment) → IsExplained how.loss how.limit (packet.word % 2 ^ 31) (lengths_on how.pipe) (answer (Some how))
  by-treatment how =
      let flow = flow_number known (key_of target packet.tuple how) in
      by-verdict how.limit how.loss packet.word at (λ f. link_of target f how.pipe) trace flow how (is_lost how.loss packet.word) (is_full how.limit (lengths_on how.pipe flow)) refl refl

  moved : (r : Reply) (a b : ℕ) (m n : Limit) (c d : ℕ) → a ≡ b → m ≡ n → c ≡ d → IsExplained a m (packet.word % 2 ^ 31) (lengths_on c) r →
      IsExplained b n (packet.word % 2 ^ 31) (lengths_on d) r
  moved r a b m n c d e f g h =
      subst (λ (x : ℕ). IsExplained x n (packet.word % 2 ^ 31) (lengths_on d) r) e
      (subst (λ (x : Limit). IsExplained a x (packet.word % 2 ^ 31) (lengths_on d) r) f
      (subst (λ (x : ℕ). IsExplained a m (packet.word % 2 ^ 31) (lengths_on x) r) g h))

  by-command : (command : Command) (rate : ℕ) (most : Limit) (carrier : ℕ) → IsJudgedBy command rate most carrier →
      IsExplained rate most (packet.word % 2 ^ 31) (lengths_on carrier) (answer (treatment (Some command)))
  by-command (Pipe number bw delay limit loss buckets mask) rate most carrier h =
      let how : Treatment = record { pipe = number; weight = 1; mask = mask; loss = loss; limit = limit } in
      moved (answer (Some how)) loss rate limit most number carrier (sym h.0) (sym h.1) (sym h.2) (by-treatment how)
  by-command (Queue number pipe weight limit loss buckets mask) rate most carrier h =
      let how : Treatment = record { pipe = pipe; weight = weight; mask = mask; loss = loss; limit = limit } in
      moved (answer (Some how)) loss rate limit most pipe carrier (sym h.0) (sym h.1) (sym h.2) (by-treatment how)
  by-command (DeletePipe number) rate most carrier h = absurd h
  by-command (DeleteQueue number) rate most carrier h = absurd h

pub not-exhausted : (rule : Rule) (calls : List Call) (c : Call) → length calls < call_limit → reply rule calls c ≡ counted_reply rule calls c
not-exhausted rule calls c h = let e : nat_le call_limit (length calls) ≡ false = grind (arith, nat_tests) in ap (λ b. cond b Exhausted (counted_reply rule calls c)) e

pub drops-are-explained : DropsAreExplained
drops-are-explained rule calls target packet moment command rate most carrier few set judged =
    let at = max (effective_moment calls) moment in
    let before = settled (settings calls) at (trace_of calls) in
    let answered : reply rule calls (Submit target packet moment) ≡ answer (keys calls) target packet at before (treatment (Some command)) =
    not-exhausted rule calls (Submit target packet moment) few ∙ ap (λ (o : Option Command). answer (keys calls) target packet at before (treatment o)) set in
    subst (λ (r : Reply). IsExplained rate most (packet.word % 2 ^ 31) (lengths_on (keys calls) target packet at before carrier) r) (sym answered)
    (by-command (keys calls) target packet at before command rate most carrier judged)

pub none-unconfigured : NoneUnconfigured
none-unconfigured rule calls target packet moment few set =
    let at = max (effective_moment calls) moment in
    not-exhausted rule calls (Submit target packet moment) few ∙ ap (λ (o : Option Command). answer (keys calls) target packet at (settled (settings calls) at (trace_of calls)) (treatment o)) set
