-- Each flow was named in a reply to a packet.
use Rattle.dn_laws.proofs.Words.{Bool, FlowsWereTold, List, None, Option, Some, [], ap, arith, cond, count_by, eq-eqb, false, inl, inr, length, list_any, map, max, nat_eq, place-is, refl}
use Rattle.dn_laws.proofs.Words.{slice_get, suc, sum_by-cons, sym, true, zero, ℕ, ⊎_elim, ◌++◌, ◌+◌, ◌<◌, ◌||◌, ◌∙◌, ◌∷◌, ◌≡◌, ◌≤◌, ◌⊎◌}
use Rattle.dn_laws.proofs.LawWords.{loses, refuses, takes, link_of, verdict_by, trace_of, call_limit, effective_moment, settings, is_lost, is_full, Treatment, treatment, key_eq, key_of, keys}
use Rattle.dn_laws.proofs.LawWords.{keys_with, flow_number, reply, replies, reply_to_verdict, settled, is_queued_of, is_lost_of, is_full_of, Link, Event, backlog, Call, Submit, FlowKey, Packet, Reply}
use Rattle.dn_laws.proofs.LawWords.{Rule, Target}
use Rattle.dn_laws.proofs.DropLaws.{not-exhausted}
use Rattle.dn_types.proofs.Known.{place}

new-place : (key : FlowKey) (known : List FlowKey) → list_any (key_eq key) known ≡ false → place key known ≡ length known
new-place key [] e = refl
new-place key (k ∷ known) e = by (key_eq key k) e (λ h. new-place key known h)
  where
    by : (b : Bool) → (b || list_any (key_eq key) known) ≡ false → (list_any (key_eq key) known ≡ false → place key known ≡ length known) → cond b 0 (1 + place key known) ≡ suc (length known)
    by true e rest = absurd cc
    by false e rest = let same = rest e in omega (arith, same)

-- A flow among the keys and one more is among them, or it is the last.
get-last : (known : List FlowKey) (more key : FlowKey) (flow : ℕ) → slice_get (known ++ more ∷ []) flow ≡ Some key → (slice_get known flow ≡ Some key) ⊎ (flow ≡ length known)
get-last [] more key zero e = inr refl
get-last [] more key (suc flow) e = absurd cc
get-last (k ∷ known) more key zero e = inl e
get-last (k ∷ known) more key (suc flow) e = ⊎_elim (λ old. inl old) (λ new. inr (ap {A = ℕ} suc new)) (get-last known more key flow e)

module _ (rule : Rule) (flow : ℕ) where
  -- How often a reply names the flow.
  abbrev names : Reply → ℕ
  names r = cond (is_queued_of flow r) 1 0 + cond (is_lost_of flow r) 1 0 + cond (is_full_of flow r) 1 0

  abbrev told : List Reply → ℕ
  told rs = count_by (is_queued_of flow) rs + count_by (is_lost_of flow) rs + count_by (is_full_of flow) rs

  told-cons : (r : Reply) (rs : List Reply) → told (r ∷ rs) ≡ names r + told rs
  told-cons r rs =
      let a = sum_by-cons (λ (x : Reply). cond (is_queued_of flow x) 1 0) r rs in
      let b = sum_by-cons (λ (x : Reply). cond (is_lost_of flow x) 1 0) r rs in
      let c = sum_by-cons (λ (x : Reply). cond (is_full_of flow x) 1 0) r rs in
      omega (arith, a, b, c)

  -- A packet to a target that is treated is told its flow.
  packet-named : (known : List FlowKey) (target : Target) (packet : Packet) (how : Treatment) (at : ℕ) (trace : List Event) → flow_number known (key_of target packet.tuple how) ≡ flow →
      names (reply_to_verdict at (verdict_by known target packet (Some how) trace) trace) ≡ 1
  packet-named known target packet how at trace same =
      by (link_of target (flow_number known (key_of target packet.tuple how)) how.pipe) (flow_number known (key_of target packet.tuple how)) same (is_lost how.loss packet.word)
      (is_full how.limit (map (λ p. p.stamped.len) (backlog (link_of target (flow_number known (key_of target packet.tuple how)) how.pipe) (flow_number known (key_of target packet.tuple how)) trace)))
    where
      yes' : (f : ℕ) → f ≡ flow → cond {A = ℕ} (nat_eq f flow) 1 0 ≡ 1
      yes' f same = ap {B = ℕ} (λ b. cond b 1 0) (eq-eqb f flow same)

      by : (link : Link) (f : ℕ) → f ≡ flow → (b c : Bool) → names (reply_to_verdict at (cond b (loses link f) (cond c (refuses link f) (takes link f how))) trace) ≡ 1
      by link f same true c = omega (arith, yes' f same)
      by link f same false true = omega (arith, yes' f same)
      by link f same false false = omega (arith, yes' f same)

  pub flow-told : (calls : List Call) (key : FlowKey) → length calls ≤ call_limit → slice_get (keys calls) flow ≡ Some key → 0 < told (replies rule calls)
  flow-told [] key few e = absurd cc
  flow-told (Submit target packet moment ∷ calls) key few e = by (treatment (settings calls target)) refl e (λ known. flow-told calls key (omega (arith, few)) known)
    where
      at : ℕ
      at = max (effective_moment calls) moment

      more : told (replies rule (Submit target packet moment ∷ calls)) ≡ names (reply rule calls (Submit target packet moment)) + told (replies rule calls)
      more = told-cons (reply rule calls (Submit target packet moment)) (replies rule calls)

      before : 0 < told (replies rule calls) → 0 < told (replies rule (Submit target packet moment ∷ calls))
      before rest = omega (arith, rest, more)

      new : (how : Treatment) → treatment (settings calls target) ≡ Some how
          → flow_number (keys calls) (key_of target packet.tuple how) ≡ flow → 0 < told (replies rule (Submit target packet moment ∷ calls))
      new how is same =
          let t = settled (settings calls) (max (effective_moment calls) moment) (trace_of calls) in
          let answered = ap names (not-exhausted rule calls (Submit target packet moment) (omega (arith, few))) in
          let by_how = ap {B = ℕ} (λ (o : Option Treatment). names (reply_to_verdict (max (effective_moment calls) moment) (verdict_by (keys calls) target packet o t) t)) is in
          let one = packet-named (keys calls) target packet how (max (effective_moment calls) moment) t same in
          omega (arith, more, answered, by_how, one)

      by : (o : Option Treatment) → treatment (settings calls target) ≡ o → slice_get (keys_with target packet.tuple o (keys calls)) flow ≡ Some key →
          (slice_get (keys calls) flow ≡ Some key → 0 < told (replies rule calls)) → 0 < told (replies rule (Submit target packet moment ∷ calls))
      by None is e rest = before (rest e)
      by (Some how) is e rest = by_known (list_any (key_eq (key_of target packet.tuple how)) (keys calls)) refl e
        where
          by_known : (b : Bool) → list_any (key_eq (key_of target packet.tuple how)) (keys calls) ≡ b →
              slice_get (cond b (keys calls) (keys calls ++ key_of target packet.tuple how ∷ [])) flow ≡ Some key → 0 < told (replies rule (Submit target packet moment ∷ calls))
          by_known true there e = before (rest e)
          by_known false none e =
              ⊎_elim (λ old. before (rest old)) (λ last. new how is (sym (place-is (key_of target packet.tuple how) (keys calls))
              ∙ new-place (key_of target packet.tuple how) (keys calls) none ∙ sym last))
              (get-last (keys calls) (key_of target packet.tuple how) key flow e)
  flow-told (c ∷ calls) key few e = omega (arith, flow-told calls key (omega (arith, few)) e, told-cons (reply rule calls c) (replies rule calls))

pub flows-were-told : FlowsWereTold
flows-were-told rule calls flow key few e = flow-told rule flow calls key few e
