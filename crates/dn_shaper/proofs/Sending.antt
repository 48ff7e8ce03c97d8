-- A shaper stands after a Submit call more, and stays sound.
use Rattle.dn_shaper.proofs.Words.{AgreesWith, Answers, AreInStep, Bool, Does, Event, FlowKey, Heap, IsSound, KeepsCalls, KeepsFlows, Link, List, NextStart, NoTarget, None, OnlyMakesRoom}
use Rattle.dn_shaper.proofs.Words.{OnlyStarts, Option, Packet, Parts, Prepares, Reply, Settings, SettlesAll, Some, State, StillStands, Submit, Target, Treatment, Within, [], after_verdict}
use Rattle.dn_shaper.proofs.Words.{and-left, and-right, ap, arith, cond, counted_at, effective_moment, eqb-true, false, flow_number, home, home_by, key_eq, key_of, keys, keys_with, link_eq}
use Rattle.dn_shaper.proofs.Words.{link_names, link_of, list_any, mask_eq, max, nat_eq, not, refl, reply_to_verdict, settings, settings_of, settled, shared, slice_get, subst, suc, sym, target_eq}
use Rattle.dn_shaper.proofs.Words.{trace_of, treatment, true, true_or_false, true≢false, tuple_eq, verdict_by, verdict_on, views_of, with_key, ℕ, ⊎_elim, ◌&&◌, ◌++◌, ◌+◌, ◌^◌, ◌||◌, ◌∙◌, ◌∷◌, ◌≡◌}
use Rattle.dn_shaper.proofs.Words.{◌≤◌}
use Rattle.dn_types.specs.declared.target.Target.TheVariants.{Pipe as ToPipe, Queue as ToQueue}
use Rattle.dn_shaper.proofs.Accepting.{within-more}
use Rattle.dn_shaper.proofs.Reserved.{reserves-agree}

-- ---- The link of the packet's flow

same-link : (t u : Target) (flow : ℕ) → target_eq t u ≡ true → (pipe : ℕ) → link_of t flow pipe ≡ link_of u flow pipe
same-link (ToPipe a) (ToPipe b) flow e pipe = refl
same-link (ToQueue a) (ToQueue b) flow e pipe = refl
same-link (ToPipe a) (ToQueue b) flow e pipe = absurd (true≢false (sym e))
same-link (ToQueue a) (ToPipe b) flow e pipe = absurd (true≢false (sym e))

same-home : (key k : FlowKey) → key_eq key k ≡ true → (flow : ℕ) → link_of k.target flow k.pipe ≡ link_of key.target flow key.pipe
same-home key k e flow =
    let rest = target_eq key.target k.target && nat_eq key.pipe k.pipe in
    let both = and-left rest (mask_eq key.mask k.mask) (and-left (rest && mask_eq key.mask k.mask) (tuple_eq key.tuple k.tuple) e) in
    sym (same-link key.target k.target flow (and-left (target_eq key.target k.target) (nat_eq key.pipe k.pipe) both) key.pipe
    ∙ ap (link_of k.target flow) (eqb-true key.pipe k.pipe (and-right (target_eq key.target k.target) (nat_eq key.pipe k.pipe) both)))

-- The flow with the key's number has a key of the same link.
record IsNumbered (key : FlowKey) (known : List FlowKey) : Type 0 where
  k : FlowKey
  there : slice_get (with_key key known) (flow_number known key) ≡ Some k
  link_is : (flow : ℕ) → link_of k.target flow k.pipe ≡ link_of key.target flow key.pipe

numbered : (key : FlowKey) (known : List FlowKey) → IsNumbered key known
numbered key [] = record { k = key; there = refl; link_is = λ flow. refl }
numbered key (x ∷ known) = ⊎_elim here (after (numbered key known)) (true_or_false (key_eq key x))
  where
    here : key_eq key x ≡ true → IsNumbered key (x ∷ known)
    here e = record {
      k = x;
      there = ap (λ b. slice_get (cond (b || list_any (key_eq key) known) (x ∷ known) (x ∷ known ++ key ∷ [])) (cond (not b) (1 + flow_number known key) 0)) e;
      link_is = same-home key x e;
    }

    next : (b : Bool) (n : ℕ) → slice_get (cond b (x ∷ known) (x ∷ known ++ key ∷ [])) (1 + n) ≡ slice_get (cond b known (known ++ key ∷ [])) n
    next true n = let one : 1 + n ≡ suc n = omega arith in ap (slice_get (x ∷ known)) one
    next false n = let one : 1 + n ≡ suc n = omega arith in ap (slice_get (x ∷ known ++ key ∷ [])) one

    after : IsNumbered key known → key_eq key x ≡ false → IsNumbered key (x ∷ known)
    after r e = record {
      k = r.k;
      there =
          ap (λ b. slice_get (cond (b || list_any (key_eq key) known) (x ∷ known) (x ∷ known ++ key ∷ [])) (cond (not b) (1 + flow_number known key) 0)) e
          ∙ next (list_any (key_eq key) known) (flow_number known key)
          ∙ r.there;
      link_is = r.link_is;
    }

pub home-is : (key : FlowKey) (known : List FlowKey) → home (with_key key known) (flow_number known key) ≡ link_of key.target (flow_number known key) key.pipe
home-is key known = let r = numbered key known in ap (home_by (flow_number known key)) r.there ∙ r.link_is (flow_number known key)

-- So a flow that was found or made for a packet is at home where the packet goes.
pub goes-there : (key : FlowKey) (known now : List FlowKey) (flow : ℕ) → now ≡ with_key key known → flow ≡ flow_number known key → (pipe : ℕ) × (home now flow ≡ link_of key.target flow pipe)
goes-there key known now flow keys number = (key.pipe, (λ i. home (keys i) (number i)) ∙ home-is key known ∙ ap (λ n. link_of key.target n key.pipe) (sym number))

-- ---- What becomes of the packet

-- The answer is that of the verdict after a settling, and the parts agree with what the verdict makes happen.
abbrev IsOutcome : Settings → ℕ → List FlowKey → Target → Packet → Option Treatment → List Event → Parts → Reply → Type 0
IsOutcome settings at known target packet how trace parts reply =
    let before = settled settings at trace in
    let verdict = verdict_by known target packet how before in
    (reply ≡ reply_to_verdict at verdict before) × AgreesWith parts [] (after_verdict settings at packet verdict before)

-- The packet is answered, and the parts are what its verdict makes of them.
pub record Submits (target : Target) (packet : Packet) (how : Option Treatment) (at : ℕ) (old : State) (parts : Parts) (reply : Reply) : Type 0 where
  pub rule_is : parts.rule ≡ old.parts.rule
  pub keys_are : parts.flows.keys ≡ keys_with target packet.tuple how old.parts.flows.keys
  pub outcome : (trace : List Event) → AgreesWith old.parts [] trace → IsOutcome (settings_of old.configured) at old.parts.flows.keys target packet how trace parts reply

module _ (old new : State) (target : Target) (packet : Packet) (at : ℕ) (reply : Reply) (configured : new.configured ≡ old.configured) (calls_kept : new.calls ≡ old.calls) where
  pub submits-does : Submits target packet (treatment (settings_of old.configured target)) at old new.parts reply → (moment : ℕ) → at ≡ max old.now moment →
      Does (Submit target packet moment) old (counted_at at new) reply
  submits-does submits moment at_is rule calls s = (
    outcome.0,
    record {
      rule_is = submits.rule_is ∙ s.rule_is;
      calls_are = let c = s.calls_are in let d = calls_kept in omega arith;
      now_is = now;
      settings_are = ap settings_of configured ∙ s.settings_are;
      keys_are = submits.keys_are ∙ (λ i. keys_with target packet.tuple (treatment (s.settings_are i target)) (s.keys_are i));
      agrees = outcome.1;
    },
  )
    where
      now : at ≡ max (effective_moment calls) moment
      now = at_is ∙ ap (λ n. max n moment) s.now_is

      outcome : IsOutcome (settings calls) (max (effective_moment calls) moment) (keys calls) target packet (treatment (settings calls target)) (trace_of calls) new.parts reply
      outcome = subst
          (λ (x : Settings × ℕ × List FlowKey). IsOutcome x.0 x.1 x.2 target packet (treatment (x.0 target)) (trace_of calls) new.parts reply)
          (λ i. (s.settings_are i, now i, s.keys_are i))
          (submits.outcome (trace_of calls) s.agrees)

-- ---- A target without a treatment

pub submits-none : (target : Target) (packet : Packet) (at : ℕ) (old : State) (parts : Parts) (heap : Heap NextStart) → SettlesAll (settings_of old.configured) at old.parts parts →
    OnlyStarts old.parts old.heap parts heap → (o : Option Treatment) → None ≡ o → Submits target packet o at old parts (NoTarget at)
submits-none target packet at old parts heap settles only o none = subst (λ (o : Option Treatment). Submits target packet o at old parts (NoTarget at)) none
    (record { rule_is = only.rule; keys_are = only.keys; outcome = λ trace a. (refl, settles [] trace a) })

-- ---- A target with a treatment

module _ (target : Target) (packet : Packet) (how : Treatment) (at flow : ℕ) (old mid : State) (parts : Parts) (reply : Reply)
    (flow_is : flow ≡ flow_number old.parts.flows.keys (key_of target packet.tuple how))
    (keys_are : mid.parts.flows.keys ≡ with_key (key_of target packet.tuple how) old.parts.flows.keys)
    (prepares : Prepares flow old.parts mid.parts) (stays : KeepsCalls old mid) (keeps : KeepsFlows mid.parts parts)
    (answers : Answers (settings_of mid.configured) at flow packet how mid.parts parts reply) where
  abbrev number : ℕ
  number = flow_number old.parts.flows.keys (key_of target packet.tuple how)

  link-is : home mid.parts.flows.keys flow ≡ link_of target number how.pipe
  link-is = (λ i. home (keys_are i) (flow_is i)) ∙ home-is (key_of target packet.tuple how) old.parts.flows.keys

  pub submits-some : (o : Option Treatment) → Some how ≡ o → Submits target packet o at old parts reply
  submits-some o some = subst (λ (o : Option Treatment). Submits target packet o at old parts reply) some
      (record {
        rule_is = keeps.rule ∙ stays.rule;
        keys_are = keeps.keys ∙ keys_are;
        outcome = λ trace a.
            let m = prepares trace a in
            subst
            (λ (x : Settings × Link × ℕ).
            (reply ≡ reply_to_verdict at (verdict_on x.1 x.2 how packet (settled x.0 at trace)) (settled x.0 at trace)) × AgreesWith parts []
            (after_verdict x.0 at packet (verdict_on x.1 x.2 how packet (settled x.0 at trace)) (settled x.0 at trace)))
            (λ i. (settings_of (stays.configured i), link-is i, flow_is i))
            (answers m.0 trace m.1 m.2);
      })

-- ---- What stays sound

pub still-stands : (old new : State) → KeepsCalls old new → OnlyMakesRoom old.parts new.parts → StillStands old new
still-stands old new stays reserves rule calls s = record {
  rule_is = stays.rule ∙ s.rule_is;
  calls_are = stays.calls ∙ s.calls_are;
  now_is = stays.now ∙ s.now_is;
  settings_are = ap settings_of stays.configured ∙ s.settings_are;
  keys_are = reserves.keys ∙ s.keys_are;
  agrees = reserves-agree old.parts new.parts reserves [] (trace_of calls) s.agrees;
}

module _ (s : State) (parts : Parts) (heap : Heap NextStart) (at : ℕ) (early : at ≤ 2 ^ 62) (sound : IsSound s) (kept : AreInStep parts heap)
    (names : link_names (views_of parts) ≡ link_names (views_of s.parts)) where
  pub sound-then : Within (s.calls + 1) parts → heap.moves + parts.waiting ≤ s.heap.moves + s.parts.waiting + 2 →
      IsSound (counted_at at (record { parts = parts; heap = heap; shared = s.shared; configured = s.configured; now = s.now; calls = s.calls }))
  sound-then within moves = record {
    kept = kept;
    within = within;
    moves = let m = sound.moves in omega (arith, moves, m);
    early = early;
    indexed = record {
      found = λ pipe place e. ap (λ (ls : List Link). slice_get ls place) names ∙ sound.indexed.found pipe place e;
      missing = λ pipe e. ap (λ (ls : List Link). list_any (link_eq (shared pipe)) ls) names ∙ sound.indexed.missing pipe e;
    };
  }

  -- Starts count no packet.
  pub sound-settled : ((n : ℕ) → Within n s.parts → Within n parts) → heap.moves + parts.waiting ≤ s.heap.moves + s.parts.waiting →
      IsSound (counted_at at (record { parts = parts; heap = heap; shared = s.shared; configured = s.configured; now = s.now; calls = s.calls }))
  sound-settled within moves = sound-then (within-more s.calls (s.calls + 1) parts (omega arith) (within s.calls sound.within)) (omega (arith, moves))
