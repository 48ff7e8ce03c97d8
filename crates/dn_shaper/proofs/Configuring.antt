-- A shaper stands after a Configure call more, and stays sound.
use Rattle.dn_shaper.proofs.Words.{Advanced, AgreesWith, AreInStep, Bool, Call, Command, Configure, Configured, Deleted, Delivered, DiscardsReached, Does, Event, Exhausted, FlowKey, Heap, InForce}
use Rattle.dn_shaper.proofs.Words.{IsSound, KeepsFlows, Link, List, Lists, NextStart, NoSuchPipe, NoSuchQueue, NoTarget, None, Option, Parts, PipeHasQueues, Puts, Queued, Reply, Rule, Some}
use Rattle.dn_shaper.proofs.Words.{StandsAt, State, Status, Target, Within, [], after_command, ap, arith, command_reply, cond, effective_moment, false, link_names, max, refl, reply_to_command}
use Rattle.dn_shaper.proofs.Words.{setting_after, settings, settings_of, subject, subst, sym, target_eq, trace_of, true, views_of, ℕ, ◌+◌, ◌∙◌, ◌∷◌, ◌≡◌, ◌≤◌}
use Rattle.dn_types.specs.declared.reply.Reply.TheVariants.{Full, Lost}
use Rattle.dn_shaper.proofs.Accepting.{within-more}
use Rattle.dn_shaper.proofs.Needing.{answered-after}
use Rattle.dn_shaper.proofs.Noted.{indexed-still}

-- A command that was answered is obeyed, and isn't counted yet.
pub record Obeys (command : Command) (reply : Reply) (old new : State) : Type 0 where
  pub settings_are : (target : Target) →
      settings_of new.configured target ≡ cond (target_eq (subject command) target) (setting_after reply command (settings_of old.configured target)) (settings_of old.configured target)
  pub rule_is : new.parts.rule ≡ old.parts.rule
  pub keys_are : new.parts.flows.keys ≡ old.parts.flows.keys
  pub agrees : (more : List Link) (trace : List Event) → AgreesWith old.parts more trace → AgreesWith new.parts more (after_command reply command old.parts.flows.keys trace)
  pub kept : AreInStep new.parts new.heap
  pub within : Within old.calls new.parts
  pub moves : new.heap.moves + new.parts.waiting ≤ old.heap.moves + old.parts.waiting
  pub shared_are : new.shared ≡ old.shared
  pub names_are : link_names (views_of new.parts) ≡ link_names (views_of old.parts)
  pub now_is : new.now ≡ old.now
  pub calls_are : new.calls ≡ old.calls

abbrev pub one-more : State → State
one-more s = record { parts = s.parts; heap = s.heap; shared = s.shared; configured = s.configured; now = s.now; calls = s.calls + 1 }

untimed : (n : ℕ) → n ≡ max n 0
untimed n = omega arith

module _ (command : Command) (reply : Reply) (old new : State)
    (replies : (queues : List ℕ) → Lists (settings_of old.configured) queues → reply ≡ command_reply (settings_of old.configured) queues command)
    (obeys : Obeys command reply old new) where
  reply-is : (rule : Rule) (calls : List Call) → StandsAt rule old calls → reply ≡ reply_to_command calls command
  reply-is rule calls s = answered-after command reply old rule calls s replies

  setting-is : (rule : Rule) (calls : List Call) (s : StandsAt rule old calls) (target : Target) → settings_of new.configured target ≡ settings (Configure command ∷ calls) target
  setting-is rule calls s target =
      obeys.settings_are target
      ∙ (λ i. cond (target_eq (subject command) target) (setting_after (reply-is rule calls s i) command (s.settings_are i target)) (s.settings_are i target))

  pub configured-does : Does (Configure command) old (one-more new) reply
  configured-does rule calls s = (
    reply-is rule calls s,
    record {
      rule_is = obeys.rule_is ∙ s.rule_is;
      calls_are = let c = s.calls_are in let d = obeys.calls_are in omega arith;
      now_is = obeys.now_is ∙ s.now_is ∙ untimed (effective_moment calls);
      settings_are = λ i target. setting-is rule calls s target i;
      keys_are = obeys.keys_are ∙ s.keys_are;
      agrees = subst (λ (x : Reply × List FlowKey). AgreesWith new.parts [] (after_command x.0 command x.1 (trace_of calls)))
          (λ i. (reply-is rule calls s i, s.keys_are i)) (obeys.agrees [] (trace_of calls) s.agrees);
    },
  )

  pub configured-sound : IsSound old → IsSound (one-more new)
  configured-sound sound = record {
    kept = obeys.kept;
    within = within-more old.calls (new.calls + 1) new.parts (let d = obeys.calls_are in omega arith) obeys.within;
    moves = let m = sound.moves in let n = obeys.moves in let d = obeys.calls_are in omega arith;
    early = let e = sound.early in let n = obeys.now_is in omega arith;
    indexed = indexed-still old (one-more new) (link_names (views_of old.parts)) (link_names (views_of new.parts)) obeys.shared_are obeys.names_are sound.indexed;
  }

-- ---- The three ways to answer

module _ (command : Command) (old : State) (sound : IsSound old) where
  pub obeys-put : (configured : InForce) → Puts command (Some command) (settings_of old.configured) (settings_of configured) →
      Obeys command Configured old (record { parts = old.parts; heap = old.heap; shared = old.shared; configured = configured; now = old.now; calls = old.calls })
  obeys-put configured puts = record {
    settings_are = puts;
    rule_is = refl;
    keys_are = refl;
    agrees = λ more trace a. a;
    kept = sound.kept;
    within = sound.within;
    moves = omega arith;
    shared_are = refl;
    names_are = refl;
    now_is = refl;
    calls_are = refl;
  }

  pub obeys-delete : (configured : InForce) (parts : Parts) (heap : Heap NextStart) →
      Puts command None (settings_of old.configured) (settings_of configured) → KeepsFlows old.parts parts → DiscardsReached command old.parts parts →
      AreInStep parts heap → ((n : ℕ) → Within n old.parts → Within n parts) → heap.moves + parts.waiting ≤ old.heap.moves + old.parts.waiting
      → Obeys command Deleted old (record { parts = parts; heap = heap; shared = old.shared; configured = configured; now = old.now; calls = old.calls })
  obeys-delete configured parts heap puts keeps discards kept within moves = record {
    settings_are = puts;
    rule_is = keeps.rule;
    keys_are = keeps.keys;
    agrees = discards;
    kept = kept;
    within = within old.calls sound.within;
    moves = moves;
    shared_are = refl;
    names_are = keeps.names;
    now_is = refl;
    calls_are = refl;
  }

  same-setting : (b : Bool) (o : Option Command) → o ≡ cond b o o
  same-setting true o = refl
  same-setting false o = refl

  -- A refused command changes nothing.
  changes-none : (reply : Reply) → ((o : Option Command) → setting_after reply command o ≡ o) →
      ((ks : List FlowKey) (trace : List Event) → after_command reply command ks trace ≡ trace) → Obeys command reply old old
  changes-none reply setting after = record {
    settings_are = λ target. same-setting (target_eq (subject command) target) (settings_of old.configured target)
        ∙ ap (λ o. cond (target_eq (subject command) target) o (settings_of old.configured target)) (sym (setting (settings_of old.configured target)));
    rule_is = refl;
    keys_are = refl;
    agrees = λ more trace a. subst (λ (t : List Event). AgreesWith old.parts more t) (sym (after old.parts.flows.keys trace)) a;
    kept = sound.kept;
    within = sound.within;
    moves = omega arith;
    shared_are = refl;
    names_are = refl;
    now_is = refl;
    calls_are = refl;
  }

  pub obeys-refused : (reply : Reply) → (reply ≡ Configured → ⊥) → (reply ≡ Deleted → ⊥) → Obeys command reply old old
  obeys-refused Configured ne nd = absurd (ne refl)
  obeys-refused Deleted ne nd = absurd (nd refl)
  obeys-refused NoSuchPipe ne nd = changes-none NoSuchPipe (λ o. refl) (λ ks t. refl)
  obeys-refused PipeHasQueues ne nd = changes-none PipeHasQueues (λ o. refl) (λ ks t. refl)
  obeys-refused NoSuchQueue ne nd = changes-none NoSuchQueue (λ o. refl) (λ ks t. refl)
  obeys-refused (Queued at flow packet) ne nd = changes-none (Queued at flow packet) (λ o. refl) (λ ks t. refl)
  obeys-refused (Lost at flow) ne nd = changes-none (Lost at flow) (λ o. refl) (λ ks t. refl)
  obeys-refused (Full at flow) ne nd = changes-none (Full at flow) (λ o. refl) (λ ks t. refl)
  obeys-refused (NoTarget at) ne nd = changes-none (NoTarget at) (λ o. refl) (λ ks t. refl)
  obeys-refused (Advanced at) ne nd = changes-none (Advanced at) (λ o. refl) (λ ks t. refl)
  obeys-refused (Delivered at list) ne nd = changes-none (Delivered at list) (λ o. refl) (λ ks t. refl)
  obeys-refused (Status list) ne nd = changes-none (Status list) (λ o. refl) (λ ks t. refl)
  obeys-refused Exhausted ne nd = changes-none Exhausted (λ o. refl) (λ ks t. refl)
