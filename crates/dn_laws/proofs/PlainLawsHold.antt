-- The definitions obey the laws of the clock, of commands, of flows and of what a packet is told.
use Rattle.dn_laws.proofs.Words.{Bool, List, None, Option, Some, [], ap, arith, cond, count_by, false, is_reached, length, list_any, map, nat_eq, refl, subst, sym, true, ℕ, ◌%◌, ◌++◌, ◌+◌, ◌<◌}
use Rattle.dn_laws.proofs.Words.{◌^◌, ◌∙◌, ◌∷◌, ◌≡◌, ◌≢◌}
use Rattle.dn_laws.proofs.LawWords.{trace_of, link_of, reaches, discard_reached, after_command, call_limit, effective_moment, settings, target_eq, answers, Has, about, key_by, discards, link_to}
use Rattle.dn_laws.proofs.LawWords.{on_link, emulated, IsJudgedBy, IsExplained, IsMaskedBy, treatment, key_eq, with_key, keys_with, keys, reply, replies, is_queued, Link, Event, discarded, backlog}
use Rattle.dn_laws.proofs.LawWords.{Call, Configure, Submit, Advance, Collect, Show, Command, Pipe, Queue, DeletePipe, DeleteQueue, FlowKey, Limit, Mask, Packet, Reply, Configured, Deleted, Queued}
use Rattle.dn_laws.proofs.LawWords.{Rule, Target, ToPipe, ToQueue}
use Rattle.dn_laws.proofs.{DropLaws.drops-are-explained, Isolation.commands-count, Isolation.false-if, Obeying.about-is, Obeying.has-key, Obeying.key-had, Readings.commands-are-answered}
use Rattle.dn_laws.proofs.{ReadingsObey.queue-on, Spares.commands-spare, ToldCounts.packets-are-numbered}

pub answers-are : (rule : Rule) (calls : List Call) → answers (emulated rule) calls ≡ replies rule calls
answers-are rule [] = refl
answers-are rule (c ∷ calls) = ap (λ (rs : List Reply). reply rule calls c ∷ rs) (answers-are rule calls)

pub link_to-is : (target : Target) (flow carrier : ℕ) → link_to target flow carrier ≡ link_of target flow carrier
link_to-is (ToPipe n) flow carrier = refl
link_to-is (ToQueue n) flow carrier = refl

pub clock-configured : (calls : List Call) (command : Command) → effective_moment (Configure command ∷ calls) ≡ effective_moment calls
clock-configured calls command = omega arith

pub clock-shown : (calls : List Call) → effective_moment (Show ∷ calls) ≡ effective_moment calls
clock-shown calls = omega arith

pub flows-stay : (calls : List Call) (c : Call) → ((target : Target) (packet : Packet) (moment : ℕ) → c ≢ Submit target packet moment) → keys (c ∷ calls) ≡ keys calls
flows-stay calls (Submit target packet moment) h = absurd (h target packet moment refl)
flows-stay calls (Configure command) h = refl
flows-stay calls (Advance moment) h = refl
flows-stay calls (Collect moment) h = refl
flows-stay calls Show h = refl

module _ (calls : List Call) (target : Target) (packet : Packet) (moment : ℕ) where
  treated : (command : Command) (mask : Mask) (carrier : ℕ) → IsMaskedBy command mask carrier →
      keys_with target packet.tuple (treatment (Some command)) (keys calls) ≡ with_key (key_by target packet mask carrier) (keys calls)
  treated (Pipe number bw delay limit loss buckets own) mask carrier masks = λ i. with_key (key_by target packet (sym masks.0 i) (sym masks.1 i)) (keys calls)
  treated (Queue number pipe weight limit loss buckets own) mask carrier masks = λ i. with_key (key_by target packet (sym masks.0 i) (sym masks.1 i)) (keys calls)
  treated (DeletePipe number) mask carrier masks = absurd masks
  treated (DeleteQueue number) mask carrier masks = absurd masks

  keyed : (command : Command) (mask : Mask) (carrier : ℕ) → settings calls target ≡ Some command → IsMaskedBy command mask carrier →
      keys (Submit target packet moment ∷ calls) ≡ with_key (key_by target packet mask carrier) (keys calls)
  keyed command mask carrier set masks = ap (λ (o : Option Command). keys_with target packet.tuple (treatment o) (keys calls)) set ∙ treated command mask carrier masks

  pub flow-known : (command : Command) (mask : Mask) (carrier : ℕ) → settings calls target ≡ Some command → IsMaskedBy command mask carrier → Has (keys calls) (key_by target packet mask carrier) →
      keys (Submit target packet moment ∷ calls) ≡ keys calls
  flow-known command mask carrier set masks there = keyed command mask carrier set masks
      ∙ ap (λ b. cond b (keys calls) (keys calls ++ key_by target packet mask carrier ∷ [])) (key-had (key_by target packet mask carrier) (keys calls) there)

  pub flow-new : (command : Command) (mask : Mask) (carrier : ℕ) → settings calls target ≡ Some command → IsMaskedBy command mask carrier → (Has (keys calls) (key_by target packet mask carrier) → ⊥) →
      keys (Submit target packet moment ∷ calls) ≡ keys calls ++ key_by target packet mask carrier ∷ []
  flow-new command mask carrier set masks new' = keyed command mask carrier set masks
      ∙ ap (λ b. cond b (keys calls) (keys calls ++ key_by target packet mask carrier ∷ []))
      (false-if (list_any (key_eq (key_by target packet mask carrier)) (keys calls)) (λ t. new' (has-key (key_by target packet mask carrier) (keys calls) t)))

  pub flow-none : settings calls target ≡ None → keys (Submit target packet moment ∷ calls) ≡ keys calls
  flow-none set = ap (λ (o : Option Command). keys_with target packet.tuple (treatment o) (keys calls)) set

reached-same : (command : Command) (key : FlowKey) → reaches command key ≡ is_reached command key
reached-same (Pipe number bw delay limit loss buckets mask) key = refl
reached-same (Queue number pipe weight limit loss buckets mask) key = refl
reached-same (DeletePipe number) key = refl
reached-same (DeleteQueue number) key = by key.target
  where
    by : (t : Target) → target_eq t (ToQueue number) ≡ (elim t as (λ _. Bool) [ ToPipe n ↦ false | ToQueue n ↦ nat_eq n number ])
    by (ToPipe n) = refl
    by (ToQueue n) = refl

one-on : (link : Link) (flow : ℕ) (b c : Bool) (t : List Event) → b ≡ c → on_link link (cond b (discarded flow ∷ t) t) ≡ cond c (discarded flow ∷ on_link link t) (on_link link t)
one-on link flow b c t e = by b ∙ ap (λ d. cond d (discarded flow ∷ on_link link t) (on_link link t)) e
  where
    by : (b : Bool) → on_link link (cond b (discarded flow ∷ t) t) ≡ cond b (discarded flow ∷ on_link link t) (on_link link t)
    by true = refl
    by false = refl

discards-on : (link : Link) (command : Command) (flow : ℕ) (known : List FlowKey) (t : List Event) → on_link link (discard_reached command flow known t) ≡ discards command flow known (on_link link t)
discards-on link command flow [] t = refl
discards-on link command flow (key ∷ known) t =
    discards-on link command (flow + 1) known (cond (reaches command key) (discarded flow ∷ t) t)
    ∙ ap (discards command (flow + 1) known) (one-on link flow (reaches command key) (is_reached command key) t (reached-same command key))

module _ (rule : Rule) (calls : List Call) (lt : length calls < call_limit) where
  pub deletes : (command : Command) (link : Link) → reply rule calls (Configure command) ≡ Deleted →
      on_link link (trace_of (Configure command ∷ calls)) ≡ discards command 0 (keys calls) (on_link link (trace_of calls))
  deletes command link h =
      ap (on_link link) ((commands-are-answered rule calls command lt).1 ∙ ap (λ (r : Reply). after_command r command (keys calls) (trace_of calls)) h)
      ∙ discards-on link command 0 (keys calls) (trace_of calls)

  pub spares : (command : Command) (link : Link) → reply rule calls (Configure command) ≢ Deleted → on_link link (trace_of (Configure command ∷ calls)) ≡ on_link link (trace_of calls)
  spares command link h = ap (on_link link) (commands-spare rule calls command lt h).1

  pub configures : (command : Command) → reply rule calls (Configure command) ≡ Configured → settings (Configure command ∷ calls) (about command) ≡ Some command
  configures command h = ap (settings (Configure command ∷ calls)) (about-is command) ∙ (commands-count calls command).0 (sym (commands-are-answered rule calls command lt).0 ∙ h)

  pub unconfigures : (command : Command) → reply rule calls (Configure command) ≡ Deleted → settings (Configure command ∷ calls) (about command) ≡ None
  unconfigures command h = ap (settings (Configure command ∷ calls)) (about-is command) ∙ (commands-count calls command).1 (sym (commands-are-answered rule calls command lt).0 ∙ h)

  pub refuses : (command : Command) → reply rule calls (Configure command) ≢ Configured → reply rule calls (Configure command) ≢ Deleted →
      settings (Configure command ∷ calls) (about command) ≡ settings calls (about command)
  refuses command h k =
      let told = (commands-are-answered rule calls command lt).0 in
      ap (settings (Configure command ∷ calls)) (about-is command) ∙ (commands-count calls command).2 (λ e. h (told ∙ e)) (λ e. k (told ∙ e)) ∙ ap (settings calls) (sym (about-is command))

  pub spares-others : (command : Command) (target : Target) → target ≢ about command → settings (Configure command ∷ calls) target ≡ settings calls target
  spares-others command target h = (commands-count calls command).3 target (λ e. h (e ∙ sym (about-is command)))

  pub judges : (target : Target) (packet : Packet) (moment : ℕ) (command : Command) (rate : ℕ) (most : Limit) (carrier : ℕ) →
      settings calls target ≡ Some command → IsJudgedBy command rate most carrier →
      IsExplained rate most (packet.word % 2 ^ 31)
      (λ flow. map (λ p. p.stamped.len) (backlog (link_to target flow carrier) flow (on_link (link_to target flow carrier) (trace_of (Advance moment ∷ calls)))))
      (reply rule calls (Submit target packet moment))
  judges target packet moment command rate most carrier set judged =
      let t = trace_of (Advance moment ∷ calls) in
      let same : (flow : ℕ) → backlog (link_of target flow carrier) flow t ≡ backlog (link_to target flow carrier) flow (on_link (link_to target flow carrier) t) =
      λ flow. ap (λ (l : Link). backlog l flow t) (sym (link_to-is target flow carrier)) ∙ sym (queue-on (link_to target flow carrier) flow t) in
      let lengths : (λ (flow : ℕ). map (λ p. p.stamped.len) (backlog (link_of target flow carrier) flow t))
      ≡ (λ (flow : ℕ). map (λ p. p.stamped.len) (backlog (link_to target flow carrier) flow (on_link (link_to target flow carrier) t))) = λ i flow. map (λ p. p.stamped.len) (same flow i) in
      subst (λ (l : ℕ → List ℕ). IsExplained rate most (packet.word % 2 ^ 31) l (reply rule calls (Submit target packet moment))) lengths
      (drops-are-explained rule calls target packet moment command rate most carrier lt set judged)

  pub numbers : (target : Target) (packet : Packet) (moment at flow number : ℕ) → reply rule calls (Submit target packet moment) ≡ Queued at flow number → number ≡ count_by is_queued (answers (emulated rule) calls)
  numbers target packet moment at flow number h = packets-are-numbered rule calls target packet moment at flow number h ∙ ap (count_by is_queued) (sym (answers-are rule calls))
