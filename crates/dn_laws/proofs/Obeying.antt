-- What obeys the laws has the clock, the commands and the flows of the definitions.
use Rattle.dn_laws.proofs.Words.{Bool, IsKept, List, None, Option, Some, [], and_from, ap, arith, cond, eq-eqb, false, inl, inr, is_some, key_eq-true, length, list_any, max, nat_eq, refl}
use Rattle.dn_laws.proofs.Words.{settings-kept, subst, sym, target_eq-refl, target_eq-true, true, ℕ, ⊎_elim, ◌&&◌, ◌++◌, ◌<◌, ◌||◌, ◌∙◌, ◌∷◌, ◌≡◌, ◌≤◌}
use Rattle.dn_laws.proofs.LawWords.{call_limit, effective_moment, Settings, settings, target_eq, subject, has_queues, queue_numbers, command_reply, setting_after, reply_to_command, Emulator, Has}
use Rattle.dn_laws.proofs.LawWords.{ObeysTheLaws, about, key_by, IsMaskedBy, treatment, key_eq, keys_with, keys, IsToldBy, HasQueue, IsThere, Call, Configure, Submit, Advance, Collect, Show, Command}
use Rattle.dn_laws.proofs.LawWords.{Pipe, Queue, DeletePipe, DeleteQueue, FlowKey, Mask, Packet, Reply, Configured, NoSuchPipe, Deleted, PipeHasQueues, NoSuchQueue, Rule, Target, ToPipe, ToQueue}
use Rattle.dn_laws.proofs.ToldCommands.{some-queue, has}

pub told-one : (calls : List Call) (command : Command) (r : Reply) → IsToldBy (settings calls) command r → r ≡ command_reply (settings calls) (queue_numbers calls) command
told-one calls (Pipe number bw delay limit loss buckets mask) r h = h
told-one calls (Queue number pipe weight limit loss buckets mask) r h = by (settings calls (ToPipe pipe)) h
  where
    by : (o : Option Command) → (IsThere o → r ≡ Configured) × (o ≡ None → r ≡ NoSuchPipe) → r ≡ cond (is_some o) Configured NoSuchPipe
    by None h = h.1 refl
    by (Some command) h = h.0 tt
told-one calls (DeletePipe number) r h = by (settings calls (ToPipe number)) (has_queues (settings calls) (queue_numbers calls) number) refl h
  where
    by : (o : Option Command) (b : Bool) → has_queues (settings calls) (queue_numbers calls) number ≡ b →
        (o ≡ None → r ≡ NoSuchPipe) × (IsThere o → HasQueue (settings calls) number → r ≡ PipeHasQueues)
        × (IsThere o → (HasQueue (settings calls) number → ⊥) → r ≡ Deleted) → r ≡ cond (is_some o) (cond b PipeHasQueues Deleted) NoSuchPipe
    by None b e h = h.0 refl
    by (Some command) true e h = h.1 tt (some-queue (settings calls) (queue_numbers calls) number e)
    by (Some command) false e h = h.2 tt (λ q. let t : false ≡ true = sym e ∙ has calls number q in absurd cc)
told-one calls (DeleteQueue number) r h = by (settings calls (ToQueue number)) h
  where
    by : (o : Option Command) → (IsThere o → r ≡ Deleted) × (o ≡ None → r ≡ NoSuchQueue) → r ≡ cond (is_some o) Deleted NoSuchQueue
    by None h = h.1 refl
    by (Some command) h = h.0 tt

pub about-is : (command : Command) → about command ≡ subject command
about-is (Pipe number bw delay limit loss buckets mask) = refl
about-is (Queue number pipe weight limit loss buckets mask) = refl
about-is (DeletePipe number) = refl
about-is (DeleteQueue number) = refl

same : (n : ℕ) → nat_eq n n ≡ true
same n = eq-eqb n n refl

five : (a b c d e : ℕ) → (nat_eq a a && nat_eq b b && nat_eq c c && nat_eq d d && nat_eq e e) ≡ true
five a b c d e = and_from _ _ (and_from _ _ (and_from _ _ (and_from _ _ (same a) (same b)) (same c)) (same d)) (same e)

key_eq-refl : (k : FlowKey) → key_eq k k ≡ true
key_eq-refl k =
    and_from _ _ (and_from _ _ (and_from _ _ (target_eq-refl k.target) (same k.pipe)) (five k.mask.src k.mask.dst k.mask.proto k.mask.sport k.mask.dport))
    (five k.tuple.src k.tuple.dst k.tuple.proto k.tuple.sport k.tuple.dport)

pub has-key : (key : FlowKey) (known : List FlowKey) → list_any (key_eq key) known ≡ true → Has known key
has-key key [] h = absurd cc
has-key key (x ∷ known) h = by (key_eq key x) refl h (λ rest. has-key key known rest)
  where
    by : (b : Bool) → key_eq key x ≡ b → (b || list_any (key_eq key) known) ≡ true → (list_any (key_eq key) known ≡ true → Has known key) → Has (x ∷ known) key
    by true e h rest = inl (sym (key_eq-true key x e))
    by false e h rest = inr (rest h)

pub key-had : (key : FlowKey) (known : List FlowKey) → Has known key → list_any (key_eq key) known ≡ true
key-had key [] h = absurd h
key-had key (x ∷ known) h = ⊎_elim
    (λ is. ap (λ b. b || list_any (key_eq key) known) (ap (λ (k : FlowKey). key_eq key k) is ∙ key_eq-refl key))
    (λ rest. by (key_eq key x) (key-had key known rest)) h
  where
    by : (b : Bool) → list_any (key_eq key) known ≡ true → (b || list_any (key_eq key) known) ≡ true
    by true there = refl
    by false there = there

module _ (rule : Rule) (e : Emulator) (E : ObeysTheLaws rule e) where
  pub clock-is : (calls : List Call) → length calls ≤ call_limit → e.clock calls ≡ effective_moment calls
  clock-is [] le = E.clock_begins
  clock-is (Submit target packet moment ∷ calls) le = (E.one_more calls (omega (arith, le))).clock.submits target packet moment ∙ ap (λ n. max n moment) (clock-is calls (omega (arith, le)))
  clock-is (Advance moment ∷ calls) le = (E.one_more calls (omega (arith, le))).clock.advances moment ∙ ap (λ n. max n moment) (clock-is calls (omega (arith, le)))
  clock-is (Collect moment ∷ calls) le = (E.one_more calls (omega (arith, le))).clock.collects moment ∙ ap (λ n. max n moment) (clock-is calls (omega (arith, le)))
  clock-is (Configure command ∷ calls) le =
      let h = (E.one_more calls (omega (arith, le))).clock.configures command in
      let k = clock-is calls (omega (arith, le)) in
      omega (arith, h, k)
  clock-is (Show ∷ calls) le =
      let h = (E.one_more calls (omega (arith, le))).clock.shows in
      let k = clock-is calls (omega (arith, le)) in
      omega (arith, h, k)

  command-told : (calls : List Call) → length calls < call_limit → ((target : Target) → e.in_force calls target ≡ settings calls target) →
      (command : Command) → e.told calls (Configure command) ≡ reply_to_command calls command
  command-told calls lt same command =
      let sets : e.in_force calls ≡ settings calls = λ i target. same target i in
      told-one calls command (e.told calls (Configure command)) (subst (λ (set : Settings). IsToldBy set command (e.told calls (Configure command))) sets ((E.one_more calls lt).commands.told command))

  obeyed : (calls : List Call) → length calls < call_limit → (command : Command) (r : Reply) → e.told calls (Configure command) ≡ r →
      e.in_force (Configure command ∷ calls) (about command) ≡ setting_after r command (e.in_force calls (about command))
  obeyed calls lt command Configured h = (E.one_more calls lt).commands.configured command h
  obeyed calls lt command Deleted h = (E.one_more calls lt).commands.deleted command h
  obeyed calls lt command r h = (E.one_more calls lt).commands.refused command (λ k. let t : r ≡ Configured = sym h ∙ k in absurd cc) (λ k. let t : r ≡ Deleted = sym h ∙ k in absurd cc)

  forced-command : (calls : List Call) → length calls < call_limit → ((target : Target) → e.in_force calls target ≡ settings calls target) →
      (command : Command) (target : Target) → e.in_force (Configure command ∷ calls) target ≡ settings (Configure command ∷ calls) target
  forced-command calls lt same command target = by (target_eq (subject command) target) refl
    where
      by : (b : Bool) → target_eq (subject command) target ≡ b →
          e.in_force (Configure command ∷ calls) target ≡ cond b (setting_after (command_reply (settings calls) (queue_numbers calls) command) command (settings calls target)) (settings calls target)
      by true is =
          let this : about command ≡ target = about-is command ∙ target_eq-true (subject command) target is in
          subst (λ (t : Target). e.in_force (Configure command ∷ calls) t ≡ setting_after (command_reply (settings calls) (queue_numbers calls) command) command (settings calls t)) this
          (obeyed calls lt command (command_reply (settings calls) (queue_numbers calls) command) (command-told calls lt same command)
          ∙ ap (setting_after (command_reply (settings calls) (queue_numbers calls) command) command) (same (about command)))
      by false not' = (E.one_more calls lt).commands.others command target (λ k.
          let t : true ≡ false = sym (target_eq-refl target) ∙ ap (λ (x : Target). target_eq x target) (k ∙ about-is command) ∙ not' in absurd cc) ∙ same target

  pub forced : (calls : List Call) → length calls ≤ call_limit → (target : Target) → e.in_force calls target ≡ settings calls target
  forced [] le target = E.force_begins target
  forced (Configure command ∷ calls) le target = forced-command calls (omega (arith, le)) (forced calls (omega (arith, le))) command target
  forced (Submit to packet moment ∷ calls) le target = (E.one_more calls (omega (arith, le))).commands.only (Submit to packet moment) target (λ command k. absurd cc) ∙ forced calls (omega (arith, le)) target
  forced (Advance moment ∷ calls) le target = (E.one_more calls (omega (arith, le))).commands.only (Advance moment) target (λ command k. absurd cc) ∙ forced calls (omega (arith, le)) target
  forced (Collect moment ∷ calls) le target = (E.one_more calls (omega (arith, le))).commands.only (Collect moment) target (λ command k. absurd cc) ∙ forced calls (omega (arith, le)) target
  forced (Show ∷ calls) le target = (E.one_more calls (omega (arith, le))).commands.only Show target (λ command k. absurd cc) ∙ forced calls (omega (arith, le)) target

  pub commands-told : (calls : List Call) → length calls < call_limit → (command : Command) → e.told calls (Configure command) ≡ reply_to_command calls command
  commands-told calls lt command = command-told calls lt (forced calls (omega (arith, lt))) command

  flows-submitted : (calls : List Call) → length calls < call_limit → e.flows calls ≡ keys calls → (target : Target) (packet : Packet) (moment : ℕ) →
      e.flows (Submit target packet moment ∷ calls) ≡ keys (Submit target packet moment ∷ calls)
  flows-submitted calls lt same target packet moment = by (settings calls target) (forced calls (omega (arith, lt)) target) (settings-kept calls target)
    where
      keyed : (command : Command) (mask : Mask) (carrier : ℕ) → e.in_force calls target ≡ Some command → IsMaskedBy command mask carrier → (b : Bool) →
          list_any (key_eq (key_by target packet mask carrier)) (keys calls) ≡ b →
          e.flows (Submit target packet moment ∷ calls) ≡ cond b (keys calls) (keys calls ++ key_by target packet mask carrier ∷ [])
      keyed command mask carrier set masks true h = (E.one_more calls lt).flows.known target packet moment command mask carrier set masks
          (subst (λ (known : List FlowKey). Has known (key_by target packet mask carrier)) (sym same) (has-key (key_by target packet mask carrier) (keys calls) h)) ∙ same
      keyed command mask carrier set masks false h = (E.one_more calls lt).flows.new target packet moment command mask carrier set masks
          (λ there. let t : false ≡ true = sym h ∙ key-had (key_by target packet mask carrier) (keys calls) (subst (λ (known : List FlowKey). Has known (key_by target packet mask carrier)) same there) in absurd cc)
          ∙ ap (λ (known : List FlowKey). known ++ key_by target packet mask carrier ∷ []) same

      by : (o : Option Command) → e.in_force calls target ≡ o → IsKept target o → e.flows (Submit target packet moment ∷ calls) ≡ keys_with target packet.tuple (treatment o) (keys calls)
      by None h kept = (E.one_more calls lt).flows.none target packet moment h ∙ same
      by (Some (Pipe number bw delay limit loss buckets mask)) h kept = keyed (Pipe number bw delay limit loss buckets mask) mask number h (refl, refl)
          (list_any (key_eq (key_by target packet mask number)) (keys calls)) refl
      by (Some (Queue number pipe weight limit loss buckets mask)) h kept = keyed (Queue number pipe weight limit loss buckets mask) mask pipe h (refl, refl)
          (list_any (key_eq (key_by target packet mask pipe)) (keys calls)) refl
      by (Some (DeletePipe number)) h kept = absurd (gone target kept)
        where
          gone : (t : Target) → IsKept t (Some (DeletePipe number)) → ⊥
          gone (ToPipe n) k = k
          gone (ToQueue n) k = k
      by (Some (DeleteQueue number)) h kept = absurd (gone target kept)
        where
          gone : (t : Target) → IsKept t (Some (DeleteQueue number)) → ⊥
          gone (ToPipe n) k = k
          gone (ToQueue n) k = k

  pub flows-are : (calls : List Call) → length calls ≤ call_limit → e.flows calls ≡ keys calls
  flows-are [] le = E.flows_begin
  flows-are (Submit target packet moment ∷ calls) le = flows-submitted calls (omega (arith, le)) (flows-are calls (omega (arith, le))) target packet moment
  flows-are (Configure command ∷ calls) le = (E.one_more calls (omega (arith, le))).flows.stay (Configure command) (λ target packet moment k. absurd cc) ∙ flows-are calls (omega (arith, le))
  flows-are (Advance moment ∷ calls) le = (E.one_more calls (omega (arith, le))).flows.stay (Advance moment) (λ target packet m k. absurd cc) ∙ flows-are calls (omega (arith, le))
  flows-are (Collect moment ∷ calls) le = (E.one_more calls (omega (arith, le))).flows.stay (Collect moment) (λ target packet m k. absurd cc) ∙ flows-are calls (omega (arith, le))
  flows-are (Show ∷ calls) le = (E.one_more calls (omega (arith, le))).flows.stay Show (λ target packet moment k. absurd cc) ∙ flows-are calls (omega (arith, le))
