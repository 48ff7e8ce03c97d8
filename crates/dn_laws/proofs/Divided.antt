-- Calls that are divided among parts: what is in force for a part, and its keys, are the part's.
use Rattle.dn_laws.proofs.Words.{Bool, List, None, Option, Some, [], ap, cond, eqb-true, false, filter, is_some, list_any, nat_eq, refl, sym, target_eq-true, true, ℕ, ⊤, ◌++◌, ◌+◌, ◌||◌, ◌∙◌, ◌∷◌}
use Rattle.dn_laws.proofs.Words.{◌≡◌}
use Rattle.dn_laws.proofs.LawWords.{reaches, discard_reached, after_command, Settings, settings, subject, target_eq, is_queue_of, queue_numbers, has_queues, command_reply, setting_after, Treatment}
use Rattle.dn_laws.proofs.LawWords.{treatment, key_of, key_eq, keys, with_key, keys_with, links_of, IsOfOnePart, AreDivided, is_flow_of, is_carried, Event, discarded, Call, Configure, Submit, Advance}
use Rattle.dn_laws.proofs.LawWords.{Collect, Show, Command, Pipe, Queue, DeletePipe, DeleteQueue, FiveTuple, FlowKey, Reply, Configured, NoSuchPipe, Deleted, PipeHasQueues, NoSuchQueue, Target}
use Rattle.dn_laws.proofs.LawWords.{ToPipe, ToQueue}
use Rattle.dn_laws.proofs.Isolation.{false-if}
use Rattle.dn_laws.proofs.PartCalls.{keys-of}

module _ (mine : Target → Bool) where
  abbrev pub IsWithin : Settings → Type 0
  IsWithin set = (target : Target) (how : Treatment) → treatment (set target) ≡ Some how → mine (ToPipe how.pipe) ≡ mine target

  abbrev carrier : Option Treatment → ℕ
  carrier None = 0
  carrier (Some how) = how.pipe

  within-one : (command : Command) (target : Target) (how : Treatment) → IsOfOnePart mine command → subject command ≡ target
      → treatment (Some command) ≡ Some how → mine (ToPipe how.pipe) ≡ mine target
  within-one (Pipe number bw delay limit loss buckets mask) target how one is e = ap (λ n. mine (ToPipe n)) (sym (ap carrier e)) ∙ ap mine is
  within-one (Queue number pipe weight limit loss buckets mask) target how one is e = ap (λ n. mine (ToPipe n)) (sym (ap carrier e)) ∙ sym one ∙ ap mine is
  within-one (DeletePipe number) target how one is e = absurd cc
  within-one (DeleteQueue number) target how one is e = absurd cc

  within-after : (r : Reply) (command : Command) (target : Target) (how : Treatment) (old : Option Command) → IsOfOnePart mine command → subject command ≡ target
      → (treatment old ≡ Some how → mine (ToPipe how.pipe) ≡ mine target) → treatment (setting_after r command old) ≡ Some how → mine (ToPipe how.pipe) ≡ mine target
  within-after Configured command target how old one is before e = within-one command target how one is e
  within-after Deleted command target how old one is before e = absurd cc
  within-after _ command target how old one is before e = before e

  pub within : (is_own : ℕ → Bool) (calls : List Call) → AreDivided mine is_own calls → IsWithin (settings calls)
  within is_own [] d target how e = absurd cc
  within is_own (Configure command ∷ calls) d target how e =
      by (target_eq (subject command) target) refl (λ old. within is_own calls d.2 target how old) e
    where
      by : (b : Bool) → target_eq (subject command) target ≡ b → (treatment (settings calls target) ≡ Some how → mine (ToPipe how.pipe) ≡ mine target) →
          treatment (cond b (setting_after (command_reply (settings calls) (queue_numbers calls) command) command (settings calls target)) (settings calls target)) ≡ Some how
          → mine (ToPipe how.pipe) ≡ mine target
      by true is before e =
          within-after (command_reply (settings calls) (queue_numbers calls) command) command target how (settings calls target) d.0.1 (target_eq-true (subject command) target is) before e
      by false is before e = before e
  within is_own (Submit other packet moment ∷ calls) d target how e = within is_own calls d.2 target how e
  within is_own (Advance moment ∷ calls) d target how e = within is_own calls d.2 target how e
  within is_own (Collect moment ∷ calls) d target how e = within is_own calls d.2 target how e
  within is_own (Show ∷ calls) d target how e = within is_own calls d.2 target how e

  on-is : (target : Target) (key : FlowKey) → is_flow_of (links_of mine) target key ≡ mine (ToPipe key.pipe)
  on-is (ToPipe number) key = refl
  on-is (ToQueue number) key = refl

  pub carried-on : (target : Target) (tuple : FiveTuple) (o : Option Treatment) → is_carried (links_of mine) target tuple o ≡ true
      → (how : Treatment) → o ≡ Some how → mine (ToPipe how.pipe) ≡ true
  carried-on target tuple None is how e = absurd cc
  carried-on target tuple (Some it) is how e = ap (λ n. mine (ToPipe n)) (sym (ap carrier e)) ∙ sym (on-is target (key_of target tuple it)) ∙ is

  -- A packet to a target of another part isn't carried here.
  pub carried-elsewhere : (target : Target) (tuple : FiveTuple) (o : Option Treatment) → ((how : Treatment) → o ≡ Some how → mine (ToPipe how.pipe) ≡ mine target)
      → mine target ≡ false → is_carried (links_of mine) target tuple o ≡ false
  carried-elsewhere target tuple None in_part off = refl
  carried-elsewhere target tuple (Some how) in_part off = on-is target (key_of target tuple how) ∙ in_part how refl ∙ off

  -- One to a target of the part is, unless the target isn't configured.
  pub none-uncarried : (target : Target) (tuple : FiveTuple) (o : Option Treatment) → ((how : Treatment) → o ≡ Some how → mine (ToPipe how.pipe) ≡ mine target)
      → mine target ≡ true → is_carried (links_of mine) target tuple o ≡ false → o ≡ None
  none-uncarried target tuple None in_part on is = refl
  none-uncarried target tuple (Some how) in_part on is =
      let t : true ≡ false = sym on ∙ sym (in_part how refl) ∙ sym (on-is target (key_of target tuple how)) ∙ is in absurd cc

  abbrev AreWithin : List FlowKey → Type 0
  AreWithin [] = ⊤
  AreWithin (key ∷ known) = (mine (ToPipe key.pipe) ≡ mine key.target) × AreWithin known

  push-within : (key : FlowKey) (known : List FlowKey) → mine (ToPipe key.pipe) ≡ mine key.target → AreWithin known → AreWithin (known ++ key ∷ [])
  push-within key [] e h = (e, tt)
  push-within key (k ∷ known) e h = (h.0, push-within key known e h.1)

  with-within : (key : FlowKey) (known : List FlowKey) → mine (ToPipe key.pipe) ≡ mine key.target → AreWithin known → AreWithin (with_key key known)
  with-within key known e h = by (list_any (key_eq key) known)
    where
      by : (b : Bool) → AreWithin (cond b known (known ++ key ∷ []))
      by true = h
      by false = push-within key known e h

  keys-within : (is_own : ℕ → Bool) (calls : List Call) → AreDivided mine is_own calls → AreWithin (keys calls)
  keys-within is_own [] d = tt
  keys-within is_own (Submit target packet moment ∷ calls) d = by (treatment (settings calls target)) refl (keys-within is_own calls d.2)
    where
      by : (o : Option Treatment) → treatment (settings calls target) ≡ o → AreWithin (keys calls) → AreWithin (keys_with target packet.tuple o (keys calls))
      by None e h = h
      by (Some how) e h = with-within (key_of target packet.tuple how) (keys calls) (within is_own calls d.2 target how e) h
  keys-within is_own (Configure command ∷ calls) d = keys-within is_own calls d.2
  keys-within is_own (Advance moment ∷ calls) d = keys-within is_own calls d.2
  keys-within is_own (Collect moment ∷ calls) d = keys-within is_own calls d.2
  keys-within is_own (Show ∷ calls) d = keys-within is_own calls d.2

  -- The keys of the part's flows name its pipes and targets.
  abbrev pub AreMine : List FlowKey → Type 0
  AreMine [] = ⊤
  AreMine (key ∷ known) = (mine (ToPipe key.pipe) ≡ true) × (mine key.target ≡ true) × AreMine known

  filtered-mine : (known : List FlowKey) → AreWithin known → AreMine (keys-of (links_of mine) known)
  filtered-mine [] h = tt
  filtered-mine (key ∷ known) h = by (is_flow_of (links_of mine) key.target key) refl (filtered-mine known h.1)
    where
      by : (b : Bool) → is_flow_of (links_of mine) key.target key ≡ b → AreMine (keys-of (links_of mine) known)
          → AreMine (cond b (key ∷ keys-of (links_of mine) known) (keys-of (links_of mine) known))
      by true e rest = let on = sym (on-is key.target key) ∙ e in (on, sym h.0 ∙ on, rest)
      by false e rest = rest

  pub keys-mine : (is_own : ℕ → Bool) (calls : List Call) → AreDivided mine is_own calls → AreMine (keys-of (links_of mine) (keys calls))
  keys-mine is_own calls d = filtered-mine (keys calls) (keys-within is_own calls d)

  no-reach : (command : Command) (key : FlowKey) → mine (subject command) ≡ false → mine (ToPipe key.pipe) ≡ true → mine key.target ≡ true → reaches command key ≡ false
  no-reach (Pipe number bw delay limit loss buckets mask) key off pipe target = refl
  no-reach (Queue number carrier' weight limit loss buckets mask) key off pipe target = refl
  no-reach (DeletePipe number) key off pipe target =
      false-if (nat_eq key.pipe number) (λ same. let t : true ≡ false = sym pipe ∙ ap (λ n. mine (ToPipe n)) (eqb-true key.pipe number same) ∙ off in cc)
  no-reach (DeleteQueue number) key off pipe target =
      false-if (target_eq key.target (ToQueue number)) (λ same. let t : true ≡ false = sym target ∙ ap mine (target_eq-true key.target (ToQueue number) same) ∙ off in cc)

  discard-elsewhere : (command : Command) (from : ℕ) (known : List FlowKey) (t : List Event) → mine (subject command) ≡ false → AreMine known → discard_reached command from known t ≡ t
  discard-elsewhere command from [] t off h = refl
  discard-elsewhere command from (key ∷ known) t off h =
      ap (λ b. discard_reached command (from + 1) known (cond b (discarded from ∷ t) t)) (no-reach command key off h.0 h.1) ∙ discard-elsewhere command (from + 1) known t off h.2

  pub after-elsewhere : (r : Reply) (command : Command) (known : List FlowKey) (t : List Event) → mine (subject command) ≡ false → AreMine known → after_command r command known t ≡ t
  after-elsewhere Deleted command known t off h = discard-elsewhere command 0 known t off h
  after-elsewhere _ command known t off h = refl

  -- It leaves in force what was for the part's pipes and queues.
  pub setting-elsewhere : (calls : List Call) (command : Command) (target : Target) → mine (subject command) ≡ false → mine target ≡ true
      → settings (Configure command ∷ calls) target ≡ settings calls target
  setting-elsewhere calls command target off on =
      let other = false-if (target_eq (subject command) target) (λ same. let t : true ≡ false = sym on ∙ sym (ap mine (target_eq-true (subject command) target same)) ∙ off in cc) in
      ap (λ b. cond b (setting_after (command_reply (settings calls) (queue_numbers calls) command) command (settings calls target)) (settings calls target)) other

  abbrev pub queues-of : List ℕ → List ℕ
  queues-of queues = filter (λ q. mine (ToQueue q)) queues

  module _ (set other : Settings) (same : (target : Target) → mine target ≡ true → set target ≡ other target) (inside : IsWithin other) where
    queue-mine : (n : ℕ) (target : Target) (o : Option Command) → other target ≡ o → is_queue_of n o ≡ true → mine (ToPipe n) ≡ true → mine target ≡ true
    queue-mine n target None e is there = absurd cc
    queue-mine n target (Some (Pipe number bw delay limit loss buckets mask)) e is there = absurd cc
    queue-mine n target (Some (Queue number pipe weight limit loss buckets mask)) e is there =
        sym (inside target (record { pipe = pipe; weight = weight; mask = mask; loss = loss; limit = limit }) (ap treatment e)) ∙ ap (λ k. mine (ToPipe k)) (eqb-true pipe n is) ∙ there
    queue-mine n target (Some (DeletePipe number)) e is there = absurd cc
    queue-mine n target (Some (DeleteQueue number)) e is there = absurd cc

    queues-same : (n : ℕ) (queues : List ℕ) → mine (ToPipe n) ≡ true → has_queues set (queues-of queues) n ≡ has_queues other queues n
    queues-same n [] there = refl
    queues-same n (q ∷ queues) there = by (mine (ToQueue q)) refl (queues-same n queues there)
      where
        by : (b : Bool) → mine (ToQueue q) ≡ b → has_queues set (queues-of queues) n ≡ has_queues other queues n →
            has_queues set (cond b (q ∷ queues-of queues) (queues-of queues)) n ≡ (is_queue_of n (other (ToQueue q)) || has_queues other queues n)
        by true e rest = let s = same (ToQueue q) e in λ i. is_queue_of n (s i) || rest i
        by false e rest =
            let none = false-if (is_queue_of n (other (ToQueue q))) (λ is. let t : true ≡ false = sym (queue-mine n (ToQueue q) (other (ToQueue q)) refl is there) ∙ e in cc) in
            rest ∙ sym (ap (λ b. b || has_queues other queues n) none)

    pub command-same : (command : Command) (queues : List ℕ) → IsOfOnePart mine command → mine (subject command) ≡ true
        → command_reply set (queues-of queues) command ≡ command_reply other queues command
    command-same (Pipe number bw delay limit loss buckets mask) queues one on = refl
    command-same (Queue number pipe weight limit loss buckets mask) queues one on = ap (λ (o : Option Command). cond (is_some o) Configured NoSuchPipe) (same (ToPipe pipe) (sym one ∙ on))
    command-same (DeletePipe number) queues one on =
        let s = same (ToPipe number) on in
        let q = queues-same number queues on in
        λ i. cond (is_some (s i)) (cond (q i) PipeHasQueues Deleted) NoSuchPipe
    command-same (DeleteQueue number) queues one on = ap (λ (o : Option Command). cond (is_some o) Deleted NoSuchQueue) (same (ToQueue number) on)
