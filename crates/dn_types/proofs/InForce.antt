-- What is in force for a pipe or a queue is about it, and a configured queue names a configured pipe.
use Rattle.dn_types.proofs.Words.{Bool, Call, Command, Configure, Configured, DeletePipe, DeleteQueue, Deleted, List, NoSuchPipe, NoSuchQueue, None, Option, Pipe, PipeHasQueues, Queue, Settings}
use Rattle.dn_types.proofs.Words.{Some, Target, Treatment, [], ap, command_reply, cond, eq-eqb, eqb-true, false, has_queues, is_queue_of, is_some, list_any, nat_eq, or_right, queue_numbers, refl}
use Rattle.dn_types.proofs.Words.{setting_after, settings, subject, subst, sym, target_eq, treatment, true, ℕ, ⊤, ◌||◌, ◌∙◌, ◌∷◌, ◌≡◌}
use Rattle.dn_types.specs.declared.target.Target.TheVariants.{Pipe as ToPipe, Queue as ToQueue}

-- ---- What is in force is of its target

pub target_eq-true : (a b : Target) → target_eq a b ≡ true → a ≡ b
target_eq-true (ToPipe a) (ToPipe b) e = ap ToPipe (eqb-true a b e)
target_eq-true (ToQueue a) (ToQueue b) e = ap ToQueue (eqb-true a b e)
target_eq-true (ToPipe a) (ToQueue b) e = absurd cc
target_eq-true (ToQueue a) (ToPipe b) e = absurd cc

abbrev pub IsOfTarget : Target → Command → Type 0
IsOfTarget (ToPipe n) (Pipe number bw delay limit loss buckets mask) = number ≡ n
IsOfTarget (ToQueue n) (Queue number pipe weight limit loss buckets mask) = number ≡ n
IsOfTarget _ _ = ⊥

abbrev pub IsKept : Target → Option Command → Type 0
IsKept target None = ⊤
IsKept target (Some command) = IsOfTarget target command

kept-after : (set : Settings) (queues : List ℕ) (command : Command) → IsKept (subject command) (set (subject command)) →
    IsKept (subject command) (setting_after (command_reply set queues command) command (set (subject command)))
kept-after set queues (Pipe number bw delay limit loss buckets mask) h = refl
kept-after set queues (Queue number pipe weight limit loss buckets mask) h = by (is_some (set (ToPipe pipe)))
  where
    by : (b : Bool) → IsKept (ToQueue number) (setting_after (cond b Configured NoSuchPipe) (Queue number pipe weight limit loss buckets mask) (set (ToQueue number)))
    by true = refl
    by false = h
kept-after set queues (DeletePipe number) h = by (is_some (set (ToPipe number))) (has_queues set queues number)
  where
    by : (b c : Bool) → IsKept (ToPipe number) (setting_after (cond b (cond c PipeHasQueues Deleted) NoSuchPipe) (DeletePipe number) (set (ToPipe number)))
    by true true = h
    by true false = tt
    by false c = h
kept-after set queues (DeleteQueue number) h = by (is_some (set (ToQueue number)))
  where
    by : (b : Bool) → IsKept (ToQueue number) (setting_after (cond b Deleted NoSuchQueue) (DeleteQueue number) (set (ToQueue number)))
    by true = tt
    by false = h

pub settings-kept : (calls : List Call) (target : Target) → IsKept target (settings calls target)
settings-kept [] target = tt
settings-kept (Configure command ∷ calls) target = by (target_eq (subject command) target) refl (settings-kept calls target) (λ t. settings-kept calls t)
  where
    by : (b : Bool) → target_eq (subject command) target ≡ b → IsKept target (settings calls target) → ((t : Target) → IsKept t (settings calls t)) →
        IsKept target (cond b (setting_after (command_reply (settings calls) (queue_numbers calls) command) command (settings calls target)) (settings calls target))
    by true e h all = subst (λ (t : Target). IsKept t (setting_after (command_reply (settings calls) (queue_numbers calls) command) command
        (settings calls t))) (target_eq-true (subject command) target e) (kept-after (settings calls) (queue_numbers calls) command (all (subject command)))
    by false e h all = h
settings-kept (_ ∷ calls) target = settings-kept calls target

-- ---- A configured queue names a configured pipe

-- Each configured queue is among the numbers, and its pipe is configured.
pub record IsWhole (set : Settings) (queues : List ℕ) : Type 0 where
  pub listed : (q n : ℕ) → is_queue_of n (set (ToQueue q)) ≡ true → list_any (λ x. nat_eq q x) queues ≡ true
  pub carried : (q n : ℕ) → is_queue_of n (set (ToQueue q)) ≡ true → is_some (set (ToPipe n)) ≡ true

abbrev after : Settings → List ℕ → Command → Settings
after set queues command target = cond (target_eq (subject command) target) (setting_after (command_reply set queues command) command (set target)) (set target)

pub any-of : (test : ℕ → Bool) (q : ℕ) (queues : List ℕ) → test q ≡ true → list_any (λ x. nat_eq q x) queues ≡ true → list_any test queues ≡ true
any-of test q [] is there = absurd cc
any-of test q (x ∷ queues) is there = by (nat_eq q x) refl (test x) refl there (λ rest. any-of test q queues is rest)
  where
    by : (b : Bool) → nat_eq q x ≡ b → (c : Bool) → test x ≡ c → (b || list_any (λ y. nat_eq q y) queues) ≡ true → (list_any (λ y. nat_eq q y) queues ≡ true →
        list_any test queues ≡ true) → (c || list_any test queues) ≡ true
    by b e true f there rest = refl
    by true e false f there rest = let t : true ≡ false = sym is ∙ ap test (eqb-true q x e) ∙ f in absurd cc
    by false e false f there rest = rest there

whole-after : (set : Settings) (queues : List ℕ) (command : Command) → IsWhole set queues →
    IsWhole (after set queues command) (elim command as (λ _. List ℕ) [
      | Pipe number bw delay limit loss buckets mask ↦ queues
      | Queue number pipe weight limit loss buckets mask ↦ number ∷ queues
      | DeletePipe number ↦ queues
      | DeleteQueue number ↦ queues
    ])
whole-after set queues (Pipe number bw delay limit loss buckets mask) h = record { listed = h.listed; carried = λ q n is. by n (nat_eq number n) (h.carried q n is) }
  where
    by : (n : ℕ) (b : Bool) → is_some (set (ToPipe n)) ≡ true → is_some (cond b (Some (Pipe number bw delay limit loss buckets mask)) (set (ToPipe n))) ≡ true
    by n true there = refl
    by n false there = there
whole-after set queues (Queue number pipe weight limit loss buckets mask) h = record {
  listed = λ q n is. in-list q n (nat_eq number q) refl (is_some (set (ToPipe pipe))) is;
  carried = λ q n is. there q n (nat_eq number q) (is_some (set (ToPipe pipe))) refl is;
}
  where
    in-list : (q n : ℕ) (b : Bool) → nat_eq number q ≡ b → (c : Bool) →
        is_queue_of n (cond b (setting_after (cond c Configured NoSuchPipe) (Queue number pipe weight limit loss buckets mask) (set (ToQueue q))) (set (ToQueue q))) ≡ true →
        (nat_eq q number || list_any (λ x. nat_eq q x) queues) ≡ true
    in-list q n true e c is = ap (λ b. b || list_any (λ x. nat_eq q x) queues) (eq-eqb q number (sym (eqb-true number q e)))
    in-list q n false e c is = or_right (nat_eq q number) (list_any (λ x. nat_eq q x) queues) (h.listed q n is)

    there : (q n : ℕ) (b c : Bool) → is_some (set (ToPipe pipe)) ≡ c →
        is_queue_of n (cond b (setting_after (cond c Configured NoSuchPipe) (Queue number pipe weight limit loss buckets mask) (set (ToQueue q))) (set (ToQueue q))) ≡ true →
        is_some (set (ToPipe n)) ≡ true
    there q n true true e is = ap (λ (m : ℕ). is_some (set (ToPipe m))) (sym (eqb-true pipe n is)) ∙ e
    there q n true false e is = h.carried q n is
    there q n false c e is = h.carried q n is
whole-after set queues (DeletePipe number) h = record {
  listed = h.listed;
  carried =
      λ q n is. by q n is (nat_eq number n) refl (is_some (set (ToPipe number))) (has_queues set queues number) refl (h.carried q n is);
}
  where
    by : (q n : ℕ) → is_queue_of n (set (ToQueue q)) ≡ true → (b : Bool) → nat_eq number n ≡ b → (c d : Bool) → has_queues set queues number ≡ d → is_some (set (ToPipe n)) ≡ true →
        is_some (cond b (setting_after (cond c (cond d PipeHasQueues Deleted) NoSuchPipe) (DeletePipe number) (set (ToPipe n))) (set (ToPipe n))) ≡ true
    by q n is false e c d f there = there
    by q n is true e false d f there = there
    by q n is true e true true f there = there
    by q n is true e true false f there =
        let mine : is_queue_of number (set (ToQueue q)) ≡ true = ap (λ (m : ℕ). is_queue_of m (set (ToQueue q))) (eqb-true number n e) ∙ is in
        let some = any-of (λ x. is_queue_of number (set (ToQueue x))) q queues mine (h.listed q n is) in
        let t : true ≡ false = sym some ∙ f in
        absurd cc
whole-after set queues (DeleteQueue number) h = record {
  listed = λ q n is. h.listed q n (before q n (nat_eq number q) (is_some (set (ToQueue number))) is);
  carried = λ q n is. h.carried q n (before q n (nat_eq number q) (is_some (set (ToQueue number))) is);
}
  where
    before : (q n : ℕ) (b c : Bool) → is_queue_of n (cond b (setting_after (cond c Deleted NoSuchQueue) (DeleteQueue number) (set (ToQueue q))) (set (ToQueue q))) ≡ true →
        is_queue_of n (set (ToQueue q)) ≡ true
    before q n true true is = absurd cc
    before q n true false is = is
    before q n false c is = is

pub settings-whole : (calls : List Call) → IsWhole (settings calls) (queue_numbers calls)
settings-whole [] = record { listed = λ q n is. absurd cc; carried = λ q n is. absurd cc }
settings-whole (Configure (Pipe number bw delay limit loss buckets mask) ∷ calls) =
    whole-after (settings calls) (queue_numbers calls) (Pipe number bw delay limit loss buckets mask) (settings-whole calls)
settings-whole (Configure (Queue number pipe weight limit loss buckets mask) ∷ calls) =
    whole-after (settings calls) (queue_numbers calls) (Queue number pipe weight limit loss buckets mask) (settings-whole calls)
settings-whole (Configure (DeletePipe number) ∷ calls) = whole-after (settings calls) (queue_numbers calls) (DeletePipe number) (settings-whole calls)
settings-whole (Configure (DeleteQueue number) ∷ calls) = whole-after (settings calls) (queue_numbers calls) (DeleteQueue number) (settings-whole calls)
settings-whole (_ ∷ calls) = settings-whole calls

-- A treatment's pipe is configured.
pub pipe-there : (calls : List Call) (target : Target) (how : Treatment) → treatment (settings calls target) ≡ Some how → is_some (settings calls (ToPipe how.pipe)) ≡ true
pipe-there calls target how e = by target (settings calls target) refl (settings-kept calls target) e
  where
    pipe-or : ℕ → Option Treatment → ℕ
    pipe-or d None = d
    pipe-or d (Some h) = h.pipe

    by : (t : Target) (o : Option Command) → settings calls t ≡ o → IsKept t o → treatment o ≡ Some how → is_some (settings calls (ToPipe how.pipe)) ≡ true
    by t None is kept e = absurd cc
    by (ToPipe n) (Some (Pipe number bw delay limit loss buckets mask)) is kept e = ap (λ (m : ℕ). is_some (settings calls (ToPipe m))) (sym (ap (pipe-or 0) e) ∙ kept)
        ∙ ap (λ (o : Option Command). is_some o) is
    by (ToQueue n) (Some (Queue number pipe weight limit loss buckets mask)) is kept e =
        (settings-whole calls).carried n how.pipe (ap (is_queue_of how.pipe) is ∙ eq-eqb pipe how.pipe (ap (pipe-or 0) e))
    by (ToPipe n) (Some _) is kept e = absurd kept
    by (ToQueue n) (Some _) is kept e = absurd kept
