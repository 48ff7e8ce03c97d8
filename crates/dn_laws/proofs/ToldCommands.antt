-- What the calls are told of the limit, of the clock and of commands.
use Rattle.dn_laws.proofs.Words.{Bool, ClockIsTheGreatest, CommandsAreTold, IsQueueOf, LimitIsCounted, List, None, Option, RepliesTellTheClock, Some, [], any-of, ap, arith, cond, eq-eqb, eqb-true}
use Rattle.dn_laws.proofs.Words.{false, inl, inr, is_some, leb_tells, length, max, nat_le, nat_tests, refl, settings-whole, subst, sym, true, ℕ, ⊎_elim, ◌++◌, ◌<◌, ◌^◌, ◌||◌, ◌∙◌, ◌∷◌, ◌≡◌, ◌≢◌}
use Rattle.dn_laws.proofs.Words.{◌≤◌, ◌⊎◌}
use Rattle.dn_laws.proofs.LawWords.{Verdict, no_target, loses, refuses, takes, verdict, trace_of, call_limit, moment_of, effective_moment, Settings, settings, is_queue_of, has_queues, queue_numbers}
use Rattle.dn_laws.proofs.LawWords.{command_reply, IsTimed, counted_reply, reply_to_verdict, IsToldBy, settled, moment_told, HasQueue, IsThere, Event, Call, Configure, Submit, Advance, Collect, Show}
use Rattle.dn_laws.proofs.LawWords.{Command, Pipe, Queue, DeletePipe, DeleteQueue, Reply, Configured, NoSuchPipe, Deleted, PipeHasQueues, NoSuchQueue, Advanced, Exhausted, Rule, ToPipe, ToQueue}
use Rattle.dn_laws.proofs.DropLaws.{not-exhausted}

command-answered : (set : Settings) (queues : List ℕ) (command : Command) → command_reply set queues command ≢ Exhausted
command-answered set queues (Pipe number bw delay limit loss buckets mask) e = absurd cc
command-answered set queues (Queue number pipe weight limit loss buckets mask) e = by (is_some (set (ToPipe pipe))) e
  where
    by : (b : Bool) → cond b Configured NoSuchPipe ≡ Exhausted → ⊥
    by true e = absurd cc
    by false e = absurd cc
command-answered set queues (DeletePipe number) e = by (is_some (set (ToPipe number))) (has_queues set queues number) e
  where
    by : (b c : Bool) → cond b (cond c PipeHasQueues Deleted) NoSuchPipe ≡ Exhausted → ⊥
    by true true e = absurd cc
    by true false e = absurd cc
    by false c e = absurd cc
command-answered set queues (DeleteQueue number) e = by (is_some (set (ToQueue number))) e
  where
    by : (b : Bool) → cond b Deleted NoSuchQueue ≡ Exhausted → ⊥
    by true e = absurd cc
    by false e = absurd cc

verdict-answered : (at : ℕ) (v : Verdict) (trace : List Event) → reply_to_verdict at v trace ≢ Exhausted
verdict-answered at no_target trace e = absurd cc
verdict-answered at (loses link flow) trace e = absurd cc
verdict-answered at (refuses link flow) trace e = absurd cc
verdict-answered at (takes link flow how) trace e = absurd cc

counted-answered : (rule : Rule) (calls : List Call) (c : Call) → counted_reply rule calls c ≢ Exhausted
counted-answered rule calls (Configure command) e = command-answered (settings calls) (queue_numbers calls) command e
counted-answered rule calls (Submit target packet moment) e =
    let at = max (effective_moment calls) moment in
    let before = settled (settings calls) at (trace_of calls) in
    verdict-answered at (verdict calls target packet before) before e
counted-answered rule calls _ e = absurd cc

pub limit-is-counted : LimitIsCounted
limit-is-counted rule calls c =
    (λ few e. counted-answered rule calls c (sym (not-exhausted rule calls c few) ∙ e), λ many. ap (λ b. cond b Exhausted (counted_reply rule calls c)) (full many))
  where
    full : 2 ^ 62 ≤ length calls → nat_le call_limit (length calls) ≡ true
    full many = grind (arith, nat_tests)

verdict-told : (at : ℕ) (v : Verdict) (trace : List Event) → moment_told (reply_to_verdict at v trace) ≡ Some at
verdict-told at no_target trace = refl
verdict-told at (loses link flow) trace = refl
verdict-told at (refuses link flow) trace = refl
verdict-told at (takes link flow how) trace = refl

counted-told : (rule : Rule) (calls : List Call) (c : Call) → IsTimed c → moment_told (counted_reply rule calls c) ≡ Some (effective_moment (c ∷ calls))
counted-told rule calls (Configure command) timed = absurd timed
counted-told rule calls (Submit target packet moment) timed =
    let at = max (effective_moment calls) moment in
    let before = settled (settings calls) at (trace_of calls) in
    verdict-told at (verdict calls target packet before) before
counted-told rule calls (Advance moment) timed = refl
counted-told rule calls (Collect moment) timed = refl
counted-told rule calls Show timed = absurd timed

pub replies-tell-the-clock : RepliesTellTheClock
replies-tell-the-clock rule calls c few = (
  λ timed. ap moment_told (not-exhausted rule calls c few) ∙ counted-told rule calls c timed,
  λ moment is. not-exhausted rule calls c few ∙ ap (counted_reply rule calls) is ∙ ap (λ (d : Call). Advanced (effective_moment (d ∷ calls))) (sym is),
)

named : (later : List Call) (c : Call) (earlier : List Call) → moment_of c ≤ effective_moment (later ++ c ∷ earlier)
named [] c earlier = omega arith
named (d ∷ later) c earlier = let rest = named later c earlier in omega (arith, rest)

abbrev IsNamed : List Call → Type 0
IsNamed calls = (later : List Call) × ((c : Call) × ((earlier : List Call) × (calls ≡ later ++ c ∷ earlier) × (moment_of c ≡ effective_moment calls)))

pub clock-is-the-greatest : ClockIsTheGreatest
clock-is-the-greatest calls = (λ later c earlier e. subst (λ (cs : List Call). moment_of c ≤ effective_moment cs) (sym e) (named later c earlier), one calls)
  where
    one : (calls : List Call) → (effective_moment calls ≡ 0) ⊎ IsNamed calls
    one [] = inl refl
    one (c ∷ calls) = ⊎_elim (λ low. this low.1) (λ high. rest high.1 (one calls)) (leb_tells (effective_moment calls) (moment_of c))
      where
        this : effective_moment calls ≤ moment_of c → (effective_moment (c ∷ calls) ≡ 0) ⊎ IsNamed (c ∷ calls)
        this low = inr ([], (c, (calls, refl, omega (arith, low))))

        rest : moment_of c < effective_moment calls → (effective_moment calls ≡ 0) ⊎ IsNamed calls → (effective_moment (c ∷ calls) ≡ 0) ⊎ IsNamed (c ∷ calls)
        rest high before = ⊎_elim (λ none. inl (omega arith)) (λ (some : IsNamed calls). let is =
            some.1.1.2 in inr (c ∷ some.0, (some.1.0, (some.1.1.0, ap (λ (r : List Call). c ∷ r) some.1.1.1, omega arith)))) before

there : (o : Option Command) → IsThere o → is_some o ≡ true
there None h = absurd h
there (Some command) h = refl

of-queue : (n : ℕ) (o : Option Command) → is_queue_of n o ≡ true → IsQueueOf n o
of-queue n None h = absurd cc
of-queue n (Some (Queue number pipe weight limit loss buckets mask)) h = eqb-true pipe n h
of-queue n (Some _) h = absurd cc

queue-of : (n : ℕ) (o : Option Command) → IsQueueOf n o → is_queue_of n o ≡ true
queue-of n None h = absurd h
queue-of n (Some (Queue number pipe weight limit loss buckets mask)) h = eq-eqb pipe n h
queue-of n (Some _) h = absurd h

pub some-queue : (set : Settings) (queues : List ℕ) (n : ℕ) → has_queues set queues n ≡ true → HasQueue set n
some-queue set [] n h = absurd cc
some-queue set (q ∷ queues) n h = by (is_queue_of n (set (ToQueue q))) refl h (λ rest. some-queue set queues n rest)
  where
    by : (b : Bool) → is_queue_of n (set (ToQueue q)) ≡ b → (b || has_queues set queues n) ≡ true → (has_queues set queues n ≡ true → HasQueue set n) → HasQueue set n
    by true e h rest = (q, of-queue n (set (ToQueue q)) e)
    by false e h rest = rest h

module _ (calls : List Call) where
  abbrev set : Settings
  set = settings calls

  abbrev queues : List ℕ
  queues = queue_numbers calls

  pub has : (n : ℕ) → HasQueue (settings calls) n → has_queues (settings calls) (queue_numbers calls) n ≡ true
  has n h =
      let mine = queue-of n (set (ToQueue h.0)) h.1 in
      any-of (λ q. is_queue_of n (settings calls (ToQueue q))) h.0 (queue_numbers calls) mine ((settings-whole calls).listed h.0 n mine)

  has-not : (n : ℕ) → (HasQueue (settings calls) n → ⊥) → has_queues (settings calls) (queue_numbers calls) n ≡ false
  has-not n none = by (has_queues set queues n) refl
    where
      by : (b : Bool) → has_queues (settings calls) (queue_numbers calls) n ≡ b → b ≡ false
      by true e = absurd (none (some-queue (settings calls) (queue_numbers calls) n e))
      by false e = refl

  commands-told : (command : Command) → IsToldBy (settings calls) command (command_reply (settings calls) (queue_numbers calls) command)
  commands-told (Pipe number bw delay limit loss buckets mask) = refl
  commands-told (Queue number pipe weight limit loss buckets mask) =
      (λ h. ap (λ b. cond b Configured NoSuchPipe) (there (set (ToPipe pipe)) h), λ e. ap (λ (o : Option Command). cond (is_some o) Configured NoSuchPipe) e)
  commands-told (DeletePipe number) = (
    λ e. ap (λ (o : Option Command). cond (is_some o) (cond (has_queues set queues number) PipeHasQueues Deleted) NoSuchPipe) e,
    λ h q. (λ i. cond (there (set (ToPipe number)) h i) (cond (has number q i) PipeHasQueues Deleted) NoSuchPipe),
    λ h none. (λ i. cond (there (set (ToPipe number)) h i) (cond (has-not number none i) PipeHasQueues Deleted) NoSuchPipe),
  )
  commands-told (DeleteQueue number) =
      (λ h. ap (λ b. cond b Deleted NoSuchQueue) (there (set (ToQueue number)) h), λ e. ap (λ (o : Option Command). cond (is_some o) Deleted NoSuchQueue) e)

pub commands-are-told : CommandsAreTold
commands-are-told rule calls command few =
    subst (λ (r : Reply). IsToldBy (settings calls) command r) (sym (not-exhausted rule calls (Configure command) few)) (commands-told calls command)
