-- What a command that is put in force, or taken out, does to what is in force and to the counts of the queues that name a pipe.
use Rattle.dn_shaper.proofs.Words.{Bool, Command, Configured, CountsQueues, DeletePipe, DeleteQueue, IfSome, InForce, IsAnswered, List, Lists, NoSuchPipe, None, Option, Pipe, Queue, Sets, Some}
use Rattle.dn_shaper.proofs.Words.{[], ap, arith, at_number, cases_eq, cond, count_at, eq-no, eq-yes, false, is_queue_of, is_some, length, list_any, named_pipe, nat_eq, one_for, refl, settings_of}
use Rattle.dn_shaper.proofs.Words.{subst, suc, sym, true, true≢false, zero, ℕ, ⊎_elim, ◌+◌, ◌<◌, ◌||◌, ◌∙◌, ◌∷◌, ◌≡◌, ◌≤◌}
use Rattle.dn_shaper.proofs.QueueCounts.{none-pass, queues-changed, counted-in, at-most}

-- ---- What the answer to a command says of what is in force

-- What has something under it is below the length.
within-length : {A : Type 0} (kept : List (Option A)) (number : ℕ) → is_some (at_number kept number) ≡ true → number < length kept
within-length [] number some = absurd (true≢false (sym some))
within-length (o ∷ os) zero some = omega arith
within-length (o ∷ os) (suc n) some = let rest = within-length os n some in omega (arith, rest)

numbers-below : ℕ → List ℕ
numbers-below zero = []
numbers-below (suc n) = n ∷ numbers-below n

listed : (number limit : ℕ) → number < limit → list_any (nat_eq number) (numbers-below limit) ≡ true
unfolding numbers-below
listed number zero lt = absurd (omega (arith, lt))
listed number (suc n) lt = ⊎_elim
    (λ same. ap (λ b. b || list_any (nat_eq number) (numbers-below n)) (eq-yes number n same))
    (λ ne. ap (λ b. b || list_any (nat_eq number) (numbers-below n)) (eq-no number n ne) ∙ listed number n (omega (arith, lt, ne)))
    (cases_eq number n)

all-listed : (c : InForce) → Lists (settings_of c) (numbers-below (length c.queues))
all-listed c q some = listed q (length c.queues) (within-length c.queues q some)

-- The pipe that an accepted queue names is in force.
pub pipe-there : (command : Command) (c : InForce) → IsAnswered (settings_of c) command Configured →
    IfSome (named_pipe (Some command)) (λ p. is_some (at_number c.pipes p) ≡ true)
pipe-there (Pipe number bw delay limit loss buckets mask) c answered = tt
pipe-there (Queue number pipe weight limit loss buckets mask) c answered = by (is_some (at_number c.pipes pipe)) (answered (numbers-below (length c.queues)) (all-listed c))
  where
    by : (b : Bool) → Configured ≡ cond b Configured NoSuchPipe → b ≡ true
    by true e = refl
    by false e = absurd cc
pipe-there (DeletePipe number) c answered = tt
pipe-there (DeleteQueue number) c answered = tt

-- ---- The counts, one step after another

pub no-queues : CountsQueues (record { pipes = []; queues = [] }) []
no-queues = record {
  counts_are = λ p. sym (none-pass (λ q. is_queue_of p (at_number [] q)) 65536 (λ q. refl));
  places = λ p some. absurd (true≢false (sym some));
  numbers = λ q some. absurd (true≢false (sym some));
}

-- A pipe that is in force has a place for its count.
pub place-for : (c : InForce) (counts counts' : List ℕ) → CountsQueues c counts → length counts' ≡ length counts → (o joined : Option ℕ) → joined ≡ o →
    IfSome o (λ p. is_some (at_number c.pipes p) ≡ true) → IfSome joined (λ p. p < length counts')
place-for c counts counts' counted same o joined is there = subst (λ o. IfSome o (λ p. p < length counts')) (sym is) (by o there)
  where
    by : (o : Option ℕ) → IfSome o (λ p. is_some (at_number c.pipes p) ≡ true) → IfSome o (λ p. p < length counts')
    by None h = tt
    by (Some p) h = let place = counted.places p h in omega (arith, place, same)

-- A pipe without a place for its count is not in force.
pub not-in-force : (c : InForce) (counts : List ℕ) → CountsQueues c counts → (pipe : ℕ) → length counts ≤ pipe → at_number c.pipes pipe ≡ None
not-in-force c counts counted pipe past = by (at_number c.pipes pipe) (counted.places pipe)
  where
    by : (o : Option Command) → (is_some o ≡ true → pipe < length counts) → o ≡ None
    by None place = refl
    by (Some command) place = let lt = place refl in absurd (omega (arith, lt, past))

-- Where something stands under a number, it stood there or was put there.
still-some : {A : Type 0} (number : ℕ) (setting : Option A) (old new : List (Option A)) → Sets number setting old new →
    (n : ℕ) → is_some (at_number new n) ≡ true → (number ≡ n → ⊥) → is_some (at_number old n) ≡ true
still-some number setting old new sets n some ne =
    ap is_some (sym (sets n ∙ ap (λ b. cond b setting (at_number old n)) (eq-no number n ne))) ∙ some

-- A queue's command changes: the pipe that it named has one less, and the pipe that it names has one more.
module _ (number : ℕ) (small : number < 65536) (setting : Option Command) (old : InForce) (queues : List (Option Command)) (counts : List ℕ)
    (counted : CountsQueues old counts) (sets : Sets number setting old.queues queues)
    (left : Option ℕ) (left-is : left ≡ named_pipe (at_number old.queues number)) where
  pub counted-before : (p : ℕ) → one_for left p ≤ count_at counts p
  counted-before p =
      let one = counted-in number old.queues small p in
      let all = counted.counts_are p in
      let is = ap (λ o. one_for o p) left-is in
      omega (arith, one, all, is)

  module _ (counts1 : List ℕ) (less : (p : ℕ) → count_at counts1 p + one_for left p ≡ count_at counts p) (places1 : length counts1 ≡ length counts) where
    pub few : (p : ℕ) → count_at counts1 p ≤ 65536
    few p =
        let a = less p in
        let b = counted.counts_are p in
        let c = at-most (λ q. is_queue_of p (at_number old.queues q)) 65536 in
        omega (arith, a, b, c)

    pub counts-queue : (joined : Option ℕ) → joined ≡ named_pipe setting → (counts2 : List ℕ) →
        ((p : ℕ) → count_at counts2 p ≡ count_at counts1 p + one_for joined p) → length counts2 ≡ length counts1 →
        CountsQueues (record { pipes = old.pipes; queues = queues }) counts2
    counts-queue joined joined-is counts2 more places2 = record {
      counts_are = λ p.
          let a = less p in
          let b = more p in
          let c = counted.counts_are p in
          let d = queues-changed number setting old.queues queues small sets p in
          let e = ap (λ o. one_for o p) left-is in
          let f = ap (λ o. one_for o p) joined-is in
          omega (arith, a, b, c, d, e, f);
      places = λ p some. let had = counted.places p some in omega (arith, had, places1, places2);
      numbers = λ q some. ⊎_elim
          (λ is. omega (arith, is, small))
          (λ ne. counted.numbers q (still-some number setting old.queues queues sets q some ne))
          (cases_eq number q);
    }
