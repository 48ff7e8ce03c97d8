-- The count of the queues that name a pipe: whether there is one, and what one command in the place of another does to it.
use Rattle.dn_shaper.proofs.Words.{Bool, Command, DeletePipe, DeleteQueue, InForce, List, Lists, None, Option, Pipe, Queue, Sets, Some, ap, arith, at_number, cases_eq, cond, count_below, eq-no}
use Rattle.dn_shaper.proofs.Words.{eq-yes, false, has_queues, is_queue_of, is_some, named_pipe, nat_lt, nat_tests, one_for, queues_of, refl, settings_of, suc, sym, true, true_or_false, zero, ℕ}
use Rattle.dn_shaper.proofs.Words.{⊎_elim, ◌+◌, ◌<◌, ◌∙◌, ◌≡◌, ◌≤◌}
use Rattle.dn_shaper.proofs.Commands.{is-some, listed-passes, passing, same-answer}

-- ---- How many of the numbers below a limit pass

same-below : (f g : ℕ → Bool) (limit : ℕ) → ((m : ℕ) → m < limit → g m ≡ f m) → count_below g limit ≡ count_below f limit
unfolding count_below
same-below f g zero same = refl
same-below f g (suc n) same =
    let rest = same-below f g n (λ m lt. same m (omega (arith, lt))) in
    let here = ap {B = ℕ} (λ b. cond b 1 0) (same n (omega arith)) in
    omega (arith, rest, here)

-- The answer changes at one number alone.
changed : (f g : ℕ → Bool) (k limit : ℕ) → k < limit → ((m : ℕ) → (m ≡ k → ⊥) → g m ≡ f m) →
    count_below g limit + cond (f k) 1 0 ≡ count_below f limit + cond (g k) 1 0
unfolding count_below
changed f g k zero lt same = absurd (omega (arith, lt))
changed f g k (suc n) lt same = ⊎_elim here (there (λ less. changed f g k n less same)) (cases_eq k n)
  where
    here : k ≡ n → cond (g n) 1 0 + count_below g n + cond (f k) 1 0 ≡ cond (f n) 1 0 + count_below f n + cond (g k) 1 0
    here is =
        let rest = same-below f g n (λ m less. same m (λ e. absurd (omega (arith, e, is, less)))) in
        let a = ap {B = ℕ} (λ m. cond (f m) 1 0) is in
        let b = ap {B = ℕ} (λ m. cond (g m) 1 0) is in
        omega (arith, rest, a, b)

    there : (k < n → count_below g n + cond (f k) 1 0 ≡ count_below f n + cond (g k) 1 0) → (k ≡ n → ⊥) →
        cond (g n) 1 0 + count_below g n + cond (f k) 1 0 ≡ cond (f n) 1 0 + count_below f n + cond (g k) 1 0
    there below ne =
        let rest = below (omega (arith, lt, ne)) in
        let a = ap {B = ℕ} (λ b. cond b 1 0) (same n (λ e. ne (sym e))) in
        omega (arith, rest, a)

pub none-pass : (f : ℕ → Bool) (limit : ℕ) → ((m : ℕ) → f m ≡ false) → count_below f limit ≡ 0
unfolding count_below
none-pass f zero none = refl
none-pass f (suc n) none =
    let rest = none-pass f n none in
    let here = ap {B = ℕ} (λ b. cond b 1 0) (none n) in
    omega (arith, rest, here)

pub at-most : (f : ℕ → Bool) (limit : ℕ) → count_below f limit ≤ limit
unfolding count_below
at-most f zero = omega arith
at-most f (suc n) = by (f n) (at-most f n)
  where
    by : (b : Bool) → count_below f n ≤ n → cond b 1 0 + count_below f n ≤ suc n
    by true rest = omega (arith, rest)
    by false rest = omega (arith, rest)

counted : (f : ℕ → Bool) (k limit : ℕ) → k < limit → f k ≡ true → 1 ≤ count_below f limit
unfolding count_below
counted f k zero lt is = absurd (omega (arith, lt))
counted f k (suc n) lt is = ⊎_elim here (there (λ less. counted f k n less is)) (cases_eq k n)
  where
    here : k ≡ n → 1 ≤ cond (f n) 1 0 + count_below f n
    here same =
        let one : cond (f n) 1 0 ≡ 1 = ap {B = ℕ} (λ m. cond (f m) 1 0) (sym same) ∙ ap {B = ℕ} (λ b. cond b 1 0) is in
        omega (arith, one)

    there : (k < n → 1 ≤ count_below f n) → (k ≡ n → ⊥) → 1 ≤ cond (f n) 1 0 + count_below f n
    there below ne = let rest = below (omega (arith, lt, ne)) in omega (arith, rest)

found : (f : ℕ → Bool) (limit : ℕ) → 0 < count_below f limit → (k : ℕ) × (f k ≡ true)
unfolding count_below
found f zero some = absurd (omega (arith, some))
found f (suc n) some = ⊎_elim (λ yes'. (n, yes')) (λ no'. found f n (let none = ap {B = ℕ} (λ b. cond b 1 0) no' in omega (arith, some, none))) (true_or_false (f n))

-- ---- The queues that name a pipe

one-is : (pipe : ℕ) (o : Option Command) → cond (is_queue_of pipe o) 1 0 ≡ one_for (named_pipe o) pipe
one-is pipe None = refl
one-is pipe (Some (Pipe number bw delay limit loss buckets mask)) = refl
one-is pipe (Some (Queue number p weight limit loss buckets mask)) = refl
one-is pipe (Some (DeletePipe number)) = refl
one-is pipe (Some (DeleteQueue number)) = refl

pub queues-changed : (number : ℕ) (setting : Option Command) (old new : List (Option Command)) → number < 65536 → Sets number setting old new → (pipe : ℕ) →
    queues_of pipe new + one_for (named_pipe (at_number old number)) pipe ≡ queues_of pipe old + one_for (named_pipe setting) pipe
queues-changed number setting old new lt sets pipe =
    let all = changed (λ q. is_queue_of pipe (at_number old q)) (λ q. is_queue_of pipe (at_number new q)) number 65536 lt
    (λ m ne. ap (is_queue_of pipe) (sets m ∙ ap (λ b. cond b setting (at_number old m)) (eq-no number m (λ e. ne (sym e))))) in
    let before = one-is pipe (at_number old number) in
    let after = ap {B = ℕ} (λ o. cond (is_queue_of pipe o) 1 0) (sets number ∙ ap (λ b. cond b setting (at_number old number)) (eq-yes number number refl)) ∙ one-is pipe setting in
    omega (arith, all, before, after)

-- A queue is one of those that name its pipe.
pub counted-in : (number : ℕ) (queues : List (Option Command)) → number < 65536 → (pipe : ℕ) → one_for (named_pipe (at_number queues number)) pipe ≤ queues_of pipe queues
counted-in number queues lt pipe = by (is_queue_of pipe (at_number queues number)) (counted (λ q. is_queue_of pipe (at_number queues q)) number 65536 lt) (one-is pipe (at_number queues number))
  where
    by : (b : Bool) → (b ≡ true → 1 ≤ queues_of pipe queues) → cond b 1 0 ≡ one_for (named_pipe (at_number queues number)) pipe →
        one_for (named_pipe (at_number queues number)) pipe ≤ queues_of pipe queues
    by true some is = let one = some refl in omega (arith, one, is)
    by false some is = omega (arith, is)

module _ (pipe : ℕ) (c : InForce) (bounded : (q : ℕ) → is_some (at_number c.queues q) ≡ true → q < 65536) where
  -- The count tells whether there is one.
  pub has-queues-by : (count : ℕ) → count ≡ queues_of pipe c.queues → (queues : List ℕ) → Lists (settings_of c) queues →
      nat_lt 0 count ≡ has_queues (settings_of c) queues pipe
  has-queues-by count is queues lists =
      same-answer (nat_lt 0 count) (has_queues (settings_of c) queues pipe)
      (λ e. let some = found (λ q. is_queue_of pipe (at_number c.queues q)) 65536 (above e) in
      listed-passes (λ q. is_queue_of pipe (at_number c.queues q)) some.0 queues (lists some.0 (is-some pipe (at_number c.queues some.0) some.1)) some.1)
      (λ e. let one = passing (λ q. is_queue_of pipe (at_number c.queues q)) queues e in
      below (counted (λ q. is_queue_of pipe (at_number c.queues q)) one.0 65536 (bounded one.0 (is-some pipe (at_number c.queues one.0) one.1)) one.1))
    where
      above : nat_lt 0 count ≡ true → 0 < queues_of pipe c.queues
      above e = grind (arith, nat_tests, e, is)

      below : 1 ≤ queues_of pipe c.queues → nat_lt 0 count ≡ true
      below some = grind (arith, nat_tests, some, is)
