-- The commands in force as a function of the target, and a test that one of a list of numbers passes.
use Rattle.dn_shaper.proofs.Words.{Advance, Bool, Call, Collect, Command, Configure, DeletePipe, DeleteQueue, Deleted, List, Lists, NoSuchQueue, None, Option, Pipe, Queue, Show, Some, Submit, []}
use Rattle.dn_shaper.proofs.Words.{ap, command_reply, cond, eq-yes, eqb-true, false, is_queue_of, is_some, list_any, nat_eq, or_right, queue_numbers, refl, setting_after, settings, sym, true}
use Rattle.dn_shaper.proofs.Words.{true_or_false, true≢false, ℕ, ⊎_elim, ◌||◌, ◌∙◌, ◌∷◌, ◌≡◌}
use Rattle.dn_types.specs.declared.target.Target.TheVariants.{Queue as ToQueue}

pub is-some : (pipe : ℕ) (o : Option Command) → is_queue_of pipe o ≡ true → is_some o ≡ true
is-some pipe None e = absurd (true≢false (sym e))
is-some pipe (Some c) e = refl

pub same-answer : (a b : Bool) → (a ≡ true → b ≡ true) → (b ≡ true → a ≡ true) → a ≡ b
same-answer true b f g = sym (f refl)
same-answer false true f g = g refl
same-answer false false f g = refl

pub listed-passes : (test : ℕ → Bool) (q : ℕ) (qs : List ℕ) → list_any (nat_eq q) qs ≡ true → test q ≡ true → list_any test qs ≡ true
listed-passes test q [] e t = absurd (true≢false (sym e))
listed-passes test q (x ∷ xs) e t =
    ⊎_elim
    (λ yes'. ap (λ b. b || list_any test xs) (ap test (sym (eqb-true q x yes')) ∙ t))
    (λ no'. or_right (test x) (list_any test xs) (listed-passes test q xs (ap (λ b. b || list_any (nat_eq q) xs) (sym no') ∙ e) t))
    (true_or_false (nat_eq q x))

pub passing : (test : ℕ → Bool) (qs : List ℕ) → list_any test qs ≡ true → (q : ℕ) × (test q ≡ true)
passing test [] e = absurd (true≢false (sym e))
passing test (x ∷ xs) e = ⊎_elim (λ yes'. (x, yes')) (λ no'. passing test xs (ap (λ b. b || list_any test xs) (sym no') ∙ e)) (true_or_false (test x))

-- ---- What the calls put in force

deleted-some : (n : ℕ) (b : Bool) (o : Option Command) → is_some (setting_after (cond b Deleted NoSuchQueue) (DeleteQueue n) o) ≡ true → is_some o ≡ true
deleted-some n true o e = absurd (true≢false (sym e))
deleted-some n false o e = e

-- The number of each configured queue is among those of all queue commands.
pub numbers-listed : (calls : List Call) → Lists (settings calls) (queue_numbers calls)
numbers-listed [] q e = absurd (true≢false (sym e))
numbers-listed (Configure (Pipe number bw delay limit loss buckets mask) ∷ calls) q e = numbers-listed calls q e
numbers-listed (Configure (Queue number pipe weight limit loss buckets mask) ∷ calls) q e =
    let command = Queue number pipe weight limit loss buckets mask in
    ⊎_elim
    (λ yes'. ap (λ b. b || list_any (nat_eq q) (queue_numbers calls)) (eq-yes q number (sym (eqb-true number q yes'))))
    (λ no'. or_right (nat_eq q number) (list_any (nat_eq q) (queue_numbers calls))
    (numbers-listed calls q
    (ap (λ b. is_some (cond b (setting_after (command_reply (settings calls) (queue_numbers calls) command) command (settings calls (ToQueue q))) (settings calls (ToQueue q)))) (sym no') ∙ e)))
    (true_or_false (nat_eq number q))
numbers-listed (Configure (DeletePipe number) ∷ calls) q e = numbers-listed calls q e
numbers-listed (Configure (DeleteQueue number) ∷ calls) q e = numbers-listed calls q (by (nat_eq number q) e)
  where
    by : (b : Bool) →
        is_some (cond b (setting_after (cond (is_some (settings calls (ToQueue number))) Deleted NoSuchQueue) (DeleteQueue number) (settings calls (ToQueue q))) (settings calls (ToQueue q))) ≡ true →
        is_some (settings calls (ToQueue q)) ≡ true
    by true h = deleted-some number (is_some (settings calls (ToQueue number))) (settings calls (ToQueue q)) h
    by false h = h
numbers-listed (Submit target packet moment ∷ calls) q e = numbers-listed calls q e
numbers-listed (Advance moment ∷ calls) q e = numbers-listed calls q e
numbers-listed (Collect moment ∷ calls) q e = numbers-listed calls q e
numbers-listed (Show ∷ calls) q e = numbers-listed calls q e
