-- The reply to a Collect has deliveries and that to a Show has flows, if it has a list, so that both are told by one function.
use Rattle.hingetulip_c.proofs.Words.{AnsweredBy, Bool, Call, Client, Collect, Entry, Exhausted, IsAnswered, IsLawful, IsLawfulAfter, List, Ordered, Reply, Rule, Show, [], call_limit}
use Rattle.hingetulip_c.proofs.Words.{collect_count, collect_status, cond, counted_reply, entry_of, false, last_reply, length, list_count, list_status, nat_le, refl, reply, show_count}
use Rattle.hingetulip_c.proofs.Words.{show_status, subst, sym, true, ℕ, ◌++◌, ◌∷◌, ◌≡◌}

-- The reply of the last entry is the one to its call after those before it.
last_of : (rule : Rule) (calls : List Call) (history : List Entry) (e : Entry) → IsLawfulAfter rule calls (history ++ e ∷ [])
    → (before : List Call) × (e.reply ≡ reply rule before e.call)
last_of rule calls [] e lawful = (calls, lawful.0)
last_of rule calls (x ∷ history) e lawful = last_of rule (x.call ∷ calls) history e lawful.1

-- The reply that is kept is the one to the call after some calls.
kept_is : (call : Call) (b a : Client) → IsAnswered call b a → (before : List Call) × (a.last ≡ reply Ordered before call)
kept_is call b a is =
    let e : Entry = entry_of b.caller.number call a.last in
    last_of Ordered [] (b.caller.front ++ is.answer.between) e (subst (IsLawful Ordered) is.answer.front is.answer.lawful)

-- Both ways to tell of the reply agree.
pub record Agrees (status : Reply → ℕ) (count : ℕ → Reply → ℕ) (r : Reply) : Type 0 where
  pub status_is : list_status r ≡ status r
  pub count_is : (old : ℕ) → list_count old r ≡ count old r

module _ (status : Reply → ℕ) (count : ℕ → Reply → ℕ) (call : Call) (last : status Exhausted ≡ 1) (none : (old : ℕ) → count old Exhausted ≡ old)
    (answer : (calls : List Call) → Agrees status count (counted_reply Ordered calls call)) where
  each : (calls : List Call) → Agrees status count (reply Ordered calls call)
  each calls = by (nat_le call_limit (length calls))
    where
      by : (b : Bool) → Agrees status count (cond b Exhausted (counted_reply Ordered calls call))
      by true = record { status_is = sym last; count_is = λ old. sym (none old) }
      by false = answer calls

  agrees : (xs ys : List Client) → AnsweredBy call xs ys → Agrees status count (last_reply ys)
  agrees (b ∷ []) (a ∷ []) is = let k = kept_is call b a is in subst (Agrees status count) (sym k.1) (each k.0)
  agrees [] ys is = absurd is
  agrees (b ∷ c ∷ xs) ys is = absurd is
  agrees (b ∷ []) [] is = absurd is
  agrees (b ∷ []) (a ∷ c ∷ ys) is = absurd is

pub collects : (moment : ℕ) (xs ys : List Client) → AnsweredBy (Collect moment) xs ys → Agrees collect_status collect_count (last_reply ys)
collects moment = agrees collect_status collect_count (Collect moment) refl (λ old. refl) (λ calls. record { status_is = refl; count_is = λ old. refl })

pub shows : (xs ys : List Client) → AnsweredBy Show xs ys → Agrees show_status show_count (last_reply ys)
shows = agrees show_status show_count Show refl (λ old. refl) (λ calls. record { status_is = refl; count_is = λ old. refl })
