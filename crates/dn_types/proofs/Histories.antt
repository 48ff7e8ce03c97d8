-- Histories: the replies of a lawful one, own entries, and the calls that count.
use Rattle.dn_types.proofs.Words.{Bool, Call, Entry, IsLawful, IsLawfulAfter, List, Reply, Rule, [], ap, append-nil, append_assoc, arith, call_limit, calls_of, cond, counted, drop, false}
use Rattle.dn_types.proofs.Words.{filter-append, length, map, map-append, nat_eq, nat_le, nat_tests, own_entries, refl, replies, reply, reverse, reverse-append, suc, sym, true, ℕ, ◌++◌, ◌-◌, ◌<◌}
use Rattle.dn_types.proofs.Words.{◌∙◌, ◌∷◌, ◌≡◌, ◌≤◌}

reverse-cons : {X : Type 0} (x : X) (xs : List X) → reverse (x ∷ xs) ≡ reverse xs ++ x ∷ []
reverse-cons x xs = reverse-append (x ∷ []) xs

-- After some calls, the replies to a lawful history's calls are its replies.
after : (rule : Rule) (calls : List Call) (history : List Entry) → IsLawfulAfter rule calls history
    → replies rule (reverse (map (λ e. e.call) history) ++ calls) ≡ reverse (map (λ e. e.reply) history) ++ replies rule calls
after rule calls [] h = refl
after rule calls (e ∷ history) h =
    ap (λ (cs : List Call). replies rule (cs ++ calls)) (reverse-cons e.call (map (λ x. x.call) history))
    ∙ ap (replies rule) (append_assoc (reverse (map (λ x. x.call) history)) (e.call ∷ []) calls)
    ∙ after rule (e.call ∷ calls) history h.1
    ∙ ap (λ (r : Reply). reverse (map (λ x. x.reply) history) ++ r ∷ replies rule calls) (sym h.0)
    ∙ sym (append_assoc (reverse (map (λ x. x.reply) history)) (e.reply ∷ []) (replies rule calls))
    ∙ ap (λ (rs : List Reply). rs ++ replies rule calls) (sym (reverse-cons e.reply (map (λ x. x.reply) history)))

pub lawful-replies : (rule : Rule) (history : List Entry) → IsLawful rule history → replies rule (calls_of history) ≡ reverse (map (λ e. e.reply) history)
lawful-replies rule history h = ap (replies rule) (sym (append-nil (calls_of history))) ∙ after rule [] history h ∙ append-nil (reverse (map (λ e. e.reply) history))

pub own-entries-begin : (caller : ℕ) → own_entries caller [] ≡ []
own-entries-begin caller = refl

pub own-entries-grow : (caller : ℕ) (history : List Entry) (e : Entry)
    → own_entries caller (history ++ e ∷ []) ≡ cond (nat_eq e.caller caller) (own_entries caller history ++ e ∷ []) (own_entries caller history)
own-entries-grow caller history e = filter-append (λ x. nat_eq x.caller caller) history (e ∷ []) ∙ by (nat_eq e.caller caller)
  where
    by : (b : Bool) → own_entries caller history ++ cond b (e ∷ []) [] ≡ cond b (own_entries caller history ++ e ∷ []) (own_entries caller history)
    by true = refl
    by false = append-nil (own_entries caller history)

-- The calls of a history with one entry more, newest first.
pub calls_of-more : (history : List Entry) (e : Entry) → calls_of (history ++ e ∷ []) ≡ e.call ∷ calls_of history
calls_of-more history e = ap reverse (map-append (λ (x : Entry). x.call) history (e ∷ [])) ∙ reverse-append (map (λ x. x.call) history) (e.call ∷ [])

lawful-after : (rule : Rule) (calls : List Call) (history : List Entry) (e : Entry) → IsLawfulAfter rule calls history
    → e.reply ≡ reply rule (calls_of history ++ calls) e.call → IsLawfulAfter rule calls (history ++ e ∷ [])
lawful-after rule calls [] e lawful is = (is, tt)
lawful-after rule calls (x ∷ history) e lawful is = (
  lawful.0,
  lawful-after rule (x.call ∷ calls) history e lawful.1
      (is ∙ ap (λ (cs : List Call). reply rule cs e.call)
      (ap (λ (cs : List Call). cs ++ calls) (reverse-cons x.call (map (λ y. y.call) history)) ∙ append_assoc (calls_of history) (x.call ∷ []) calls)),
)

-- A lawful history stays so with one entry more whose reply is the one after its calls.
pub lawful-more : (rule : Rule) (history : List Entry) (e : Entry) → IsLawful rule history → e.reply ≡ reply rule (calls_of history) e.call → IsLawful rule (history ++ e ∷ [])
lawful-more rule history e lawful is = lawful-after rule [] history e lawful (is ∙ ap (λ (cs : List Call). reply rule cs e.call) (sym (append-nil (calls_of history))))

pub counts-up-to-the-limit : (c : Call) (calls : List Call) → counted (c ∷ calls) ≡ cond (nat_le call_limit (length calls)) (counted calls) (c ∷ calls)
counts-up-to-the-limit c calls = by (nat_le call_limit (length calls)) refl
  where
    by : (b : Bool) → nat_le call_limit (length calls) ≡ b → counted (c ∷ calls) ≡ cond b (counted calls) (c ∷ calls)
    by true e =
        let many : call_limit ≤ length calls = grind (arith, nat_tests) in
        let one_more : length (c ∷ calls) - call_limit ≡ suc (length calls - call_limit) = omega arith in
        ap (λ k. drop k (c ∷ calls)) one_more
    by false e =
        let few : length calls < call_limit = grind (arith, nat_tests) in
        let none : length (c ∷ calls) - call_limit ≡ 0 = omega arith in
        ap (λ k. drop k (c ∷ calls)) none
