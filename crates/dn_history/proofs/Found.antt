-- Of a lawful history nothing but Lawful is found.
use Rattle.dn_history.proofs.Words.{Call, Differs, Entry, IsLawful, IsLawfulAfter, IsVerdict, Lawful, List, Rule, Some, Verdict, [], ap, append-nil, append_assoc, calls_of, get_or_from_slice_get}
use Rattle.dn_history.proofs.Words.{map, refl, reply, reverse-append, slice_get, subst, suc, sym, take, zero, ℕ, ◌++◌, ◌∙◌, ◌∷◌, ◌≡◌}

-- After the calls, the reply of each entry is the one to its call after those of the entries before it.
lawful-at : (rule : Rule) (calls : List Call) (history : List Entry) (i : ℕ) (e : Entry) → IsLawfulAfter rule calls history → slice_get history i ≡ Some e
    → e.reply ≡ reply rule (calls_of (take i history) ++ calls) e.call
lawful-at rule calls [] i e lawful there = cc there
lawful-at rule calls (x ∷ history) zero e lawful there = subst (λ (y : Entry). y.reply ≡ reply rule calls y.call) (get_or_from_slice_get (x ∷ history) 0 e e there) lawful.0
lawful-at rule calls (x ∷ history) (suc i) e lawful there =
    let before = calls_of (take i history) in
    let more : calls_of (take (suc i) (x ∷ history)) ++ calls ≡ before ++ (x.call ∷ calls) =
    ap (λ (cs : List Call). cs ++ calls) (reverse-append (x.call ∷ []) (map (λ (y : Entry). y.call) (take i history))) ∙ append_assoc before (x.call ∷ []) calls in
    lawful-at rule (x.call ∷ calls) history i e lawful.1 there ∙ ap (λ (cs : List Call). reply rule cs e.call) (sym more)

-- What an audit finds of a lawful history.
pub found-lawful : (rule : Rule) (history : List Entry) (verdict : Verdict) → IsLawful rule history → IsVerdict rule history verdict → verdict ≡ Lawful
found-lawful rule history Lawful lawful found = refl
found-lawful rule history (Differs i) lawful (e, there, other) = absurd
    (other (lawful-at rule [] history i e lawful there.there ∙ ap (λ (cs : List Call). reply rule cs e.call) (append-nil (calls_of (take i history)))))
