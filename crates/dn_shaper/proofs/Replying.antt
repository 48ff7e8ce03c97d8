-- Each call of a list is answered after those before it.
use Rattle.dn_shaper.proofs.Words.{Call, List, Ordered, Reply, StandsAfter, State, [], ap, get_or, length, replies, reply, reverse, reverse-append, subst, sym, take, take_more, ℕ, ◌++◌, ◌+◌, ◌<◌}
use Rattle.dn_shaper.proofs.Words.{◌∙◌, ◌∷◌, ◌≡◌}
use Rattle.dn_shaper.proofs.Counting.{Answers}

-- The calls so far, newest first.
module _ (calls : List Call) (i : ℕ) (call : Call) (within : i < length calls) (there : call ≡ get_or calls i call) where
  so-far : reverse (take (i + 1) calls) ≡ call ∷ reverse (take i calls)
  so-far = ap (λ (cs : List Call). reverse cs) (take_more calls i call within ∙ ap (λ (c : Call). take i calls ++ c ∷ []) (sym there)) ∙ reverse-append (take i calls) (call ∷ [])

  module _ (old new : State) (r : Reply) (one : Answers call old new r) (stands : StandsAfter Ordered old (reverse (take i calls))) where
    pub stands-next : StandsAfter Ordered new (reverse (take (i + 1) calls))
    stands-next = subst (λ (cs : List Call). StandsAfter Ordered new cs) (sym so-far) (one Ordered (reverse (take i calls)) stands).1

    pub told-next : (items items' : List Reply) → items' ≡ items ++ r ∷ [] → items ≡ reverse (replies Ordered (reverse (take i calls))) →
        items' ≡ reverse (replies Ordered (reverse (take (i + 1) calls)))
    told-next items items' more told =
        more
        ∙ (λ j. told j ++ (one Ordered (reverse (take i calls)) stands).0 j ∷ [])
        ∙ sym (reverse-append (reply Ordered (reverse (take i calls)) call ∷ []) (replies Ordered (reverse (take i calls))))
        ∙ ap (λ (cs : List Call). reverse (replies Ordered cs)) (sym so-far)
