-- The places that are noted for the links which queues share, and the links that are not there.
use Rattle.dn_shaper.proofs.Words.{Bool, Carries, IsIndexed, Link, LinkParts, LinkView, List, None, NotesFor, Option, Own, Shared, Some, State, Target, [], and-no, ap, arith, at_number}
use Rattle.dn_shaper.proofs.Words.{carried_link, carried_slots, cases_eq, cond, eq-no, eq-yes, false, get-kept, get-last, inl, inr, length, link_eq, link_names, link_of, links, list_any}
use Rattle.dn_shaper.proofs.Words.{list_any-append, map, nat_eq, own, refl, shared, shared_only, slice_get, suc, sym, top, true, view_of, ℕ, ◌++◌, ◌||◌, ◌∙◌, ◌∷◌, ◌≡◌, ◌≤◌, ◌⊎◌}
use Rattle.dn_types.specs.declared.target.Target.TheVariants.{Pipe as ToPipe, Queue as ToQueue}

-- ---- The links that are noted

-- No link is that of a flow whose number is above all slots.
own-unknown : (queues : ℕ → ℕ) (links : List LinkParts) (pipe n : ℕ) →
    ((k : ℕ) (v : LinkView) → slice_get (map (view_of queues) links) k ≡ Some v → top 0 v.slots ≤ n) →
    list_any (link_eq (own pipe n)) (link_names (map (view_of queues) links)) ≡ false
own-unknown queues [] pipe n h = refl
own-unknown queues (p ∷ links) pipe n h = ap (λ b. b || list_any (link_eq (own pipe n)) (link_names (map (view_of queues) links))) (other p.carries (h 0 (view_of queues p) refl))
    ∙ own-unknown queues links pipe n (λ k v e. h (suc k) v e)
  where
    other : (c : Carries) → top 0 (carried_slots c) ≤ n → link_eq (own pipe n) (carried_link p.pipe c) ≡ false
    other (Own f) le = and-no (nat_eq pipe p.pipe) (nat_eq n f) (eq-no n f (λ e. absurd (omega arith)))
    other (Shared s) le = refl

-- The place that is noted for a flow is that of its link.
pub noted-found : (s : State) (names : List Link) → IsIndexed s names → (target : Target) (flow pipe place : ℕ) →
    shared_only target (at_number s.shared pipe) ≡ Some place → (slice_get names place ≡ Some (shared pipe)) × (link_of target flow pipe ≡ shared pipe)
noted-found s names is (ToPipe number) flow pipe place e = absurd cc
noted-found s names is (ToQueue number) flow pipe place e = (is.found pipe place e, refl)

-- Where no place is noted, the link is not there.
pub unnoted-unknown : (s : State) (queues : ℕ → ℕ) (links : List LinkParts) → IsIndexed s (link_names (map (view_of queues) links)) →
    (target : Target) (flow pipe : ℕ) → ((k : ℕ) (v : LinkView) → slice_get (map (view_of queues) links) k ≡ Some v → top 0 v.slots ≤ flow) →
    shared_only target (at_number s.shared pipe) ≡ None → list_any (link_eq (link_of target flow pipe)) (link_names (map (view_of queues) links)) ≡ false
unnoted-unknown s queues links is (ToPipe number) flow pipe below e = own-unknown queues links pipe flow below
unnoted-unknown s queues links is (ToQueue number) flow pipe below e = is.missing pipe e

-- The place of a link that was made is noted where it is shared.
pub noted-more : (old new : State) (names : List Link) → IsIndexed old names → (target : Target) (flow pipe place : ℕ) → place ≡ length names →
    shared_only target (at_number old.shared pipe) ≡ None → NotesFor target pipe place old.shared new.shared →
    IsIndexed new (names ++ link_of target flow pipe ∷ [])
noted-more old new names is (ToPipe number) flow pipe place last none notes = record {
  found = λ p k e. get-kept names (own pipe flow) (shared p) k (is.found p k (ap (λ (es : List (Option ℕ)). at_number es p) (sym notes) ∙ e));
  missing = λ p e.
      list_any-append (link_eq (shared p)) names (own pipe flow ∷ [])
      ∙ ap (λ b. b || false) (is.missing p (ap (λ (es : List (Option ℕ)). at_number es p) (sym notes) ∙ e));
}
noted-more old new names is (ToQueue number) flow pipe place last none notes = record {
  found = λ p k e. found p k e (cases_eq pipe p);
  missing = λ p e. missing p e (cases_eq pipe p);
}
  where
    now_at : (p : ℕ) (b : Bool) → nat_eq pipe p ≡ b → at_number new.shared p ≡ cond b (Some place) (at_number old.shared p)
    now_at p b test = notes p ∙ ap (λ x. cond x (Some place) (at_number old.shared p)) test

    found : (p k : ℕ) → at_number new.shared p ≡ Some k → (pipe ≡ p) ⊎ (pipe ≡ p → ⊥) → slice_get (names ++ shared pipe ∷ []) k ≡ Some (shared p)
    found p k e (inl same) =
        let both : Some place ≡ Some k = sym (now_at p true (eq-yes pipe p same)) ∙ e in
        let k_is : place ≡ k = cc in
        ap (slice_get (names ++ shared pipe ∷ [])) (sym k_is ∙ last) ∙ get-last names (shared pipe) ∙ ap (λ q. Some (shared q)) same
    found p k e (inr ne) = get-kept names (shared pipe) (shared p) k (is.found p k (sym (now_at p false (eq-no pipe p ne)) ∙ e))

    missing : (p : ℕ) → at_number new.shared p ≡ None → (pipe ≡ p) ⊎ (pipe ≡ p → ⊥) → list_any (link_eq (shared p)) (names ++ shared pipe ∷ []) ≡ false
    missing p e (inl same) = absurd (let t : Some place ≡ None = sym (now_at p true (eq-yes pipe p same)) ∙ e in cc)
    missing p e (inr ne) =
        list_any-append (link_eq (shared p)) names (shared pipe ∷ [])
        ∙ ap (λ b. b || (link_eq (shared p) (shared pipe) || false)) (is.missing p (sym (now_at p false (eq-no pipe p ne)) ∙ e))
        ∙ ap (λ b. b || false) (eq-no p pipe (λ q. ne (sym q)))
