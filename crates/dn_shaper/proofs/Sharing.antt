-- A link is read by the name that stands at its place.
use Rattle.dn_shaper.proofs.Words.{Err, FlowKey, Heap, Home, Houses, IfOk, Link, LinkParts, LinkView, List, NextStart, None, NotesFor, Ok, OnErr, Opens, Option, Result, Shares, Some, [], ap}
use Rattle.dn_shaper.proofs.Words.{get_or, link_names, link_of, map, refl, slice_get, subst, suc, sym, view_of, zero, ℕ, ◌∙◌, ◌∷◌, ◌≡◌}

pub named-at : (views : List LinkView) (place : ℕ) (link : Link) → slice_get (link_names views) place ≡ Some link → (v : LinkView) × (slice_get views place ≡ Some v) × (v.link ≡ link)
named-at [] place link e = absurd cc
named-at (v ∷ views) zero link e = let same : v.link ≡ link = cc in (v, refl, same)
named-at (v ∷ views) (suc place) link e = named-at views place link e

-- The link that was read has the name.
module _ (queues : ℕ → ℕ) where
  pub read-name : (links : List LinkParts) (place : ℕ) (link : Link) (read : LinkParts) →
      slice_get (link_names (map (view_of queues) links)) place ≡ Some link → read ≡ get_or links place read → (view_of queues read).link ≡ link
  read-name [] place link read e is = absurd cc
  read-name (p ∷ links) zero link read e is = let same : (view_of queues p).link ≡ link = cc in ap (λ (x : LinkParts). (view_of queues x).link) is ∙ same
  read-name (p ∷ links) (suc place) link read e is = read-name links place link read e is

  -- Whatever the lengths of the queues, it is seen at its place.
  pub read-view : (links : List LinkParts) (place : ℕ) (link : Link) (read : LinkParts) →
      slice_get (link_names (map (view_of queues) links)) place ≡ Some link → read ≡ get_or links place read → (others : ℕ → ℕ) →
      slice_get (map (view_of others) links) place ≡ Some (view_of others read)
  read-view [] place link read e is others = absurd cc
  read-view (p ∷ links) zero link read e is others = ap (λ (x : LinkParts). Some (view_of others x)) (sym is)
  read-view (p ∷ links) (suc place) link read e is others = read-view links place link read e is others

pub on-err : {X E : Type 0} {A : Type 0} (r : Result X E) → A → OnErr r A
on-err (Ok x) a = tt
on-err (Err e) a = a

-- What a call gives where memory isn't refused.
pub both-ok : {X E : Type 0} {P Q R : X → Type 0} (r : Result X E) → ((x : X) → P x → Q x → R x) → IfOk r P → IfOk r Q → IfOk r R
both-ok (Ok x) f p q = f x p q
both-ok (Err e) f p q = tt

pub if-ok : {X E : Type 0} {P Q : X → Type 0} (r : Result X E) → ((x : X) → P x → Q x) → IfOk r P → IfOk r Q
if-ok (Ok x) f p = f x p
if-ok (Err e) f p = tt

-- ---- The home of a new flow, by whether a place is noted for its key

module _ (key : FlowKey) (flow : ℕ) (h : Home) (old new : List LinkView) (heap : Heap NextStart) (noted noted' : List (Option ℕ)) (o : Option ℕ) where
  pub houses-some : (place : ℕ) → o ≡ Some place → Shares flow place h old new → noted' ≡ noted → Houses o key flow h old new heap noted noted'
  houses-some place is shares same = subst (λ (x : Option ℕ). Houses x key flow h old new heap noted noted') (sym is) (shares, same)

  pub houses-none : o ≡ None → Opens (link_of key.target flow key.pipe) flow h old new heap → NotesFor key.target key.pipe h.place noted noted' → Houses o key flow h old new heap noted noted'
  houses-none is opens notes = subst (λ (x : Option ℕ). Houses x key flow h old new heap noted noted') (sym is) (opens, notes)
