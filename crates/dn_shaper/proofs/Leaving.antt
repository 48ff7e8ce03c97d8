-- A link that a discard empties leaves its key, and the parts and the heap stay in step.
use Rattle.dn_shaper.proofs.Words.{Agrees, AreInStep, Contains, DiscardsAt, Heap, Holds, Home, IsPermutation, LinkView, List, NextStart, Option, Parts, Some, ap, arith, cond, discarded, get-set}
use Rattle.dn_shaper.proofs.Words.{homes_of, is_some, keys_at, length, length-map, length-set, length_permutation, next_at, next_start_of, next_starts, refl, set, slice_get, slice_index_or, subst}
use Rattle.dn_shaper.proofs.Words.{sym, views_of, ℕ, ◌+◌, ◌<◌, ◌^◌, ◌∙◌, ◌∷◌, ◌≡◌, ◌≤◌}
use Rattle.dn_shaper.proofs.Accepting.{next-listed, next-none, next-some}
use Rattle.dn_shaper.proofs.Arriving.{set-self}
use Rattle.dn_shaper.proofs.Discarding.{discards-agree, discards-nexts, discards-within, next-then}
use Rattle.dn_shaper.proofs.NextStarts.{holds_none, next_listed, some_standing}

-- The link after it lost its packets.
pub link-after : {h : Home} {flow : ℕ} {old new : Parts} (s : DiscardsAt h flow old new) → slice_get (views_of new) h.place ≡ Some s.view'
link-after {h = h} {old = old} s = ap (λ (vs : List LinkView). slice_get vs h.place) s.views_are ∙ get-set (views_of old) h.place s.view s.view' s.there

module _ {h : Home} {flow : ℕ} {old new : Parts} {heap : Heap NextStart} (kept : AreInStep old heap) (within : flow < length old.flows.keys)
    (at_home : slice_get (homes_of old.flows.flows) flow ≡ Some h) (s : DiscardsAt h flow old new) where
  nexts-then : next_starts (views_of new) ≡ set (next_starts (views_of old)) h.place (next_start_of s.view')
  nexts-then = discards-nexts kept.within kept.agrees within at_home s

  there : slice_get (next_starts (views_of old)) h.place ≡ Some (next_start_of s.view)
  there = next-then kept.within kept.agrees within at_home s

  agrees-now : Agrees new
  agrees-now = let a = kept.agrees in (a.0, discarded flow ∷ a.1, discards-agree kept.within kept.agrees within at_home s a.0 a.1 a.2)

  as-many : length (views_of new) ≡ length (views_of old)
  as-many = ap (λ (vs : List LinkView). length vs) s.views_are ∙ length-set (views_of old) h.place s.view'

  in-step : (heap' : Heap NextStart) → Holds (next_starts (views_of new)) heap'.keys → length heap'.keys + heap'.room ≡ length heap.keys + heap.room → AreInStep new heap'
  in-step heap' held room = record {
    agrees = agrees-now;
    within = discards-within kept.within kept.agrees within at_home s (2 ^ 62) kept.within;
    held = held;
    places = let a = as-many in let p = kept.places in omega (arith, a, p, room);
  }

  -- The link starts at the same moment as before.
  pub still-kept : next_start_of s.view' ≡ next_start_of s.view → AreInStep new heap
  still-kept same =
      let as-before : next_starts (views_of new) ≡ next_starts (views_of old) =
      nexts-then ∙ ap (set (next_starts (views_of old)) h.place) same ∙ set-self (next_starts (views_of old)) h.place (next_start_of s.view) there in
      in-step heap (subst (λ (d : List (Option ℕ)). Holds d heap.keys) (sym as-before) kept.held) refl

  -- ---- The link had a backlog

  module _ (some : 0 < s.view.waits) where
    next-was : next_at (next_starts (views_of old)) h.place ≡ Some s.view.value.free
    next-was = next-listed (next_starts (views_of old)) h.place (next_start_of s.view) there ∙ next-some s.view some

    pub key-once : keys_at h.place heap.keys ≡ 1
    key-once = kept.held.once h.place ∙ ap {B = ℕ} (λ (o : Option ℕ). cond (is_some o) 1 0) next-was

    pub key-held : Contains heap.keys (record { moment = s.view.value.free; place = h.place })
    key-held =
        let one = key-once in
        let i = some_standing h.place heap.keys (omega (arith, one)) in
        let d : NextStart = record { moment = s.view.value.free; place = h.place } in
        let k = slice_index_or heap.keys i.0 d in
        let here : k.place ≡ h.place = i.2 d in
        let both : Some k.moment ≡ Some s.view.value.free = sym (kept.held.moments i.0 d i.1) ∙ ap (next_at (next_starts (views_of old))) here ∙ next-was in
        let moment : k.moment ≡ s.view.value.free = cc in
        (i.0, i.1, λ j. record { moment = moment j; place = here j })

    pub key-within : h.place < length heap.keys + heap.room
    key-within =
        let lt = next_listed (next_starts (views_of old)) h.place s.view.value.free next-was in
        let len = length-map (views_of old) next_start_of in
        let p = kept.places in
        omega (arith, lt, len, p)

    pub emptied-kept : s.view'.waits ≤ 0 → (heap' : Heap NextStart) → IsPermutation heap.keys (record { moment = s.view.value.free; place = h.place } ∷ heap'.keys) →
        heap'.room ≡ heap.room + 1 → AreInStep new heap'
    emptied-kept none heap' perm room =
        let held = holds_none (next_starts (views_of old)) heap.keys heap'.keys (record { moment = s.view.value.free; place = h.place }) kept.held perm in
        let now = nexts-then ∙ ap (λ (o : Option ℕ). set (next_starts (views_of old)) h.place o) (next-none s.view' none) in
        let long = length_permutation heap.keys (record { moment = s.view.value.free; place = h.place } ∷ heap'.keys) perm in
        in-step heap' (subst (λ (d : List (Option ℕ)). Holds d heap'.keys) (sym now) held) (omega (arith, long, room))
