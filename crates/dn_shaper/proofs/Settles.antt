-- One step of the settling loop: the popped link's next packet is the first start of all links.
use Rattle.dn_shaper.proofs.Words.{Accepted, Agrees, AgreesWith, All, All-contains, AreDistinct, AreInStep, CanStart, Carries, Contains, Delivery, Event, GivesRates, HasNoStart, Heap, Holds}
use Rattle.dn_shaper.proofs.Words.{IfSome, IsLeast, IsPermutation, Link, LinkParts, LinkView, List, NextStart, None, OnlyStarts, Option, Own, Parts, Settings, SettlesAll, Shared, Some, Start}
use Rattle.dn_shaper.proofs.Words.{StartsAt, StartsFirst, [], ap, arith, carried_link, cases_lt, cond, false, first_start, free, get-map, get-set, get_or, homes_of, inl, inr, is_lt, le-leb}
use Rattle.dn_shaper.proofs.Words.{le-ltb, length, length-set, length_permutation, link_eq, link_names, links, list_any, lt-ltb, map, map-set-same, next_at, next_packet, next_start}
use Rattle.dn_shaper.proofs.Words.{next_start_cmp, next_start_of, next_starts, none-unknown, option_map, or_from, pipe_of, queue_lengths, refl, set, settle, settled, slice_get, start_at, started}
use Rattle.dn_shaper.proofs.Words.{subst, suc, sym, view_of, viewed, views_of, waiting_all, waiting_all-first, zero, ℕ, ◌++◌, ◌+◌, ◌<◌, ◌^◌, ◌∙◌, ◌∷◌, ◌≡◌, ◌≤◌, ◌⊎◌}
use Rattle.dn_shaper.proofs.Accepting.{next-none, next-some}
use Rattle.dn_shaper.proofs.Taking.{at-some}
use Rattle.dn_shaper.proofs.NextStarts.{not_before, popped_next, holds_none, holds_some}
use Rattle.dn_shaper.proofs.FirstStart.{moment_of_next, first_popped, none_next, first_start-more, settle-none, settle-some}
use Rattle.dn_shaper.proofs.Next.{nexts-agree}
use Rattle.dn_shaper.proofs.Starting.{starts-agree, starts-within, starts-ready, starts-nexts, length-in_order}

pub pipe-carried : (pipe : ℕ) (c : Carries) → pipe_of (carried_link pipe c) ≡ pipe
pipe-carried pipe (Own flow) = refl
pipe-carried pipe (Shared s) = refl

-- A next start is that of a link with a backlog.
next-view : (views : List LinkView) (i m : ℕ) → next_at (next_starts views) i ≡ Some m → (v : LinkView) × (slice_get views i ≡ Some v) × (0 < v.waits) × (v.value.free ≡ m)
next-view [] i m e = absurd cc
next-view (v ∷ views) zero m e = by (cases_lt 0 v.waits) e
  where
    by : (0 < v.waits) ⊎ (v.waits ≤ 0) → next_start_of v ≡ Some m → (w : LinkView) × (slice_get (v ∷ views) 0 ≡ Some w) × (0 < w.waits) × (w.value.free ≡ m)
    by (inl some) h = let is = sym (ap {B = Option ℕ} (λ b. cond b (Some v.value.free) None) (lt-ltb 0 v.waits some)) ∙ h in (v, refl, some, cc)
    by (inr none) h = let is = sym (ap {B = Option ℕ} (λ b. cond b (Some v.value.free) None) (le-ltb 0 v.waits none)) ∙ h in absurd cc
next-view (v ∷ views) (suc i) m e = next-view views i m e

pub can-start : {p : Parts} {heap : Heap NextStart} → AreInStep p heap → {k : NextStart} {rest : List NextStart} → IsPermutation heap.keys (k ∷ rest) → CanStart p k.place k.moment
can-start {p = p} {heap = heap} kept {k = k} {rest = rest} perm =
    let v = next-view (views_of p) k.place k.moment (popped_next (next_starts (views_of p)) heap.keys rest k kept.held perm) in
    record { view = v.0; there = v.1; some = v.2; soon = let e = v.3 in omega arith }

-- ---- The start that the heap gives up

module _ (heap heap' : Heap NextStart) {o : Option NextStart} {k : NextStart} (is : o ≡ Some k) where
  pub popped-keys : IfSome o (λ x. IsPermutation heap.keys (x ∷ heap'.keys)) → IsPermutation heap.keys (k ∷ heap'.keys)
  popped-keys keys = at-some (λ (x : NextStart). IsPermutation heap.keys (x ∷ heap'.keys)) o k is keys

  pub popped-room : IfSome o (λ x. heap'.room ≡ heap.room + 1) → heap'.room ≡ heap.room + 1
  popped-room room = at-some (λ (x : NextStart). heap'.room ≡ heap.room + 1) o k is room

  pub popped-least : IfSome o (λ x. IsLeast next_start_cmp x heap.keys) → IsLeast next_start_cmp k heap.keys
  popped-least least = at-some (λ (x : NextStart). IsLeast next_start_cmp x heap.keys) o k is least

-- It is due where one that the heap held is.
pub least-due : (at : ℕ) (keys : List NextStart) (k top : NextStart) → IsLeast next_start_cmp k keys → Contains keys top → top.moment ≤ at → k.moment ≤ at
least-due at keys k top least held due =
    let first = (not_before k top (All-contains (λ (y : NextStart). is_lt (next_start_cmp y k) ≡ false) keys top least held)).0 in
    omega arith

-- ---- The link that starts, before and after

module _ {place moment bandwidth delay : ℕ} {old new : Parts} (s : StartsAt place moment bandwidth delay old new) where
  pub link-after : slice_get (views_of new) place ≡ Some s.view'
  link-after = ap (λ (vs : List LinkView). slice_get vs place) s.views_are ∙ get-set (views_of old) place s.view s.view' s.there

  -- The rates that were read for the pipe of the link are those of the start.
  pub rates-read : {settings : Settings} {link : LinkParts} → link ≡ get_or old.links.items place link → GivesRates settings link.pipe bandwidth delay →
      GivesRates settings (pipe_of s.view.link) bandwidth delay
  rates-read {settings = settings} {link = link} read rates =
      let seen = viewed (view_of (queue_lengths old.flows.flows)) old.links.items place link s.view s.there read in
      subst (λ n. GivesRates settings n bandwidth delay) (sym (pipe-carried link.pipe link.carries) ∙ ap (λ (x : LinkView). pipe_of x.link) seen.1) rates

-- ---- Links that no packet was seen on

none-any : (l : Link) (ls : List Link) → ((j : ℕ) (m : Link) → slice_get ls j ≡ Some m → link_eq l m ≡ false) → list_any (link_eq l) ls ≡ false
none-any l [] h = refl
none-any l (m ∷ ls) h = or_from (link_eq l m) (list_any (link_eq l) ls) (h 0 m refl) (none-any l ls (λ j n e. h (suc j) n e))

append-left : (ls more : List Link) (j : ℕ) (m : Link) → slice_get ls j ≡ Some m → (slice_get (ls ++ more) j ≡ Some m) × (j < length ls)
append-left [] more j m e = absurd cc
append-left (l ∷ ls) more zero m e = (e, omega arith)
append-left (l ∷ ls) more (suc j) m e = let r = append-left ls more j m e in let lt = r.1 in (r.0, omega arith)

append-right : (ls more : List Link) (i : ℕ) (l : Link) → slice_get more i ≡ Some l → (k : ℕ) × (slice_get (ls ++ more) k ≡ Some l) × (length ls ≤ k)
append-right [] more i l e = (i, e, omega arith)
append-right (m ∷ ls) more i l e = let r = append-right ls more i l e in let le = r.2 in (suc r.0, r.1, omega arith)

pub unseen : (ls more : List Link) → AreDistinct (ls ++ more) → (i : ℕ) (l : Link) → slice_get more i ≡ Some l → list_any (link_eq l) ls ≡ false
unseen ls more d i l e = none-any l ls (λ j m f.
    let r = append-right ls more i l e in
    let s = append-left ls more j m f in
    let le = r.2 in
    let lt = s.1 in
    d r.0 j l m r.1 s.0 (λ same. absurd (omega arith)))

module _ (settings : Settings) (at : ℕ) (p : Parts) (heap : Heap NextStart) (kept : AreInStep p heap) (more : List Link) (trace : List Event) (a : AgreesWith p more trace) where
  same_first : first_start settings at (link_names (views_of p)) trace ≡ first_start settings at (links trace) trace
  same_first =
      ap (λ (ls : List Link). first_start settings at ls trace) a.links_are
      ∙ first_start-more settings at trace (links trace) more (λ i l e. none-unknown settings at l trace (unseen (links trace) more (subst AreDistinct a.links_are a.distinct) i l e))

  nexts_are : next_starts (views_of p) ≡ map (moment_of_next trace) (link_names (views_of p))
  nexts_are = nexts-agree p.rule p.accepted p.flows.keys (homes_of p.flows.flows) (views_of p) p.flows.flows p.line.pending more trace a

  pub no-first : All (λ k. at < k.moment) heap.keys → first_start settings at (links trace) trace ≡ None
  no-first late = sym same_first ∙ none_next settings at trace (link_names (views_of p)) (next_starts (views_of p)) nexts_are heap.keys kept.held late

  pub first-is : (k : NextStart) (v : LinkView) (s : Start) → IsLeast next_start_cmp k heap.keys → slice_get (views_of p) k.place ≡ Some v →
      next_start settings at v.link trace ≡ Some s → s.moment ≡ k.moment → first_start settings at (links trace) trace ≡ Some s
  first-is k v s least there next moment_is =
      sym same_first
      ∙ first_popped settings at trace (link_names (views_of p)) (next_starts (views_of p)) nexts_are heap.keys kept.held k v.link s least
      (get-map (λ (x : LinkView). x.link) (views_of p) k.place v there) next moment_is

pub none-starts : (settings : Settings) {at : ℕ} {p : Parts} {heap : Heap NextStart} → AreInStep p heap → All (λ k. at < k.moment) heap.keys → HasNoStart settings at p
none-starts settings {at = at} {p = p} {heap = heap} kept late more trace a = no-first settings at p heap kept more trace a late

module _ {settings : Settings} {old : Parts} {heap : Heap NextStart} (kept : AreInStep old heap) {k : NextStart} {rest : List NextStart}
    (perm : IsPermutation heap.keys (k ∷ rest)) {bandwidth delay : ℕ} {new : Parts} (s : StartsAt k.place k.moment bandwidth delay old new)
    (rates : GivesRates settings (pipe_of s.view.link) bandwidth delay) where
  -- The link that starts is the popped one, which is free at the key's moment.
  free-then : s.view.value.free ≡ k.moment
  free-then =
      let v = next-view (views_of old) k.place k.moment (popped_next (next_starts (views_of old)) heap.keys rest k kept.held perm) in
      let both : Some s.view ≡ Some v.0 = sym s.there ∙ v.1 in
      let same : s.view ≡ v.0 = cc in
      ap (λ (x : LinkView). x.value.free) same ∙ v.3

  pub first-starts : (at : ℕ) → IsLeast next_start_cmp k heap.keys → k.moment ≤ at → StartsFirst settings at old new
  first-starts at least soon more trace a =
      let r = starts-agree k.place k.moment bandwidth delay old new s settings more trace rates a in
      let free_is : free s.view.link trace ≡ k.moment = sym (a.views_are k.place s.view s.there).free_is ∙ free-then in
      let in_time : free s.view.link trace ≤ at = omega arith in
      let next : next_start settings at s.view.link trace ≡ Some (start_at settings s.view.link r.0 k.moment) =
      ap (λ b. cond b (option_map (λ (x : Accepted). start_at settings s.view.link x (free s.view.link trace)) (next_packet s.view.link trace)) None) (le-leb (free s.view.link trace) at in_time)
      ∙ ap (option_map (λ (x : Accepted). start_at settings s.view.link x (free s.view.link trace))) r.1
      ∙ ap (λ m. Some (start_at settings s.view.link r.0 m)) free_is in
      (start_at settings s.view.link r.0 k.moment, first-is settings at old heap kept more trace a k s.view (start_at settings s.view.link r.0 k.moment) least s.there next refl, r.2)

  pub agrees-new : Agrees new
  agrees-new = let a = kept.agrees in let r = starts-agree k.place k.moment bandwidth delay old new s settings a.0 a.1 rates a.2 in
      (a.0, started (start_at settings s.view.link r.0 k.moment) ∷ a.1, r.2)

  same_length : length (views_of new) ≡ length (views_of old)
  same_length = ap (λ (vs : List LinkView). length vs) s.views_are ∙ length-set (views_of old) k.place s.view'

  -- The link has this next start after it.
  in-step : (heap' : Heap NextStart) (next : Option ℕ) → next_start_of s.view' ≡ next → Holds (set (next_starts (views_of old)) k.place next) heap'.keys →
      length heap'.keys + heap'.room ≡ length heap.keys + heap.room → AreInStep new heap'
  in-step heap' next is held room = record {
    agrees = agrees-new;
    within = starts-within k.place k.moment bandwidth delay old new s (2 ^ 62) kept.within;
    held = subst (λ (d : List (Option ℕ)). Holds d heap'.keys)
        (sym (starts-nexts k.place k.moment bandwidth delay old new s ∙ ap (λ (o : Option ℕ). set (next_starts (views_of old)) k.place o) is)) held;
    places = let a = same_length in let p = kept.places in omega arith;
  }

  pub kept-some : 0 < s.view'.waits → (heap' : Heap NextStart) → IsPermutation (record { moment = s.view'.value.free; place = k.place } ∷ rest) heap'.keys →
      heap'.room ≡ heap.room → AreInStep new heap'
  kept-some some heap' pushed room =
      let a = length_permutation heap.keys (k ∷ rest) perm in
      let b = length_permutation (record { moment = s.view'.value.free; place = k.place } ∷ rest) heap'.keys pushed in
      in-step heap' (Some s.view'.value.free) (next-some s.view' some)
      (holds_some (next_starts (views_of old)) heap.keys rest k kept.held perm s.view'.value.free heap'.keys pushed) (omega arith)

  pub kept-none : s.view'.waits ≤ 0 → (heap' : Heap NextStart) → heap'.keys ≡ rest → heap'.room ≡ heap.room + 1 → AreInStep new heap'
  kept-none none heap' keys room =
      let a = length_permutation heap.keys (k ∷ rest) perm in
      let b = ap (λ (ks : List NextStart). length ks) keys in
      in-step heap' None (next-none s.view' none)
      (subst (λ (ks : List NextStart). Holds (set (next_starts (views_of old)) k.place None) ks) (sym keys) (holds_none (next_starts (views_of old)) heap.keys rest k kept.held perm)) (omega arith)

  pub only-starts : (heap' : Heap NextStart) → heap'.moves + new.waiting ≤ heap.moves + old.waiting → length heap'.keys + heap'.room ≡ length heap.keys + heap.room → OnlyStarts old heap new heap'
  only-starts heap' moves places = record {
    rule = s.rule;
    accepted = s.accepted;
    keys = s.keys;
    homes = s.homes;
    names = ap (λ (vs : List LinkView). link_names vs) s.views_are ∙ map-set-same (λ (x : LinkView). x.link) (views_of old) k.place s.view s.view' s.there s.starts.link;
    moves = moves;
    places = places;
    under_way =
        let a = ap (λ (ds : List Delivery). length ds) s.starts.pending_is in
        let b = length-in_order (record { due = s.view'.value.last_due; packet = s.starts.packet.packet; flow = s.starts.flow; start = k.moment }) old.line.pending in
        let c = s.waiting in
        omega arith;
    within = λ n w. starts-within k.place k.moment bandwidth delay old new s n w;
    ready = λ flow r. starts-ready k.place k.moment bandwidth delay old new s flow r;
  }

-- ---- The loop

pub only-none : (p : Parts) (heap : Heap NextStart) → OnlyStarts p heap p heap
only-none p heap = record { rule = refl; accepted = refl; keys = refl; homes = refl; names = refl; moves = omega arith; places = refl; under_way = refl; within = λ n w. w; ready = λ flow r. r }

pub only-more : (p q r : Parts) (d e f : Heap NextStart) → OnlyStarts p d q e → OnlyStarts q e r f → OnlyStarts p d r f
only-more p q r d e f x y = record {
  rule = y.rule ∙ x.rule;
  accepted = y.accepted ∙ x.accepted;
  keys = y.keys ∙ x.keys;
  homes = y.homes ∙ x.homes;
  names = y.names ∙ x.names;
  moves = let a = x.moves in let b = y.moves in omega arith;
  places = y.places ∙ x.places;
  under_way = y.under_way ∙ x.under_way;
  within = λ n w. y.within n (x.within n w);
  ready = λ flow w. y.ready flow (x.ready flow w);
}

-- Some of those starts were made, and the rest would settle the trace.
abbrev pub Reaches : Settings → ℕ → Parts → Parts → Type 0
Reaches settings at old new =
    (more : List Link) (trace : List Event) → AgreesWith old more trace →
    (most : ℕ) × (t : List Event) × AgreesWith new more t × (waiting_all (links t) t ≤ most) × (settle most settings at t ≡ settled settings at trace)

pub reaches-start : (settings : Settings) (at : ℕ) (p : Parts) → Reaches settings at p p
reaches-start settings at p more trace a = (waiting_all (links trace) trace, trace, a, omega arith, refl)

pub reaches-one : (settings : Settings) (at : ℕ) (p q r : Parts) → Reaches settings at p q → StartsFirst settings at q r → Reaches settings at p r
reaches-one settings at p q r reached one more trace a =
    let x = reached more trace a in
    let s = one more x.1 x.2 in
    go x.0 x.1 x.3 x.4 s.0 s.1 (waiting_all-first settings at (links x.1) x.1 s.0 s.1) s.2
  where
    go : (most : ℕ) (t : List Event) → waiting_all (links t) t ≤ most → settle most settings at t ≡ settled settings at trace
        → (s : Start) → first_start settings at (links t) t ≡ Some s → waiting_all (links t) (started s ∷ t) < waiting_all (links t) t → AgreesWith r more (started s ∷ t)
        → (most : ℕ) × (t : List Event) × AgreesWith r more t × (waiting_all (links t) t ≤ most) × (settle most settings at t ≡ settled settings at trace)
    go zero t few same s e fewer b = absurd (omega arith)
    go (suc most) t few same s e fewer b = (most, started s ∷ t, b, omega arith, sym (settle-some most settings at t s e) ∙ same)

pub reaches-none : (settings : Settings) (at : ℕ) (p q : Parts) → Reaches settings at p q → HasNoStart settings at q → SettlesAll settings at p q
reaches-none settings at p q reached none more trace a =
    let x = reached more trace a in
    subst (λ (t : List Event). AgreesWith q more t) (sym (settle-none x.0 settings at x.1 (none more x.1 x.2)) ∙ x.4) x.2
