-- One flow's queue changes, and of all links only the flow's own is seen otherwise.
use Rattle.dn_shaper.proofs.Words.{AgreesWith, Carries, Event, FlowKey, FlowState, GoesTo, HasOneMore, HoldsCount, IsAlone, Link, LinkParts, LinkView, List, LosesCount, None, Option, Own, Parts}
use Rattle.dn_shaper.proofs.Words.{Shared, Some, Target, Waiting, [], ap, carried_link, carried_slots, carried_waits, cases_eq, cond, eq-no, eq-yes, flow_after_set, flow_at, get-map, home}
use Rattle.dn_shaper.proofs.Words.{home_by, inl, inr, length, length-more, link_eq, link_eq-refl, link_of, map, map-set-but, nat_eq, own, pushed, queue_lengths, refl, set, shared, slice_get, suc}
use Rattle.dn_shaper.proofs.Words.{sym, view_of, views_of, zero, ℕ, ◌+◌, ◌<◌, ◌∙◌, ◌∷◌, ◌≡◌, ◌⊎◌}
use Rattle.dn_types.specs.declared.target.Target.TheVariants.{Pipe as ToPipe, Queue as ToQueue}

-- ---- A flow's own link is at one place

-- An own link has its flow at its one slot.
pub own-slot : (queues : ℕ → ℕ) (links : List LinkParts) (k : ℕ) (v : LinkView) (pipe f : ℕ) → slice_get (map (view_of queues) links) k ≡ Some v → v.link ≡ own pipe f → slice_get v.slots 0 ≡ Some f
own-slot queues [] k v pipe f e is = absurd cc
own-slot queues (l ∷ links) zero v pipe f e is =
    let same : view_of queues l ≡ v = cc in
    ap (λ (x : LinkView). slice_get x.slots 0) (sym same) ∙ by l.carries (ap (λ (x : LinkView). x.link) same ∙ is)
  where
    by : (c : Carries) → carried_link l.pipe c ≡ own pipe f → slice_get (carried_slots c) 0 ≡ Some f
    by (Own g) h = let one : g ≡ f = cc in ap (λ n. Some n) one
    by (Shared s) h = absurd cc
own-slot queues (l ∷ links) (suc k) v pipe f e is = own-slot queues links k v pipe f e is

-- A flow at home on an own link is that link's flow.
pub own-home : (keys : List FlowKey) (flow pipe f : ℕ) → home keys flow ≡ own pipe f → f ≡ flow
own-home keys flow pipe f e = by (slice_get keys flow) e
  where
    linked : (target : Target) (number : ℕ) → link_of target flow number ≡ own pipe f → f ≡ flow
    linked (ToPipe n) number h = let one : flow ≡ f = cc in sym one
    linked (ToQueue n) number h = absurd cc

    by : (o : Option FlowKey) → home_by flow o ≡ own pipe f → f ≡ flow
    by None h = let one : flow ≡ f = cc in sym one
    by (Some key) h = linked key.target key.pipe h

pub is-alone : (p : Parts) (more : List Link) (trace : List Event) → AgreesWith p more trace → (flow place : ℕ) (v : LinkView) →
    slice_get (views_of p) place ≡ Some v → home p.flows.keys flow ≡ v.link → IsAlone flow place (views_of p)
is-alone p more trace a flow place v there here k w pipe f e is = (to, from)
  where
    to : f ≡ flow → k ≡ place
    to same = by (cases_eq k place)
      where
        named : w.link ≡ v.link
        named = sym (a.slots_home k w e 0 f (own-slot (queue_lengths p.flows.flows) p.links.items k w pipe f e is)) ∙ ap (home p.flows.keys) same ∙ here

        by : (k ≡ place) ⊎ (k ≡ place → ⊥) → k ≡ place
        by (inl one) = one
        by (inr ne) =
            let apart = a.distinct k place w.link v.link (get-map (λ (x : LinkView). x.link) (views_of p) k w e) (get-map (λ (x : LinkView). x.link) (views_of p) place v there) ne in
            let yes = ap (λ l. link_eq l v.link) named ∙ link_eq-refl v.link in
            absurd cc

    from : k ≡ place → f ≡ flow
    from same =
        let both : Some w ≡ Some v = sym e ∙ ap (slice_get (views_of p)) same ∙ there in
        let one : w ≡ v = cc in
        own-home p.flows.keys flow pipe f (here ∙ ap (λ (x : LinkView). x.link) (sym one) ∙ is)

-- A flow whose packets go to a pipe has a link of its own.
pub goes-own : (p : Parts) (flow : ℕ) (target : Target) → GoesTo flow target p → (number : ℕ) → target ≡ ToPipe number → (pipe : ℕ) × (home p.flows.keys flow ≡ own pipe flow)
goes-own p flow target goes number is = (goes.0, goes.1 ∙ ap (λ (t : Target). link_of t flow goes.0) is)

-- ---- The links where queues change

seen-same : (before after : ℕ → ℕ) (l : LinkParts) → ((f : ℕ) → l.carries ≡ Own f → after f ≡ before f) → view_of after l ≡ view_of before l
seen-same before after l h = λ i. record { link = carried_link l.pipe l.carries; value = l.times; waits = by l.carries refl i; schedule = (view_of before l).schedule; slots = carried_slots l.carries }
  where
    by : (c : Carries) → l.carries ≡ c → carried_waits after c ≡ carried_waits before c
    by (Own f) e = h f e
    by (Shared s) e = refl

-- Where all queues are as long as they were, all links are seen as they were.
pub all-seen-same : (links : List LinkParts) (before after : ℕ → ℕ) → ((f : ℕ) → after f ≡ before f) → map (view_of after) links ≡ map (view_of before) links
all-seen-same links before after h = λ i. map (view_of (λ f. h f i)) links

-- The flow's queue is set, and the link at its home.
pub set-seen : (p : Parts) (flow place : ℕ) → IsAlone flow place (views_of p) → flow < length p.flows.flows → (flows : List FlowState) (s : FlowState) →
    flows ≡ set p.flows.flows flow s → (l : LinkParts) →
    map (view_of (queue_lengths flows)) (set p.links.items place l) ≡ set (views_of p) place (view_of (queue_lengths flows) l)
set-seen p flow place alone lt flows s now l =
    map-set-but (view_of (queue_lengths p.flows.flows)) (view_of (queue_lengths flows)) p.links.items place l
    (λ k m e ne. seen-same (queue_lengths p.flows.flows) (queue_lengths flows) m
    (λ f own. other f
    (λ same. ne ((alone k (view_of (queue_lengths p.flows.flows) m) m.pipe f (get-map (view_of (queue_lengths p.flows.flows)) p.links.items k m e) (ap (carried_link m.pipe) own)).0 same))))
  where
    other : (f : ℕ) → (f ≡ flow → ⊥) → queue_lengths flows f ≡ queue_lengths p.flows.flows f
    other f ne =
        ap (λ (fs : List FlowState). queue_lengths fs f) now
        ∙ ap (λ (x : FlowState). length x.backlog) (flow_after_set p.flows.flows flow f s lt)
        ∙ ap (λ b. length (cond b s (flow_at p.flows.flows f)).backlog) (eq-no flow f (λ e. ne (sym e)))

-- ---- The lengths of queues

module _ (flows : List FlowState) (flow : ℕ) (within : flow < length flows) (s : FlowState) (now : List FlowState) (is : now ≡ set flows flow s) where
  -- The queue that was set.
  pub length-now : queue_lengths now flow ≡ length s.backlog
  length-now =
      ap (λ (fs : List FlowState). queue_lengths fs flow) is
      ∙ ap (λ (x : FlowState). length x.backlog) (flow_after_set flows flow flow s within)
      ∙ ap (λ b. length (cond b s (flow_at flows flow)).backlog) (eq-yes flow flow refl)

  -- Where it is as long as before, so is each.
  pub lengths-same : length s.backlog ≡ queue_lengths flows flow → (f : ℕ) → queue_lengths now f ≡ queue_lengths flows f
  lengths-same same f =
      ap (λ (fs : List FlowState). queue_lengths fs f) is
      ∙ ap (λ (x : FlowState). length x.backlog) (flow_after_set flows flow f s within)
      ∙ by (cases_eq flow f)
    where
      by : (flow ≡ f) ⊎ (flow ≡ f → ⊥) → length (cond (nat_eq flow f) s (flow_at flows f)).backlog ≡ queue_lengths flows f
      by (inl e) = ap (λ b. length (cond b s (flow_at flows f)).backlog) (eq-yes flow f e) ∙ same ∙ ap (queue_lengths flows) e
      by (inr ne) = ap (λ b. length (cond b s (flow_at flows f)).backlog) (eq-no flow f ne)

pub push-longer : (flows : List FlowState) (flow : ℕ) (w : Waiting) → flow < length flows → (now : List FlowState) →
    now ≡ set flows flow (pushed w (flow_at flows flow)) → queue_lengths now flow ≡ queue_lengths flows flow + 1
push-longer flows flow w within now is = length-now flows flow within (pushed w (flow_at flows flow)) now is ∙ length-more (flow_at flows flow).backlog w

-- One packet more in the flow's queue is one packet more for the flow's own link.
pub one-more-at : (flow place : ℕ) (views : List LinkView) → IsAlone flow place views → (v : LinkView) → slice_get views place ≡ Some v →
    (before after : ℕ → ℕ) → after flow ≡ before flow + 1 → (l : Link) → v.link ≡ l → HasOneMore before after l
one-more-at flow place views alone v there before after more (own pipe f) is = let same = (alone place v pipe f there is).1 refl in ap after same ∙ more ∙ ap (λ n. before n + 1) (sym same)
one-more-at flow place views alone v there before after more (shared pipe) is = tt

-- A flow's packets leave its own link with its queue, and a shared one with its slot.
pub loses-at : (flow place : ℕ) (views : List LinkView) → IsAlone flow place views → (v : LinkView) → slice_get views place ≡ Some v →
    (slot count : ℕ) (before after : ℕ → ℕ) → after flow + count ≡ before flow → (l : Link) → v.link ≡ l → HoldsCount slot count v l →
    LosesCount slot count before after v l
loses-at flow place views alone v there slot count before after loses (own pipe f) is holds = let same = (alone place v pipe f there is).1 refl in
    ap (λ n. after n + count) same ∙ loses ∙ ap before (sym same)
loses-at flow place views alone v there slot count before after loses (shared pipe) is holds = holds
