-- The readings of the definitions obey the laws of readings, and so they do on what happened on one link alone.
use Rattle.dn_laws.proofs.Words.{Bool, IsNotOf, List, [], and-left, and-right, and_from, ap, arith, backlog-above, backlog-own, cond, drop, eq-eqb, eqb-true, false, first-own, inl, inr, leb_tells}
use Rattle.dn_laws.proofs.Words.{link_eq-refl, link_eq-true, map, max, nat_eq, refl, slice_get, subst, suc, sum, sum_by-cons, sym, take, true, zero, ℕ, ⊎_elim, ◌*◌, ◌++◌, ◌+◌, ◌/◌, ◌<◌, ◌∙◌, ◌∷◌}
use Rattle.dn_laws.proofs.Words.{◌≡◌, ◌≢◌, ◌≤◌, ◌⊎◌}
use Rattle.dn_laws.proofs.LawWords.{Readings, AreReadings, Has, IsOf, IsFirst, IsRaised, GrowsBy, weights, is_on, on_link, IsDueBy, IsNoStart, IsNoOpening, IsApart, free, last_due, arrival_time}
use Rattle.dn_laws.proofs.LawWords.{due_by, virtual_time, last_finish_tag, link_heads, Link, link_eq, is_of, Accepted, Start, Event, opened, arrived, started, lost, refused, discarded, collected}
use Rattle.dn_laws.proofs.LawWords.{backlog, flow_bound, Stamped, heads, raised, least_start_tag, weight_sum, grown, Rule, Free, Ordered}
use Rattle.dn_laws.proofs.Isolation.{false-if}
use Rattle.dn_laws.proofs.SameReadings.{same-readings}

abbrev pub read : Rule → Readings
read rule = record {
  queue = λ link flow trace. backlog link flow trace;
  free = λ link trace. free link trace;
  last_due = λ link trace. last_due rule link trace;
  virtual_time = λ link trace. virtual_time link trace;
  last_finish_tag = λ link flow trace. last_finish_tag link flow trace;
}

pub is-mine : (link : Link) (flow : ℕ) (p : Accepted) → IsOf link flow p → is_of link flow p ≡ true
is-mine link flow p h = and_from (link_eq p.link link) (nat_eq p.stamped.flow flow) (ap (λ (l : Link). link_eq l link) h.0 ∙ link_eq-refl link) (eq-eqb p.stamped.flow flow h.1)

pub mine-is : (link : Link) (flow : ℕ) (p : Accepted) → is_of link flow p ≡ true → IsOf link flow p
mine-is link flow p t = (link_eq-true p.link link (and-left (link_eq p.link link) (nat_eq p.stamped.flow flow) t), eqb-true p.stamped.flow flow (and-right (link_eq p.link link) (nat_eq p.stamped.flow flow) t))

pub not-mine : (link : Link) (flow : ℕ) (p : Accepted) → (IsOf link flow p → ⊥) → is_of link flow p ≡ false
not-mine link flow p h = false-if (is_of link flow p) (λ t. h (mine-is link flow p t))

pub apart : (a b : Link) → a ≢ b → link_eq a b ≡ false
apart a b h = false-if (link_eq a b) (λ t. h (link_eq-true a b t))

pub here : (a b : Link) → a ≡ b → link_eq a b ≡ true
here a b e = ap (λ (l : Link). link_eq l b) e ∙ link_eq-refl b

has-left : (xs ys : List Accepted) (p : Accepted) → Has xs p → Has (xs ++ ys) p
has-left [] ys p h = absurd h
has-left (x ∷ xs) ys p h = ⊎_elim (λ e. inl e) (λ rest. inr (has-left xs ys p rest)) h

has-right : (xs ys : List Accepted) (p : Accepted) → Has ys p → Has (xs ++ ys) p
has-right [] ys p h = h
has-right (x ∷ xs) ys p h = inr (has-right xs ys p h)

has-either : (xs ys : List Accepted) (p : Accepted) → Has (xs ++ ys) p → Has xs p ⊎ Has ys p
has-either [] ys p h = inr h
has-either (x ∷ xs) ys p h = ⊎_elim (λ e. inl (inl e)) (λ rest. ⊎_elim (λ l. inl (inr l)) (λ r. inr r) (has-either xs ys p rest)) h

first-taken : (ps : List Accepted) (p : Accepted) (behind : List Accepted) → ps ≡ p ∷ behind → Has (take 1 ps) p
first-taken [] p behind e = absurd cc
first-taken (x ∷ xs) p behind e = let same : x ≡ p = cc in inl same

taken-first : (ps : List Accepted) (p : Accepted) → Has (take 1 ps) p → (behind : List Accepted) × (ps ≡ p ∷ behind)
taken-first [] p h = absurd h
taken-first (x ∷ xs) p h = ⊎_elim (λ e. (xs, ap (λ (y : Accepted). y ∷ xs) e)) (λ rest. absurd rest) h

pub has-head : (q : ℕ → List Accepted) (n flow : ℕ) (p : Accepted) (behind : List Accepted) → flow < n → q flow ≡ p ∷ behind → Has (heads n q) p
has-head q zero flow p behind lt e = absurd (omega (arith, lt))
has-head q (suc n) flow p behind lt e = ⊎_elim
    (λ high. let same : n ≡ flow = omega (arith, lt, high.1) in has-right (heads n q) (take 1 (q n)) p (first-taken (q n) p behind (ap q same ∙ e)))
    (λ low. has-left (heads n q) (take 1 (q n)) p (has-head q n flow p behind low.1 e))
    (leb_tells n flow)

pub head-has : (q : ℕ → List Accepted) (n : ℕ) (p : Accepted) → Has (heads n q) p → (flow : ℕ) × ((behind : List Accepted) × (q flow ≡ p ∷ behind))
head-has q zero p h = absurd h
head-has q (suc n) p h = ⊎_elim (λ l. head-has q n p l) (λ r. (n, taken-first (q n) p r)) (has-either (heads n q) (take 1 (q n)) p h)

abbrev stamps : List Accepted → List Stamped
stamps ps = map (λ p. p.stamped) ps

least-most : (most : ℕ) (ps : List Accepted) → least_start_tag most (stamps ps) ≤ most
least-most most [] = omega arith
least-most most (p ∷ ps) = let rest = least-most most ps in omega (arith, rest)

least-tag : (most : ℕ) (ps : List Accepted) (p : Accepted) → Has ps p → least_start_tag most (stamps ps) ≤ p.stamped.start_tag
least-tag most [] p h = absurd h
least-tag most (x ∷ ps) p h = ⊎_elim
    (λ e. let same : x.stamped.start_tag ≡ p.stamped.start_tag = ap (λ (y : Accepted). y.stamped.start_tag) e in omega (arith, same))
    (λ rest. let low = least-tag most ps p rest in omega (arith, low)) h

least-there : (most : ℕ) (ps : List Accepted) → (most ≤ least_start_tag most (stamps ps)) ⊎ ((p : Accepted) × Has ps p × (p.stamped.start_tag ≤ least_start_tag most (stamps ps)))
least-there most [] = inl (omega arith)
least-there most (x ∷ ps) = ⊎_elim
    (λ low. inr (x, inl refl, (let l = low.1 in omega (arith, l))))
    (λ high. ⊎_elim (λ is. inl (let l = high.1 in omega (arith, l, is)))
    (λ (some : (p : Accepted) × Has ps p × (p.stamped.start_tag ≤ least_start_tag most (stamps ps))). inr (some.0, inr some.1, (let l = high.1 in let t = some.2 in omega (arith, l, t))))
    (least-there most ps))
    (leb_tells x.stamped.start_tag (least_start_tag most (stamps ps)))

raised-below : (v : ℕ) (ps : List Accepted) (p : Accepted) → Has ps p → raised v (stamps ps) ≤ max v p.stamped.start_tag
raised-below v [] p h = absurd h
raised-below v (x ∷ ps) p h = ⊎_elim
    (λ e. let same : x.stamped.start_tag ≡ p.stamped.start_tag = ap (λ (y : Accepted). y.stamped.start_tag) e in let low = least-most x.stamped.start_tag ps in omega (arith, same, low))
    (λ rest. let low = least-tag x.stamped.start_tag ps p rest in omega (arith, low)) h

raised-above : (v : ℕ) (ps : List Accepted) → v ≤ raised v (stamps ps)
raised-above v [] = omega arith
raised-above v (x ∷ ps) = omega arith

raised-reached : (v : ℕ) (x : Accepted) (ps : List Accepted) → (p : Accepted) × Has (x ∷ ps) p × (p.stamped.start_tag ≤ raised v (stamps (x ∷ ps)))
raised-reached v x ps = ⊎_elim (λ is. (x, inl refl, omega (arith, is)))
    (λ (some : (p : Accepted) × Has ps p × (p.stamped.start_tag ≤ least_start_tag x.stamped.start_tag (stamps ps))). (some.0, inr some.1, (let t = some.2 in omega (arith, t))))
    (least-there x.stamped.start_tag ps)

weighed : (xs ys : List Accepted) → weight_sum (stamps (xs ++ ys)) ≡ weight_sum (stamps xs) + weight_sum (stamps ys)
weighed [] ys = omega arith
weighed (x ∷ xs) ys = let rest = weighed xs ys in omega (arith, rest)

one-weight : (ps : List Accepted) → weight_sum (stamps (take 1 ps)) ≡ sum (map (λ p. p.stamped.weight) (take 1 ps))
one-weight [] = refl
one-weight (x ∷ ps) = let s = sum_by-cons (λ (n : ℕ). n) x.stamped.weight [] in omega (arith, s)

weights-are : (q : ℕ → List Accepted) (n : ℕ) → weight_sum (stamps (heads n q)) ≡ weights q n
weights-are q zero = refl
weights-are q (suc n) = let all = weighed (heads n q) (take 1 (q n)) in let rest = weights-are q n in let last = one-weight (q n) in omega (arith, all, rest, last)

due-is : (r : Rule) (s : Start) (last : ℕ) → IsDueBy r s last (due_by r (arrival_time s) last)
due-is Free s last = refl
due-is Ordered s last = refl

module _ (rule : Rule) where
  queue-stays : (link : Link) (flow : ℕ) (e : Event) (t : List Event) → IsNotOf link flow e → backlog link flow (e ∷ t) ≡ backlog link flow t
  queue-stays link flow (arrived p) t h = ap (λ b. cond b (backlog link flow t ++ p ∷ []) (backlog link flow t)) (not-mine link flow p h)
  queue-stays link flow (started s) t h = ap (λ b. cond b (drop 1 (backlog link flow t)) (backlog link flow t)) (not-mine link flow s.packet h)
  queue-stays link flow (discarded f) t h = ap (λ b. cond b [] (backlog link flow t)) (false-if (nat_eq f flow) (λ e. h (eqb-true f flow e)))
  queue-stays link flow (opened l) t h = refl
  queue-stays link flow (lost l f) t h = refl
  queue-stays link flow (refused l f) t h = refl
  queue-stays link flow (collected at) t h = refl

  free-stays : (link : Link) (e : Event) (t : List Event) → IsNoStart link e → free link (e ∷ t) ≡ free link t
  free-stays link (started s) t h = ap {B = ℕ} (λ b. cond b (s.moment + s.transmission) (free link t)) (apart s.packet.link link h)
  free-stays link (arrived p) t h = refl
  free-stays link (discarded f) t h = refl
  free-stays link (opened l) t h = refl
  free-stays link (lost l f) t h = refl
  free-stays link (refused l f) t h = refl
  free-stays link (collected at) t h = refl

  due-stays : (link : Link) (e : Event) (t : List Event) → IsNoStart link e → last_due rule link (e ∷ t) ≡ last_due rule link t
  due-stays link (started s) t h = ap {B = ℕ} (λ b. cond b (due_by rule (arrival_time s) (last_due rule link t)) (last_due rule link t)) (apart s.packet.link link h)
  due-stays link (arrived p) t h = refl
  due-stays link (discarded f) t h = refl
  due-stays link (opened l) t h = refl
  due-stays link (lost l f) t h = refl
  due-stays link (refused l f) t h = refl
  due-stays link (collected at) t h = refl

  tag-stays : (link : Link) (flow : ℕ) (e : Event) (t : List Event) → IsApart link flow e → last_finish_tag link flow (e ∷ t) ≡ last_finish_tag link flow t
  tag-stays link flow (opened l) t h = ap {B = ℕ} (λ b. cond b 0 (last_finish_tag link flow t)) (apart l link h)
  tag-stays link flow (arrived p) t h = ap {B = ℕ} (λ b. cond b p.stamped.finish_tag (last_finish_tag link flow t)) (not-mine link flow p (λ o. h o.0 o.1))
  tag-stays link flow (discarded f) t h = ap {B = ℕ} (λ b. cond b 0 (last_finish_tag link flow t)) (false-if (nat_eq f flow) (λ e. h (eqb-true f flow e)))
  tag-stays link flow (started s) t h = refl
  tag-stays link flow (lost l f) t h = refl
  tag-stays link flow (refused l f) t h = refl
  tag-stays link flow (collected at) t h = refl

  virtual-stays : (link : Link) (e : Event) (t : List Event) → IsNoStart link e → IsNoOpening link e → virtual_time link (e ∷ t) ≡ virtual_time link t
  virtual-stays link (opened l) t h k = ap {B = ℕ} (λ b. cond b 0 (virtual_time link t)) (apart l link k)
  virtual-stays link (started s) t h k = ap {B = ℕ} (λ b. cond b (grown (virtual_time link t) (link_heads link t) s.packet.stamped.len) (virtual_time link t)) (apart s.packet.link link h)
  virtual-stays link (arrived p) t h k = refl
  virtual-stays link (discarded f) t h k = refl
  virtual-stays link (lost l f) t h k = refl
  virtual-stays link (refused l f) t h k = refl
  virtual-stays link (collected at) t h k = refl

  -- A packet is the first that waits of its flow exactly if it is a head.
  pub head-first : (link : Link) (t : List Event) (p : Accepted) → Has (heads (flow_bound t) (λ flow. backlog link flow t)) p → IsFirst (read rule) link t p
  head-first link t p h =
      let there = head-has (λ flow. backlog link flow t) (flow_bound t) p h in
      let own : is_of link there.0 p ≡ true = first-own link there.0 p (backlog link there.0 t) (ap (λ (q : List Accepted). slice_get q 0) there.1.1) (backlog-own link there.0 t) in
      (there.1.0, ap (λ n. backlog link n t) (mine-is link there.0 p own).1 ∙ there.1.1)

  pub first-head : (link : Link) (t : List Event) (p : Accepted) → IsFirst (read rule) link t p → Has (heads (flow_bound t) (λ flow. backlog link flow t)) p
  first-head link t p h = ⊎_elim
      (λ high. let e : [] ≡ p ∷ h.0 = sym (backlog-above link p.stamped.flow t high.1) ∙ h.1 in absurd cc)
      (λ low. has-head (λ flow. backlog link flow t) (flow_bound t) p.stamped.flow p h.0 low.1 h.1)
      (leb_tells (flow_bound t) p.stamped.flow)

  pub is-raised : (link : Link) (t : List Event) → IsRaised (read rule) link t (raised (virtual_time link t) (link_heads link t))
  is-raised link t = record {
    rises = raised-above v hs;
    no_further = λ p first. raised-below v hs p (first-head link t p first);
    far_enough = by hs refl;
  }
    where
      v : ℕ
      v = virtual_time link t

      hs : List Accepted
      hs = heads (flow_bound t) (λ flow. backlog link flow t)

      none : (flow : ℕ) (q : List Accepted) → backlog link flow t ≡ q → heads (flow_bound t) (λ flow. backlog link flow t) ≡ [] → q ≡ []
      none flow [] e empty = refl
      none flow (p ∷ behind) e empty = ⊎_elim
          (λ high. let f : [] ≡ p ∷ behind = sym (backlog-above link flow t high.1) ∙ e in absurd cc)
          (λ low. absurd (subst (λ (ps : List Accepted). Has ps p) empty (has-head (λ g. backlog link g t) (flow_bound t) flow p behind low.1 e)))
          (leb_tells (flow_bound t) flow)

      by : (ps : List Accepted) → heads (flow_bound t) (λ flow. backlog link flow t) ≡ ps →
          ((p : Accepted) × IsFirst (read rule) link t p × (p.stamped.start_tag ≤ raised (virtual_time link t) (link_heads link t)))
          ⊎ (((flow : ℕ) → backlog link flow t ≡ []) × (raised (virtual_time link t) (link_heads link t) ≡ virtual_time link t))
      by [] e = inr (λ flow. none flow (backlog link flow t) refl e, ap (λ (ps : List Accepted). raised (virtual_time link t) (stamps ps)) e)
      by (x ∷ ps) e = let some = raised-reached (virtual_time link t) x ps in
          inl (
            some.0,
            head-first link t some.0 (subst (λ (xs : List Accepted). Has xs some.0) (sym e) some.1),
            subst (λ (xs : List Accepted). some.0.stamped.start_tag ≤ raised (virtual_time link t) (stamps xs)) (sym e) some.2,
          )

  pub readings-obey : AreReadings rule (read rule)
  readings-obey = record {
    queue_arrives = λ link flow p t h. ap (λ b. cond b (backlog link flow t ++ p ∷ []) (backlog link flow t)) (is-mine link flow p h);
    queue_starts = λ link flow s t h. ap (λ b. cond b (drop 1 (backlog link flow t)) (backlog link flow t)) (is-mine link flow s.packet h);
    queue_ends = λ link flow t. ap (λ b. cond b [] (backlog link flow t)) (eq-eqb flow flow refl);
    queue_stays = queue-stays;
    free_begins = λ link. refl;
    free_starts = λ s t. ap {B = ℕ} (λ b. cond b (s.moment + s.transmission) (free s.packet.link t)) (link_eq-refl s.packet.link);
    free_stays = free-stays;
    due_begins = λ link. refl;
    due_starts = λ s t. subst (λ (n : ℕ). IsDueBy rule s (last_due rule s.packet.link t) n)
        (sym (ap {B = ℕ} (λ b. cond b (due_by rule (arrival_time s) (last_due rule s.packet.link t)) (last_due rule s.packet.link t)) (link_eq-refl s.packet.link)))
        (due-is rule s (last_due rule s.packet.link t));
    due_stays = due-stays;
    tag_begins = λ link flow. refl;
    tag_opens = λ link flow t. ap {B = ℕ} (λ b. cond b 0 (last_finish_tag link flow t)) (link_eq-refl link);
    tag_arrives = λ link flow p t h. ap {B = ℕ} (λ b. cond b p.stamped.finish_tag (last_finish_tag link flow t)) (is-mine link flow p h);
    tag_ends = λ link flow t. ap {B = ℕ} (λ b. cond b 0 (last_finish_tag link flow t)) (eq-eqb flow flow refl);
    tag_stays = tag-stays;
    virtual_begins = λ link. refl;
    virtual_opens = λ link t. ap {B = ℕ} (λ b. cond b 0 (virtual_time link t)) (link_eq-refl link);
    virtual_stays = virtual-stays;
    virtual_grows = λ s t. record {
      to = raised (virtual_time s.packet.link t) (link_heads s.packet.link t);
      raised = is-raised s.packet.link t;
      bound = flow_bound t;
      all = λ flow h. backlog-above s.packet.link flow t h;
      grown = ap {B = ℕ} (λ b. cond b (grown (virtual_time s.packet.link t) (link_heads s.packet.link t) s.packet.stamped.len) (virtual_time s.packet.link t)) (link_eq-refl s.packet.link)
          ∙ ap (λ w. raised (virtual_time s.packet.link t) (link_heads s.packet.link t) + s.packet.stamped.len * 65536 / w) (weights-are (λ flow. backlog s.packet.link flow t) (flow_bound t));
    };
  }

pub kept-on : (link : Link) (e : Event) (t : List Event) → is_on link e ≡ true → on_link link (e ∷ t) ≡ e ∷ on_link link t
kept-on link e t h = ap (λ b. cond b (e ∷ on_link link t) (on_link link t)) h

abbrev either-on : Link → Event → List Event → Bool → List Event
either-on link e t b = cond b (e ∷ on_link link t) (on_link link t)

-- What is so of the readings where an event changes nothing is so whether the event is kept or not.
stays-on : {X : Type 0} (get : List Event → X) (link : Link) (e : Event) (t : List Event) → get (e ∷ on_link link t) ≡ get (on_link link t) → get (on_link link (e ∷ t)) ≡ get (on_link link t)
stays-on get link e t h = by (is_on link e)
  where
    by : (b : Bool) → get (either-on link e t b) ≡ get (on_link link t)
    by true = h
    by false = refl

abbrev pub read-on : Rule → Readings
read-on rule = record {
  queue = λ link flow trace. backlog link flow (on_link link trace);
  free = λ link trace. free link (on_link link trace);
  last_due = λ link trace. last_due rule link (on_link link trace);
  virtual_time = λ link trace. virtual_time link (on_link link trace);
  last_finish_tag = λ link flow trace. last_finish_tag link flow (on_link link trace);
}

module _ (rule : Rule) where
  R : AreReadings rule (read rule)
  R = readings-obey rule

  grows-on : (s : Start) (t : List Event) → GrowsBy (read-on rule) s.packet.link t s
  grows-on s t =
      let link = s.packet.link in
      let g = R.virtual_grows s (on_link s.packet.link t) in
      record {
        to = g.to;
        raised = record { rises = g.raised.rises; no_further = g.raised.no_further; far_enough = g.raised.far_enough };
        bound = g.bound;
        all = g.all;
        grown = ap (virtual_time s.packet.link) (kept-on s.packet.link (started s) t (link_eq-refl s.packet.link)) ∙ g.grown;
      }

  on-obey : AreReadings rule (read-on rule)
  on-obey = record {
    queue_arrives = λ link flow p t h. ap (backlog link flow) (kept-on link (arrived p) t (here p.link link h.0)) ∙ R.queue_arrives link flow p (on_link link t) h;
    queue_starts = λ link flow s t h. ap (backlog link flow) (kept-on link (started s) t (here s.packet.link link h.0)) ∙ R.queue_starts link flow s (on_link link t) h;
    queue_ends = λ link flow t. R.queue_ends link flow (on_link link t);
    queue_stays = λ link flow e t h. stays-on (backlog link flow) link e t (R.queue_stays link flow e (on_link link t) h);
    free_begins = λ link. refl;
    free_starts = λ s t. ap (free s.packet.link) (kept-on s.packet.link (started s) t (link_eq-refl s.packet.link)) ∙ R.free_starts s (on_link s.packet.link t);
    free_stays = λ link e t h. stays-on (free link) link e t (R.free_stays link e (on_link link t) h);
    due_begins = λ link. refl;
    due_starts = λ s t. subst (λ (n : ℕ). IsDueBy rule s (last_due rule s.packet.link (on_link s.packet.link t)) n)
        (sym (ap (last_due rule s.packet.link) (kept-on s.packet.link (started s) t (link_eq-refl s.packet.link)))) (R.due_starts s (on_link s.packet.link t));
    due_stays = λ link e t h. stays-on (last_due rule link) link e t (R.due_stays link e (on_link link t) h);
    tag_begins = λ link flow. refl;
    tag_opens = λ link flow t. ap (last_finish_tag link flow) (kept-on link (opened link) t (link_eq-refl link)) ∙ R.tag_opens link flow (on_link link t);
    tag_arrives = λ link flow p t h. ap (last_finish_tag link flow) (kept-on link (arrived p) t (here p.link link h.0)) ∙ R.tag_arrives link flow p (on_link link t) h;
    tag_ends = λ link flow t. R.tag_ends link flow (on_link link t);
    tag_stays = λ link flow e t h. stays-on (last_finish_tag link flow) link e t (R.tag_stays link flow e (on_link link t) h);
    virtual_begins = λ link. refl;
    virtual_opens = λ link t. ap (virtual_time link) (kept-on link (opened link) t (link_eq-refl link)) ∙ R.virtual_opens link (on_link link t);
    virtual_stays = λ link e t h k. stays-on (virtual_time link) link e t (R.virtual_stays link e (on_link link t) h k);
    virtual_grows = grows-on;
  }

  -- So what is read of a link is read of what happened on it.
  pub reads-on : read-on rule ≡ read rule
  reads-on = same-readings rule (read-on rule) (read rule) on-obey R (λ link flow. refl)

pub queue-on : (link : Link) (flow : ℕ) (t : List Event) → backlog link flow (on_link link t) ≡ backlog link flow t
queue-on link flow t = ap (λ (r : Readings). r.queue link flow t) (reads-on Ordered)

pub free-on : (link : Link) (t : List Event) → free link (on_link link t) ≡ free link t
free-on link t = ap (λ (r : Readings). r.free link t) (reads-on Ordered)

pub due-on : (rule : Rule) (link : Link) (t : List Event) → last_due rule link (on_link link t) ≡ last_due rule link t
due-on rule link t = ap (λ (r : Readings). r.last_due link t) (reads-on rule)

pub virtual-on : (link : Link) (t : List Event) → virtual_time link (on_link link t) ≡ virtual_time link t
virtual-on link t = ap (λ (r : Readings). r.virtual_time link t) (reads-on Ordered)

pub tag-on : (link : Link) (flow : ℕ) (t : List Event) → last_finish_tag link flow (on_link link t) ≡ last_finish_tag link flow t
tag-on link flow t = ap (λ (r : Readings). r.last_finish_tag link flow t) (reads-on Ordered)
