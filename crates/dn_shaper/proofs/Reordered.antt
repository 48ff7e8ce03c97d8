-- Discards in another order, or made twice, leave every reading of a trace, and those of flows that aren't active leave all.
use Rattle.dn_shaper.proofs.Words.{Accepted, Bool, Command, Delivery, Event, FlowKey, FlowState, Home, IsAt, Link, LinkView, List, ReadsSame, Rule, Some, [], and-no, ap, arith, arrived, as_queued}
use Rattle.dn_shaper.proofs.Words.{backlog, cases_eq, collected, cond, count_by, discard_reached, discarded, discarded_count, drop, eq-no, eq-yes, false, home, inl, inr, is_active, is_arrival}
use Rattle.dn_shaper.proofs.Words.{is_loss_of, is_of, is_refusal_of, is_start_of, last_finish_tag, length, link_eq, list_any, lost, map, nat_eq, opened, reaches, refl, refused, slice_get, slotted}
use Rattle.dn_shaper.proofs.Words.{stamped_of, started, subst, suc, sym, total, true, waiting, zero, ℕ, ◌++◌, ◌+◌, ◌||◌, ◌∙◌, ◌∷◌, ◌≡◌, ◌⊎◌}
use Rattle.dn_shaper.proofs.Events.{uncounted}

pub same-reads : (t : List Event) → ReadsSame t t
same-reads t = record {
  links_are = refl;
  bound = refl;
  free_is = λ l. refl;
  last_due_is = λ r l. refl;
  virtual_time_is = λ l. refl;
  backlog_is = λ l f. refl;
  last_finish_is = λ l f. refl;
  lost_is = λ f. refl;
  full_is = λ f. refl;
  started_is = λ f. refl;
  discarded_is = λ l f. refl;
  active_is = λ f. refl;
  undelivered_is = λ r. refl;
  accepted_is = refl;
}

pub then-reads : (t u v : List Event) → ReadsSame t u → ReadsSame u v → ReadsSame t v
then-reads t u v a b = record {
  links_are = a.links_are ∙ b.links_are;
  bound = a.bound ∙ b.bound;
  free_is = λ l. a.free_is l ∙ b.free_is l;
  last_due_is = λ r l. a.last_due_is r l ∙ b.last_due_is r l;
  virtual_time_is = λ l. a.virtual_time_is l ∙ b.virtual_time_is l;
  backlog_is = λ l f. a.backlog_is l f ∙ b.backlog_is l f;
  last_finish_is = λ l f. a.last_finish_is l f ∙ b.last_finish_is l f;
  lost_is = λ f. a.lost_is f ∙ b.lost_is f;
  full_is = λ f. a.full_is f ∙ b.full_is f;
  started_is = λ f. a.started_is f ∙ b.started_is f;
  discarded_is = λ l f. a.discarded_is l f ∙ b.discarded_is l f;
  active_is = λ f. a.active_is f ∙ b.active_is f;
  undelivered_is = λ r. a.undelivered_is r ∙ b.undelivered_is r;
  accepted_is = a.accepted_is ∙ b.accepted_is;
}

-- One discard more on both sides.
pub discarded-reads : (f : ℕ) (t u : List Event) → ReadsSame t u → ReadsSame (discarded f ∷ t) (discarded f ∷ u)
discarded-reads f t u a = record {
  links_are = a.links_are;
  bound = a.bound;
  free_is = a.free_is;
  last_due_is = a.last_due_is;
  virtual_time_is = a.virtual_time_is;
  backlog_is = λ l g. ap (λ (q : List Accepted). cond (nat_eq f g) [] q) (a.backlog_is l g);
  last_finish_is = λ l g. ap {B = ℕ} (λ n. cond (nat_eq f g) 0 n) (a.last_finish_is l g);
  lost_is = λ g. uncounted (is_loss_of g) (discarded f) t refl ∙ a.lost_is g ∙ sym (uncounted (is_loss_of g) (discarded f) u refl);
  full_is = λ g. uncounted (is_refusal_of g) (discarded f) t refl ∙ a.full_is g ∙ sym (uncounted (is_refusal_of g) (discarded f) u refl);
  started_is = λ g. uncounted (is_start_of g) (discarded f) t refl ∙ a.started_is g ∙ sym (uncounted (is_start_of g) (discarded f) u refl);
  discarded_is = λ l g i. cond {A = ℕ} (nat_eq f g) (length (a.backlog_is l g i)) 0 + a.discarded_is l g i;
  active_is = λ g. ap (λ b. cond (nat_eq f g) false b) (a.active_is g);
  undelivered_is = a.undelivered_is;
  accepted_is = uncounted is_arrival (discarded f) t refl ∙ a.accepted_is ∙ sym (uncounted is_arrival (discarded f) u refl);
}

twice : {X : Type 0} (b c : Bool) (x y : X) → cond b x (cond c x y) ≡ cond c x (cond b x y)
twice true true x y = refl
twice true false x y = refl
twice false c x y = refl

-- Two discards in either order.
pub swapped-reads : (f g : ℕ) (t : List Event) → ReadsSame (discarded f ∷ discarded g ∷ t) (discarded g ∷ discarded f ∷ t)
swapped-reads f g t = record {
  links_are = refl;
  bound = refl;
  free_is = λ l. refl;
  last_due_is = λ r l. refl;
  virtual_time_is = λ l. refl;
  backlog_is = λ l h. twice (nat_eq f h) (nat_eq g h) [] (backlog l h t);
  last_finish_is = λ l h. twice (nat_eq f h) (nat_eq g h) 0 (last_finish_tag l h t);
  lost_is = λ h. same (is_loss_of h) refl refl;
  full_is = λ h. same (is_refusal_of h) refl refl;
  started_is = λ h. same (is_start_of h) refl refl;
  discarded_is = λ l h. counts (nat_eq f h) (nat_eq g h) (backlog l h t) (discarded_count l h t);
  active_is = λ h. twice (nat_eq f h) (nat_eq g h) false (is_active h t);
  undelivered_is = λ r. refl;
  accepted_is = same is_arrival refl refl;
}
  where
    same : (test : Event → Bool) → test (discarded f) ≡ false → test (discarded g) ≡ false → count_by test (discarded f ∷ discarded g ∷ t) ≡ count_by test (discarded g ∷ discarded f ∷ t)
    same test fails fails' =
        uncounted test (discarded f) (discarded g ∷ t) fails ∙ uncounted test (discarded g) t fails'
        ∙ sym (uncounted test (discarded g) (discarded f ∷ t) fails' ∙ uncounted test (discarded f) t fails)

    counts : (b c : Bool) (q : List Accepted) (n : ℕ) → cond b (length (cond c [] q)) 0 + (cond c (length q) 0 + n) ≡ cond c (length (cond b [] q)) 0 + (cond b (length q) 0 + n)
    counts true true q n = refl
    counts true false q n = omega arith
    counts false true q n = omega arith
    counts false false q n = refl

-- A discard made twice.
pub once-reads : (f : ℕ) (t : List Event) → ReadsSame (discarded f ∷ discarded f ∷ t) (discarded f ∷ t)
once-reads f t = record {
  links_are = refl;
  bound = refl;
  free_is = λ l. refl;
  last_due_is = λ r l. refl;
  virtual_time_is = λ l. refl;
  backlog_is = λ l h. again (nat_eq f h) [] (backlog l h t);
  last_finish_is = λ l h. again (nat_eq f h) 0 (last_finish_tag l h t);
  lost_is = λ h. uncounted (is_loss_of h) (discarded f) (discarded f ∷ t) refl;
  full_is = λ h. uncounted (is_refusal_of h) (discarded f) (discarded f ∷ t) refl;
  started_is = λ h. uncounted (is_start_of h) (discarded f) (discarded f ∷ t) refl;
  discarded_is = λ l h. counts (nat_eq f h) (backlog l h t) (discarded_count l h t);
  active_is = λ h. again (nat_eq f h) false (is_active h t);
  undelivered_is = λ r. refl;
  accepted_is = uncounted is_arrival (discarded f) (discarded f ∷ t) refl;
}
  where
    again : {X : Type 0} (b : Bool) (x y : X) → cond b x (cond b x y) ≡ cond b x y
    again true x y = refl
    again false x y = refl

    counts : (b : Bool) (q : List Accepted) (n : ℕ) → cond b (length (cond b [] q)) 0 + (cond b (length q) 0 + n) ≡ cond b (length q) 0 + n
    counts true q n = omega arith
    counts false q n = omega arith

-- ---- Before the discard of all flows that a delete reaches, one of them makes no difference

reached-reads : (command : Command) (from : ℕ) (keys : List FlowKey) (t u : List Event) → ReadsSame t u → ReadsSame (discard_reached command from keys t) (discard_reached command from keys u)
reached-reads command from [] t u a = a
reached-reads command from (key ∷ keys) t u a = reached-reads command (from + 1) keys _ _ (by (reaches command key))
  where
    by : (b : Bool) → ReadsSame (cond b (discarded from ∷ t) t) (cond b (discarded from ∷ u) u)
    by true = discarded-reads from t u a
    by false = a

pub reached-once : (command : Command) (from place : ℕ) (key : FlowKey) (keys : List FlowKey) (t : List Event) → slice_get keys place ≡ Some key → reaches command key ≡ true
    → ReadsSame (discard_reached command from keys (discarded (from + place) ∷ t)) (discard_reached command from keys t)
reached-once command from place key [] t there reaches-it = absurd cc
reached-once command from zero key (k ∷ keys) t there reaches-it =
    let is : k ≡ key = cc in
    let here : reaches command k ≡ true = ap (reaches command) is ∙ reaches-it in
    let same : from + 0 ≡ from = omega arith in
    subst (λ (x : Bool × ℕ). ReadsSame (discard_reached command (from + 1) keys (cond x.0 (discarded from ∷ discarded x.1 ∷ t) (discarded x.1 ∷ t)))
    (discard_reached command (from + 1) keys (cond x.0 (discarded from ∷ t) t)))
    (λ i. (sym here i, sym same i)) (reached-reads command (from + 1) keys _ _ (once-reads from t))
reached-once command from (suc place) key (k ∷ keys) t there reaches-it =
    let next : from + suc place ≡ from + 1 + place = omega arith in
    let here : ReadsSame (cond (reaches command k) (discarded from ∷ discarded (from + suc place) ∷ t) (discarded (from + suc place) ∷ t))
    (discarded (from + suc place) ∷ cond (reaches command k) (discarded from ∷ t) t) = by (reaches command k) in
    let rest = reached-once command (from + 1) place key keys (cond (reaches command k) (discarded from ∷ t) t) there reaches-it in
    then-reads _ _ _ (reached-reads command (from + 1) keys _ _ here)
    (subst (λ n. ReadsSame (discard_reached command (from + 1) keys (discarded n ∷ cond (reaches command k) (discarded from ∷ t) t))
    (discard_reached command (from + 1) keys (cond (reaches command k) (discarded from ∷ t) t))) (sym next) rest)
  where
    by : (b : Bool) → ReadsSame (cond b (discarded from ∷ discarded (from + suc place) ∷ t) (discarded (from + suc place) ∷ t)) (discarded (from + suc place) ∷ cond b (discarded from ∷ t) t)
    by true = swapped-reads from (from + suc place) t
    by false = same-reads _

-- ---- The parts agree with each trace that reads the same

waiting-reads : (l : Link) (t u : List Event) → ReadsSame t u → waiting l t ≡ waiting l u
waiting-reads l t u r i = total (r.bound i) (λ flow. r.backlog_is l flow i)

pub agrees-same : (rule : Rule) (accepted : ℕ) (keys : List FlowKey) (homes : List Home) (views : List LinkView) (flows : List FlowState) (pending : List Delivery) (more : List Link)
    (t u : List Event) → ReadsSame t u → IsAt rule accepted keys homes views flows pending more t → IsAt rule accepted keys homes views flows pending more u
agrees-same rule accepted keys homes views flows pending more t u r a = record {
  links_are = a.links_are ∙ ap (λ (ls : List Link). ls ++ more) r.links_are;
  distinct = a.distinct;
  views_are = λ k v e. let b = a.views_are k v e in record {
    free_is = b.free_is ∙ r.free_is v.link;
    last_due_is = b.last_due_is ∙ r.last_due_is rule v.link;
    waits_are = b.waits_are ∙ waiting-reads v.link t u r;
    schedule_is = λ pipe is. let c = b.schedule_is pipe is in record {
      virtual_time_is = c.virtual_time_is ∙ r.virtual_time_is v.link;
      slots_are = λ slot g eg. let s = c.slots_are slot g eg in record {
        backlog_is = s.backlog_is ∙ ap (λ (q : List Accepted). map (slotted slot) (stamped_of q)) (r.backlog_is v.link g);
        last_finish_is = s.last_finish_is ∙ r.last_finish_is v.link g;
      };
      beyond = c.beyond;
    };
    ascends = b.ascends;
    below = b.below;
  };
  untouched = λ l e. let n = a.untouched l (ap (λ (ls : List Link). list_any (link_eq l) ls) r.links_are ∙ e) in record {
    free_is = sym (r.free_is l) ∙ n.free_is;
    last_due_is = sym (r.last_due_is rule l) ∙ n.last_due_is;
    virtual_time_is = sym (r.virtual_time_is l) ∙ n.virtual_time_is;
  };
  flows_are = λ g. let b = a.flows_are g in record {
    backlog_is = b.backlog_is ∙ ap (λ (q : List Accepted). map as_queued q) (r.backlog_is (home keys g) g);
    lost_is = b.lost_is ∙ r.lost_is g;
    full_is = b.full_is ∙ r.full_is g;
    started_is = b.started_is ∙ r.started_is g;
    discarded_is = b.discarded_is ∙ r.discarded_is (home keys g) g;
    active_is = b.active_is ∙ r.active_is g;
  };
  as_many = a.as_many;
  elsewhere = λ g l e. sym (r.backlog_is l g) ∙ a.elsewhere g l e;
  bound = let b = a.bound in let s = r.bound in omega arith;
  homes_are = a.homes_are;
  as_many_homes = a.as_many_homes;
  slots_home = a.slots_home;
  pending_is = a.pending_is ∙ r.undelivered_is rule;
  accepted_is = a.accepted_is ∙ r.accepted_is;
}

-- ---- A flow that isn't active has nothing to reset

idle-backlog : (l : Link) (flow : ℕ) (t : List Event) → is_active flow t ≡ false → backlog l flow t ≡ []
idle-backlog l flow [] e = refl
idle-backlog l flow (opened m ∷ t) e = idle-backlog l flow t e
idle-backlog l flow (lost m f ∷ t) e = idle-backlog l flow t e
idle-backlog l flow (refused m f ∷ t) e = idle-backlog l flow t e
idle-backlog l flow (collected at ∷ t) e = idle-backlog l flow t e
idle-backlog l flow (started s ∷ t) e = by (is_of l flow s.packet) (idle-backlog l flow t e)
  where
    by : (b : Bool) → backlog l flow t ≡ [] → cond b (drop 1 (backlog l flow t)) (backlog l flow t) ≡ []
    by true h = ap (λ (q : List Accepted). drop 1 q) h
    by false h = h
idle-backlog l flow (discarded f ∷ t) e = by (nat_eq f flow) e (idle-backlog l flow t)
  where
    by : (b : Bool) → cond b false (is_active flow t) ≡ false → (is_active flow t ≡ false → backlog l flow t ≡ []) → cond b [] (backlog l flow t) ≡ []
    by true h rest = refl
    by false h rest = rest h
idle-backlog l flow (arrived p ∷ t) e = by (nat_eq p.stamped.flow flow) refl e (idle-backlog l flow t)
  where
    by : (b : Bool) → nat_eq p.stamped.flow flow ≡ b → (b || is_active flow t) ≡ false → (is_active flow t ≡ false → backlog l flow t ≡ []) → backlog l flow (arrived p ∷ t) ≡ []
    by true n h rest = absurd cc
    by false n h rest = ap (λ c. cond c (backlog l flow t ++ p ∷ []) (backlog l flow t)) (and-no (link_eq p.link l) (nat_eq p.stamped.flow flow) n) ∙ rest h

idle-tag : (l : Link) (flow : ℕ) (t : List Event) → is_active flow t ≡ false → last_finish_tag l flow t ≡ 0
idle-tag l flow [] e = refl
idle-tag l flow (opened m ∷ t) e = by (link_eq m l) (idle-tag l flow t e)
  where
    by : (b : Bool) → last_finish_tag l flow t ≡ 0 → cond b 0 (last_finish_tag l flow t) ≡ 0
    by true h = refl
    by false h = h
idle-tag l flow (lost m f ∷ t) e = idle-tag l flow t e
idle-tag l flow (refused m f ∷ t) e = idle-tag l flow t e
idle-tag l flow (collected at ∷ t) e = idle-tag l flow t e
idle-tag l flow (started s ∷ t) e = idle-tag l flow t e
idle-tag l flow (discarded f ∷ t) e = by (nat_eq f flow) e (idle-tag l flow t)
  where
    by : (b : Bool) → cond b false (is_active flow t) ≡ false → (is_active flow t ≡ false → last_finish_tag l flow t ≡ 0) → cond b 0 (last_finish_tag l flow t) ≡ 0
    by true h rest = refl
    by false h rest = rest h
idle-tag l flow (arrived p ∷ t) e = by (nat_eq p.stamped.flow flow) refl e (idle-tag l flow t)
  where
    by : (b : Bool) → nat_eq p.stamped.flow flow ≡ b → (b || is_active flow t) ≡ false → (is_active flow t ≡ false → last_finish_tag l flow t ≡ 0) → last_finish_tag l flow (arrived p ∷ t) ≡ 0
    by true n h rest = absurd cc
    by false n h rest = ap {B = ℕ} (λ c. cond c p.stamped.finish_tag (last_finish_tag l flow t)) (and-no (link_eq p.link l) (nat_eq p.stamped.flow flow) n) ∙ rest h

-- So its discard changes no reading.
pub idle-reads : (f : ℕ) (t : List Event) → is_active f t ≡ false → ReadsSame t (discarded f ∷ t)
idle-reads f t idle = record {
  links_are = refl;
  bound = refl;
  free_is = λ l. refl;
  last_due_is = λ r l. refl;
  virtual_time_is = λ l. refl;
  backlog_is = λ l g. by (cases_eq f g) (λ (n : ℕ). backlog l n t) [] (idle-backlog l f t idle);
  last_finish_is = λ l g. by (cases_eq f g) (λ (n : ℕ). last_finish_tag l n t) 0 (idle-tag l f t idle);
  lost_is = λ g. sym (uncounted (is_loss_of g) (discarded f) t refl);
  full_is = λ g. sym (uncounted (is_refusal_of g) (discarded f) t refl);
  started_is = λ g. sym (uncounted (is_start_of g) (discarded f) t refl);
  discarded_is = λ l g. counts l g (cases_eq f g);
  active_is = λ g. by (cases_eq f g) (λ (n : ℕ). is_active n t) false idle;
  undelivered_is = λ r. refl;
  accepted_is = sym (uncounted is_arrival (discarded f) t refl);
}
  where
    by : {X : Type 0} {g : ℕ} → (f ≡ g) ⊎ (f ≡ g → ⊥) → (read : ℕ → X) (x : X) → read f ≡ x → read g ≡ cond (nat_eq f g) x (read g)
    by {g = g} (inl e) read x is = ap read (sym e) ∙ is ∙ sym (ap (λ b. cond b x (read g)) (eq-yes f g e))
    by {g = g} (inr ne) read x is = sym (ap (λ b. cond b x (read g)) (eq-no f g ne))

    counts : (l : Link) (g : ℕ) → (f ≡ g) ⊎ (f ≡ g → ⊥) → discarded_count l g t ≡ cond (nat_eq f g) (length (backlog l g t)) 0 + discarded_count l g t
    counts l g (inl e) =
        let none : length (backlog l g t) ≡ 0 = ap (λ (n : ℕ). length (backlog l n t)) (sym e) ∙ ap {B = ℕ} (λ (q : List Accepted). length q) (idle-backlog l f t idle) in
        let here = ap {B = ℕ} (λ b. cond b (length (backlog l g t)) 0) (eq-yes f g e) in
        omega arith
    counts l g (inr ne) = let there = ap {B = ℕ} (λ b. cond b (length (backlog l g t)) 0) (eq-no f g ne) in omega arith

-- Nor do those of all flows that a delete reaches, where none is active.
pub none-active-reads : (command : Command) (from : ℕ) (keys : List FlowKey) (t : List Event)
    → ((place : ℕ) (key : FlowKey) → slice_get keys place ≡ Some key → reaches command key ≡ true → is_active (from + place) t ≡ false) → ReadsSame t (discard_reached command from keys t)
none-active-reads command from [] t idle = same-reads t
none-active-reads command from (key ∷ keys) t idle = by (reaches command key) refl (λ u h. none-active-reads command (from + 1) keys u h)
  where
    next : (place : ℕ) → from + suc place ≡ from + 1 + place
    next place = omega arith

    by : (b : Bool) → reaches command key ≡ b → ((u : List Event) → ((place : ℕ) (k : FlowKey) → slice_get keys place ≡ Some k → reaches command k ≡ true
        → is_active (from + 1 + place) u ≡ false) → ReadsSame u (discard_reached command (from + 1) keys u))
        → ReadsSame t (discard_reached command (from + 1) keys (cond b (discarded from ∷ t) t))
    by true holds rest =
        let same : from + 0 ≡ from = omega arith in
        let here : is_active from t ≡ false = ap (λ (n : ℕ). is_active n t) (sym same) ∙ idle 0 key refl holds in
        let r = idle-reads from t here in
        then-reads _ _ _ r (rest (discarded from ∷ t) (λ place k e h. sym (r.active_is (from + 1 + place)) ∙ ap (λ (n : ℕ). is_active n t) (sym (next place)) ∙ idle (suc place) k e h))
    by false fails rest = rest t (λ place k e h. ap (λ (n : ℕ). is_active n t) (sym (next place)) ∙ idle (suc place) k e h)
