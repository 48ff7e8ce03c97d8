-- What is read off a trace is determined: two families of readings that obey the laws are the same, if at first the same waits.
use Rattle.dn_laws.proofs.Words.{Bool, List, [], and-left, and-right, and_from, ap, arith, drop, eq-eqb, eqb-true, false, inl, inr, leb_tells, link_eq-refl, link_eq-true, map, max, nat_eq, refl}
use Rattle.dn_laws.proofs.Words.{subst, suc, sum, sym, take, true, zero, ℕ, ⊎_elim, ◌*◌, ◌++◌, ◌+◌, ◌/◌, ◌∙◌, ◌∷◌, ◌≡◌, ◌≢◌, ◌≤◌, ◌⊎◌}
use Rattle.dn_laws.proofs.LawWords.{Readings, AreReadings, IsOf, IsFirst, IsRaised, GrowsBy, weights, IsDueBy, IsNoStart, IsNoOpening, IsApart, Link, link_eq, is_of, Accepted, Start, Event, opened}
use Rattle.dn_laws.proofs.LawWords.{arrived, started, lost, refused, discarded, collected, Rule}
use Rattle.dn_laws.proofs.ToldDeliveries.{one-due}

pub decided : {A : Type 0} (b : Bool) → (b ≡ true → A) → (A → b ≡ true) → A ⊎ (A → ⊥)
decided true forth back = inl (forth refl)
decided false forth back = inr (λ a. let t : false ≡ true = back a in absurd cc)

pub same-link : (a b : Link) → (a ≡ b) ⊎ (a ≢ b)
same-link a b = decided (link_eq a b) (link_eq-true a b) (λ e. ap (λ (l : Link). link_eq a l) (sym e) ∙ link_eq-refl a)

pub same-number : (a b : ℕ) → (a ≡ b) ⊎ (a ≢ b)
same-number a b = decided (nat_eq a b) (eqb-true a b) (eq-eqb a b)

pub is-of : (link : Link) (flow : ℕ) (p : Accepted) → IsOf link flow p ⊎ (IsOf link flow p → ⊥)
is-of link flow p = decided (is_of link flow p)
    (λ t. (link_eq-true p.link link (and-left (link_eq p.link link) (nat_eq p.stamped.flow flow) t), eqb-true p.stamped.flow flow (and-right (link_eq p.link link) (nat_eq p.stamped.flow flow) t)))
    (λ h. and_from (link_eq p.link link) (nat_eq p.stamped.flow flow) (ap (λ (l : Link). link_eq l link) h.0 ∙ link_eq-refl link) (eq-eqb p.stamped.flow flow h.1))

pub weights-above : (q : ℕ → List Accepted) (n m : ℕ) → n ≤ m → ((flow : ℕ) → n ≤ flow → q flow ≡ []) → weights q m ≡ weights q n
weights-above q n zero le none = let same : zero ≡ n = omega (arith, le) in ap (weights q) same
weights-above q n (suc m) le none = ⊎_elim
    (λ low. ap (λ (ps : List Accepted). weights q m + sum (map (λ p. p.stamped.weight) (take 1 ps))) (none m low.1) ∙ plus (weights q m) ∙ weights-above q n m low.1 none)
    (λ high. let same : suc m ≡ n = omega (arith, le, high.1) in ap (weights q) same)
    (leb_tells n m)
  where
    plus : (k : ℕ) → k + sum [] ≡ k
    plus k = omega arith

pub weights-one : (q : ℕ → List Accepted) (n m : ℕ) → ((flow : ℕ) → n ≤ flow → q flow ≡ []) → ((flow : ℕ) → m ≤ flow → q flow ≡ []) → weights q n ≡ weights q m
weights-one q n m above beyond = ⊎_elim (λ low. sym (weights-above q n m low.1 above)) (λ high. weights-above q m n (omega (arith, high.1)) beyond) (leb_tells n m)

pub raised-most : (r s : Readings) (link : Link) (trace : List Event) (a b : ℕ) → ((flow : ℕ) → r.queue link flow trace ≡ s.queue link flow trace) →
    r.virtual_time link trace ≡ s.virtual_time link trace → IsRaised r link trace a → IsRaised s link trace b → a ≤ b
raised-most r s link trace a b queues same A B = ⊎_elim
    (λ (some : (p : Accepted) × IsFirst s link trace p × (p.stamped.start_tag ≤ b)).
    let p = some.0 in
    let most : a ≤ max (r.virtual_time link trace) p.stamped.start_tag = A.no_further p (some.1.0, queues p.stamped.flow ∙ some.1.1) in
    let reached : p.stamped.start_tag ≤ b = some.2 in
    let rises : s.virtual_time link trace ≤ b = B.rises in
    omega (arith, most, reached, rises, same))
    (λ (none : ((flow : ℕ) → s.queue link flow trace ≡ []) × (b ≡ s.virtual_time link trace)). ⊎_elim
    (λ (some : (p : Accepted) × IsFirst r link trace p × (p.stamped.start_tag ≤ a)).
    let e : some.0 ∷ some.1.0 ≡ [] = sym some.1.1 ∙ queues some.0.stamped.flow ∙ none.0 some.0.stamped.flow in absurd cc)
    (λ (other : ((flow : ℕ) → r.queue link flow trace ≡ []) × (a ≡ r.virtual_time link trace)). let x = other.1 in let y = none.1 in omega (arith, x, y, same))
    A.far_enough)
    B.far_enough

pub raised-one : (r s : Readings) (link : Link) (trace : List Event) (a b : ℕ) → ((flow : ℕ) → r.queue link flow trace ≡ s.queue link flow trace) →
    r.virtual_time link trace ≡ s.virtual_time link trace → IsRaised r link trace a → IsRaised s link trace b → a ≡ b
raised-one r s link trace a b queues same A B =
    let one : a ≤ b = raised-most r s link trace a b queues same A B in
    let other : b ≤ a = raised-most s r link trace b a (λ flow. sym (queues flow)) (sym same) B A in
    omega (arith, one, other)

module _ (rule : Rule) (r s : Readings) (R : AreReadings rule r) (S : AreReadings rule s) (at_first : (link : Link) (flow : ℕ) → r.queue link flow [] ≡ s.queue link flow []) where
  pub same-queue : (link : Link) (flow : ℕ) (trace : List Event) → r.queue link flow trace ≡ s.queue link flow trace
  same-queue link flow [] = at_first link flow
  same-queue link flow (arrived p ∷ t) = ⊎_elim
      (λ is. R.queue_arrives link flow p t is ∙ ap (λ (q : List Accepted). q ++ p ∷ []) (same-queue link flow t) ∙ sym (S.queue_arrives link flow p t is))
      (λ not'. R.queue_stays link flow (arrived p) t not' ∙ same-queue link flow t ∙ sym (S.queue_stays link flow (arrived p) t not'))
      (is-of link flow p)
  same-queue link flow (started st ∷ t) = ⊎_elim
      (λ is. R.queue_starts link flow st t is ∙ ap (λ (q : List Accepted). drop 1 q) (same-queue link flow t) ∙ sym (S.queue_starts link flow st t is))
      (λ not'. R.queue_stays link flow (started st) t not' ∙ same-queue link flow t ∙ sym (S.queue_stays link flow (started st) t not'))
      (is-of link flow st.packet)
  same-queue link flow (discarded g ∷ t) = ⊎_elim
      (λ is. subst (λ (n : ℕ). r.queue link flow (discarded n ∷ t) ≡ s.queue link flow (discarded n ∷ t)) (sym is) (R.queue_ends link flow t ∙ sym (S.queue_ends link flow t)))
      (λ not'. R.queue_stays link flow (discarded g) t not' ∙ same-queue link flow t ∙ sym (S.queue_stays link flow (discarded g) t not'))
      (same-number g flow)
  same-queue link flow (opened l ∷ t) = R.queue_stays link flow (opened l) t tt ∙ same-queue link flow t ∙ sym (S.queue_stays link flow (opened l) t tt)
  same-queue link flow (lost l g ∷ t) = R.queue_stays link flow (lost l g) t tt ∙ same-queue link flow t ∙ sym (S.queue_stays link flow (lost l g) t tt)
  same-queue link flow (refused l g ∷ t) = R.queue_stays link flow (refused l g) t tt ∙ same-queue link flow t ∙ sym (S.queue_stays link flow (refused l g) t tt)
  same-queue link flow (collected at ∷ t) = R.queue_stays link flow (collected at) t tt ∙ same-queue link flow t ∙ sym (S.queue_stays link flow (collected at) t tt)

  free-kept : (link : Link) (e : Event) (t : List Event) → IsNoStart link e → r.free link t ≡ s.free link t → r.free link (e ∷ t) ≡ s.free link (e ∷ t)
  free-kept link e t h same = R.free_stays link e t h ∙ same ∙ sym (S.free_stays link e t h)

  pub same-free : (link : Link) (trace : List Event) → r.free link trace ≡ s.free link trace
  same-free link [] = R.free_begins link ∙ sym (S.free_begins link)
  same-free link (started st ∷ t) = ⊎_elim
      (λ is. subst (λ (l : Link). r.free l (started st ∷ t) ≡ s.free l (started st ∷ t)) is (R.free_starts st t ∙ sym (S.free_starts st t)))
      (λ not'. free-kept link (started st) t not' (same-free link t))
      (same-link st.packet.link link)
  same-free link (opened l ∷ t) = free-kept link (opened l) t tt (same-free link t)
  same-free link (arrived p ∷ t) = free-kept link (arrived p) t tt (same-free link t)
  same-free link (lost l g ∷ t) = free-kept link (lost l g) t tt (same-free link t)
  same-free link (refused l g ∷ t) = free-kept link (refused l g) t tt (same-free link t)
  same-free link (discarded g ∷ t) = free-kept link (discarded g) t tt (same-free link t)
  same-free link (collected at ∷ t) = free-kept link (collected at) t tt (same-free link t)

  due-kept : (link : Link) (e : Event) (t : List Event) → IsNoStart link e → r.last_due link t ≡ s.last_due link t → r.last_due link (e ∷ t) ≡ s.last_due link (e ∷ t)
  due-kept link e t h same = R.due_stays link e t h ∙ same ∙ sym (S.due_stays link e t h)

  due-started : (st : Start) (t : List Event) → r.last_due st.packet.link t ≡ s.last_due st.packet.link t → r.last_due st.packet.link (started st ∷ t) ≡ s.last_due st.packet.link (started st ∷ t)
  due-started st t same = one-due rule st (s.last_due st.packet.link t) (r.last_due st.packet.link (started st ∷ t)) (s.last_due st.packet.link (started st ∷ t))
      (subst (λ (n : ℕ). IsDueBy rule st n (r.last_due st.packet.link (started st ∷ t))) same (R.due_starts st t)) (S.due_starts st t)

  pub same-due : (link : Link) (trace : List Event) → r.last_due link trace ≡ s.last_due link trace
  same-due link [] = R.due_begins link ∙ sym (S.due_begins link)
  same-due link (started st ∷ t) = ⊎_elim
      (λ is. subst (λ (l : Link). r.last_due l (started st ∷ t) ≡ s.last_due l (started st ∷ t)) is (due-started st t (same-due st.packet.link t)))
      (λ not'. due-kept link (started st) t not' (same-due link t))
      (same-link st.packet.link link)
  same-due link (opened l ∷ t) = due-kept link (opened l) t tt (same-due link t)
  same-due link (arrived p ∷ t) = due-kept link (arrived p) t tt (same-due link t)
  same-due link (lost l g ∷ t) = due-kept link (lost l g) t tt (same-due link t)
  same-due link (refused l g ∷ t) = due-kept link (refused l g) t tt (same-due link t)
  same-due link (discarded g ∷ t) = due-kept link (discarded g) t tt (same-due link t)
  same-due link (collected at ∷ t) = due-kept link (collected at) t tt (same-due link t)

  tag-kept : (link : Link) (flow : ℕ) (e : Event) (t : List Event) → IsApart link flow e → r.last_finish_tag link flow t ≡ s.last_finish_tag link flow t → r.last_finish_tag link flow (e ∷ t) ≡ s.last_finish_tag link flow (e ∷ t)
  tag-kept link flow e t h same = R.tag_stays link flow e t h ∙ same ∙ sym (S.tag_stays link flow e t h)

  pub same-tag : (link : Link) (flow : ℕ) (trace : List Event) → r.last_finish_tag link flow trace ≡ s.last_finish_tag link flow trace
  same-tag link flow [] = R.tag_begins link flow ∙ sym (S.tag_begins link flow)
  same-tag link flow (opened l ∷ t) = ⊎_elim
      (λ is. subst (λ (m : Link). r.last_finish_tag link flow (opened m ∷ t) ≡ s.last_finish_tag link flow (opened m ∷ t)) (sym is) (R.tag_opens link flow t ∙ sym (S.tag_opens link flow t)))
      (λ not'. tag-kept link flow (opened l) t not' (same-tag link flow t))
      (same-link l link)
  same-tag link flow (arrived p ∷ t) = ⊎_elim
      (λ is. R.tag_arrives link flow p t is ∙ sym (S.tag_arrives link flow p t is))
      (λ not'. tag-kept link flow (arrived p) t (λ on of'. not' (on, of')) (same-tag link flow t))
      (is-of link flow p)
  same-tag link flow (discarded g ∷ t) = ⊎_elim
      (λ is. subst (λ (n : ℕ). r.last_finish_tag link flow (discarded n ∷ t) ≡ s.last_finish_tag link flow (discarded n ∷ t)) (sym is) (R.tag_ends link flow t ∙ sym (S.tag_ends link flow t)))
      (λ not'. tag-kept link flow (discarded g) t not' (same-tag link flow t))
      (same-number g flow)
  same-tag link flow (started st ∷ t) = tag-kept link flow (started st) t tt (same-tag link flow t)
  same-tag link flow (lost l g ∷ t) = tag-kept link flow (lost l g) t tt (same-tag link flow t)
  same-tag link flow (refused l g ∷ t) = tag-kept link flow (refused l g) t tt (same-tag link flow t)
  same-tag link flow (collected at ∷ t) = tag-kept link flow (collected at) t tt (same-tag link flow t)

  grow : (st : Start) (t : List Event) → r.virtual_time st.packet.link t ≡ s.virtual_time st.packet.link t → GrowsBy r st.packet.link t st → GrowsBy s st.packet.link t st →
      r.virtual_time st.packet.link (started st ∷ t) ≡ s.virtual_time st.packet.link (started st ∷ t)
  grow st t same G H =
      let link = st.packet.link in
      let to : G.to ≡ H.to = raised-one r s link t G.to H.to (λ flow. same-queue link flow t) same G.raised H.raised in
      let queues : (λ (flow : ℕ). r.queue link flow t) ≡ (λ (flow : ℕ). s.queue link flow t) = λ i flow. same-queue link flow t i in
      let sums : weights (λ flow. r.queue link flow t) G.bound ≡ weights (λ flow. s.queue link flow t) H.bound =
      ap (λ (q : ℕ → List Accepted). weights q G.bound) queues
      ∙ weights-one (λ flow. s.queue link flow t) G.bound H.bound (λ flow h. sym (same-queue link flow t) ∙ G.all flow h) H.all in
      G.grown ∙ (λ i. to i + st.packet.stamped.len * 65536 / sums i) ∙ sym H.grown

  virtual-kept : (link : Link) (e : Event) (t : List Event) → IsNoStart link e → IsNoOpening link e → r.virtual_time link t ≡ s.virtual_time link t → r.virtual_time link (e ∷ t) ≡ s.virtual_time link (e ∷ t)
  virtual-kept link e t h k same = R.virtual_stays link e t h k ∙ same ∙ sym (S.virtual_stays link e t h k)

  pub same-virtual : (link : Link) (trace : List Event) → r.virtual_time link trace ≡ s.virtual_time link trace
  same-virtual link [] = R.virtual_begins link ∙ sym (S.virtual_begins link)
  same-virtual link (started st ∷ t) = ⊎_elim
      (λ is. subst (λ (l : Link). r.virtual_time l (started st ∷ t) ≡ s.virtual_time l (started st ∷ t)) is (grow st t (same-virtual st.packet.link t) (R.virtual_grows st t) (S.virtual_grows st t)))
      (λ not'. virtual-kept link (started st) t not' tt (same-virtual link t))
      (same-link st.packet.link link)
  same-virtual link (opened l ∷ t) = ⊎_elim
      (λ is. subst (λ (m : Link). r.virtual_time link (opened m ∷ t) ≡ s.virtual_time link (opened m ∷ t)) (sym is) (R.virtual_opens link t ∙ sym (S.virtual_opens link t)))
      (λ not'. virtual-kept link (opened l) t tt not' (same-virtual link t))
      (same-link l link)
  same-virtual link (arrived p ∷ t) = virtual-kept link (arrived p) t tt tt (same-virtual link t)
  same-virtual link (lost l g ∷ t) = virtual-kept link (lost l g) t tt tt (same-virtual link t)
  same-virtual link (refused l g ∷ t) = virtual-kept link (refused l g) t tt tt (same-virtual link t)
  same-virtual link (discarded g ∷ t) = virtual-kept link (discarded g) t tt tt (same-virtual link t)
  same-virtual link (collected at ∷ t) = virtual-kept link (collected at) t tt tt (same-virtual link t)

  pub same-readings : r ≡ s
  same-readings = λ i. record {
    queue = λ link flow trace. same-queue link flow trace i;
    free = λ link trace. same-free link trace i;
    last_due = λ link trace. same-due link trace i;
    virtual_time = λ link trace. same-virtual link trace i;
    last_finish_tag = λ link flow trace. same-tag link flow trace i;
  }
