-- The queues in the store after a packet joined one of them.
use Rattle.dn_flows.proofs.Words.{Appends, FlowQueue, IsChain, IsQueue, List, Packets, Some, StoredPacket, Waiting, [], ap, arith, cond, get, inl, inr, key_after, nat_eq, option_map, refl}
use Rattle.dn_flows.proofs.Words.{stored_or, subst, suc, sym, waiting_from, with_next, zero, ℕ, ◌++◌, ◌+◌, ◌∙◌, ◌∷◌, ◌≡◌, ◌≢◌, ◌⊎◌}
use Rattle.dn_flows.proofs.Places.{eq-yes, eq-no}
use Rattle.dn_flows.proofs.Chains.{Stay, chain-end, not-free}

module _ (owner behind : ℕ → ℕ) (old new : Packets) (w : Waiting) (q q' : FlowQueue) (flow : ℕ) (a : Appends w old q new q') (is : IsQueue owner behind old flow q) where
  -- The packet is the flow's own, and each of the flow's others has one more behind it.
  abbrev pub owner-appended : ℕ → ℕ
  owner-appended key = cond (nat_eq key a.key) flow (owner key)

  abbrev pub behind-appended : ℕ → ℕ
  behind-appended key = cond (nat_eq key a.key) 0 (cond (nat_eq (owner key) flow) (suc (behind key)) (behind key))

  owner-of-new : owner-appended a.key ≡ flow
  owner-of-new = ap (λ b. cond b flow (owner a.key)) (eq-yes a.key a.key refl)

  behind-of-new : behind-appended a.key ≡ 0
  behind-of-new = ap (λ b. cond b 0 (cond (nat_eq (owner a.key) flow) (suc (behind a.key)) (behind a.key))) (eq-yes a.key a.key refl)

  owner-of-other : (key : ℕ) → (key ≡ a.key → ⊥) → owner-appended key ≡ owner key
  owner-of-other key ne = ap (λ b. cond b flow (owner key)) (eq-no key a.key ne)

  behind-of-own : (key : ℕ) → (key ≡ a.key → ⊥) → owner key ≡ flow → behind-appended key ≡ suc (behind key)
  behind-of-own key ne own =
      ap (λ b. cond b 0 (cond (nat_eq (owner key) flow) (suc (behind key)) (behind key))) (eq-no key a.key ne)
      ∙ ap (λ b. cond b (suc (behind key)) (behind key)) (eq-yes (owner key) flow own)

  behind-of-other : (key : ℕ) → (key ≡ a.key → ⊥) → (owner key ≡ flow → ⊥) → behind-appended key ≡ behind key
  behind-of-other key ne other =
      ap (λ b. cond b 0 (cond (nat_eq (owner key) flow) (suc (behind key)) (behind key))) (eq-no key a.key ne)
      ∙ ap (λ b. cond b (suc (behind key)) (behind key)) (eq-no (owner key) flow other)

  -- A chain with the packet behind its last one.
  record Longer (key n : ℕ) : Type 0 where
    chain : IsChain owner-appended behind-appended new flow key (suc (suc n))
    waiting : waiting_from new key (suc (suc n)) ≡ waiting_from old key (suc n) ++ w ∷ []
    last : key_after new key (suc n) ≡ a.key

  single : IsChain owner-appended behind-appended new flow a.key 1 × (waiting_from new a.key 1 ≡ w ∷ [])
  single = ((record { waiting = w; next = a.next }, a.put, owner-of-new, behind-of-new, tt), ap (λ (s : StoredPacket). s.waiting ∷ []) (ap stored_or a.put))

  longer : (key n m : ℕ) → q.len ≡ suc m → IsChain owner behind old flow key (suc n) → key_after old key n ≡ q.back → Longer key n
  longer key zero m some c at_back = record {
    chain = (record { waiting = (c.0).waiting; next = a.key }, now, owner-of-other key fresh ∙ c.2, behind-of-own key fresh c.2 ∙ ap suc c.3, single.0);
    waiting =
        ap (λ (s : StoredPacket). s.waiting ∷ waiting_from new s.next 1) (ap stored_or now)
        ∙ ap (λ (ws : List Waiting). (c.0).waiting ∷ ws) single.1
        ∙ sym (ap (λ (s : StoredPacket). s.waiting ∷ w ∷ []) (ap stored_or c.1));
    last = ap (λ (s : StoredPacket). s.next) (ap stored_or now);
  }
    where
      fresh : key ≡ a.key → ⊥
      fresh = not-free old a.key key c.0 a.free c.1

      now : get new key ≡ Some (record { waiting = (c.0).waiting; next = a.key })
      now = ap (get new) at_back ∙ a.named m some (λ e. fresh (at_back ∙ e)) ∙ ap (option_map (with_next a.key)) (ap (get old) (sym at_back) ∙ c.1)
  longer key (suc n) m some c at_back = step (λ before. longer (c.0).next n m some c.4 before)
    where
      fresh : key ≡ a.key → ⊥
      fresh = not-free old a.key key c.0 a.free c.1

      before : key_after old (c.0).next n ≡ q.back
      before = sym (ap (λ (s : StoredPacket). key_after old s.next n) (ap stored_or c.1)) ∙ at_back

      not_last : key ≡ q.back → ⊥
      not_last e =
          let end = chain-end owner behind old flow (c.0).next n c.4 in
          let none : behind key ≡ 0 = ap behind (e ∙ sym before) ∙ end.none_behind in
          absurd (omega arith)

      now : get new key ≡ Some c.0
      now = a.others key fresh (inr not_last) ∙ c.1

      step : (key_after old (c.0).next n ≡ q.back → Longer (c.0).next n) → Longer key (suc n)
      step next = record {
        chain = (c.0, now, owner-of-other key fresh ∙ c.2, behind-of-own key fresh c.2 ∙ ap suc c.3, rest.chain);
        waiting =
            ap (λ (s : StoredPacket). s.waiting ∷ waiting_from new s.next (suc (suc n))) (ap stored_or now)
            ∙ ap (λ (ws : List Waiting). (c.0).waiting ∷ ws) rest.waiting
            ∙ sym (ap (λ (s : StoredPacket). s.waiting ∷ waiting_from old s.next (suc n) ++ w ∷ []) (ap stored_or c.1));
        last = ap (λ (s : StoredPacket). key_after new s.next (suc n)) (ap stored_or now) ∙ rest.last;
      }
        where
          rest : Longer (c.0).next n
          rest = next before

  -- The queue after the packet joined it.
  pub record Appended : Type 0 where
    pub chain : IsChain owner-appended behind-appended new flow q'.front q'.len
    pub waiting : waiting_from new q'.front q'.len ≡ waiting_from old q.front q.len ++ w ∷ []
    pub last : (n : ℕ) → q'.len ≡ suc n → key_after new q'.front n ≡ q'.back

  pub appended : Appended
  appended = by q.len refl
    where
      by : (n : ℕ) → q.len ≡ n → Appended
      by zero none = record {
        chain = subst (λ (k : ℕ × ℕ). IsChain owner-appended behind-appended new flow k.0 k.1) (λ i. (sym first i, sym many i)) single.0;
        waiting = (λ i. waiting_from new (first i) (many i)) ∙ single.1 ∙ sym (ap (λ n. waiting_from old q.front n ++ w ∷ []) none);
        last = λ n e. let z : n ≡ 0 = (let k = many in omega arith) in ap (key_after new q'.front) z ∙ first ∙ sym back;
      }
        where
          many : q'.len ≡ 1
          many = ap (λ (x : FlowQueue). x.len) a.queue_is ∙ ap (λ n. n + 1) none

          first : q'.front ≡ a.key
          first = ap (λ (x : FlowQueue). x.front) a.queue_is ∙ ap (λ b. cond b a.key q.front) (eq-yes q.len 0 none)

          back : q'.back ≡ a.key
          back = ap (λ (x : FlowQueue). x.back) a.queue_is
      by (suc m) some = record {
        chain = subst (λ (k : ℕ × ℕ). IsChain owner-appended behind-appended new flow k.0 k.1) (λ i. (sym first i, sym many i)) more.chain;
        waiting = (λ i. waiting_from new (first i) (many i)) ∙ more.waiting ∙ sym (ap (λ n. waiting_from old q.front n ++ w ∷ []) some);
        last = λ n e. let z : n ≡ suc m = (let k = many in omega arith) in (λ i. key_after new (first i) (z i)) ∙ more.last ∙ sym back;
      }
        where
          many : q'.len ≡ suc (suc m)
          many = ap (λ (x : FlowQueue). x.len) a.queue_is ∙ (let k = some in let goal : q.len + 1 ≡ suc (suc m) = omega arith in goal)

          first : q'.front ≡ q.front
          first = ap (λ (x : FlowQueue). x.front) a.queue_is ∙ ap (λ b. cond b a.key q.front) (eq-no q.len 0 (λ e. let k = some in absurd (omega arith)))

          back : q'.back ≡ a.key
          back = ap (λ (x : FlowQueue). x.back) a.queue_is

          more : Longer q.front m
          more = longer q.front m m some (subst (λ n. IsChain owner behind old flow q.front n) some is.chain) (is.last m some)

  -- Any other flow's packets stay.
  pub others-stay-appended : (other n : ℕ) → (other ≡ flow → ⊥) → Stay owner behind owner-appended behind-appended old new other n
  others-stay-appended other n ne key stored held own lt = (a.others key fresh (by q.len refl) ∙ held, owner-of-other key fresh ∙ own, behind-of-other key fresh foreign)
    where
      fresh : key ≡ a.key → ⊥
      fresh = not-free old a.key key stored a.free held

      foreign : owner key ≡ flow → ⊥
      foreign e = ne (sym own ∙ e)

      by : (n : ℕ) → q.len ≡ n → (q.len ≡ 0) ⊎ (key ≢ q.back)
      by zero none = inl none
      by (suc m) some = inr (λ e.
          let end = chain-end owner behind old flow q.front m (subst (λ n. IsChain owner behind old flow q.front n) some is.chain) in
          foreign (ap owner (e ∙ sym (is.last m some)) ∙ end.own))
