-- In the trace of calls each busy period begins with no packet waiting, each packet is tagged behind its flow's last, and
-- each start is of its link's next packet.
use Rattle.dn_laws.proofs.Words.{All, All-drop, All-push, Bool, EachThatWaits, List, Some, [], and-left, and-right, ap, arith, backlog-above, cond, drop, eqb-true, false, leb_tells, length}
use Rattle.dn_laws.proofs.Words.{link_eq-true, nat_eq, refl, subst, sym, total-at, true, ℕ, ⊎_elim, ⊤, ◌*◌, ◌++◌, ◌+◌, ◌/◌, ◌<◌, ◌∙◌, ◌∷◌, ◌≡◌, ◌≤◌}
use Rattle.dn_laws.proofs.LawWords.{trace_of, link_of, Treatment, keys, key_of, flow_number, waiting, next_packet, last_finish_tag, Link, link_eq, Accepted, Event, opened, arrived, started, discarded}
use Rattle.dn_laws.proofs.LawWords.{is_of, backlog, flow_bound, Call, Submit}
use Rattle.dn_laws.proofs.Begun.{IsCaused, IsTaken, AllEvents, call-causes}
use Rattle.dn_laws.proofs.Shares.{tagged}

abbrev pub IsSound : Event → List Event → Type 0
IsSound (opened l) t = waiting l t ≡ 0
IsSound (arrived p) t = (0 < length (backlog p.link p.stamped.flow t) → p.stamped.start_tag ≡ last_finish_tag p.link p.stamped.flow t) × (p.stamped.start_tag ≤ p.stamped.finish_tag)
    × (p.stamped.finish_tag ≡ p.stamped.start_tag + p.stamped.len * 65536 / p.stamped.weight)
IsSound (started s) t = next_packet s.packet.link t ≡ Some s.packet
IsSound _ t = ⊤

abbrev pub IsSteady : List Event → Type 0
IsSteady [] = ⊤
IsSteady (e ∷ t) = IsSound e t × IsSteady t

sound-taken : (calls : List Call) (c : Call) (p : Accepted) (f : List Event) → IsTaken calls c p f → IsSound (arrived p) (f ++ trace_of calls)
sound-taken calls (Submit target packet moment) p f h =
    let how : Treatment = h.0 in
    let flow = flow_number (keys calls) (key_of target packet.tuple how) in
    let t = tagged (link_of target flow how.pipe) packet flow how (f ++ trace_of calls) in
    subst (λ (x : Accepted). IsSound (arrived x) (f ++ trace_of calls)) (sym h.2) (t.behind, (let cost = t.cost in omega arith), t.cost)
sound-taken calls _ p f h = absurd h

sound-of : (calls : List Call) (c : Call) (e : Event) (f : List Event) → IsCaused calls c e f → IsSound e (f ++ trace_of calls)
sound-of calls c (opened l) f h = h
sound-of calls c (arrived p) f h = sound-taken calls c p f h
sound-of calls c (started s) f h = h.picked
sound-of calls c _ f h = tt

steady-more : (calls : List Call) (c : Call) (f : List Event) → AllEvents (IsCaused calls c) (trace_of calls) f → IsSteady (trace_of calls) → IsSteady (f ++ trace_of calls)
steady-more calls c [] all h = h
steady-more calls c (e ∷ f) all h = (sound-of calls c e f all.0, steady-more calls c f all.1 h)

pub steady : (calls : List Call) → IsSteady (trace_of calls)
steady [] = tt
steady (c ∷ calls) = let h = call-causes calls c in subst IsSteady (sym h.1) (steady-more calls c h.0 h.2 (steady calls))

pub suffix-steady : (later t : List Event) → IsSteady (later ++ t) → IsSteady t
suffix-steady [] t h = h
suffix-steady (e ∷ later) t h = suffix-steady later t h.1

-- Each packet is tagged behind the one before it, and the last one's finish tag is the given.
abbrev pub IsChain : List Accepted → ℕ → Type 0
IsChain [] last = ⊤
IsChain (p ∷ []) last = p.stamped.finish_tag ≡ last
IsChain (p ∷ r ∷ q) last = (r.stamped.start_tag ≡ p.stamped.finish_tag) × IsChain (r ∷ q) last

chain-push : (q : List Accepted) (last : ℕ) (p : Accepted) → IsChain q last → (0 < length q → p.stamped.start_tag ≡ last) → IsChain (q ++ p ∷ []) p.stamped.finish_tag
chain-push [] last p h first = refl
chain-push (x ∷ []) last p h first = (first (omega arith) ∙ sym h, refl)
chain-push (x ∷ y ∷ q) last p h first = (h.0, chain-push (y ∷ q) last p h.1 (λ some. first (omega arith)))

chain-drop : (q : List Accepted) (last : ℕ) → IsChain q last → IsChain (drop 1 q) last
chain-drop [] last h = h
chain-drop (x ∷ []) last h = tt
chain-drop (x ∷ y ∷ q) last h = h.1

module _ (link : Link) (flow : ℕ) where
  none-waits : (t : List Event) → waiting link t ≡ 0 → backlog link flow t ≡ []
  none-waits t e = ⊎_elim (λ high. backlog-above link flow t high.1) (λ low. total-at (flow_bound t) (λ f. backlog link f t) flow low.1 e) (leb_tells (flow_bound t) flow)

  pub chain : (t : List Event) → IsSteady t → IsChain (backlog link flow t) (last_finish_tag link flow t)
  chain [] h = tt
  chain (opened l ∷ t) h = by (link_eq l link) refl (chain t h.1)
    where
      by : (b : Bool) → link_eq l link ≡ b → IsChain (backlog link flow t) (last_finish_tag link flow t) → IsChain (backlog link flow t) (cond b 0 (last_finish_tag link flow t))
      by true e rest = subst (λ (q : List Accepted). IsChain q 0) (sym (none-waits t (ap (λ (m : Link). waiting m t) (sym (link_eq-true l link e)) ∙ h.0))) tt
      by false e rest = rest
  chain (arrived p ∷ t) h = by (is_of link flow p) refl (chain t h.1)
    where
      by : (b : Bool) → is_of link flow p ≡ b → IsChain (backlog link flow t) (last_finish_tag link flow t) →
          IsChain (cond b (backlog link flow t ++ p ∷ []) (backlog link flow t)) (cond b p.stamped.finish_tag (last_finish_tag link flow t))
      by true e rest =
          let l = link_eq-true p.link link (and-left _ (nat_eq p.stamped.flow flow) e) in
          let f = eqb-true p.stamped.flow flow (and-right (link_eq p.link link) (nat_eq p.stamped.flow flow) e) in
          chain-push (backlog link flow t) (last_finish_tag link flow t) p rest (λ some. (h.0.0 (subst (λ (q : List Accepted). 0 < length q) (sym (λ i. backlog (l i) (f i) t)) some))
          ∙ (λ i. last_finish_tag (l i) (f i) t))
      by false e rest = rest
  chain (started s ∷ t) h = by (is_of link flow s.packet) (chain t h.1)
    where
      by : (b : Bool) → IsChain (backlog link flow t) (last_finish_tag link flow t) → IsChain (cond b (drop 1 (backlog link flow t)) (backlog link flow t)) (last_finish_tag link flow t)
      by true rest = chain-drop (backlog link flow t) (last_finish_tag link flow t) rest
      by false rest = rest
  chain (discarded g ∷ t) h = by (nat_eq g flow) (chain t h.1)
    where
      by : (b : Bool) → IsChain (backlog link flow t) (last_finish_tag link flow t) → IsChain (cond b [] (backlog link flow t)) (cond b 0 (last_finish_tag link flow t))
      by true rest = tt
      by false rest = rest
  chain (_ ∷ t) h = chain t h.1

  -- What holds of each arrival of the flow holds of each packet that waits.
  module _ (Q : Accepted → Type 0) where
    abbrev pub Arrive : List Event → Type 0
    Arrive [] = ⊤
    Arrive (arrived p ∷ t) = (is_of link flow p ≡ true → Q p) × Arrive t
    Arrive (_ ∷ t) = Arrive t

    none : All Q []
    none = λ k d lt. absurd (omega arith)

    push : (p : Accepted) (q : List Accepted) (b : Bool) → (b ≡ true → Q p) → All Q q → All Q (cond b (q ++ p ∷ []) q)
    push p q true e h = All-push Q q p h (e refl)
    push p q false e h = h

    less : (q : List Accepted) (b : Bool) → All Q q → All Q (cond b (drop 1 q) q)
    less q true h = All-drop Q 1 q h
    less q false h = h

    clear : (q : List Accepted) (b : Bool) → All Q q → All Q (cond b [] q)
    clear q true h = none
    clear q false h = h

    pub all-waiting : (t : List Event) → Arrive t → All Q (backlog link flow t)
    all-waiting [] h = none
    all-waiting (arrived p ∷ t) h = push p (backlog link flow t) (is_of link flow p) h.0 (all-waiting t h.1)
    all-waiting (started s ∷ t) h = less (backlog link flow t) (is_of link flow s.packet) (all-waiting t h)
    all-waiting (discarded g ∷ t) h = clear (backlog link flow t) (nat_eq g flow) (all-waiting t h)
    all-waiting (_ ∷ t) h = all-waiting t h

  abbrev pub IsPut : Accepted → Type 0
  IsPut p = p.stamped.start_tag ≤ p.stamped.finish_tag

  puts : (t : List Event) → IsSteady t → Arrive IsPut t
  puts [] h = tt
  puts (arrived p ∷ t) h = (λ e. h.0.1, puts t h.1)
  puts (_ ∷ t) h = puts t h.1

  -- Of each packet that waits the start tag is at most the finish tag.
  pub all-put : (t : List Event) → IsSteady t → All IsPut (backlog link flow t)
  all-put t h = all-waiting IsPut t (puts t h)

  -- What holds of each packet that waits in a stretch.
  module _ (Q : Accepted → Type 0) where
    pub waits-before : (stretch earlier : List Event) → EachThatWaits Q link flow stretch earlier → All Q (backlog link flow earlier)
    waits-before [] earlier h = h
    waits-before (arrived p ∷ stretch) earlier h = waits-before stretch earlier h.1
    waits-before (_ ∷ stretch) earlier h = waits-before stretch earlier h

    pub waits-after : (stretch earlier : List Event) → EachThatWaits Q link flow stretch earlier → All Q (backlog link flow (stretch ++ earlier))
    waits-after [] earlier h = h
    waits-after (arrived p ∷ stretch) earlier h = push Q p (backlog link flow (stretch ++ earlier)) (is_of link flow p) h.0 (waits-after stretch earlier h.1)
    waits-after (started s ∷ stretch) earlier h = less Q (backlog link flow (stretch ++ earlier)) (is_of link flow s.packet) (waits-after stretch earlier h)
    waits-after (discarded g ∷ stretch) earlier h = clear Q (backlog link flow (stretch ++ earlier)) (nat_eq g flow) (waits-after stretch earlier h)
    waits-after (_ ∷ stretch) earlier h = waits-after stretch earlier h

    pub waits-sooner : (e : Event) (stretch earlier : List Event) → EachThatWaits Q link flow (e ∷ stretch) earlier → EachThatWaits Q link flow stretch earlier
    waits-sooner (arrived p) stretch earlier h = h.1
    waits-sooner _ stretch earlier h = h
