-- Of two flows that wait throughout a stretch, one gets about what the other gets.
use Rattle.dn_laws.proofs.Words.{Accepted, All, All-map, Bool, CostsAtMost, EachThatWaits, Event, Link, List, None, Option, SharesFairly, Some, Stamped, Start, WaitsThroughout, [], and-left}
use Rattle.dn_laws.proofs.Words.{and-right, ap, arith, arrived, backlog, backlog-own, cond, discarded, drop, eqb-true, false, first-own, flow_bound, heads, heads-same, inl, inr, is_below, is_of}
use Rattle.dn_laws.proofs.Words.{last_finish_tag, length, link_eq, link_eq-true, link_heads, nat_eq, next-picked, next_packet, option_and_then, pick, refl, share, shared, slice_get, stamped-first}
use Rattle.dn_laws.proofs.Words.{stamped_of, started, subst, sym, true, virtual_time, ℕ, ◌++◌, ◌+◌, ◌-◌, ◌<◌, ◌∙◌, ◌∷◌, ◌≡◌, ◌≤◌, ◌⊎◌}
use Rattle.dn_laws.proofs.EachHead.{at-head, all-heads}
use Rattle.dn_laws.proofs.Rates.{shape}
use Rattle.dn_laws.proofs.Shares.{pick-is-fair}
use Rattle.dn_laws.proofs.Steady.{IsSteady, IsChain, steady, suffix-steady, chain, all-put, waits-before, waits-after, waits-sooner}

abbrev IsPut' : Accepted → Type 0
IsPut' p = p.stamped.start_tag ≤ p.stamped.finish_tag

module _ (pipe : ℕ) where
  abbrev link : Link
  link = shared pipe

  pub fair-start : (t : List Event) (p : Accepted) (flow : ℕ) (x : Accepted) → IsSteady t → next_packet link t ≡ Some p → slice_get (backlog link flow t) 0 ≡ Some x →
      p.stamped.start_tag ≤ x.stamped.finish_tag
  fair-start t p flow x h next first =
      let fair = pick-is-fair (virtual_time (shared pipe) t) (link_heads (shared pipe) t) p.stamped (next-picked pipe t p next) put in
      let over = subst (All (λ (z : Stamped). p.stamped.start_tag ≤ z.finish_tag)) (sym heads_are) fair in
      let low = is_below (shared pipe) flow (record { packet = x; moment = 0; transmission = 0; delay = 0 }) t first in
      at-head (λ (z : Stamped). p.stamped.start_tag ≤ z.finish_tag) (flow_bound t) (λ f. stamped_of (backlog (shared pipe) f t)) flow x.stamped low
      (stamped-first (backlog (shared pipe) flow t) x first) over
    where
      heads_are : heads (flow_bound t) (λ f. stamped_of (backlog (shared pipe) f t)) ≡ link_heads (shared pipe) t
      heads_are = heads-same (flow_bound t) (λ f. stamped_of (backlog (shared pipe) f t)) (λ f. backlog (shared pipe) f t) (λ f. refl)

      put : All (λ (y : Stamped). y.start_tag ≤ y.finish_tag) (link_heads (shared pipe) t)
      put = All-map (λ (y : Stamped). y.start_tag ≤ y.finish_tag) (λ (a : Accepted). a.stamped) (heads (flow_bound t) (λ f. backlog (shared pipe) f t))
          (all-heads (λ (a : Accepted). a.stamped.start_tag ≤ a.stamped.finish_tag) (flow_bound t)
          (λ f. backlog (shared pipe) f t) (λ f. all-put (shared pipe) f t h))

  some-first : (q : List Accepted) → 0 < length q → (p : Accepted) × (slice_get q 0 ≡ Some p)
  some-first [] h = absurd (omega arith)
  some-first (p ∷ q) h = (p, refl)

  now : (flow : ℕ) (stretch earlier : List Event) → WaitsThroughout link flow stretch earlier → 0 < length (backlog link flow (stretch ++ earlier))
  now flow [] earlier h = h
  now flow (e ∷ stretch) earlier h = h.0

  pushed : (b : Bool) (q : List Accepted) (a p r : Accepted) → slice_get q 0 ≡ Some p → slice_get (cond b (q ++ a ∷ []) q) 0 ≡ Some r → r ≡ p
  pushed b [] a p r e f = absurd cc
  pushed true (x ∷ q) a p r e f = let t = sym f ∙ e in cc
  pushed false (x ∷ q) a p r e f = let t = sym f ∙ e in cc

  same-first : (q : List Accepted) (p r : Accepted) → slice_get q 0 ≡ Some p → slice_get q 0 ≡ Some r → r ≡ p
  same-first q p r e f = let t = sym f ∙ e in cc

  -- The next of a chain is tagged behind the one that started.
  behind-first : (q : List Accepted) (last : ℕ) (p r : Accepted) → IsChain q last → slice_get q 0 ≡ Some p → slice_get (drop 1 q) 0 ≡ Some r → r.stamped.start_tag ≡ p.stamped.finish_tag
  behind-first [] last p r h e f = absurd cc
  behind-first (x ∷ []) last p r h e f = absurd cc
  behind-first (x ∷ y ∷ q) last p r h e f =
      let first : x ≡ p = cc in
      let second : y ≡ r = cc in
      ap (λ (a : Accepted). a.stamped.start_tag) (sym second) ∙ h.0 ∙ ap (λ (a : Accepted). a.stamped.finish_tag) first

  -- A start of the flow is of its first packet.
  pub start-first : (flow : ℕ) (s : Start) (t : List Event) → next_packet s.packet.link t ≡ Some s.packet → is_of link flow s.packet ≡ true → (next_packet link t ≡ Some s.packet)
      × (slice_get (backlog link flow t) 0 ≡ Some s.packet)
  start-first flow s t next e = (shared-next, by (pick (virtual_time (shared pipe) t) (link_heads (shared pipe) t)) shared-next)
    where
      l : s.packet.link ≡ shared pipe
      l = link_eq-true s.packet.link (shared pipe) (and-left _ (nat_eq s.packet.stamped.flow flow) e)

      shared-next : next_packet (shared pipe) t ≡ Some s.packet
      shared-next = ap (λ (m : Link). next_packet m t) (sym (link_eq-true s.packet.link (shared pipe) (and-left _ (nat_eq s.packet.stamped.flow flow) e))) ∙ next

      by : (o : Option Stamped) → option_and_then (λ y. slice_get (backlog (shared pipe) y.flow t) 0) o ≡ Some s.packet → slice_get (backlog (shared pipe) flow t) 0 ≡ Some s.packet
      by None is = absurd cc
      by (Some y) is =
          let f : s.packet.stamped.flow ≡ flow = eqb-true s.packet.stamped.flow flow (and-right (link_eq s.packet.link (shared pipe)) (nat_eq s.packet.stamped.flow flow) e) in
          let g : s.packet.stamped.flow ≡ y.flow =
          eqb-true s.packet.stamped.flow y.flow (and-right (link_eq s.packet.link (shared pipe)) (nat_eq s.packet.stamped.flow y.flow)
          (first-own (shared pipe) y.flow s.packet (backlog (shared pipe) y.flow t) is (backlog-own (shared pipe) y.flow t))) in
          ap (λ m. slice_get (backlog (shared pipe) m t) 0) (sym f ∙ g) ∙ is

  -- How the head of a flow moves on over one event: by the cost of its packet where that starts.
  module _ (flow : ℕ) where
    abbrev got : Event → ℕ
    got (started s) = cond (is_of link flow s.packet) (s.packet.stamped.finish_tag - s.packet.stamped.start_tag) 0
    got _ = 0

    moves : (e : Event) (t : List Event) (p r : Accepted) → IsSteady (e ∷ t) → slice_get (backlog link flow t) 0 ≡ Some p → slice_get (backlog link flow (e ∷ t)) 0 ≡ Some r →
        r.stamped.start_tag ≡ p.stamped.start_tag + got e
    moves (arrived a) t p r h e f = let same = ap (λ (x : Accepted). x.stamped.start_tag) (pushed (is_of link flow a) (backlog link flow t) a p r e f) in omega arith
    moves (started s) t p r h e f = by (is_of link flow s.packet) refl f
      where
        by : (b : Bool) → is_of link flow s.packet ≡ b → slice_get (cond b (drop 1 (backlog link flow t)) (backlog link flow t)) 0 ≡ Some r →
            r.stamped.start_tag ≡ p.stamped.start_tag + cond b (s.packet.stamped.finish_tag - s.packet.stamped.start_tag) 0
        by true is f =
            let mine = (start-first flow s t h.0 is).1 in
            let same : p ≡ s.packet = same-first (backlog link flow t) s.packet p mine e in
            let next = behind-first (backlog link flow t) (last_finish_tag link flow t) s.packet r (chain link flow t h.1) mine f in
            let tag = ap (λ (x : Accepted). x.stamped.start_tag) same in
            let put = put-first (backlog link flow t) s.packet mine (all-put link flow t h.1) in
            omega arith
          where
            put-first : (q : List Accepted) (a : Accepted) → slice_get q 0 ≡ Some a → All IsPut' q → a.stamped.start_tag ≤ a.stamped.finish_tag
            put-first [] a e all = absurd cc
            put-first (x ∷ q) a e all = let same : x ≡ a = cc in subst IsPut' same (all 0 x (omega arith))
        by false is f = let same = ap (λ (x : Accepted). x.stamped.start_tag) (same-first (backlog link flow t) p r e f) in omega arith
    moves (discarded g) t p r h e f = by (nat_eq g flow) f
      where
        by : (b : Bool) → slice_get (cond b [] (backlog link flow t)) 0 ≡ Some r → r.stamped.start_tag ≡ p.stamped.start_tag + 0
        by true f = absurd cc
        by false f = let same = ap (λ (a : Accepted). a.stamped.start_tag) (same-first (backlog link flow t) p r e f) in omega arith
    moves _ t p r h e f = let same = ap (λ (a : Accepted). a.stamped.start_tag) (same-first (backlog link flow t) p r e f) in omega arith

    share-cons : (e : Event) (stretch : List Event) → share link flow (e ∷ stretch) ≡ got e + share link flow stretch
    share-cons (started s) stretch = refl
    share-cons _ stretch = omega arith

    -- Over a stretch a flow's head moves on by what the flow got.
    progress : (stretch earlier : List Event) (p r : Accepted) → IsSteady (stretch ++ earlier) → WaitsThroughout link flow stretch earlier →
        slice_get (backlog link flow earlier) 0 ≡ Some p → slice_get (backlog link flow (stretch ++ earlier)) 0 ≡ Some r → r.stamped.start_tag ≡ p.stamped.start_tag + share link flow stretch
    progress [] earlier p r h w e f = let same = ap (λ (a : Accepted). a.stamped.start_tag) (same-first (backlog link flow earlier) p r e f) in omega arith
    progress (x ∷ stretch) earlier p r h w e f =
        let m = some-first (backlog link flow (stretch ++ earlier)) (now flow stretch earlier w.1) in
        let before = progress stretch earlier p m.0 h.1 w.1 e m.1 in
        let one = moves x (stretch ++ earlier) m.0 r h m.1 f in
        let more = share-cons x stretch in
        omega arith

    waits-first : (stretch earlier : List Event) → WaitsThroughout link flow stretch earlier → 0 < length (backlog link flow earlier)
    waits-first [] earlier h = h
    waits-first (e ∷ stretch) earlier h = waits-first stretch earlier h.1

    put-of : (t : List Event) (a : Accepted) → IsSteady t → slice_get (backlog link flow t) 0 ≡ Some a → a.stamped.start_tag ≤ a.stamped.finish_tag
    put-of t a h e = by (backlog link flow t) e (all-put link flow t h)
      where
        by : (q : List Accepted) → slice_get q 0 ≡ Some a → All IsPut' q → a.stamped.start_tag ≤ a.stamped.finish_tag
        by [] e all = absurd cc
        by (x ∷ q) e all = let same : x ≡ a = cc in subst IsPut' same (all 0 x (omega arith))

    cheap-of : (most : ℕ) (t : List Event) (a : Accepted) → All (CostsAtMost most) (backlog link flow t) → slice_get (backlog link flow t) 0 ≡ Some a → CostsAtMost most a
    cheap-of most t a all e = by (backlog link flow t) e all
      where
        by : (q : List Accepted) → slice_get q 0 ≡ Some a → All (CostsAtMost most) q → CostsAtMost most a
        by [] e all = absurd cc
        by (x ∷ q) e all = let same : x ≡ a = cc in subst (CostsAtMost most) same (all 0 x (omega arith))

    -- The finish tag of a flow's head never falls.
    rises : (e : Event) (t : List Event) (p r : Accepted) → IsSteady (e ∷ t) → slice_get (backlog link flow t) 0 ≡ Some p → slice_get (backlog link flow (e ∷ t)) 0 ≡ Some r →
        p.stamped.finish_tag ≤ r.stamped.finish_tag
    rises (arrived a) t p r h e f = let same = ap (λ (x : Accepted). x.stamped.finish_tag) (pushed (is_of link flow a) (backlog link flow t) a p r e f) in omega arith
    rises (started s) t p r h e f = by (is_of link flow s.packet) refl f (put-of (started s ∷ t) r h f)
      where
        by : (b : Bool) → is_of link flow s.packet ≡ b → slice_get (cond b (drop 1 (backlog link flow t)) (backlog link flow t)) 0 ≡ Some r → r.stamped.start_tag ≤ r.stamped.finish_tag →
            p.stamped.finish_tag ≤ r.stamped.finish_tag
        by true is f put =
            let mine = (start-first flow s t h.0 is).1 in
            let same : p ≡ s.packet = same-first (backlog link flow t) s.packet p mine e in
            let next = behind-first (backlog link flow t) (last_finish_tag link flow t) s.packet r (chain link flow t h.1) mine f in
            let tag = ap (λ (x : Accepted). x.stamped.finish_tag) same in
            omega arith
        by false is f put = let same = ap (λ (x : Accepted). x.stamped.finish_tag) (same-first (backlog link flow t) p r e f) in omega arith
    rises (discarded g) t p r h e f = by (nat_eq g flow) f
      where
        by : (b : Bool) → slice_get (cond b [] (backlog link flow t)) 0 ≡ Some r → p.stamped.finish_tag ≤ r.stamped.finish_tag
        by true f = absurd cc
        by false f = let same = ap (λ (a : Accepted). a.stamped.finish_tag) (same-first (backlog link flow t) p r e f) in omega arith
    rises _ t p r h e f = let same = ap (λ (a : Accepted). a.stamped.finish_tag) (same-first (backlog link flow t) p r e f) in omega arith

  module _ (one other most : ℕ) where
    -- After a start of the other flow its head is behind the one's by a packet at most.
    passes : (e : Event) (t : List Event) (x' y' x y : Accepted) → IsSteady (e ∷ t) → All (CostsAtMost most) (backlog link other t) → slice_get (backlog link other t) 0 ≡ Some x' →
        slice_get (backlog link one t) 0 ≡ Some y' → slice_get (backlog link other (e ∷ t)) 0 ≡ Some x → slice_get (backlog link one (e ∷ t)) 0 ≡ Some y
        → (got other e ≡ 0) ⊎ (x.stamped.start_tag ≤ y.stamped.finish_tag + most)
    passes (started s) t x' y' x y h cheap ex' ey' ex ey = by (is_of link other s.packet) refl ex (rises one (started s) t y' y h ey' ey)
      where
        by : (b : Bool) → is_of link other s.packet ≡ b → slice_get (cond b (drop 1 (backlog link other t)) (backlog link other t)) 0 ≡ Some x →
            y'.stamped.finish_tag ≤ y.stamped.finish_tag → (cond b (s.packet.stamped.finish_tag - s.packet.stamped.start_tag) 0 ≡ 0) ⊎ (x.stamped.start_tag ≤ y.stamped.finish_tag + most)
        by false is ex later = inl refl
        by true is ex later =
            let mine = start-first other s t h.0 is in
            let next = behind-first (backlog link other t) (last_finish_tag link other t) s.packet x (chain link other t h.1) mine.1 ex in
            let fair = fair-start t s.packet one y' h.1 mine.0 ey' in
            let cost = cheap-of other most t s.packet cheap mine.1 in
            inr (omega arith)
    passes _ t x' y' x y h cheap ex' ey' ex ey = inl refl

    close : (stretch earlier : List Event) (x y : Accepted) → IsSteady (stretch ++ earlier) → EachThatWaits (CostsAtMost most) link other stretch earlier → WaitsThroughout link one stretch earlier →
        WaitsThroughout link other stretch earlier → slice_get (backlog link other (stretch ++ earlier)) 0 ≡ Some x → slice_get (backlog link one (stretch ++ earlier)) 0 ≡ Some y
        → (share link other stretch ≡ 0) ⊎ (x.stamped.start_tag ≤ y.stamped.finish_tag + most)
    close [] earlier x y h cheap w v ex ey = inl refl
    close (e ∷ stretch) earlier x y h cheap w v ex ey =
        let t = stretch ++ earlier in
        let x' = some-first (backlog link other (stretch ++ earlier)) (now other stretch earlier v.1) in
        let y' = some-first (backlog link one (stretch ++ earlier)) (now one stretch earlier w.1) in
        by x'.0 y'.0 (close stretch earlier x'.0 y'.0 h.1 (waits-sooner link other (CostsAtMost most) e stretch earlier cheap) w.1 v.1 x'.1 y'.1)
        (passes e (stretch ++ earlier) x'.0 y'.0 x y h
        (waits-after link other (CostsAtMost most) stretch earlier (waits-sooner link other (CostsAtMost most) e stretch earlier cheap)) x'.1 y'.1 ex ey)
        (moves other e (stretch ++ earlier) x'.0 x h x'.1 ex) (rises one e (stretch ++ earlier) y'.0 y h y'.1 ey) (share-cons other e stretch)
      where
        by : (x' y' : Accepted) → (share link other stretch ≡ 0) ⊎ (x'.stamped.start_tag ≤ y'.stamped.finish_tag + most) →
            (got other e ≡ 0) ⊎ (x.stamped.start_tag ≤ y.stamped.finish_tag + most) → x.stamped.start_tag ≡ x'.stamped.start_tag + got other e →
            y'.stamped.finish_tag ≤ y.stamped.finish_tag → share link other (e ∷ stretch) ≡ got other e + share link other stretch
            → (share link other (e ∷ stretch) ≡ 0) ⊎ (x.stamped.start_tag ≤ y.stamped.finish_tag + most)
        by x' y' before (inr near) moved later more = inr near
        by x' y' (inl none) (inl still) moved later more = inl (omega arith)
        by x' y' (inr near) (inl still) moved later more = inr (omega arith)

pub shares-fairly : SharesFairly
shares-fairly calls pipe one other most_one most_other later stretch earlier r e is w v cheap_one cheap_other =
    let all = stretch ++ (started r ∷ []) in
    let whole = shape stretch [] (started r) earlier in
    let h : IsSteady (all ++ earlier) = subst IsSteady (sym whole) (suffix-steady later (stretch ++ (started r ∷ earlier)) (subst IsSteady e (steady calls))) in
    let start : IsSteady (started r ∷ earlier) = suffix-steady stretch (started r ∷ earlier) (subst IsSteady whole h) in
    let po = some-first pipe (backlog (shared pipe) other earlier) (waits-first pipe other all earlier v) in
    let x = some-first pipe (backlog (shared pipe) other (all ++ earlier)) (now pipe other all earlier v) in
    let y = some-first pipe (backlog (shared pipe) one (all ++ earlier)) (now pipe one all earlier w) in
    let mine = start-first pipe one r earlier start.0 is in
    let go = progress pipe other all earlier po.0 x.0 h v po.1 x.1 in
    let gone = progress pipe one all earlier r.packet y.0 h w mine.1 y.1 in
    let fair = fair-start pipe earlier r.packet other po.0 start.1 mine.0 po.1 in
    let first_cost = cheap-of pipe other most_other earlier po.0 (waits-before (shared pipe) other (CostsAtMost most_other) all earlier cheap_other) po.1 in
    let last_cost = cheap-of pipe one most_one (all ++ earlier) y.0 (waits-after (shared pipe) one (CostsAtMost most_one) all earlier cheap_one) y.1 in
    by (share (shared pipe) other all) (share (shared pipe) one all) x.0.stamped.start_tag y.0.stamped.start_tag
    y.0.stamped.finish_tag po.0.stamped.start_tag po.0.stamped.finish_tag r.packet.stamped.start_tag go gone fair first_cost last_cost
    (close pipe one other most_other all earlier x.0 y.0 h cheap_other w v x.1 y.1)
  where
    by : (so s1 x y yf po pof r1 : ℕ) → x ≡ po + so → y ≡ r1 + s1 → r1 ≤ pof → pof ≤ po + most_other → yf ≤ y + most_one → (so ≡ 0) ⊎ (x ≤ yf + most_other) →
        so ≤ s1 + most_other + most_other + most_one
    by so s1 x y yf po pof r1 go gone fair first last (inl none) = omega arith
    by so s1 x y yf po pof r1 go gone fair first last (inr near) = omega arith
