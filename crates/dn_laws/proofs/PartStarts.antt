-- A settling's part is the settling of the part.
use Rattle.dn_laws.proofs.Words.{Accepted, All, All-drop, All-filter, All-nil, All-push, Bool, Choice, Event, Link, List, None, Option, Settings, Some, Stamped, Start, [], all-rest, ap, arith}
use Rattle.dn_laws.proofs.Words.{arrived, backlog, collected, cond, discarded, drop, earlier, false, filter, first_start, first_start-of, first_to_go, first_to_go-one-of, free, goes_before, inl}
use Rattle.dn_laws.proofs.Words.{inr, is_eligible, is_link_on, is_of, link_eq, link_eq-true, link_heads, links, list_any, lost, map, nat_eq, nat_le, nat_lt, nat_tests, next_packet}
use Rattle.dn_laws.proofs.Words.{next_packet-first, next_start, next_start-link, next_start-packet, opened, option_and_then, option_map, own, part, pick, raised, refl, refused, settle}
use Rattle.dn_laws.proofs.Words.{settle-ends, settled, shared, slice_get, slice_get-map, sooner, sooner-left, sooner-right, start_at, started, subst, suc, sym, true, virtual_time, waiting_all}
use Rattle.dn_laws.proofs.Words.{with_link, zero, ℕ, ⊎_elim, ◌&&◌, ◌++◌, ◌||◌, ◌∙◌, ◌∷◌, ◌≡◌, ◌≤◌, ◌⊎◌}
use Rattle.dn_laws.specs.Parts.{place}
use Rattle.dn_laws.proofs.Isolation.{false-if}
use Rattle.dn_laws.proofs.Parts.{skip, IsFit, AreFit, link', stamped', accepted', start', same-link, raised-part, backlog-part, link_heads-part, link_heads-mine, free-part, virtual_time-part}
use Rattle.dn_laws.proofs.Places.{place-less}

pub sooner-one : (o p : Option Start) (z : Start) → sooner o p ≡ Some z → (o ≡ Some z) ⊎ (p ≡ Some z)
sooner-one None p z e = inr e
sooner-one (Some s) None z e = inl e
sooner-one (Some s) (Some t) z e = by (nat_lt t.moment s.moment) e
  where
    by : (b : Bool) → Some (cond b t s) ≡ Some z → (Some s ≡ Some z) ⊎ (Some t ≡ Some z)
    by true e = inr e
    by false e = inl e

-- There is a start, at the moment or before.
abbrev IsBy : Option Start → ℕ → Type 0
IsBy o m = (y : Start) × (o ≡ Some y) × (y.moment ≤ m)

by-sooner : (s t : Start) (m : ℕ) (b : Bool) → nat_lt t.moment s.moment ≡ b → (s.moment ≤ m) ⊎ (t.moment ≤ m) → IsBy (Some (cond b t s)) m
by-sooner s t m true e h = (t, refl, ⊎_elim (λ left. grind (arith, nat_tests)) (λ right. right) h)
by-sooner s t m false e h = (s, refl, ⊎_elim (λ left. left) (λ right. grind (arith, nat_tests)) h)

by-left : (o p : Option Start) (m : ℕ) → IsBy o m → IsBy (sooner o p) m
by-left None p m h = let t : None ≡ Some h.0 = h.1 in absurd cc
by-left (Some s) None m h = h
by-left (Some s) (Some t) m h =
    let same : s ≡ h.0 = cc in
    let le : s.moment ≤ m = subst (λ (x : Start). x.moment ≤ m) (sym same) h.2 in
    by-sooner s t m (nat_lt t.moment s.moment) refl (inl le)

by-right : (o p : Option Start) (m : ℕ) → IsBy p m → IsBy (sooner o p) m
by-right None p m h = h
by-right (Some s) None m h = let t : None ≡ Some h.0 = h.1 in absurd cc
by-right (Some s) (Some t) m h =
    let same : t ≡ h.0 = cc in
    let le : t.moment ≤ m = subst (λ (x : Start). x.moment ≤ m) (sym same) h.2 in
    by-sooner s t m (nat_lt t.moment s.moment) refl (inr le)

-- Two settlings that have ended are the same, however many starts were tried.
module _ (set : Settings) (at : ℕ) where
  abbrev pub HasEnded : List Event → Type 0
  HasEnded t = first_start set at (links t) t ≡ None

  abbrev after : ℕ → List Event → Option Start → List Event
  after k t o = elim o as (λ _. List Event) [ None ↦ t | Some s ↦ settle k set at (started s ∷ t) ]

  pub settle-is : (k : ℕ) (t : List Event) (o : Option Start) → first_start set at (links t) t ≡ o → settle (suc k) set at t ≡ after k t o
  settle-is k t o e = ap (λ (x : Option Start). after k t x) e

  settle-stop : (k : ℕ) (t : List Event) → HasEnded t → settle k set at t ≡ t
  settle-stop zero t e = refl
  settle-stop (suc k) t e = settle-is k t None e

  pub settle-one : (k j : ℕ) (t : List Event) → HasEnded (settle k set at t) → HasEnded (settle j set at t) → settle k set at t ≡ settle j set at t
  settle-one zero j t e f = sym (settle-stop j t e)
  settle-one (suc k) zero t e f = settle-stop (suc k) t f
  settle-one (suc k) (suc j) t e f = by (first_start set at (links t) t) refl (λ x. settle-one k j (started x ∷ t))
    where
      by : (o : Option Start) → first_start set at (links t) t ≡ o → ((x : Start) → HasEnded (settle k set at (started x ∷ t)) → HasEnded (settle j set at (started x ∷ t)) →
          settle k set at (started x ∷ t) ≡ settle j set at (started x ∷ t)) → settle (suc k) set at t ≡ settle (suc j) set at t
      by None is rest = settle-is k t None is ∙ sym (settle-is j t None is)
      by (Some x) is rest =
          let a = settle-is k t (Some x) is in
          let b = settle-is j t (Some x) is in
          a ∙ rest x (subst HasEnded a e) (subst HasEnded b f) ∙ sym b

module _ (chosen : Choice) (mine taken : ℕ → Bool) where
  abbrev IsMine : Stamped → Type 0
  IsMine h = mine h.flow ≡ true

  abbrev stamped-on : Stamped → Stamped
  stamped-on h = stamped' chosen mine taken h

  abbrev accepted-on : Accepted → Accepted
  accepted-on p = accepted' chosen mine taken p

  abbrev start-on : Start → Start
  start-on s = start' chosen mine taken s

  abbrev link-on : Link → Link
  link-on l = link' chosen mine taken l

  abbrev part-on : List Event → List Event
  part-on t = part chosen mine taken t

  abbrev AreFitHere : List Event → Type 0
  AreFitHere t = AreFit chosen mine taken t

  earlier-part : (x : Stamped) (o : Option Stamped) → ((y : Stamped) → o ≡ Some y → IsMine y) → earlier (stamped-on x) (option_map stamped-on o) ≡ option_map stamped-on (earlier x o)
  earlier-part x None h = refl
  earlier-part x (Some y) h = let less = place-less mine y.flow x.flow (h y refl) in
      (λ i. Some (cond (nat_lt y.finish_tag x.finish_tag || nat_eq y.finish_tag x.finish_tag && less i) (stamped-on y) (stamped-on x))) ∙ either (goes_before y x)
    where
      either : (b : Bool) → Some (cond b (stamped-on y) (stamped-on x)) ≡ Some (stamped-on (cond b y x))
      either true = refl
      either false = refl

  first_to_go-part : (hs : List Stamped) → All IsMine hs → first_to_go (map stamped-on hs) ≡ option_map stamped-on (first_to_go hs)
  first_to_go-part [] h = refl
  first_to_go-part (x ∷ hs) h =
      let rest = all-rest IsMine x hs h in
      ap (earlier (stamped-on x)) (first_to_go-part hs rest) ∙ earlier-part x (first_to_go hs) (λ y e. first_to_go-one-of IsMine hs y rest e)

  eligible-part : (v : ℕ) (hs : List Stamped) → filter (is_eligible v) (map stamped-on hs) ≡ map stamped-on (filter (is_eligible v) hs)
  eligible-part v [] = refl
  eligible-part v (x ∷ hs) = by (is_eligible v x) (eligible-part v hs)
    where
      by : (b : Bool) → filter (is_eligible v) (map stamped-on hs) ≡ map stamped-on (filter (is_eligible v) hs) →
          cond b (stamped-on x ∷ filter (is_eligible v) (map stamped-on hs)) (filter (is_eligible v) (map stamped-on hs))
          ≡ map stamped-on (cond b (x ∷ filter (is_eligible v) hs) (filter (is_eligible v) hs))
      by true rest = ap (λ (r : List Stamped). stamped-on x ∷ r) rest
      by false rest = rest

  pick-part : (v : ℕ) (hs : List Stamped) → All IsMine hs → pick v (map stamped-on hs) ≡ option_map stamped-on (pick v hs)
  pick-part v hs h =
      ap (λ r. first_to_go (filter (is_eligible r) (map stamped-on hs))) (raised-part chosen mine taken v hs)
      ∙ ap first_to_go (eligible-part (raised v hs) hs)
      ∙ first_to_go-part (filter (is_eligible (raised v hs)) hs) (All-filter (is_eligible (raised v hs)) IsMine hs h)

  picked-mine : (v : ℕ) (hs : List Stamped) → All IsMine hs → (x : Stamped) → pick v hs ≡ Some x → IsMine x
  picked-mine v hs h x e = first_to_go-one-of IsMine (filter (is_eligible (raised v hs)) hs) x (All-filter (is_eligible (raised v hs)) IsMine hs h) e

  pub next_packet-part : (l : Link) → is_link_on chosen mine l ≡ true → (t : List Event) → AreFitHere t → next_packet (link-on l) (part-on t) ≡ option_map accepted-on (next_packet l t)
  next_packet-part (own a f) on t h =
      ap (λ (q : List Accepted). slice_get q 0) (backlog-part chosen mine taken (own a f) on f on t h) ∙ slice_get-map accepted-on (backlog (own a f) f t) 0
  next_packet-part (shared a) on t h =
      let v = virtual_time-part chosen mine taken (shared a) on t h in
      let hs = link_heads-part chosen mine taken (shared a) on t h in
      let all = link_heads-mine chosen mine taken (shared a) on t h in
      (λ i. option_and_then (λ (x : Stamped). slice_get (backlog (shared a) x.flow (part-on t)) 0) (pick (v i) (hs i)))
      ∙ ap (option_and_then (λ (x : Stamped). slice_get (backlog (shared a) x.flow (part-on t)) 0)) (pick-part (virtual_time (shared a) t) (link_heads (shared a) t) all)
      ∙ by (pick (virtual_time (shared a) t) (link_heads (shared a) t)) (picked-mine (virtual_time (shared a) t) (link_heads (shared a) t) all)
    where
      by : (o : Option Stamped) → ((x : Stamped) → o ≡ Some x → IsMine x) →
          option_and_then (λ (x : Stamped). slice_get (backlog (shared a) x.flow (part-on t)) 0) (option_map stamped-on o)
          ≡ option_map accepted-on (option_and_then (λ (x : Stamped). slice_get (backlog (shared a) x.flow t) 0) o)
      by None m = refl
      by (Some x) m = ap (λ (q : List Accepted). slice_get q 0) (backlog-part chosen mine taken (shared a) on x.flow (m x refl) t h) ∙ slice_get-map accepted-on (backlog (shared a) x.flow t) 0

  module _ (set : Settings) where
    pub start_at-part : (l : Link) (p : Accepted) (m : ℕ) → start_at set (link-on l) (accepted-on p) m ≡ start-on (start_at set l p m)
    start_at-part (own a f) p m = refl
    start_at-part (shared a) p m = refl

    module _ (at : ℕ) where
      next_start-part : (l : Link) → is_link_on chosen mine l ≡ true → (t : List Event) → AreFitHere t → next_start set at (link-on l) (part-on t) ≡ option_map start-on (next_start set at l t)
      next_start-part l on t h =
          let fr = free-part chosen mine taken l on t h in
          let next = next_packet-part l on t h in
          (λ i. cond (nat_le (fr i) at) (option_map (λ (p : Accepted). start_at set (link-on l) p (fr i)) (next i)) None) ∙ by (nat_le (free l t) at) (next_packet l t)
        where
          by : (b : Bool) (o : Option Accepted) →
              cond b (option_map (λ (p : Accepted). start_at set (link-on l) p (free l t)) (option_map accepted-on o)) None
              ≡ option_map start-on (cond b (option_map (λ (p : Accepted). start_at set l p (free l t)) o) None)
          by false o = refl
          by true None = refl
          by true (Some p) = ap (λ (s : Start). Some s) (start_at-part l p (free l t))

      abbrev links-on : List Link → List Link
      links-on [] = []
      links-on (l ∷ ls) = cond (is_link_on chosen mine l) (link-on l ∷ links-on ls) (links-on ls)

      any-part : (k : Link) (ls : List Link) → is_link_on chosen mine k ≡ true → list_any (link_eq (link-on k)) (links-on ls) ≡ list_any (link_eq k) ls
      any-part k [] on = refl
      any-part k (l ∷ ls) on = by (is_link_on chosen mine l) refl (any-part k ls on)
        where
          by : (b : Bool) → is_link_on chosen mine l ≡ b → list_any (link_eq (link-on k)) (links-on ls) ≡ list_any (link_eq k) ls →
              list_any (link_eq (link-on k)) (cond b (link-on l ∷ links-on ls) (links-on ls)) ≡ (link_eq k l || list_any (link_eq k) ls)
          by true e rest = let same = same-link chosen mine taken k l on e in λ i. same i || rest i
          by false e rest =
              let other : link_eq k l ≡ false = false-if (link_eq k l) (λ same. let t : true ≡ false = sym on ∙ ap (is_link_on chosen mine) (link_eq-true k l same) ∙ e in cc) in
              rest ∙ sym (ap (λ b. b || list_any (link_eq k) ls) other)

      push-on : (k : Link) (ls : List Link) → is_link_on chosen mine k ≡ true → links-on (ls ++ k ∷ []) ≡ links-on ls ++ link-on k ∷ []
      push-on k [] on = ap (λ b. cond b (link-on k ∷ []) []) on
      push-on k (l ∷ ls) on = by (is_link_on chosen mine l) (push-on k ls on)
        where
          by : (b : Bool) → links-on (ls ++ k ∷ []) ≡ links-on ls ++ link-on k ∷ [] →
              cond b (link-on l ∷ links-on (ls ++ k ∷ [])) (links-on (ls ++ k ∷ [])) ≡ cond b (link-on l ∷ links-on ls) (links-on ls) ++ link-on k ∷ []
          by true rest = ap (λ (r : List Link). link-on l ∷ r) rest
          by false rest = rest

      push-off : (k : Link) (ls : List Link) → is_link_on chosen mine k ≡ false → links-on (ls ++ k ∷ []) ≡ links-on ls
      push-off k [] off = ap (λ b. cond b (link-on k ∷ []) []) off
      push-off k (l ∷ ls) off = ap (λ (r : List Link). cond (is_link_on chosen mine l) (link-on l ∷ r) r) (push-off k ls off)

      with-on : (k : Link) (ls : List Link) → is_link_on chosen mine k ≡ true → links-on (with_link k ls) ≡ with_link (link-on k) (links-on ls)
      with-on k ls on = by (list_any (link_eq k) ls) ∙ sym (ap (λ b. cond b (links-on ls) (links-on ls ++ link-on k ∷ [])) (any-part k ls on))
        where
          by : (b : Bool) → links-on (cond b ls (ls ++ k ∷ [])) ≡ cond b (links-on ls) (links-on ls ++ link-on k ∷ [])
          by true = refl
          by false = push-on k ls on

      with-off : (k : Link) (ls : List Link) → is_link_on chosen mine k ≡ false → links-on (with_link k ls) ≡ links-on ls
      with-off k ls off = by (list_any (link_eq k) ls)
        where
          by : (b : Bool) → links-on (cond b ls (ls ++ k ∷ [])) ≡ links-on ls
          by true = refl
          by false = push-off k ls off

      -- An event on a link that adds it to those seen.
      seen-part : (k : Link) (e : Event) (t : List Event) → links (e ∷ part-on t) ≡ with_link (link-on k) (links (part-on t)) → links (part-on t) ≡ links-on (links t) →
          links (cond (is_link_on chosen mine k) (e ∷ part-on t) (part-on t)) ≡ links-on (with_link k (links t))
      seen-part k e t adds rest = by (is_link_on chosen mine k) refl
        where
          by : (b : Bool) → is_link_on chosen mine k ≡ b → links (cond b (e ∷ part-on t) (part-on t)) ≡ links-on (with_link k (links t))
          by true on = adds ∙ ap (with_link (link-on k)) rest ∙ sym (with-on k (links t) on)
          by false off = rest ∙ sym (with-off k (links t) off)

      links-part : (t : List Event) → links (part-on t) ≡ links-on (links t)
      links-part [] = refl
      links-part (opened l ∷ t) = skip links (is_link_on chosen mine l) (opened (link-on l)) (part-on t) refl ∙ links-part t
      links-part (arrived q ∷ t) = seen-part q.link (arrived (accepted-on q)) t refl (links-part t)
      links-part (started s ∷ t) = skip links (is_link_on chosen mine s.packet.link) (started (start-on s)) (part-on t) refl ∙ links-part t
      links-part (lost l f ∷ t) = seen-part l (lost (link-on l) (place mine f)) t refl (links-part t)
      links-part (refused l f ∷ t) = seen-part l (refused (link-on l) (place mine f)) t refl (links-part t)
      links-part (discarded f ∷ t) = skip links (mine f) (discarded (place mine f)) (part-on t) refl ∙ links-part t
      links-part (collected m ∷ t) = links-part t

      module _ (t : List Event) (h : AreFitHere t) where
        abbrev first-on : List Link → Option Start
        first-on ls = first_start set at (links-on ls) (part-on t)

        first-cons : (l : Link) (ls : List Link) (b : Bool) → is_link_on chosen mine l ≡ b →
            first-on (l ∷ ls) ≡ cond b (sooner (option_map start-on (next_start set at l t)) (first-on ls)) (first-on ls)
        first-cons l ls true e =
            ap (λ b. first_start set at (cond b (link-on l ∷ links-on ls) (links-on ls)) (part-on t)) e ∙ ap (λ (o : Option Start). sooner o (first-on ls)) (next_start-part l e t h)
        first-cons l ls false e = ap (λ b. first_start set at (cond b (link-on l ∷ links-on ls) (links-on ls)) (part-on t)) e

        first-none : (ls : List Link) → first_start set at ls t ≡ None → first-on ls ≡ None
        first-none [] e = refl
        first-none (l ∷ ls) e =
            let left = sooner-left (next_start set at l t) (first_start set at ls t) e in
            let rest = first-none ls (sooner-right (next_start set at l t) (first_start set at ls t) e) in
            first-cons l ls (is_link_on chosen mine l) refl ∙ (λ i. cond (is_link_on chosen mine l) (sooner (option_map start-on (left i)) (rest i)) (rest i)) ∙ either (is_link_on chosen mine l)
          where
            either : (b : Bool) → cond {A = Option Start} b None None ≡ None
            either true = refl
            either false = refl

        first-bound : (ls : List Link) → (z : Start) → first-on ls ≡ Some z → IsBy (first_start set at ls t) z.moment
        first-bound [] z e = absurd cc
        first-bound (l ∷ ls) z e = by (is_link_on chosen mine l) refl (first-bound ls z)
          where
            here : (o : Option Start) → next_start set at l t ≡ o → option_map start-on o ≡ Some z → IsBy (next_start set at l t) z.moment
            here None is e = absurd cc
            here (Some x) is e = let same : start-on x ≡ z = cc in (x, is, subst (λ (y : Start). x.moment ≤ y.moment) same (omega arith))

            by : (b : Bool) → is_link_on chosen mine l ≡ b → (first-on ls ≡ Some z → IsBy (first_start set at ls t) z.moment) → IsBy (sooner (next_start set at l t) (first_start set at ls t)) z.moment
            by true is rest =
                ⊎_elim (λ left. by-left (next_start set at l t) (first_start set at ls t) z.moment (here (next_start set at l t) refl left))
                (λ right. by-right (next_start set at l t) (first_start set at ls t) z.moment (rest right))
                (sooner-one (option_map start-on (next_start set at l t)) (first-on ls) z (sym (first-cons l ls true is) ∙ e))
            by false is rest = by-right (next_start set at l t) (first_start set at ls t) z.moment (rest (sym (first-cons l ls false is) ∙ e))

        first-part : (ls : List Link) → (s : Start) → first_start set at ls t ≡ Some s → is_link_on chosen mine s.packet.link ≡ true → first-on ls ≡ Some (start-on s)
        first-part [] s e on = absurd cc
        first-part (l ∷ ls) s e on = by (next_start set at l t) refl (first_start set at ls t) refl e (λ is. first-part ls s is on)
          where
            -- The link of a start on the pipe is on it.
            link-is : next_start set at l t ≡ Some s → is_link_on chosen mine l ≡ true
            link-is is = ap (is_link_on chosen mine) (sym (next_start-link set at l t s is)) ∙ on

            late : (x y w : Start) → nat_lt y.moment x.moment ≡ false → first_start set at ls t ≡ Some y → IsBy (first_start set at ls t) w.moment → nat_lt w.moment x.moment ≡ false
            late x y w no' is b =
                let two : Some y ≡ Some b.0 = sym is ∙ b.1 in
                let same : y ≡ b.0 = cc in
                let le : y.moment ≤ w.moment = subst (λ (v : Start). v.moment ≤ w.moment) (sym same) b.2 in
                grind (arith, nat_tests)

            first-is-here : (x y : Start) → nat_lt y.moment x.moment ≡ false → first_start set at ls t ≡ Some y
                → (o : Option Start) → first-on ls ≡ o → sooner (Some (start-on x)) o ≡ Some (start-on x)
            first-is-here x y no' is None e = refl
            first-is-here x y no' is (Some w) e = ap (λ b. Some (cond b w (start-on x))) (late x y w no' is (first-bound ls w e))

            with : (x y : Start) → next_start set at l t ≡ Some x → first_start set at ls t ≡ Some y → (b : Bool) → nat_lt y.moment x.moment ≡ b → Some (cond b y x) ≡ Some s →
                (first_start set at ls t ≡ Some s → first-on ls ≡ Some (start-on s)) → first-on (l ∷ ls) ≡ Some (start-on s)
            with x y is is' true lt e rest =
                let r = rest (is' ∙ e) in
                let same : y ≡ s = cc in
                first-cons l ls (is_link_on chosen mine l) refl ∙ (λ i. cond (is_link_on chosen mine l) (sooner (option_map start-on (is i)) (r i)) (r i))
                ∙ either (is_link_on chosen mine l) (subst (λ (v : Start). nat_lt v.moment x.moment ≡ true) same lt)
              where
                either : (b : Bool) → nat_lt s.moment x.moment ≡ true → cond b (Some (cond (nat_lt s.moment x.moment) (start-on s) (start-on x))) (Some (start-on s)) ≡ Some (start-on s)
                either true lt = ap (λ c. Some (cond c (start-on s) (start-on x))) lt
                either false lt = refl
            with x y is is' false lt e rest =
                let same : x ≡ s = cc in
                first-cons l ls true (link-is (is ∙ e))
                ∙ ap (λ (o : Option Start). sooner (option_map start-on o) (first-on ls)) is
                ∙ first-is-here x y lt is' (first-on ls) refl
                ∙ ap (λ (v : Start). Some (start-on v)) same

            by : (o : Option Start) → next_start set at l t ≡ o → (p : Option Start) → first_start set at ls t ≡ p → sooner o p ≡ Some s →
                (first_start set at ls t ≡ Some s → first-on ls ≡ Some (start-on s)) → first-on (l ∷ ls) ≡ Some (start-on s)
            by None is p is' e rest =
                let r = rest (is' ∙ e) in
                first-cons l ls (is_link_on chosen mine l) refl ∙ (λ i. cond (is_link_on chosen mine l) (sooner (option_map start-on (is i)) (r i)) (r i)) ∙ either (is_link_on chosen mine l)
              where
                either : (b : Bool) → cond {A = Option Start} b (Some (start-on s)) (Some (start-on s)) ≡ Some (start-on s)
                either true = refl
                either false = refl
            by (Some x) is None is' e rest =
                let same : x ≡ s = cc in
                first-cons l ls true (link-is (is ∙ e))
                ∙ (λ i. sooner (option_map start-on (is i)) (first-none ls is' i))
                ∙ ap (λ (v : Start). Some (start-on v)) same
            by (Some x) is (Some y) is' e rest = with x y is is' (nat_lt y.moment x.moment) refl e rest

      backlog-fit : (l : Link) (f : ℕ) (t : List Event) → AreFitHere t → All (λ p. IsFit chosen mine taken p.link p.stamped.flow) (backlog l f t)
      backlog-fit l f [] h = All-nil (λ (p : Accepted). IsFit chosen mine taken p.link p.stamped.flow)
      backlog-fit l f (opened k ∷ t) h = backlog-fit l f t h
      backlog-fit l f (arrived q ∷ t) h = push (is_of l f q) (backlog l f t) (backlog-fit l f t h.1)
        where
          push : (b : Bool) (ps : List Accepted) → All (λ p. IsFit chosen mine taken p.link p.stamped.flow) ps → All (λ p. IsFit chosen mine taken p.link p.stamped.flow) (cond b (ps ++ q ∷ []) ps)
          push true ps all = All-push (λ (p : Accepted). IsFit chosen mine taken p.link p.stamped.flow) ps q all h.0
          push false ps all = all
      backlog-fit l f (started s ∷ t) h = fewer (is_of l f s.packet) (backlog l f t) (backlog-fit l f t h.1)
        where
          fewer : (b : Bool) (ps : List Accepted) → All (λ p. IsFit chosen mine taken p.link p.stamped.flow) ps → All (λ p. IsFit chosen mine taken p.link p.stamped.flow) (cond b (drop 1 ps) ps)
          fewer true ps all = All-drop (λ (p : Accepted). IsFit chosen mine taken p.link p.stamped.flow) 1 ps all
          fewer false ps all = all
      backlog-fit l f (lost k g ∷ t) h = backlog-fit l f t h.1
      backlog-fit l f (refused k g ∷ t) h = backlog-fit l f t h.1
      backlog-fit l f (discarded g ∷ t) h = fewer (nat_eq g f) (backlog l f t) (backlog-fit l f t h)
        where
          fewer : (b : Bool) (ps : List Accepted) → All (λ p. IsFit chosen mine taken p.link p.stamped.flow) ps → All (λ p. IsFit chosen mine taken p.link p.stamped.flow) (cond b [] ps)
          fewer true ps all = All-nil (λ (p : Accepted). IsFit chosen mine taken p.link p.stamped.flow)
          fewer false ps all = all
      backlog-fit l f (collected m ∷ t) h = backlog-fit l f t h

      first-fit : (p : Accepted) (ps : List Accepted) → slice_get ps 0 ≡ Some p → All (λ p. IsFit chosen mine taken p.link p.stamped.flow) ps → IsFit chosen mine taken p.link p.stamped.flow
      first-fit p [] e all = absurd cc
      first-fit p (r ∷ ps) e all = let same : r ≡ p = cc in subst (λ (x : Accepted). IsFit chosen mine taken x.link x.stamped.flow) same (all 0 r (omega arith))

      start-fit : (t : List Event) (s : Start) → AreFitHere t → first_start set at (links t) t ≡ Some s → IsFit chosen mine taken s.packet.link s.packet.stamped.flow
      start-fit t s h e =
          let l = first_start-of set at (links t) t s e in
          let first = next_packet-first l.0 t s.packet (next_start-packet set at l.0 t s l.1) in
          first-fit s.packet (backlog l.0 first.0 t) first.1 (backlog-fit l.0 first.0 t h)

      settle-fit : (most : ℕ) (t : List Event) → AreFitHere t → AreFitHere (settle most set at t)
      settle-fit zero t h = h
      settle-fit (suc most) t h = step (first_start set at (links t) t) refl (λ x g. settle-fit most (started x ∷ t) g)
        where
          step : (o : Option Start) → first_start set at (links t) t ≡ o → ((x : Start) → AreFitHere (started x ∷ t) → AreFitHere (settle most set at (started x ∷ t))) →
              AreFitHere (elim o as (λ _. List Event) [ None ↦ t | Some s ↦ settle most set at (started s ∷ t) ])
          step None e rest = h
          step (Some s) e rest = rest s (start-fit t s h e, h)

      pub settled-fit : (t : List Event) → AreFitHere t → AreFitHere (settled set at t)
      settled-fit t h = settle-fit (waiting_all (links t) t) t h

      settle-part : (most : ℕ) (t : List Event) → AreFitHere t → (k : ℕ) × (part-on (settle most set at t) ≡ settle k set at (part-on t))
      settle-part zero t h = (0, refl)
      settle-part (suc most) t h = step (first_start set at (links t) t) refl (λ x g. settle-part most (started x ∷ t) g)
        where
          step : (o : Option Start) → first_start set at (links t) t ≡ o
              → ((x : Start) → AreFitHere (started x ∷ t) → (k : ℕ) × (part-on (settle most set at (started x ∷ t)) ≡ settle k set at (part-on (started x ∷ t)))) →
              (k : ℕ) × (part-on (elim o as (λ _. List Event) [ None ↦ t | Some s ↦ settle most set at (started s ∷ t) ]) ≡ settle k set at (part-on t))
          step None e rest = (0, refl)
          step (Some s) e rest = by (is_link_on chosen mine s.packet.link) refl (rest s (start-fit t s h e, h))
            where
              by : (b : Bool) → is_link_on chosen mine s.packet.link ≡ b → (k : ℕ) × (part-on (settle most set at (started s ∷ t)) ≡ settle k set at (part-on (started s ∷ t))) →
                  (k : ℕ) × (part-on (settle most set at (started s ∷ t)) ≡ settle k set at (part-on t))
              by true on r =
                  let first = ap (λ (ls : List Link). first_start set at ls (part-on t)) (links-part t) ∙ first-part t h (links t) s e on in (
                    suc r.0,
                    r.1
                        ∙ ap (λ b. settle r.0 set at (cond b (started (start-on s) ∷ part-on t) (part-on t))) on
                        ∙ sym (settle-is set at r.0 (part-on t) (Some (start-on s)) first),
                  )
              by false off r = (r.0, r.1 ∙ ap (λ b. settle r.0 set at (cond b (started (start-on s) ∷ part-on t) (part-on t))) off)

      pub settled-part : (t : List Event) → AreFitHere t → part-on (settled set at t) ≡ settled set at (part-on t)
      settled-part t h =
          let r = settle-part (waiting_all (links t) t) t h in
          let fit = settled-fit t h in
          let over = ap (λ (ls : List Link). first_start set at ls (part-on (settled set at t))) (links-part (settled set at t))
          ∙ first-none (settled set at t) fit (links (settled set at t)) (settle-ends (waiting_all (links t) t) set at t (omega arith)) in
          r.1 ∙ settle-one set at r.0 (waiting_all (links (part-on t)) (part-on t)) (part-on t) (subst (HasEnded set at) r.1 over)
          (settle-ends (waiting_all (links (part-on t)) (part-on t)) set at (part-on t) (omega arith))
