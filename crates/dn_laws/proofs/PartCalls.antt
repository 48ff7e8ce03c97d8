-- Where other links carry no packet, what happens is the part of what happens where they do.
use Rattle.dn_laws.proofs.Words.{Bool, List, None, Option, Some, [], ap, arith, cond, eq-eqb, false, filter, length, list_any, map, max, nat_eq, nat_le, nat_tests, refl, scaled, slice_get, subst}
use Rattle.dn_laws.proofs.Words.{suc, sym, true, zero, ℕ, ⊤, ◌&&◌, ◌++◌, ◌+◌, ◌<◌, ◌||◌, ◌∙◌, ◌∷◌, ◌≡◌, ◌≤◌}
use Rattle.dn_laws.proofs.LawWords.{link_of, Verdict, no_target, loses, refuses, takes, verdict_by, accept, join, after_verdict, reaches, discard_reached, after_command, trace_of, effective_moment}
use Rattle.dn_laws.proofs.LawWords.{Settings, settings, subject, target_eq, queue_numbers, command_reply, setting_after, reply_to_command, is_lost, is_full, Treatment, treatment, key_of, key_eq, keys}
use Rattle.dn_laws.proofs.LawWords.{flow_number, with_key, keys_with, free, Choice, is_flow_of, is_key_on, is_carried, calls_on, place, is_some_key_on, is_flow_on, is_link_on, is_packet_on, part}
use Rattle.dn_laws.proofs.LawWords.{part_of, waiting, opening, start_at, first_start, settle, settled, waiting_all, Link, Accepted, Start, Event, opened, arrived, started, lost, refused, discarded}
use Rattle.dn_laws.proofs.LawWords.{collected, backlog, links, is_arrival, accepted_count, start_tag_on_arrival, Call, Configure, Submit, Advance, Collect, Show, Command, Queue, FlowKey, Packet}
use Rattle.dn_laws.proofs.LawWords.{Reply, Deleted, Target, ToPipe, ToQueue}
use Rattle.dn_types.proofs.{Fifo.IsProper, Giving.count-event, Keys.key_eq-true, Keys.keys-stay, Known.StandsAt, Known.place as key-place, Known.place-is, Known.known-flow, Ordered.trace-proper}
use Rattle.dn_types.proofs.{Ordered.opened-proper, Ordered.settled-proper}
use Rattle.dn_laws.proofs.{Isolation.false-if, Parts.skip, Parts.IsFit, Parts.AreFit, Parts.link', Parts.accepted', Parts.start', Parts.backlog-part, Parts.waiting-part, Parts.free-part}
use Rattle.dn_laws.proofs.{Parts.virtual_time-part, Parts.last_finish_tag-part, PartStarts.start_at-part, PartStarts.settled-fit, PartStarts.settled-part, Places.place-more, Places.place-same}
use Rattle.dn_laws.proofs.{Timely.events-stay}

module _ (chosen : Choice) where
  queues-submit : (target : Target) (packet : Packet) (moment : ℕ) (b : Bool) (cs : List Call) → queue_numbers (cond b (Submit target packet moment) (Advance moment) ∷ cs) ≡ queue_numbers cs
  queues-submit target packet moment true cs = refl
  queues-submit target packet moment false cs = refl

  pub queues-on : (calls : List Call) → queue_numbers (calls_on chosen calls) ≡ queue_numbers calls
  queues-on [] = refl
  queues-on (Configure (Queue number carrier weight limit loss buckets mask) ∷ calls) = ap (λ (qs : List ℕ). number ∷ qs) (queues-on calls)
  queues-on (Submit target packet moment ∷ calls) =
      queues-submit target packet moment (is_carried chosen target packet.tuple (treatment (settings calls target))) (calls_on chosen calls) ∙ queues-on calls
  queues-on (_ ∷ calls) = queues-on calls

  settings-submit : (target : Target) (packet : Packet) (moment : ℕ) (b : Bool) (cs : List Call) → settings (cond b (Submit target packet moment) (Advance moment) ∷ cs) ≡ settings cs
  settings-submit target packet moment true cs = λ i t. settings cs t
  settings-submit target packet moment false cs = λ i t. settings cs t

  pub settings-on : (calls : List Call) → settings (calls_on chosen calls) ≡ settings calls
  settings-on [] = refl
  settings-on (Configure command ∷ calls) =
      let s = settings-on calls in
      λ i t. cond (target_eq (subject command) t) (setting_after (command_reply (s i) (queues-on calls i) command) command (s i t)) (s i t)
  settings-on (Submit target packet moment ∷ calls) = settings-submit target packet moment
      (is_carried chosen target packet.tuple (treatment (settings calls target))) (calls_on chosen calls) ∙ settings-on calls ∙ (λ i t. settings calls t)
  settings-on (_ ∷ calls) = (λ i t. settings (calls_on chosen calls) t) ∙ settings-on calls ∙ (λ i t. settings calls t)

  moment-submit : (target : Target) (packet : Packet) (moment : ℕ) (b : Bool) (cs : List Call)
      → effective_moment (cond b (Submit target packet moment) (Advance moment) ∷ cs) ≡ max (effective_moment cs) moment
  moment-submit target packet moment true cs = refl
  moment-submit target packet moment false cs = refl

  pub moment-on : (calls : List Call) → effective_moment (calls_on chosen calls) ≡ effective_moment calls
  moment-on [] = refl
  moment-on (Configure command ∷ calls) = ap {B = ℕ} (λ m. max m 0) (moment-on calls)
  moment-on (Submit target packet moment ∷ calls) = moment-submit target packet moment
      (is_carried chosen target packet.tuple (treatment (settings calls target))) (calls_on chosen calls) ∙ ap {B = ℕ} (λ m. max m moment) (moment-on calls)
  moment-on (Advance moment ∷ calls) = ap {B = ℕ} (λ m. max m moment) (moment-on calls)
  moment-on (Collect moment ∷ calls) = ap {B = ℕ} (λ m. max m moment) (moment-on calls)
  moment-on (Show ∷ calls) = ap {B = ℕ} (λ m. max m 0) (moment-on calls)

  pub length-on : (calls : List Call) → length (calls_on chosen calls) ≡ length calls
  length-on [] = refl
  length-on (c ∷ calls) = ap {A = ℕ} suc (length-on calls)

  abbrev pub is-on : FlowKey → Bool
  is-on key = is_key_on chosen key

  abbrev pub keys-of : List FlowKey → List FlowKey
  keys-of known = filter is-on known

  any-keys : (key : FlowKey) (known : List FlowKey) → is-on key ≡ true → list_any (key_eq key) (keys-of known) ≡ list_any (key_eq key) known
  any-keys key [] on = refl
  any-keys key (k ∷ known) on = by (is-on k) refl (any-keys key known on)
    where
      by : (b : Bool) → is-on k ≡ b → list_any (key_eq key) (keys-of known) ≡ list_any (key_eq key) known
          → list_any (key_eq key) (cond b (k ∷ keys-of known) (keys-of known)) ≡ (key_eq key k || list_any (key_eq key) known)
      by true e rest = ap (λ b. key_eq key k || b) rest
      by false e rest =
          let other : key_eq key k ≡ false = false-if (key_eq key k) (λ same. let t : true ≡ false = sym on ∙ ap (λ (x : FlowKey). is-on x) (key_eq-true key k same) ∙ e in cc) in
          rest ∙ sym (ap (λ b. b || list_any (key_eq key) known) other)

  push-keys : (key : FlowKey) (known : List FlowKey) → keys-of (known ++ key ∷ []) ≡ keys-of known ++ cond (is-on key) (key ∷ []) []
  push-keys key [] = refl
  push-keys key (k ∷ known) = by (is-on k) (push-keys key known)
    where
      by : (b : Bool) → keys-of (known ++ key ∷ []) ≡ keys-of known ++ cond (is-on key) (key ∷ []) [] →
          cond b (k ∷ keys-of (known ++ key ∷ [])) (keys-of (known ++ key ∷ [])) ≡ cond b (k ∷ keys-of known) (keys-of known) ++ cond (is-on key) (key ∷ []) []
      by true rest = ap (λ (ks : List FlowKey). k ∷ ks) rest
      by false rest = rest

  append-nil : (ks : List FlowKey) → ks ++ [] ≡ ks
  append-nil [] = refl
  append-nil (k ∷ ks) = ap (λ (r : List FlowKey). k ∷ r) (append-nil ks)

  with-on : (key : FlowKey) (known : List FlowKey) → is-on key ≡ true → keys-of (with_key key known) ≡ with_key key (keys-of known)
  with-on key known on = by (list_any (key_eq key) known) ∙ sym (ap (λ b. cond b (keys-of known) (keys-of known ++ key ∷ [])) (any-keys key known on))
    where
      by : (b : Bool) → keys-of (cond b known (known ++ key ∷ [])) ≡ cond b (keys-of known) (keys-of known ++ key ∷ [])
      by true = refl
      by false = push-keys key known ∙ ap (λ b. keys-of known ++ cond b (key ∷ []) []) on

  with-off : (key : FlowKey) (known : List FlowKey) → is-on key ≡ false → keys-of (with_key key known) ≡ keys-of known
  with-off key known off = by (list_any (key_eq key) known)
    where
      by : (b : Bool) → keys-of (cond b known (known ++ key ∷ [])) ≡ keys-of known
      by true = refl
      by false = push-keys key known ∙ ap (λ b. keys-of known ++ cond b (key ∷ []) []) off ∙ append-nil (keys-of known)

  keys-submit : (target : Target) (packet : Packet) (moment : ℕ) (o : Option Treatment) (cs : List Call) (known : List FlowKey) → treatment (settings cs target) ≡ o → keys cs ≡ keys-of known →
      (b : Bool) → is_carried chosen target packet.tuple o ≡ b → keys (cond b (Submit target packet moment) (Advance moment) ∷ cs) ≡ keys-of (keys_with target packet.tuple o known)
  keys-submit target packet moment None cs known is same true e = absurd cc
  keys-submit target packet moment None cs known is same false e = same
  keys-submit target packet moment (Some how) cs known is same true e =
      (λ i. keys_with target packet.tuple (is i) (same i)) ∙ sym (with-on (key_of target packet.tuple how) known e)
  keys-submit target packet moment (Some how) cs known is same false e = same ∙ sym (with-off (key_of target packet.tuple how) known e)

  pub keys-on : (calls : List Call) → keys (calls_on chosen calls) ≡ keys-of (keys calls)
  keys-on [] = refl
  keys-on (Submit target packet moment ∷ calls) =
      keys-submit target packet moment (treatment (settings calls target))
      (calls_on chosen calls) (keys calls) (ap (λ (s : Settings). treatment (s target)) (settings-on calls)) (keys-on calls)
      (is_carried chosen target packet.tuple (treatment (settings calls target))) refl
  keys-on (_ ∷ calls) = keys-on calls

  -- The test says of each known flow whether it is on the pipe.
  abbrev pub IsKeyed : (ℕ → Bool) → List FlowKey → Type 0
  IsKeyed mine known = (f : ℕ) (key : FlowKey) → slice_get known f ≡ Some key → mine f ≡ is-on key

  place-shift : (mine : ℕ → Bool) (n : ℕ) → place mine (suc n) ≡ cond (mine 0) 1 0 + place (λ i. mine (suc i)) n
  place-shift mine zero = either (mine 0)
    where
      either : (b : Bool) → cond b (suc zero) zero ≡ cond {A = ℕ} b 1 0 + zero
      either true = refl
      either false = refl
  place-shift mine (suc n) = by (mine (suc n)) (place-shift mine n)
    where
      by : (b : Bool) → place mine (suc n) ≡ cond (mine 0) 1 0 + place (λ i. mine (suc i)) n →
          cond b (suc (place mine (suc n))) (place mine (suc n)) ≡ cond (mine 0) 1 0 + cond b (suc (place (λ i. mine (suc i)) n)) (place (λ i. mine (suc i)) n)
      by true rest = omega (arith, rest)
      by false rest = rest

  key-places : (key : FlowKey) (known : List FlowKey) (mine : ℕ → Bool) → is-on key ≡ true → IsKeyed mine known → key-place key (keys-of known) ≡ place mine (key-place key known)
  key-places key [] mine on keyed = refl
  key-places key (k ∷ known) mine on keyed = by (key_eq key k) refl (is-on k) refl (key-places key known (λ i. mine (suc i)) on (λ f x e. keyed (suc f) x e))
    where
      first : mine 0 ≡ is-on k
      first = keyed 0 k refl

      by : (b : Bool) → key_eq key k ≡ b → (c : Bool) → is-on k ≡ c → key-place key (keys-of known) ≡ place (λ i. mine (suc i)) (key-place key known) →
          key-place key (cond c (k ∷ keys-of known) (keys-of known)) ≡ place mine (cond b 0 (1 + key-place key known))
      by true e true e' rest = ap {B = ℕ} (λ b. cond b 0 (1 + key-place key (keys-of known))) e
      by true e false e' rest = let t : false ≡ true = sym e' ∙ ap (λ (x : FlowKey). is-on x) (sym (key_eq-true key k e)) ∙ on in absurd cc
      by false e true e' rest =
          let next : 1 + key-place key known ≡ suc (key-place key known) = omega arith in
          let here : cond {A = ℕ} (mine 0) 1 0 ≡ 1 = ap {B = ℕ} (λ b. cond b 1 0) (first ∙ e') in
          let all : place mine (suc (key-place key known)) ≡ 1 + key-place key (keys-of known) = omega (arith, place-shift mine (key-place key known), here, rest) in
          ap {B = ℕ} (λ b. cond b 0 (1 + key-place key (keys-of known))) e ∙ sym all ∙ sym (ap (place mine) next)
      by false e false e' rest =
          let next : 1 + key-place key known ≡ suc (key-place key known) = omega arith in
          let here : cond {A = ℕ} (mine 0) 1 0 ≡ 0 = ap {B = ℕ} (λ b. cond b 1 0) (first ∙ e') in
          let all : place mine (suc (key-place key known)) ≡ key-place key (keys-of known) = omega (arith, place-shift mine (key-place key known), here, rest) in
          sym all ∙ sym (ap (place mine) next)

  pub flow-part : (key : FlowKey) (known : List FlowKey) (mine : ℕ → Bool) → is-on key ≡ true → IsKeyed mine known → flow_number (keys-of known) key ≡ place mine (flow_number known key)
  flow-part key known mine on keyed = sym (place-is key (keys-of known)) ∙ key-places key known mine on keyed ∙ ap (place mine) (place-is key known)

  get-there : (before behind : List FlowKey) (key : FlowKey) → slice_get (before ++ key ∷ behind) (length before) ≡ Some key
  get-there [] behind key = refl
  get-there (k ∷ before) behind key = get-there before behind key

  pub stands-there : (known : List FlowKey) (flow : ℕ) (key : FlowKey) → StandsAt known flow key → slice_get known flow ≡ Some key
  stands-there known flow key at = (λ i. slice_get (at.parts i) (sym at.place i)) ∙ get-there at.before at.behind key

  pub keyed-before : (mine : ℕ → Bool) (calls : List Call) (c : Call) → IsKeyed mine (keys (c ∷ calls)) → IsKeyed mine (keys calls)
  keyed-before mine calls c h = λ f key e. h f key (keys-stay calls c f key e)

  -- The flow of a packet, whether it was known before or not.
  abbrev pub IsFlowOf : (ℕ → Bool) → List FlowKey → Target → Packet → Option Treatment → Type 0
  IsFlowOf mine known target packet None = ⊤
  IsFlowOf mine known target packet (Some how) = mine (flow_number known (key_of target packet.tuple how)) ≡ is-on (key_of target packet.tuple how)

  pub flow-of : (mine : ℕ → Bool) (known : List FlowKey) (target : Target) (packet : Packet) (o : Option Treatment)
      → IsKeyed mine (keys_with target packet.tuple o known) → IsFlowOf mine known target packet o
  flow-of mine known target packet None h = tt
  flow-of mine known target packet (Some how) h =
      let key = key_of target packet.tuple how in
      h (flow_number known key) key (stands-there (with_key key known) (flow_number known key) key (known-flow key known))

  module _ (mine : ℕ → Bool) where
    abbrev pub AreTaken : (ℕ → Bool) → List Event → Type 0
    AreTaken taken [] = ⊤
    AreTaken taken (arrived q ∷ t) = (taken q.packet ≡ is_link_on chosen mine q.link) × AreTaken taken t
    AreTaken taken (_ ∷ t) = AreTaken taken t

    taken-suffix : (taken : ℕ → Bool) (later t : List Event) → AreTaken taken (later ++ t) → AreTaken taken t
    taken-suffix taken [] t h = h
    taken-suffix taken (arrived q ∷ later) t h = taken-suffix taken later t h.1
    taken-suffix taken (_ ∷ later) t h = taken-suffix taken later t h

    pub taken-before : (taken : ℕ → Bool) (calls : List Call) (c : Call) → AreTaken taken (trace_of (c ∷ calls)) → AreTaken taken (trace_of calls)
    taken-before taken calls c h = let adds = events-stay calls c in taken-suffix taken adds.0 (trace_of calls) (subst (AreTaken taken) adds.1 h)

    taken-settle : (taken : ℕ → Bool) (most : ℕ) (set : Settings) (at : ℕ) (t : List Event) → AreTaken taken t → AreTaken taken (settle most set at t)
    taken-settle taken zero set at t h = h
    taken-settle taken (suc most) set at t h = step (first_start set at (links t) t) (λ x. taken-settle taken most set at (started x ∷ t) h)
      where
        step : (o : Option Start) → ((x : Start) → AreTaken taken (settle most set at (started x ∷ t)))
            → AreTaken taken (elim o as (λ _. List Event) [ None ↦ t | Some s ↦ settle most set at (started s ∷ t) ])
        step None rest = h
        step (Some s) rest = rest s

    pub taken-settled : (taken : ℕ → Bool) (set : Settings) (at : ℕ) (t : List Event) → AreTaken taken t → AreTaken taken (settled set at t)
    taken-settled taken set at t h = taken-settle taken (waiting_all (links t) t) set at t h

    taken-opened : (taken : ℕ → Bool) (b : Bool) (l : Link) (t : List Event) → AreTaken taken t → AreTaken taken (cond b (opened l ∷ t) t)
    taken-opened taken true l t h = h
    taken-opened taken false l t h = h

    none-later : (t : List Event) (n : ℕ) → IsProper t → accepted_count t ≤ n → is_packet_on chosen mine t n ≡ false
    none-later [] n h le = refl
    none-later (arrived q ∷ t) n h le =
        let c = count-event is_arrival (arrived q) t in
        let lt : q.packet < n = omega (arith, c, le, h.0) in
        let apart : nat_eq q.packet n ≡ false = grind (arith, nat_tests) in
        ap (λ b. b && is_link_on chosen mine q.link || is_packet_on chosen mine t n) apart ∙ none-later t n h.1 (omega (arith, c, le))
    none-later (started s ∷ t) n h le = none-later t n h.2 (omega (arith, count-event is_arrival (started s) t, le))
    none-later (e ∷ t) n h le = none-later t n h (omega (arith, count-event is_arrival e t, le))

    taken-same : (one two : ℕ → Bool) (t : List Event) → IsProper t → ((n : ℕ) → n < accepted_count t → one n ≡ two n) → AreTaken one t → AreTaken two t
    taken-same one two [] h e all = tt
    taken-same one two (arrived q ∷ t) h e all =
        let c = count-event is_arrival (arrived q) t in
        (sym (e q.packet (omega (arith, c, h.0))) ∙ all.0, taken-same one two t h.1 (λ n lt. e n (omega (arith, c, lt))) all.1)
    taken-same one two (started s ∷ t) h e all = taken-same one two t h.2 (λ n lt. e n (omega (arith, count-event is_arrival (started s) t, lt))) all
    taken-same one two (x ∷ t) h e all = taken-same one two t h (λ n lt. e n (omega (arith, count-event is_arrival x t, lt))) all

    pub all-taken : (t : List Event) → IsProper t → AreTaken (is_packet_on chosen mine t) t
    all-taken [] h = tt
    all-taken (arrived q ∷ t) h = (here, taken-same (is_packet_on chosen mine t) (is_packet_on chosen mine (arrived q ∷ t)) t h.1 before (all-taken t h.1))
      where
        or-none : (b : Bool) → (b || false) ≡ b
        or-none true = refl
        or-none false = refl

        here : (nat_eq q.packet q.packet && is_link_on chosen mine q.link || is_packet_on chosen mine t q.packet) ≡ is_link_on chosen mine q.link
        here =
            let same = eq-eqb q.packet q.packet refl in
            let none = none-later t q.packet h.1 (omega (arith, h.0)) in
            (λ i. same i && is_link_on chosen mine q.link || none i) ∙ or-none (is_link_on chosen mine q.link)

        before : (n : ℕ) → n < accepted_count t → is_packet_on chosen mine t n ≡ (nat_eq q.packet n && is_link_on chosen mine q.link || is_packet_on chosen mine t n)
        before n lt =
            let lower : n < q.packet = omega (arith, h.0, lt) in
            let apart : nat_eq q.packet n ≡ false = grind (arith, nat_tests) in
            sym (ap (λ b. b && is_link_on chosen mine q.link || is_packet_on chosen mine t n) apart)
    all-taken (started s ∷ t) h = all-taken t h.2
    all-taken (_ ∷ t) h = all-taken t h

  module _ (mine taken : ℕ → Bool) where
    abbrev part-on : List Event → List Event
    part-on t = part chosen mine taken t

    abbrev link-on : Link → Link
    link-on l = link' chosen mine taken l

    abbrev accepted-on : Accepted → Accepted
    accepted-on p = accepted' chosen mine taken p

    abbrev IsFitHere : Link → ℕ → Type 0
    IsFitHere l f = IsFit chosen mine taken l f

    abbrev AreFitHere : List Event → Type 0
    AreFitHere t = AreFit chosen mine taken t

    count-skip : (b : Bool) (e : Event) (u : List Event) → is_arrival e ≡ false → accepted_count (cond b (e ∷ u) u) ≡ accepted_count u
    count-skip b e u is = skip accepted_count b e u (let c = count-event is_arrival e u in let z : cond {A = ℕ} (is_arrival e) 1 0 ≡ 0 = ap {B = ℕ} (λ b. cond b 1 0) is in omega (arith, c, z))

    count-same : (e : Event) (t : List Event) → is_arrival e ≡ false → accepted_count (e ∷ t) ≡ accepted_count t
    count-same e t is = let c = count-event is_arrival e t in let z : cond {A = ℕ} (is_arrival e) 1 0 ≡ 0 = ap {B = ℕ} (λ b. cond b 1 0) is in omega (arith, c, z)

    count-arrived : (q : Accepted) (t : List Event) → q.packet ≡ accepted_count t → taken q.packet ≡ is_link_on chosen mine q.link → accepted_count (part-on t) ≡ place taken (accepted_count t) →
        accepted_count (part-on (arrived q ∷ t)) ≡ place taken (accepted_count (arrived q ∷ t))
    count-arrived q t number is rest = by (is_link_on chosen mine q.link) refl ∙ sym (ap (place taken) more)
      where
        more : accepted_count (arrived q ∷ t) ≡ suc (accepted_count t)
        more = omega (arith, count-event is_arrival (arrived q) t)

        by : (b : Bool) → is_link_on chosen mine q.link ≡ b → accepted_count (cond b (arrived (accepted-on q) ∷ part-on t) (part-on t)) ≡ place taken (suc (accepted_count t))
        by true e =
            let c = count-event is_arrival (arrived (accepted-on q)) (part-on t) in
            let one = place-more taken (accepted_count t) (ap taken (sym number) ∙ is ∙ e) in
            omega (arith, c, one, rest)
        by false e = rest ∙ sym (place-same taken (accepted_count t) (ap taken (sym number) ∙ is ∙ e))

    pub count-on : (t : List Event) → IsProper t → AreTaken mine taken t → accepted_count (part-on t) ≡ place taken (accepted_count t)
    count-on [] h a = refl
    count-on (opened l ∷ t) h a = count-skip (is_link_on chosen mine l) (opened (link-on l)) (part-on t) refl ∙ count-on t h a ∙ sym (ap (place taken) (count-same (opened l) t refl))
    count-on (arrived q ∷ t) h a = count-arrived q t h.0 a.0 (count-on t h.1 a.1)
    count-on (started s ∷ t) h a = count-skip (is_link_on chosen mine s.packet.link) (started (start' chosen mine taken s)) (part-on t) refl
        ∙ count-on t h.2 a ∙ sym (ap (place taken) (count-same (started s) t refl))
    count-on (lost l f ∷ t) h a = count-skip (is_link_on chosen mine l) (lost (link-on l) (place mine f)) (part-on t) refl ∙ count-on t h a ∙ sym (ap (place taken) (count-same (lost l f) t refl))
    count-on (refused l f ∷ t) h a = count-skip (is_link_on chosen mine l) (refused (link-on l) (place mine f)) (part-on t) refl
        ∙ count-on t h a ∙ sym (ap (place taken) (count-same (refused l f) t refl))
    count-on (discarded f ∷ t) h a = count-skip (mine f) (discarded (place mine f)) (part-on t) refl ∙ count-on t h a ∙ sym (ap (place taken) (count-same (discarded f) t refl))
    count-on (collected m ∷ t) h a = count-same (collected m) (part-on t) refl ∙ count-on t h a ∙ sym (ap (place taken) (count-same (collected m) t refl))

    abbrev pub verdict-on : Verdict → Verdict
    verdict-on no_target = no_target
    verdict-on (loses l f) = loses (link-on l) (place mine f)
    verdict-on (refuses l f) = refuses (link-on l) (place mine f)
    verdict-on (takes l f how) = takes (link-on l) (place mine f) how

    abbrev pub IsVerdictFit : Verdict → Type 0
    IsVerdictFit no_target = ⊤
    IsVerdictFit (loses l f) = IsFitHere l f
    IsVerdictFit (refuses l f) = IsFitHere l f
    IsVerdictFit (takes l f how) = IsFitHere l f

    -- Whether the packet is on the pipe.
    abbrev pub IsAt : Bool → Verdict → Type 0
    IsAt b no_target = ⊤
    IsAt b (loses l f) = is_link_on chosen mine l ≡ b
    IsAt b (refuses l f) = is_link_on chosen mine l ≡ b
    IsAt b (takes l f how) = is_link_on chosen mine l ≡ b

    pub link-fit : (key : FlowKey) (flow : ℕ) → mine flow ≡ is-on key → IsFitHere (link_of key.target flow key.pipe) flow
    link-fit key flow e = by key.target e
      where
        by : (t : Target) → mine flow ≡ is_flow_of chosen t key → mine flow ≡ is_link_on chosen mine (link_of t flow key.pipe)
        by (ToPipe n) e = refl
        by (ToQueue n) e = e

    pub link-is : (target : Target) (flow carrier : ℕ) → link_of target (place mine flow) carrier ≡ link-on (link_of target flow carrier)
    link-is (ToPipe n) flow carrier = refl
    link-is (ToQueue n) flow carrier = refl

    pub verdict-fit : (known : List FlowKey) (target : Target) (packet : Packet) (o : Option Treatment) (t : List Event)
        → IsFlowOf mine known target packet o → IsVerdictFit (verdict_by known target packet o t)
    verdict-fit known target packet None t h = tt
    verdict-fit known target packet (Some how) t h =
        let flow = flow_number known (key_of target packet.tuple how) in
        let link = link_of target flow how.pipe in
        by link flow (link-fit (key_of target packet.tuple how) flow h) (is_lost how.loss packet.word) (is_full how.limit (map (λ p. p.stamped.len) (backlog link flow t)))
      where
        by : (l : Link) (f : ℕ) → IsFitHere l f → (b c : Bool) → IsVerdictFit (cond b (loses l f) (cond c (refuses l f) (takes l f how)))
        by l f h true c = h
        by l f h false true = h
        by l f h false false = h

    pub verdict-at : (known : List FlowKey) (target : Target) (packet : Packet) (o : Option Treatment) (t : List Event) (b : Bool)
        → IsFlowOf mine known target packet o → is_carried chosen target packet.tuple o ≡ b → IsAt b (verdict_by known target packet o t)
    verdict-at known target packet None t b is h = tt
    verdict-at known target packet (Some how) t b is h =
        let flow = flow_number known (key_of target packet.tuple how) in
        let link = link_of target flow how.pipe in
        by link flow (sym (link-fit (key_of target packet.tuple how) flow is) ∙ is ∙ h) (is_lost how.loss packet.word) (is_full how.limit (map (λ p. p.stamped.len) (backlog link flow t)))
      where
        by : (l : Link) (f : ℕ) → is_link_on chosen mine l ≡ b → (c d : Bool) → IsAt b (cond c (loses l f) (cond d (refuses l f) (takes l f how)))
        by l f h true d = h
        by l f h false true = h
        by l f h false false = h

    pub verdict-part : (known : List FlowKey) (target : Target) (packet : Packet) (o : Option Treatment) (t : List Event)
        → IsKeyed mine known → IsFlowOf mine known target packet o → is_carried chosen target packet.tuple o ≡ true → AreFitHere t →
        verdict_by (keys-of known) target packet o (part-on t) ≡ verdict-on (verdict_by known target packet o t)
    verdict-part known target packet None t keyed h on fit = absurd cc
    verdict-part known target packet (Some how) t keyed h on fit =
        let key = key_of target packet.tuple how in
        let flow = flow_number known key in
        let link = link_of target flow how.pipe in
        let is : flow_number (keys-of known) key ≡ place mine flow = flow-part key known mine on keyed in
        let good = link-fit (key_of target packet.tuple how) flow h in
        let there = sym good ∙ h ∙ on in
        let lens = ap (λ (ps : List Accepted). map (λ p. p.stamped.len) ps) (backlog-part chosen mine taken link there flow (h ∙ on) t fit) ∙ lengths (backlog link flow t) in
        ap (λ f. decide (link_of target f how.pipe) f (map (λ p. p.stamped.len) (backlog (link_of target f how.pipe) f (part-on t)))) is
        ∙ ap (λ (l : Link). decide l (place mine flow) (map (λ p. p.stamped.len) (backlog l (place mine flow) (part-on t)))) (link-is target flow how.pipe)
        ∙ ap (decide (link-on link) (place mine flow)) lens
        ∙ either link flow (is_lost how.loss packet.word) (is_full how.limit (map (λ p. p.stamped.len) (backlog link flow t)))
      where
        decide : Link → ℕ → List ℕ → Verdict
        decide l f lens = cond (is_lost how.loss packet.word) (loses l f) (cond (is_full how.limit lens) (refuses l f) (takes l f how))

        lengths : (ps : List Accepted) → map (λ p. p.stamped.len) (map accepted-on ps) ≡ map (λ p. p.stamped.len) ps
        lengths [] = refl
        lengths (p ∷ ps) = ap (λ (ls : List ℕ). p.stamped.len ∷ ls) (lengths ps)

        either : (l : Link) (f : ℕ) (b c : Bool) → cond b (loses (link-on l) (place mine f)) (cond c (refuses (link-on l) (place mine f))
            (takes (link-on l) (place mine f) how)) ≡ verdict-on (cond b (loses l f) (cond c (refuses l f) (takes l f how)))
        either l f true c = refl
        either l f false true = refl
        either l f false false = refl

    module _ (set : Settings) (at : ℕ) where
      opening-part : (l : Link) (t : List Event) → is_link_on chosen mine l ≡ true → AreFitHere t → opening (link-on l) at (part-on t) ≡ part-on (opening l at t)
      opening-part l t on h =
          let w = waiting-part chosen mine taken l on t h in
          let f = free-part chosen mine taken l on t h in
          (λ i. cond (nat_eq (w i) 0 && nat_le (f i) at) (opened (link-on l) ∷ part-on t) (part-on t)) ∙ either (nat_eq (waiting l t) 0 && nat_le (free l t) at)
        where
          either : (b : Bool) → cond b (opened (link-on l) ∷ part-on t) (part-on t) ≡ part-on (cond b (opened l ∷ t) t)
          either true = sym (ap (λ b. cond b (opened (link-on l) ∷ part-on t) (part-on t)) on)
          either false = refl

      opening-fit : (b : Bool) (l : Link) (t : List Event) → AreFitHere t → AreFitHere (cond b (opened l ∷ t) t)
      opening-fit true l t h = h
      opening-fit false l t h = h

      accept-part : (l : Link) (packet : Packet) (f : ℕ) (how : Treatment) (t : List Event) → is_link_on chosen mine l ≡ true
          → IsFitHere l f → AreFitHere t → accepted_count (part-on t) ≡ place taken (accepted_count t) →
          accept (link-on l) packet (place mine f) how (part-on t) ≡ accepted-on (accept l packet f how t)
      accept-part l packet f how t on fit h count =
          let hf = fit ∙ on in
          let lens : length (backlog (link-on l) (place mine f) (part-on t)) ≡ length (backlog l f t) =
          ap (λ (ps : List Accepted). length ps) (backlog-part chosen mine taken l on f hf t h) ∙ lengths (backlog l f t) in
          let tag = last_finish_tag-part chosen mine taken l on f hf t h in
          let v = virtual_time-part chosen mine taken l on t h in
          λ i. record {
            packet = count i;
            link = link-on l;
            stamped = record {
              flow = place mine f;
              len = packet.len;
              weight = how.weight;
              start_tag = start_tag_on_arrival (nat_eq (lens i) 0) (tag i) (v i);
              finish_tag = start_tag_on_arrival (nat_eq (lens i) 0) (tag i) (v i) + scaled packet.len how.weight;
            };
          }
        where
          lengths : (ps : List Accepted) → length (map accepted-on ps) ≡ length ps
          lengths [] = refl
          lengths (p ∷ ps) = ap {A = ℕ} suc (lengths ps)

      join-part : (p : Accepted) (t : List Event) → is_link_on chosen mine p.link ≡ true → AreFitHere t → join set at (accepted-on p) (part-on t) ≡ part-on (join set at p t)
      join-part p t on h =
          let f = free-part chosen mine taken p.link on t h in
          let s = start_at-part chosen mine taken set p.link p at in
          (λ i. cond (nat_le (f i) at) (started (s i) ∷ arrived (accepted-on p) ∷ part-on t) (arrived (accepted-on p) ∷ part-on t)) ∙ either (nat_le (free p.link t) at)
        where
          either : (b : Bool) → cond b (started (start' chosen mine taken (start_at set p.link p at)) ∷ arrived (accepted-on p) ∷ part-on t) (arrived (accepted-on p) ∷ part-on t) ≡
              part-on (cond b (started (start_at set p.link p at) ∷ arrived p ∷ t) (arrived p ∷ t))
          either true = sym (λ i. cond (on i) (started (start' chosen mine taken (start_at set p.link p at)) ∷
              cond (on i) (arrived (accepted-on p) ∷ part-on t) (part-on t)) (cond (on i) (arrived (accepted-on p) ∷ part-on t) (part-on t)))
          either false = sym (ap (λ b. cond b (arrived (accepted-on p) ∷ part-on t) (part-on t)) on)

      join-fit : (p : Accepted) (t : List Event) → IsFitHere p.link p.stamped.flow → AreFitHere t → AreFitHere (join set at p t)
      join-fit p t fit h = by (nat_le (free p.link t) at)
        where
          by : (b : Bool) → AreFitHere (cond b (started (start_at set p.link p at) ∷ arrived p ∷ t) (arrived p ∷ t))
          by true = (fit, (fit, h))
          by false = (fit, h)

      after-fit : (packet : Packet) (v : Verdict) (t : List Event) → IsVerdictFit v → AreFitHere t → AreFitHere (after_verdict set at packet v t)
      after-fit packet no_target t v h = h
      after-fit packet (loses l f) t v h = (v, h)
      after-fit packet (refuses l f) t v h = (v, h)
      after-fit packet (takes l f how) t v h =
          join-fit (accept l packet f how (opening l at t)) (opening l at t) v (opening-fit (nat_eq (waiting l t) 0 && nat_le (free l t) at) l t h)

      after-part : (packet : Packet) (v : Verdict) (t : List Event) → IsVerdictFit v → IsAt true v → AreFitHere t → IsProper t → AreTaken mine taken t →
          after_verdict set at packet (verdict-on v) (part-on t) ≡ part-on (after_verdict set at packet v t)
      after-part packet no_target t v on h proper all = refl
      after-part packet (loses l f) t v on h proper all = sym (ap (λ b. cond b (lost (link-on l) (place mine f) ∷ part-on t) (part-on t)) on)
      after-part packet (refuses l f) t v on h proper all = sym (ap (λ b. cond b (refused (link-on l) (place mine f) ∷ part-on t) (part-on t)) on)
      after-part packet (takes l f how) t v on h proper all =
          let b = nat_eq (waiting l t) 0 && nat_le (free l t) at in
          let before = opening l at t in
          let fit = opening-fit b l t h in
          let count = count-on before (opened-proper b l t proper) (taken-opened mine taken b l t all) in
          ap (λ (u : List Event). join set at (accept (link-on l) packet (place mine f) how u) u) (opening-part l t on h)
          ∙ ap (λ (p : Accepted). join set at p (part-on before)) (accept-part l packet f how before on v fit count)
          ∙ join-part (accept l packet f how before) before on fit

      -- A packet on another pipe leaves no event here.
      after-elsewhere : (packet : Packet) (v : Verdict) (t : List Event) → IsAt false v → part-on (after_verdict set at packet v t) ≡ part-on t
      after-elsewhere packet no_target t off = refl
      after-elsewhere packet (loses l f) t off = ap (λ b. cond b (lost (link-on l) (place mine f) ∷ part-on t) (part-on t)) off
      after-elsewhere packet (refuses l f) t off = ap (λ b. cond b (refused (link-on l) (place mine f) ∷ part-on t) (part-on t)) off
      after-elsewhere packet (takes l f how) t off =
          let before = opening l at t in
          joined (accept l packet f how before) before off ∙ begun (nat_eq (waiting l t) 0 && nat_le (free l t) at)
        where
          begun : (b : Bool) → part-on (cond b (opened l ∷ t) t) ≡ part-on t
          begun true = ap (λ b. cond b (opened (link-on l) ∷ part-on t) (part-on t)) off
          begun false = refl

          joined : (p : Accepted) (u : List Event) → is_link_on chosen mine p.link ≡ false → part-on (join set at p u) ≡ part-on u
          joined p u off = by (nat_le (free p.link u) at)
            where
              arrives : part-on (arrived p ∷ u) ≡ part-on u
              arrives = ap (λ b. cond b (arrived (accepted-on p) ∷ part-on u) (part-on u)) off

              by : (b : Bool) → part-on (cond b (started (start_at set p.link p at) ∷ arrived p ∷ u) (arrived p ∷ u)) ≡ part-on u
              by true = ap (λ b. cond b (started (start' chosen mine taken (start_at set p.link p at)) ∷ part-on (arrived p ∷ u)) (part-on (arrived p ∷ u))) off ∙ arrives
              by false = arrives

    -- The test says of each of the keys, from the flow number `from` on, whether it is on the pipe.
    abbrev pub IsKeyedFrom : ℕ → List FlowKey → Type 0
    IsKeyedFrom from [] = ⊤
    IsKeyedFrom from (key ∷ known) = (mine from ≡ is-on key) × IsKeyedFrom (from + 1) known

    pub keyed-from : (from : ℕ) (known : List FlowKey) → ((f : ℕ) (key : FlowKey) → slice_get known f ≡ Some key → mine (from + f) ≡ is-on key) → IsKeyedFrom from known
    keyed-from from [] h = tt
    keyed-from from (key ∷ known) h =
        let zero-on : from + 0 ≡ from = omega arith in
        (ap mine (sym zero-on) ∙ h 0 key refl, keyed-from (from + 1) known (λ f k e. let next : from + 1 + f ≡ from + suc f = omega arith in ap mine next ∙ h (suc f) k e))

    discard-part : (command : Command) (from : ℕ) (known : List FlowKey) (t : List Event) → IsKeyedFrom from known →
        discard_reached command (place mine from) (keys-of known) (part-on t) ≡ part-on (discard_reached command from known t)
    discard-part command from [] t h = refl
    discard-part command from (key ∷ known) t h =
        by (is-on key) refl (reaches command key) ∙ discard-part command (from + 1) known (cond (reaches command key) (discarded from ∷ t) t) h.1
      where
        next : from + 1 ≡ suc from
        next = omega arith

        by : (b : Bool) → is-on key ≡ b → (c : Bool) →
            discard_reached command (place mine from) (cond b (key ∷ keys-of known) (keys-of known)) (part-on t)
            ≡ discard_reached command (place mine (from + 1)) (keys-of known) (part-on (cond (reaches command key) (discarded from ∷ t) t))
        by true e c =
            let more : place mine from + 1 ≡ place mine (from + 1) = let two = place-more mine from (h.0 ∙ e) in omega (arith, ap (place mine) next, two) in
            λ i. discard_reached command (more i) (keys-of known) (cleared (reaches command key) i)
          where
            cleared : (c : Bool) → cond c (discarded (place mine from) ∷ part-on t) (part-on t) ≡ part-on (cond c (discarded from ∷ t) t)
            cleared true = sym (ap (λ b. cond b (discarded (place mine from) ∷ part-on t) (part-on t)) (h.0 ∙ e))
            cleared false = refl
        by false e c =
            let same : place mine from ≡ place mine (from + 1) = sym (ap (place mine) next ∙ place-same mine from (h.0 ∙ e)) in
            λ i. discard_reached command (same i) (keys-of known) (cleared (reaches command key) i)
          where
            cleared : (c : Bool) → part-on t ≡ part-on (cond c (discarded from ∷ t) t)
            cleared true = sym (ap (λ b. cond b (discarded (place mine from) ∷ part-on t) (part-on t)) (h.0 ∙ e))
            cleared false = refl

    discard-fit : (command : Command) (from : ℕ) (known : List FlowKey) (t : List Event) → AreFitHere t → AreFitHere (discard_reached command from known t)
    discard-fit command from [] t h = h
    discard-fit command from (key ∷ known) t h = discard-fit command (from + 1) known (cond (reaches command key) (discarded from ∷ t) t) (by (reaches command key))
      where
        by : (b : Bool) → AreFitHere (cond b (discarded from ∷ t) t)
        by true = h
        by false = h

    command-part : (r : Reply) (command : Command) (known : List FlowKey) (t : List Event) → IsKeyed mine known
        → after_command r command (keys-of known) (part-on t) ≡ part-on (after_command r command known t)
    command-part Deleted command known t h = discard-part command 0 known t (keyed-from 0 known (λ f key e. let same : 0 + f ≡ f = omega arith in ap mine same ∙ h f key e))
    command-part _ command known t h = refl

    command-fit : (r : Reply) (command : Command) (known : List FlowKey) (t : List Event) → AreFitHere t → AreFitHere (after_command r command known t)
    command-fit Deleted command known t h = discard-fit command 0 known t h
    command-fit _ command known t h = h

    pub trace-fit : (calls : List Call) → IsKeyed mine (keys calls) → AreFitHere (trace_of calls)
    trace-fit [] k = tt
    trace-fit (Configure command ∷ calls) k = command-fit (reply_to_command calls command) command (keys calls) (trace_of calls) (trace-fit calls k)
    trace-fit (Submit target packet moment ∷ calls) k =
        let at = max (effective_moment calls) moment in
        let before = settled (settings calls) at (trace_of calls) in
        let o = treatment (settings calls target) in
        after-fit (settings calls) at packet (verdict_by (keys calls) target packet o before) before (verdict-fit (keys calls) target packet o before (flow-of mine (keys calls) target packet o k))
        (settled-fit chosen mine taken (settings calls) at (trace_of calls) (trace-fit calls (keyed-before mine calls (Submit target packet moment) k)))
    trace-fit (Advance moment ∷ calls) k = settled-fit chosen mine taken (settings calls) (max (effective_moment calls) moment) (trace_of calls) (trace-fit calls k)
    trace-fit (Collect moment ∷ calls) k = settled-fit chosen mine taken (settings calls) (max (effective_moment calls) moment) (trace_of calls) (trace-fit calls k)
    trace-fit (Show ∷ calls) k = trace-fit calls k

    -- A settling before a call.
    pub settled-on : (calls : List Call) (moment : ℕ) → IsKeyed mine (keys calls) → trace_of (calls_on chosen calls) ≡ part-on (trace_of calls) →
        settled (settings (calls_on chosen calls)) (max (effective_moment (calls_on chosen calls)) moment) (trace_of (calls_on chosen calls))
        ≡ part-on (settled (settings calls) (max (effective_moment calls) moment) (trace_of calls))
    settled-on calls moment k same =
        (λ i. settled (settings-on calls i) (max (moment-on calls i) moment) (same i))
        ∙ sym (settled-part chosen mine taken (settings calls) (max (effective_moment calls) moment) (trace_of calls) (trace-fit calls k))

    submit-on : (calls : List Call) (target : Target) (packet : Packet) (moment : ℕ) → IsKeyed mine (keys (Submit target packet moment ∷ calls)) → AreTaken mine taken (trace_of calls) →
        trace_of (calls_on chosen calls) ≡ part-on (trace_of calls) → (b : Bool) → is_carried chosen target packet.tuple (treatment (settings calls target)) ≡ b →
        trace_of (cond b (Submit target packet moment) (Advance moment) ∷ calls_on chosen calls) ≡ part-on (trace_of (Submit target packet moment ∷ calls))
    submit-on calls target packet moment k all same true on =
        let keyed = keyed-before mine calls (Submit target packet moment) k in
        let at = max (effective_moment calls) moment in
        let before = settled (settings calls) at (trace_of calls) in
        let o = treatment (settings calls target) in
        let flow = flow-of mine (keys calls) target packet o k in
        let fit = settled-fit chosen mine taken (settings calls) at (trace_of calls) (trace-fit calls keyed) in
        let s = settings-on calls in
        let b = settled-on calls moment keyed same in
        (λ i. after_verdict (s i) (max (moment-on calls i) moment) packet (verdict_by (keys-on calls i) target packet (treatment (s i target)) (b i)) (b i))
        ∙ ap (λ (w : Verdict). after_verdict (settings calls) at packet w (part-on before)) (verdict-part (keys calls) target packet o before keyed flow on fit)
        ∙ after-part (settings calls) at packet (verdict_by (keys calls) target packet o before) before (verdict-fit (keys calls) target packet o before flow)
        (verdict-at (keys calls) target packet o before true flow on) fit
        (settled-proper (settings calls) at (trace_of calls) (trace-proper calls)) (taken-settled mine taken (settings calls) at (trace_of calls) all)
    submit-on calls target packet moment k all same false off =
        let keyed = keyed-before mine calls (Submit target packet moment) k in
        let at = max (effective_moment calls) moment in
        let before = settled (settings calls) at (trace_of calls) in
        let o = treatment (settings calls target) in
        settled-on calls moment keyed same ∙ sym (after-elsewhere (settings calls) at packet (verdict_by (keys calls) target packet o before) before
        (verdict-at (keys calls) target packet o before false (flow-of mine (keys calls) target packet o k) off))

    pub calls-part : (calls : List Call) → IsKeyed mine (keys calls) → AreTaken mine taken (trace_of calls) → trace_of (calls_on chosen calls) ≡ part-on (trace_of calls)
    calls-part [] k all = refl
    calls-part (Configure command ∷ calls) k all =
        let same = calls-part calls k (taken-before mine taken calls (Configure command) all) in
        (λ i. after_command (command_reply (settings-on calls i) (queues-on calls i) command) command (keys-on calls i) (same i))
        ∙ command-part (reply_to_command calls command) command (keys calls) (trace_of calls) k
    calls-part (Submit target packet moment ∷ calls) k all =
        let before = taken-before mine taken calls (Submit target packet moment) all in
        submit-on calls target packet moment k before (calls-part calls (keyed-before mine calls (Submit target packet moment) k) before)
        (is_carried chosen target packet.tuple (treatment (settings calls target))) refl
    calls-part (Advance moment ∷ calls) k all = settled-on calls moment k (calls-part calls k (taken-before mine taken calls (Advance moment) all))
    calls-part (Collect moment ∷ calls) k all =
        let s = settled-on calls moment k (calls-part calls k (taken-before mine taken calls (Collect moment) all)) in
        λ i. collected (max (moment-on calls i) moment) ∷ s i
    calls-part (Show ∷ calls) k all = calls-part calls k (taken-before mine taken calls Show all)

pub keyed-all : (chosen : Choice) (known : List FlowKey) → IsKeyed chosen (is_flow_on chosen known) known
keyed-all chosen known = λ f key e. ap (is_some_key_on chosen) e

pub other-links-change-nothing : (chosen : Choice) (calls : List Call) → trace_of (calls_on chosen calls) ≡ part_of chosen calls
other-links-change-nothing chosen calls =
    let is_flow = is_flow_on chosen (keys calls) in
    calls-part chosen is_flow (is_packet_on chosen is_flow (trace_of calls)) calls (keyed-all chosen (keys calls)) (all-taken chosen is_flow (trace_of calls) (trace-proper calls))
