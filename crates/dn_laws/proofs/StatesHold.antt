-- A Show of the definitions tells what the law of states asks for.
use Rattle.dn_laws.proofs.Words.{Bool, List, Some, [], ap, arith, cond, count_by, eqb-true, false, length, map, nat_eq, refl, slice_get, sum, sym, true, ℕ, ◌<◌, ◌∙◌, ◌∷◌, ◌≡◌}
use Rattle.dn_laws.proofs.LawWords.{trace_of, link_of, call_limit, link_to, starts_of, IsStateBy, on_link, emulated, keys, reply, IsStateOf, is_queued_of, is_lost_of, is_full_of, Link, link_eq, Start}
use Rattle.dn_laws.proofs.LawWords.{Event, opened, arrived, started, lost, refused, discarded, collected, backlog, is_start_of, Call, Show, FlowKey, FlowStatus, Status, Rule}
use Rattle.dn_laws.proofs.AtHome.{HaveHomes, have-homes, start-home, home-is, shows-are-told}
use Rattle.dn_types.proofs.{Fifo.IsProper, Giving.count-event, Ordered.trace-proper, Settled.link_eq-refl}
use Rattle.dn_laws.proofs.PlainLawsHold.{answers-are, link_to-is}
use Rattle.dn_laws.proofs.ReadingsObey.{read, queue-on}

module _ (known : List FlowKey) (flow : ℕ) (key : FlowKey) (at : slice_get known flow ≡ Some key) where
  abbrev home : Link
  home = link_to key.target flow key.pipe

  at-home : (s : Start) (t : List Event) → IsProper (started s ∷ t) → HaveHomes known t → nat_eq s.packet.stamped.flow flow ≡ true → link_eq s.packet.link home ≡ true
  at-home s t proper h same =
      let on : s.packet.link ≡ home = home-is known flow key at s.packet.link s.packet.stamped.flow (eqb-true s.packet.stamped.flow flow same) (start-home known s t proper h) ∙ sym (link_to-is key.target flow key.pipe) in
      ap (λ (l : Link). link_eq l home) on ∙ link_eq-refl home

  other-event : (e : Event) (t : List Event) → is_start_of flow e ≡ false → (b : Bool) → starts_of flow (cond b (e ∷ on_link home t) (on_link home t)) ≡ starts_of flow (on_link home t) →
      count_by (is_start_of flow) t ≡ starts_of flow (on_link home t) → count_by (is_start_of flow) (e ∷ t) ≡ starts_of flow (cond b (e ∷ on_link home t) (on_link home t))
  other-event e t none b same rest =
      let one = count-event (is_start_of flow) e t in
      let no' : cond {A = ℕ} (is_start_of flow e) 1 0 ≡ 0 = ap {B = ℕ} (λ b. cond b 1 0) none in
      omega (arith, one, no', same, rest)

  starts-home : (t : List Event) → IsProper t → HaveHomes known t → count_by (is_start_of flow) t ≡ starts_of flow (on_link home t)
  starts-home [] proper h = refl
  starts-home (arrived p ∷ t) proper h = other-event (arrived p) t refl (link_eq p.link home) (by (link_eq p.link home)) (starts-home t proper.1 h.1)
    where
      by : (b : Bool) → starts_of flow (cond b (arrived p ∷ on_link (link_to key.target flow key.pipe) t) (on_link (link_to key.target flow key.pipe) t)) ≡ starts_of flow (on_link (link_to key.target flow key.pipe) t)
      by true = refl
      by false = refl
  starts-home (opened l ∷ t) proper h = other-event (opened l) t refl (link_eq l home) (by (link_eq l home)) (starts-home t proper h)
    where
      by : (b : Bool) → starts_of flow (cond b (opened l ∷ on_link (link_to key.target flow key.pipe) t) (on_link (link_to key.target flow key.pipe) t)) ≡ starts_of flow (on_link (link_to key.target flow key.pipe) t)
      by true = refl
      by false = refl
  starts-home (discarded f ∷ t) proper h = other-event (discarded f) t refl true refl (starts-home t proper h)
  starts-home (lost l f ∷ t) proper h = other-event (lost l f) t refl false refl (starts-home t proper h)
  starts-home (refused l f ∷ t) proper h = other-event (refused l f) t refl false refl (starts-home t proper h)
  starts-home (collected m ∷ t) proper h = other-event (collected m) t refl false refl (starts-home t proper h)
  starts-home (started s ∷ t) proper h = by (nat_eq s.packet.stamped.flow flow) refl (link_eq s.packet.link home) refl (starts-home t proper.2 h)
    where
      by : (b : Bool) → nat_eq s.packet.stamped.flow flow ≡ b → (c : Bool) → link_eq s.packet.link (link_to key.target flow key.pipe) ≡ c →
          count_by (is_start_of flow) t ≡ starts_of flow (on_link (link_to key.target flow key.pipe) t) →
          count_by (is_start_of flow) (started s ∷ t) ≡ starts_of flow (cond c (started s ∷ on_link (link_to key.target flow key.pipe) t) (on_link (link_to key.target flow key.pipe) t))
      by b e true f rest = let one = count-event (is_start_of flow) (started s) t in omega (arith, one, rest)
      by true e false f rest = let t' : true ≡ false = sym (at-home s t proper h e) ∙ f in absurd cc
      by false e false f rest =
          let one = count-event (is_start_of flow) (started s) t in
          let no' : cond {A = ℕ} (nat_eq s.packet.stamped.flow flow) 1 0 ≡ 0 = ap {B = ℕ} (λ b. cond b 1 0) e in
          omega (arith, one, no', rest)

pub states-hold : (rule : Rule) (calls : List Call) → length calls < call_limit → (list : List FlowStatus) × (reply rule calls Show ≡ Status list) × (length list ≡ length (keys calls))
    × ((flow : ℕ) (key : FlowKey) → slice_get (keys calls) flow ≡ Some key → (s : FlowStatus) × (slice_get list flow ≡ Some s) × IsStateBy (read rule) (emulated rule) calls flow key s)
states-hold rule calls lt = (told.0, told.1, told.2, λ flow key at. let one = told.3 flow key at in (one.0, one.1, state flow key at one.0 one.2))
  where
    told : (list : List FlowStatus) × (reply rule calls Show ≡ Status list) × (length list ≡ length (keys calls))
        × ((flow : ℕ) (key : FlowKey) → slice_get (keys calls) flow ≡ Some key → (s : FlowStatus) × (slice_get list flow ≡ Some s) × IsStateOf rule calls flow key s)
    told = shows-are-told rule calls lt

    queue : (flow : ℕ) (key : FlowKey) → backlog (link_of key.target flow key.pipe) flow (trace_of calls) ≡ backlog (link_to key.target flow key.pipe) flow (on_link (link_to key.target flow key.pipe) (trace_of calls))
    queue flow key = ap (λ (l : Link). backlog l flow (trace_of calls)) (sym (link_to-is key.target flow key.pipe)) ∙ sym (queue-on (link_to key.target flow key.pipe) flow (trace_of calls))

    state : (flow : ℕ) (key : FlowKey) → slice_get (keys calls) flow ≡ Some key → (s : FlowStatus) → IsStateOf rule calls flow key s → IsStateBy (read rule) (emulated rule) calls flow key s
    state flow key at s h = record {
      own_number = h.own_number;
      own_key = h.own_key;
      lost = h.lost ∙ ap (count_by (is_lost_of flow)) (sym (answers-are rule calls));
      full = h.full ∙ ap (count_by (is_full_of flow)) (sym (answers-are rule calls));
      started = h.started ∙ starts-home (keys calls) flow key at (trace_of calls) (trace-proper calls) (have-homes calls);
      waiting = h.waiting ∙ ap (λ q. length q) (queue flow key);
      bytes = h.bytes ∙ ap (λ q. sum (map (λ p. p.stamped.len) q)) (queue flow key);
      discarded = ap (count_by (is_queued_of flow)) (answers-are rule calls) ∙ h.queued;
    }
