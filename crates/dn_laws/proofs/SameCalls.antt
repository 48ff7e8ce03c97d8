-- Two that obey the laws, with the same readings, answer each call the same and make the same happen.
use Rattle.dn_laws.proofs.Words.{All, IsKept, List, None, Option, Some, [], ap, arith, count_by, false, keys-apart, length, map, one-place, refl, settings-kept, slice_get, slice_get_cases}
use Rattle.dn_laws.proofs.Words.{slice_get_within, subst, sum, sym, ℕ, ⊎_elim, ◌%◌, ◌+◌, ◌<◌, ◌^◌, ◌∙◌, ◌∷◌, ◌≡◌, ◌≢◌, ◌≤◌}
use Rattle.dn_laws.proofs.LawWords.{call_limit, Emulator, Readings, answers, AnswersOneMore, ObeysTheLaws, key_by, IsWeight, Settles, Joins, discards, link_to, IsGivenBy, GivesNot, starts_of}
use Rattle.dn_laws.proofs.LawWords.{IsStateBy, IsJudgedBy, flow_told, IsMaskedBy, keys, is_queued, is_queued_of, is_lost_of, is_full_of, IsCarriedBy, Link, own, shared, Event, Call, Configure, Submit}
use Rattle.dn_laws.proofs.LawWords.{Advance, Collect, Show, Command, Pipe, Queue, DeletePipe, DeleteQueue, Delivery, FlowKey, FlowStatus, Limit, Mask, Packet, Reply, Deleted, NoTarget, Queued}
use Rattle.dn_laws.proofs.LawWords.{Advanced, Delivered, Status, Rule, Target, ToPipe, ToQueue}
use Rattle.dn_laws.proofs.Obeying.{clock-is, forced, commands-told, flows-are}
use Rattle.dn_laws.proofs.SameAnswers.{settles-one, joins-one}
use Rattle.dn_laws.proofs.SameReadings.{same-link}
use Rattle.dn_laws.proofs.SameReplies.{sorted-one, states-one, explained-one}

abbrev Laws : Rule → Readings → Emulator → Type 0
Laws rule r e = (calls : List Call) → length calls < 2 ^ 62 → AnswersOneMore rule r e calls

module _ (rule : Rule) (r : Readings) (e f : Emulator) (E : ObeysTheLaws rule e) (F : ObeysTheLaws rule f) (X : Laws rule r e) (Y : Laws rule r f) where
  clock-one : (calls : List Call) → length calls ≤ call_limit → e.clock calls ≡ f.clock calls
  clock-one calls le = clock-is rule e E calls le ∙ sym (clock-is rule f F calls le)

  force-one : (calls : List Call) → length calls ≤ call_limit → (target : Target) → e.in_force calls target ≡ f.in_force calls target
  force-one calls le target = forced rule e E calls le target ∙ sym (forced rule f F calls le target)

  flows-one : (calls : List Call) → length calls ≤ call_limit → e.flows calls ≡ f.flows calls
  flows-one calls le = flows-are rule e E calls le ∙ sym (flows-are rule f F calls le)

  -- The calls up to here were answered the same and made the same happen.
  pub record Agree (calls : List Call) : Type 0 where
    pub happened : (link : Link) → e.happened calls link ≡ f.happened calls link
    pub told : answers e calls ≡ answers f calls

  module _ (calls : List Call) (lt : length calls < call_limit) (H : Agree calls) where
    x : AnswersOneMore rule r e calls
    x = X calls lt

    y : AnswersOneMore rule r f calls
    y = Y calls lt

    here : length calls ≤ call_limit
    here = omega (arith, lt)

    next : (c : Call) → length (c ∷ calls) ≤ call_limit
    next c = omega (arith, lt)

    advanced : (moment : ℕ) (link : Link) → e.happened (Advance moment ∷ calls) link ≡ f.happened (Advance moment ∷ calls) link
    advanced moment link =
        let force : e.in_force calls ≡ f.in_force calls = λ i target. force-one calls here target i in
        let one = subst (λ (set : Target → Option Command). Settles r set link (e.clock (Advance moment ∷ calls)) (e.happened calls link) (e.happened (Advance moment ∷ calls) link)) force (x.links.settles moment link) in
        let two = subst (λ (at : ℕ). Settles r (f.in_force calls) link at (e.happened calls link) (e.happened (Advance moment ∷ calls) link)) (clock-one (Advance moment ∷ calls) (next (Advance moment))) one in
        let three = subst (λ (before : List Event). Settles r (f.in_force calls) link (f.clock (Advance moment ∷ calls)) before (e.happened (Advance moment ∷ calls) link)) (H.happened link) two in
        settles-one r (f.in_force calls) link (f.clock (Advance moment ∷ calls)) (f.happened calls link) (e.happened (Advance moment ∷ calls) link) (f.happened (Advance moment ∷ calls) link) three (y.links.settles moment link)

    flow-one : (target : Target) (packet : Packet) (moment : ℕ) (command : Command) (mask : Mask) (carrier : ℕ) → f.in_force calls target ≡ Some command → IsMaskedBy command mask carrier →
        (a b : ℕ) → flow_told (e.told calls (Submit target packet moment)) ≡ Some a → flow_told (f.told calls (Submit target packet moment)) ≡ Some b → a ≡ b
    flow-one target packet moment command mask carrier set masks a b is_a is_b =
        let c : Call = Submit target packet moment in
        let key = key_by target packet mask carrier in
        let mine : slice_get (keys (c ∷ calls)) a ≡ Some key =
        ap (λ (known : List FlowKey). slice_get known a) (sym (flows-are rule e E (c ∷ calls) (next c)))
        ∙ x.flows.told target packet moment command mask carrier a (force-one calls here target ∙ set) masks is_a in
        let other : slice_get (keys (c ∷ calls)) b ≡ Some key =
        ap (λ (known : List FlowKey). slice_get known b) (sym (flows-are rule f F (c ∷ calls) (next c)))
        ∙ y.flows.told target packet moment command mask carrier b set masks is_b in
        one-place (keys (c ∷ calls)) a b key (keys-apart (c ∷ calls)) mine other

    judged-one : (target : Target) (packet : Packet) (moment : ℕ) (command : Command) (rate : ℕ) (most : Limit) (mask : Mask) (carrier : ℕ) → f.in_force calls target ≡ Some command →
        IsMaskedBy command mask carrier → IsJudgedBy command rate most carrier → e.told calls (Submit target packet moment) ≡ f.told calls (Submit target packet moment)
    judged-one target packet moment command rate most mask carrier set masks judges =
        let c : Call = Submit target packet moment in
        explained-one rate (packet.word % 2 ^ 31) most
        (λ flow. map (λ p. p.stamped.len) (r.queue (link_to target flow carrier) flow (e.happened (Advance moment ∷ calls) (link_to target flow carrier))))
        (λ flow. map (λ p. p.stamped.len) (r.queue (link_to target flow carrier) flow (f.happened (Advance moment ∷ calls) (link_to target flow carrier))))
        (λ flow. ap (λ (t : List Event). map (λ p. p.stamped.len) (r.queue (link_to target flow carrier) flow t)) (advanced moment (link_to target flow carrier)))
        (e.told calls c) (f.told calls c)
        (x.packets.judged target packet moment command rate most carrier (force-one calls here target ∙ set) judges)
        (y.packets.judged target packet moment command rate most carrier set judges)
        (x.clock.told target packet moment ∙ ap (λ (n : ℕ). Some n) (clock-one (c ∷ calls) (next c)) ∙ sym (y.clock.told target packet moment))
        (flow-one target packet moment command mask carrier set masks)
        (λ at a m at' b n p q. x.packets.numbered target packet moment at a m p ∙ ap (count_by is_queued) H.told ∙ sym (y.packets.numbered target packet moment at' b n q))

    gone : (target : Target) (number : ℕ) → IsKept target (Some (DeletePipe number)) → ⊥
    gone (ToPipe n) number k = k
    gone (ToQueue n) number k = k

    lost' : (target : Target) (number : ℕ) → IsKept target (Some (DeleteQueue number)) → ⊥
    lost' (ToPipe n) number k = k
    lost' (ToQueue n) number k = k

    kept : (target : Target) → IsKept target (f.in_force calls target)
    kept target = subst (λ (o : Option Command). IsKept target o) (sym (forced rule f F calls here target)) (settings-kept calls target)

    submit-told : (target : Target) (packet : Packet) (moment : ℕ) → e.told calls (Submit target packet moment) ≡ f.told calls (Submit target packet moment)
    submit-told target packet moment = by (f.in_force calls target) refl (kept target)
      where
        by : (o : Option Command) → f.in_force calls target ≡ o → IsKept target o → e.told calls (Submit target packet moment) ≡ f.told calls (Submit target packet moment)
        by None h k = x.packets.no_target target packet moment (force-one calls here target ∙ h)
            ∙ ap NoTarget (clock-one (Submit target packet moment ∷ calls) (next (Submit target packet moment))) ∙ sym (y.packets.no_target target packet moment h)
        by (Some (Pipe number bw delay limit loss buckets mask)) h k = judged-one target packet moment (Pipe number bw delay limit loss buckets mask) loss limit mask number h (refl, refl) (refl, refl, refl)
        by (Some (Queue number pipe weight limit loss buckets mask)) h k = judged-one target packet moment (Queue number pipe weight limit loss buckets mask) loss limit mask pipe h (refl, refl) (refl, refl, refl)
        by (Some (DeletePipe number)) h k = absurd (gone target number k)
        by (Some (DeleteQueue number)) h k = absurd (lost' target number k)

    queued-joins : (target : Target) (packet : Packet) (moment at flow number : ℕ) (command : Command) (weight : ℕ) (link other : Link) →
        f.told calls (Submit target packet moment) ≡ Queued at flow number → f.in_force calls target ≡ Some command → IsWeight command weight → IsCarriedBy command flow link →
        e.happened (Submit target packet moment ∷ calls) other ≡ f.happened (Submit target packet moment ∷ calls) other
    queued-joins target packet moment at flow number command weight link other queued set weighs carried = ⊎_elim joined apart (same-link other link)
      where
        mine : e.told calls (Submit target packet moment) ≡ Queued at flow number
        mine = submit-told target packet moment ∙ queued

        its : e.in_force calls target ≡ Some command
        its = force-one calls here target ∙ set

        joined : other ≡ link → e.happened (Submit target packet moment ∷ calls) other ≡ f.happened (Submit target packet moment ∷ calls) other
        joined same =
            let force : e.in_force calls ≡ f.in_force calls = λ i t. force-one calls here t i in
            let one = subst (λ (s : Target → Option Command). Joins r s link at number flow packet.len weight (e.happened (Advance moment ∷ calls) link) (e.happened (Submit target packet moment ∷ calls) link)) force
            (x.links.joins target packet moment at flow number command weight link mine its weighs carried) in
            let two = subst (λ (before : List Event). Joins r (f.in_force calls) link at number flow packet.len weight before (e.happened (Submit target packet moment ∷ calls) link)) (advanced moment link) one in
            subst (λ (l : Link). e.happened (Submit target packet moment ∷ calls) l ≡ f.happened (Submit target packet moment ∷ calls) l) (sym same)
            (joins-one r (f.in_force calls) link at number flow packet.len weight (f.happened (Advance moment ∷ calls) link) (e.happened (Submit target packet moment ∷ calls) link)
            (f.happened (Submit target packet moment ∷ calls) link) two (y.links.joins target packet moment at flow number command weight link queued set weighs carried))

        apart : other ≢ link → e.happened (Submit target packet moment ∷ calls) other ≡ f.happened (Submit target packet moment ∷ calls) other
        apart not' = x.links.apart target packet moment at flow number command link other mine its carried not' ∙ advanced moment other
            ∙ sym (y.links.apart target packet moment at flow number command link other queued set carried not')

    submitted : (target : Target) (packet : Packet) (moment : ℕ) (link : Link) → e.happened (Submit target packet moment ∷ calls) link ≡ f.happened (Submit target packet moment ∷ calls) link
    submitted target packet moment link = by (f.told calls (Submit target packet moment)) refl
      where
        dropped : is_queued (f.told calls (Submit target packet moment)) ≡ false → e.happened (Submit target packet moment ∷ calls) link ≡ f.happened (Submit target packet moment ∷ calls) link
        dropped h = x.links.drops target packet moment link (ap is_queued (submit-told target packet moment) ∙ h) ∙ advanced moment link ∙ sym (y.links.drops target packet moment link h)

        forced' : (at flow number : ℕ) → f.told calls (Submit target packet moment) ≡ Queued at flow number → (o : Option Command) → f.in_force calls target ≡ o → IsKept target o →
            e.happened (Submit target packet moment ∷ calls) link ≡ f.happened (Submit target packet moment ∷ calls) link
        forced' at flow number h None set k = dropped (ap is_queued (y.packets.no_target target packet moment set))
        forced' at flow number h (Some (Pipe n bw delay limit loss buckets mask)) set k =
            queued-joins target packet moment at flow number (Pipe n bw delay limit loss buckets mask) 1 (own n flow) link h set refl refl
        forced' at flow number h (Some (Queue n pipe weight limit loss buckets mask)) set k =
            queued-joins target packet moment at flow number (Queue n pipe weight limit loss buckets mask) weight (shared pipe) link h set refl refl
        forced' at flow number h (Some (DeletePipe n)) set k = absurd (gone target n k)
        forced' at flow number h (Some (DeleteQueue n)) set k = absurd (lost' target n k)

        by : (reply : Reply) → f.told calls (Submit target packet moment) ≡ reply → e.happened (Submit target packet moment ∷ calls) link ≡ f.happened (Submit target packet moment ∷ calls) link
        by (Queued at flow number) h = forced' at flow number h (f.in_force calls target) refl (kept target)
        by reply h = dropped (ap is_queued h)

    command-one : (command : Command) → e.told calls (Configure command) ≡ f.told calls (Configure command)
    command-one command = commands-told rule e E calls lt command ∙ sym (commands-told rule f F calls lt command)

    configured : (command : Command) (link : Link) → e.happened (Configure command ∷ calls) link ≡ f.happened (Configure command ∷ calls) link
    configured command link = by (f.told calls (Configure command)) refl
      where
        by : (reply : Reply) → f.told calls (Configure command) ≡ reply → e.happened (Configure command ∷ calls) link ≡ f.happened (Configure command ∷ calls) link
        by Deleted h = x.links.deletes command link (command-one command ∙ h) ∙ (λ i. discards command 0 (flows-one calls here i) (H.happened link i)) ∙ sym (y.links.deletes command link h)
        by reply h =
            let other : reply ≢ Deleted = λ k. absurd cc in
            x.links.spares command link (λ k. other (sym h ∙ sym (command-one command) ∙ k)) ∙ H.happened link ∙ sym (y.links.spares command link (λ k. other (sym h ∙ k)))

    happens : (c : Call) (link : Link) → e.happened (c ∷ calls) link ≡ f.happened (c ∷ calls) link
    happens (Configure command) link = configured command link
    happens (Submit target packet moment) link = submitted target packet moment link
    happens (Advance moment) link = advanced moment link
    happens (Collect moment) link = x.links.collects moment link ∙ advanced moment link ∙ sym (y.links.collects moment link)
    happens Show link = x.links.shows link ∙ H.happened link ∙ sym (y.links.shows link)

    collect-told : (moment : ℕ) → e.told calls (Collect moment) ≡ f.told calls (Collect moment)
    collect-told moment =
        let a = x.tells.gives moment in
        let b = y.tells.gives moment in
        let clock = clock-one (Collect moment ∷ calls) (next (Collect moment)) in
        let lists : a.0 ≡ b.0 = sorted-one a.0 b.0 a.2.in_order b.2.in_order
        (λ d h. let g = a.2.are_due d h in b.2.all_due d (there d g.0) (let low = g.1 in omega (arith, low, clock)) (subst (λ (rs : List Reply). All (GivesNot d.packet) rs) H.told g.2))
        (λ d h. let g = b.2.are_due d h in a.2.all_due d (back d g.0) (let low = g.1 in omega (arith, low, clock)) (subst (λ (rs : List Reply). All (GivesNot d.packet) rs) (sym H.told) g.2)) in
        a.1 ∙ (λ i. Delivered (clock i) (lists i)) ∙ sym b.1
      where
        there : (d : Delivery) → IsGivenBy rule r e (Collect moment ∷ calls) d → IsGivenBy rule r f (Collect moment ∷ calls) d
        there d g = record {
          link = g.link;
          start = g.start;
          later = g.later;
          earlier = g.earlier;
          happened = sym (happens (Collect moment) g.link) ∙ g.happened;
          number = g.number;
          flow = g.flow;
          moment = g.moment;
          due = g.due;
        }

        back : (d : Delivery) → IsGivenBy rule r f (Collect moment ∷ calls) d → IsGivenBy rule r e (Collect moment ∷ calls) d
        back d g = record {
          link = g.link;
          start = g.start;
          later = g.later;
          earlier = g.earlier;
          happened = happens (Collect moment) g.link ∙ g.happened;
          number = g.number;
          flow = g.flow;
          moment = g.moment;
          due = g.due;
        }

    state-one : (flow : ℕ) (key : FlowKey) (s u : FlowStatus) → IsStateBy r e calls flow key s → IsStateBy r f calls flow key u → s ≡ u
    state-one flow key s u A B = λ i. record {
      flow = (A.own_number ∙ sym B.own_number) i;
      key = (A.own_key ∙ sym B.own_key) i;
      queued = queued i;
      bytes = (A.bytes ∙ ap (λ (t : List Event). sum (map (λ p. p.stamped.len) (r.queue (link_to key.target flow key.pipe) flow t))) (H.happened (link_to key.target flow key.pipe)) ∙ sym B.bytes) i;
      lost = (A.lost ∙ ap (count_by (is_lost_of flow)) H.told ∙ sym B.lost) i;
      full = (A.full ∙ ap (count_by (is_full_of flow)) H.told ∙ sym B.full) i;
      started = started i;
      discarded = discarded i;
    }
      where
        queued : s.queued ≡ u.queued
        queued = A.waiting ∙ ap (λ (t : List Event). length (r.queue (link_to key.target flow key.pipe) flow t)) (H.happened (link_to key.target flow key.pipe)) ∙ sym B.waiting

        started : s.started ≡ u.started
        started = A.started ∙ ap (starts_of flow) (H.happened (link_to key.target flow key.pipe)) ∙ sym B.started

        all : s.started + s.queued + s.discarded ≡ u.started + u.queued + u.discarded
        all = sym A.discarded ∙ ap (count_by (is_queued_of flow)) H.told ∙ B.discarded

        discarded : s.discarded ≡ u.discarded
        discarded = let sums = all in let one = queued in let two = started in omega (arith, sums, one, two)

    show-told : e.told calls Show ≡ f.told calls Show
    show-told =
        let a = x.tells.states in
        let b = y.tells.states in
        let lists : a.0 ≡ b.0 = states-one a.0 b.0 (a.2 ∙ ap (λ (known : List FlowKey). length known) (flows-one calls here) ∙ sym b.2) each in
        a.1 ∙ ap Status lists ∙ sym b.1
      where
        each : (i : ℕ) (s u : FlowStatus) → slice_get x.tells.states.0 i ≡ Some s → slice_get y.tells.states.0 i ≡ Some u → s ≡ u
        each i s u is_s is_u = ⊎_elim
            (λ known. let key = known.0 in
            let a = x.tells.states.3 i key known.2 in
            let b = y.tells.states.3 i key (ap (λ (k : List FlowKey). slice_get k i) (sym (flows-one calls here)) ∙ known.2) in
            let one : s ≡ a.0 = (let t : Some s ≡ Some a.0 = sym is_s ∙ a.1 in cc) in
            let two : b.0 ≡ u = (let t : Some b.0 ≡ Some u = sym b.1 ∙ is_u in cc) in
            one ∙ state-one i key a.0 b.0 a.2 b.2 ∙ two)
            (λ past. let within : i < length x.tells.states.0 = slice_get_within x.tells.states.0 i s is_s in
            let long : length x.tells.states.0 ≡ length (e.flows calls) = x.tells.states.2 in
            let over = past.0 in
            absurd (omega (arith, within, long, over)))
            (slice_get_cases (e.flows calls) i).1

    pub told-one : (c : Call) → e.told calls c ≡ f.told calls c
    told-one (Configure command) = command-one command
    told-one (Submit target packet moment) = submit-told target packet moment
    told-one (Advance moment) = x.clock.advanced moment ∙ ap Advanced (clock-one (Advance moment ∷ calls) (next (Advance moment))) ∙ sym (y.clock.advanced moment)
    told-one (Collect moment) = collect-told moment
    told-one Show = show-told

    pub agree-next : (c : Call) → Agree (c ∷ calls)
    agree-next c = record { happened = happens c; told = λ i. told-one c i ∷ H.told i }

  pub agree : (calls : List Call) → length calls ≤ call_limit → Agree calls
  agree [] le = record { happened = λ link. E.nothing_happened link ∙ sym (F.nothing_happened link); told = refl }
  agree (c ∷ calls) le = agree-next calls (omega (arith, le)) (agree calls (omega (arith, le))) c
