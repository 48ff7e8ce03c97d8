-- While calls are about other pipes, the links of a pipe go by the clock alone.
use Rattle.dn_laws.proofs.Words.{Bool, List, None, Option, OtherPipesChangeNothing, Some, [], ap, arith, cond, eqb-true, false, leb_tells, length, max, nat_eq, nat_le, nat_tests, option_map, refl}
use Rattle.dn_laws.proofs.Words.{slice_get_within, subst, sym, true, ℕ, ⊎_elim, ◌++◌, ◌<◌, ◌∙◌, ◌∷◌, ◌≡◌, ◌≤◌}
use Rattle.dn_laws.proofs.LawWords.{verdict_by, after_verdict, reaches, after_command, trace_of, effective_moment, settings, subject, target_eq, setting_after, reply_to_command, treatment, keys, free}
use Rattle.dn_laws.proofs.LawWords.{AreElsewhere, IsCommandElsewhere, IsElsewhere, next_packet, start_at, next_start, settled, Link, pipe_of, Accepted, Event, backlog, Call, Configure, Submit}
use Rattle.dn_laws.proofs.LawWords.{Advance, Collect, Show, Command, Pipe, Queue, DeletePipe, DeleteQueue, Packet, Reply, Deleted, Rule, Target, ToPipe, ToQueue}
use Rattle.dn_types.proofs.{Conserving.busy-link, InForce.IsKept, InForce.settings-kept, InForce.target_eq-true, Known.IsKnown, Known.all-known, Known.fewer-discarded, Known.pipe_of-link}
use Rattle.dn_types.proofs.{Settling.next_packet-first}
use Rattle.dn_laws.proofs.{Isolation.false-if, Isolation.none-left, Isolation.spared-by, Isolation.commands-move-nothing, Isolation.packets-keep-apart, OneLink.IsAlike, OneLink.alike-refl}
use Rattle.dn_laws.proofs.{OneLink.alike-sym, OneLink.alike-then, OneLink.settled-alike, OneLink.settled-still, OneLink.settled-twice, TagsElsewhere.tags-elsewhere, Timely.clock-later}

module _ (rule : Rule) (link : Link) where
  -- By the clock none starts any more.
  pub quiet : (calls : List Call) → next_start (settings calls) (effective_moment calls) link (trace_of calls) ≡ None
  quiet calls = by (nat_le (free link (trace_of calls)) (effective_moment calls)) refl (next_packet link (trace_of calls)) refl
    where
      by : (b : Bool) → nat_le (free link (trace_of calls)) (effective_moment calls) ≡ b → (o : Option Accepted) → next_packet link (trace_of calls) ≡ o →
          cond b (option_map (λ p. start_at (settings calls) link p (free link (trace_of calls))) o) None ≡ None
      by false is o next = refl
      by true is None next = refl
      by true is (Some p) next =
          let first = next_packet-first link (trace_of calls) p next in
          let busy = busy-link calls link first.0 (slice_get_within (backlog link first.0 (trace_of calls)) 0 p first.1) in
          let soon : free link (trace_of calls) ≤ effective_moment calls = grind (arith, nat_tests) in
          absurd (omega (arith, busy, soon))

  subject-elsewhere : (calls : List Call) (command : Command) → IsCommandElsewhere (pipe_of link) calls command → target_eq (subject command) (ToPipe (pipe_of link)) ≡ false
  subject-elsewhere calls (Pipe number bw delay limit loss buckets mask) h = false-if (nat_eq number (pipe_of link)) (λ same. h (eqb-true number (pipe_of link) same))
  subject-elsewhere calls (Queue number carrier weight limit loss buckets mask) h = refl
  subject-elsewhere calls (DeletePipe number) h = false-if (nat_eq number (pipe_of link)) (λ same. h (eqb-true number (pipe_of link) same))
  subject-elsewhere calls (DeleteQueue number) h = refl

  -- A flow with a packet for the link isn't reached.
  kept-elsewhere : (calls : List Call) (command : Command) (flow : ℕ) (k : IsKnown (settings calls) (keys calls) link flow) → IsCommandElsewhere (pipe_of link) calls command →
      reaches command k.key ≡ false
  kept-elsewhere calls (Pipe number bw delay limit loss buckets mask) flow k h = refl
  kept-elsewhere calls (Queue number carrier weight limit loss buckets mask) flow k h = refl
  kept-elsewhere calls (DeletePipe number) flow k h =
      false-if (nat_eq k.key.pipe number) (λ same. h (sym (eqb-true k.key.pipe number same) ∙ sym (pipe_of-link k.key.target flow k.key.pipe) ∙ ap pipe_of (sym k.link_is)))
  kept-elsewhere calls (DeleteQueue number) flow k h =
      false-if (target_eq k.key.target (ToQueue number)) (λ same. h k.at.before k.at.behind k.key k.at.parts
      (target_eq-true k.key.target (ToQueue number) same) (sym (pipe_of-link k.key.target flow k.key.pipe) ∙ ap pipe_of (sym k.link_is)))

  command-backlog : (calls : List Call) (command : Command) → IsCommandElsewhere (pipe_of link) calls command → (flow : ℕ) →
      backlog link flow (trace_of (Configure command ∷ calls)) ≡ backlog link flow (trace_of calls)
  command-backlog calls command h flow = ⊎_elim (λ none. empty none.1) (λ some. full some.1) (leb_tells (length (backlog link flow (trace_of calls))) 0)
    where
      fewer : (r : Reply) → 0 < length (backlog link flow (after_command r command (keys calls) (trace_of calls))) → 0 < length (backlog link flow (trace_of calls))
      fewer Deleted some = fewer-discarded link flow command 0 (keys calls) (trace_of calls) some
      fewer _ some = some

      empty : length (backlog link flow (trace_of calls)) ≤ 0 → backlog link flow (trace_of (Configure command ∷ calls)) ≡ backlog link flow (trace_of calls)
      empty none =
          none-left (backlog link flow (trace_of (Configure command ∷ calls))) (λ some. let before = fewer (reply_to_command calls command) some in omega (arith, none, before))
          ∙ sym (none-left (backlog link flow (trace_of calls)) (λ some. omega (arith, none, some)))

      full : 0 < length (backlog link flow (trace_of calls)) → backlog link flow (trace_of (Configure command ∷ calls)) ≡ backlog link flow (trace_of calls)
      full some =
          let k = all-known calls link flow some in
          subst (λ (n : ℕ). backlog link n (trace_of (Configure command ∷ calls)) ≡ backlog link n (trace_of calls)) k.at.place
          (spared-by calls command link k.at.before k.at.behind k.key k.at.parts (kept-elsewhere calls command flow k h) (reply_to_command calls command))

  command-alike : (calls : List Call) (command : Command) → IsCommandElsewhere (pipe_of link) calls command → IsAlike rule link (trace_of (Configure command ∷ calls)) (trace_of calls)
  command-alike calls command h = let still = commands-move-nothing rule calls command link in (λ flow. command-backlog calls command h flow, still.0, still.1, still.2)

  packet-alike : (calls : List Call) (target : Target) (packet : Packet) (moment : ℕ) → IsElsewhere (pipe_of link) calls (Submit target packet moment) →
      IsAlike rule link (trace_of (Submit target packet moment ∷ calls)) (trace_of (Advance moment ∷ calls))
  packet-alike calls target packet moment h = by target (settings calls target) refl (settings-kept calls target) h
    where
      before : List Event
      before = settled (settings calls) (max (effective_moment calls) moment) (trace_of calls)

      by : (t : Target) (o : Option Command) → settings calls target ≡ o → IsKept t o → IsElsewhere (pipe_of link) calls (Submit target packet moment) →
          IsAlike rule link (trace_of (Submit target packet moment ∷ calls)) (trace_of (Advance moment ∷ calls))
      by t None set kept other =
          subst (λ (o : Option Command). IsAlike rule link (after_verdict (settings calls) (max (effective_moment calls) moment) packet
          (verdict_by (keys calls) target packet (treatment o) before) before) before) (sym set) (alike-refl rule link before)
      by t (Some (Pipe number bw delay limit loss buckets mask)) set kept other =
          packets-keep-apart rule calls target packet moment (Pipe number bw delay limit loss buckets mask) loss limit number link set (refl, refl, refl)
          (λ same. other (Pipe number bw delay limit loss buckets mask) loss limit number set (refl, refl, refl) (sym same))
      by t (Some (Queue number carrier weight limit loss buckets mask)) set kept other =
          packets-keep-apart rule calls target packet moment (Queue number carrier weight limit loss buckets mask) loss limit carrier link set (refl, refl, refl)
          (λ same. other (Queue number carrier weight limit loss buckets mask) loss limit carrier set (refl, refl, refl) (sym same))
      by (ToPipe n) (Some (DeletePipe number)) set kept other = absurd kept
      by (ToPipe n) (Some (DeleteQueue number)) set kept other = absurd kept
      by (ToQueue n) (Some (DeletePipe number)) set kept other = absurd kept
      by (ToQueue n) (Some (DeleteQueue number)) set kept other = absurd kept

  setting-stays : (calls : List Call) (c : Call) → IsElsewhere (pipe_of link) calls c → settings (c ∷ calls) (ToPipe (pipe_of link)) ≡ settings calls (ToPipe (pipe_of link))
  setting-stays calls (Configure command) h =
      ap (λ b. cond b (setting_after (reply_to_command calls command) command (settings calls (ToPipe (pipe_of link)))) (settings calls (ToPipe (pipe_of link)))) (subject-elsewhere calls command h)
  setting-stays calls _ h = refl

  -- What a list of calls leaves, and one settling up to its clock.
  abbrev Follows : List Call → List Call → Type 0
  Follows now calls = (settings now (ToPipe (pipe_of link)) ≡ settings calls (ToPipe (pipe_of link)))
      × IsAlike rule link (trace_of now) (settled (settings calls) (effective_moment now) (trace_of calls))

  advanced : (now calls : List Call) (to : ℕ) → effective_moment now ≤ to → Follows now calls →
      IsAlike rule link (settled (settings now) to (trace_of now)) (settled (settings calls) to (trace_of calls))
  advanced now calls to le h =
      alike-then rule link (settled (settings now) to (trace_of now))
      (settled (settings calls) to (settled (settings calls) (effective_moment now) (trace_of calls))) (settled (settings calls) to (trace_of calls))
      (settled-alike rule link (settings now) (settings calls) to (trace_of now) (settled (settings calls) (effective_moment now) (trace_of calls)) h.0 h.1)
      (settled-twice rule link (settings calls) (effective_moment now) to (trace_of calls) le)

  untimed : (now calls : List Call) (t : List Event) (to : ℕ) → effective_moment now ≡ to → IsAlike rule link t (trace_of now) → Follows now calls →
      IsAlike rule link t (settled (settings calls) to (trace_of calls))
  untimed now calls t to e same h =
      subst (λ (m : ℕ). IsAlike rule link t (settled (settings calls) m (trace_of calls))) e
      (alike-then rule link t (trace_of now) (settled (settings calls) (effective_moment now) (trace_of calls)) same h.1)

  followed : (now calls : List Call) (c : Call) → IsElsewhere (pipe_of link) now c → Follows now calls →
      IsAlike rule link (trace_of (c ∷ now)) (settled (settings calls) (effective_moment (c ∷ now)) (trace_of calls))
  followed now calls (Configure command) h f =
      untimed now calls (trace_of (Configure command ∷ now)) (effective_moment (Configure command ∷ now)) (omega arith) (command-alike now command h) f
  followed now calls (Submit target packet moment) h f =
      alike-then rule link (trace_of (Submit target packet moment ∷ now)) (trace_of (Advance moment ∷ now)) (settled (settings calls) (max (effective_moment now) moment) (trace_of calls))
      (packet-alike now target packet moment h) (advanced now calls (max (effective_moment now) moment) (omega arith) f)
  followed now calls (Advance moment) h f = advanced now calls (max (effective_moment now) moment) (omega arith) f
  followed now calls (Collect moment) h f = advanced now calls (max (effective_moment now) moment) (omega arith) f
  followed now calls Show h f = untimed now calls (trace_of now) (effective_moment (Show ∷ now)) (omega arith) (alike-refl rule link (trace_of now)) f

  all-followed : (after calls : List Call) → AreElsewhere (pipe_of link) after calls → Follows (after ++ calls) calls
  all-followed [] calls h = (
    refl,
    alike-sym rule link (settled (settings calls) (effective_moment calls) (trace_of calls)) (trace_of calls)
        (settled-still rule link (settings calls) (effective_moment calls) (trace_of calls) (quiet calls)),
  )
  all-followed (c ∷ after) calls h = let rest = all-followed after calls h.1 in (setting-stays (after ++ calls) c h.0 ∙ rest.0, followed (after ++ calls) calls c h.0 rest)

pub other-pipes-change-nothing : OtherPipesChangeNothing
other-pipes-change-nothing rule after calls link h =
    let rises = clock-later after calls in
    let same : effective_moment (after ++ calls) ≡ max (effective_moment calls) (effective_moment (after ++ calls)) = omega (arith, rises) in
    let alike = subst (λ (m : ℕ). IsAlike rule link (trace_of (after ++ calls)) (settled (settings calls) m (trace_of calls))) same (all-followed rule link after calls h).1 in
    (alike.0, alike.1, alike.2, alike.3, λ flow key e on. tags-elsewhere rule link flow after calls h key e on (effective_moment (after ++ calls)))
