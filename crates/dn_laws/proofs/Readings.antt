-- What laws read off calls and events is what these say.
use Rattle.dn_laws.proofs.Words.{Bool, CommandsAreAnswered, GoesBy, IsElsewhere, LinksAreToldApart, List, MomentsAreNamed, None, Option, PacketsAreCounted, QueuesAreRead, Some, StartsAreDue}
use Rattle.dn_laws.proofs.Words.{SubjectsAreNamed, TargetsAreTreated, [], and-left, and-right, and_from, ap, arith, cond, count-delivery, count-event, count_by, drop, eq-eqb, eqb-true, false}
use Rattle.dn_laws.proofs.Words.{given_as, link_eq-refl, link_eq-true, nat_eq, nat_le, nat_tests, option_map, refl, starts_as, subst, sym, true, ℕ, ◌++◌, ◌∙◌, ◌∷◌, ◌≡◌, ◌≢◌, ◌≤◌}
use Rattle.dn_laws.proofs.LawWords.{trace_of, after_command, given, Treatment, treatment, keys, accepted_since, started_since, is_packet, is_start_with, start_count, free, next_packet, next_start}
use Rattle.dn_laws.proofs.LawWords.{start_at, Link, link_eq, Accepted, Start, Event, opened, arrived, started, lost, refused, discarded, collected, backlog, Configure, Command, Pipe, Queue}
use Rattle.dn_laws.proofs.LawWords.{DeletePipe, DeleteQueue, Delivery, Mask, Reply, IsMaskedBy}
use Rattle.dn_laws.proofs.DropLaws.{not-exhausted}

pub moments-are-named : MomentsAreNamed
moments-are-named = (λ target packet moment. refl, λ moment. refl, λ moment. refl, λ command. refl, refl)

pub subjects-are-named : SubjectsAreNamed
subjects-are-named number = (λ bw delay limit loss buckets mask. refl, λ pipe weight limit loss buckets mask. refl, refl, refl)

pub commands-are-answered : CommandsAreAnswered
commands-are-answered rule calls command few =
    let same = not-exhausted rule calls (Configure command) few in
    (same, ap (λ (r : Reply). after_command r command (keys calls) (trace_of calls)) (sym same))

pub targets-are-treated : TargetsAreTreated
targets-are-treated = (by, refl, λ target tuple how. refl)
  where
    by : (command : Command) (mask : Mask) (carrier : ℕ) → IsMaskedBy command mask carrier → (how : Treatment) × (treatment (Some command) ≡ Some how) × (how.pipe ≡ carrier) × (how.mask ≡ mask)
    by (Pipe number bw delay limit loss buckets own) mask carrier h = (record { pipe = number; weight = 1; mask = own; loss = loss; limit = limit }, refl, sym h.1, sym h.0)
    by (Queue number pipe weight limit loss buckets own) mask carrier h = (record { pipe = pipe; weight = weight; mask = own; loss = loss; limit = limit }, refl, sym h.1, sym h.0)
    by (DeletePipe number) mask carrier h = absurd h
    by (DeleteQueue number) mask carrier h = absurd h

pub links-are-told-apart : LinksAreToldApart
links-are-told-apart link = (
  λ other. (link_eq-true link other, λ same. subst (λ (l : Link). link_eq link l ≡ true) same (link_eq-refl link)),
  λ flow p. (
    λ e. (link_eq-true p.link link (and-left (link_eq p.link link) (nat_eq p.stamped.flow flow) e), eqb-true p.stamped.flow flow (and-right (link_eq p.link link) (nat_eq p.stamped.flow flow) e)),
    λ on of. and_from (link_eq p.link link) (nat_eq p.stamped.flow flow) (subst (λ (l : Link). link_eq p.link l ≡ true) on (link_eq-refl p.link)) (eq-eqb p.stamped.flow flow of),
  ),
)

other-flow : (f flow : ℕ) → f ≢ flow → nat_eq f flow ≡ false
other-flow f flow apart = by (nat_eq f flow) refl
  where
    by : (b : Bool) → nat_eq f flow ≡ b → nat_eq f flow ≡ false
    by true e = absurd (apart (eqb-true f flow e))
    by false e = e

own-flow : (flow : ℕ) → nat_eq flow flow ≡ true
own-flow flow = eq-eqb flow flow refl

module _ (link : Link) (flow : ℕ) where
  waits : GoesBy link flow (λ ps p. ps ++ p ∷ []) (λ ps p. drop 1 ps) (backlog link flow)
  waits = (
    refl,
    λ trace. ap (λ b. cond b [] (backlog link flow trace)) (own-flow flow),
    λ p trace e. ap (λ b. cond b (backlog link flow trace ++ p ∷ []) (backlog link flow trace)) e,
    λ s trace e. ap (λ b. cond b (drop 1 (backlog link flow trace)) (backlog link flow trace)) e,
    still,
  )
    where
      still : (e : Event) (trace : List Event) → IsElsewhere link flow e → backlog link flow (e ∷ trace) ≡ backlog link flow trace
      still (arrived p) trace h = ap (λ b. cond b (backlog link flow trace ++ p ∷ []) (backlog link flow trace)) h
      still (started s) trace h = ap (λ b. cond b (drop 1 (backlog link flow trace)) (backlog link flow trace)) h
      still (discarded f) trace h = ap (λ b. cond b [] (backlog link flow trace)) (other-flow f flow h)
      still _ trace h = refl

  arrives : GoesBy link flow (λ ps p. ps ++ p ∷ []) (λ ps p. ps) (accepted_since link flow)
  arrives = (
    refl,
    λ trace. ap (λ b. cond b [] (accepted_since link flow trace)) (own-flow flow),
    λ p trace e. ap (λ b. cond b (accepted_since link flow trace ++ p ∷ []) (accepted_since link flow trace)) e,
    λ s trace e. refl,
    still,
  )
    where
      still : (e : Event) (trace : List Event) → IsElsewhere link flow e → accepted_since link flow (e ∷ trace) ≡ accepted_since link flow trace
      still (arrived p) trace h = ap (λ b. cond b (accepted_since link flow trace ++ p ∷ []) (accepted_since link flow trace)) h
      still (discarded f) trace h = ap (λ b. cond b [] (accepted_since link flow trace)) (other-flow f flow h)
      still _ trace h = refl

  starts : GoesBy link flow (λ ps p. ps) (λ ps p. ps ++ p ∷ []) (started_since link flow)
  starts = (
    refl,
    λ trace. ap (λ b. cond b [] (started_since link flow trace)) (own-flow flow),
    λ p trace e. refl,
    λ s trace e. ap (λ b. cond b (started_since link flow trace ++ s.packet ∷ []) (started_since link flow trace)) e,
    still,
  )
    where
      still : (e : Event) (trace : List Event) → IsElsewhere link flow e → started_since link flow (e ∷ trace) ≡ started_since link flow trace
      still (started s) trace h = ap (λ b. cond b (started_since link flow trace ++ s.packet ∷ []) (started_since link flow trace)) h
      still (discarded f) trace h = ap (λ b. cond b [] (started_since link flow trace)) (other-flow f flow h)
      still _ trace h = refl

pub queues-are-read : QueuesAreRead
queues-are-read link flow = (waits link flow, arrives link flow, starts link flow)

pub starts-are-due : StartsAreDue
starts-are-due set at link trace = (by, λ calls moment. refl)
  where
    soon : free link trace ≤ at → nat_le (free link trace) at ≡ true
    soon h = grind (arith, nat_tests)

    by : (p : Accepted) → next_packet link trace ≡ Some p → free link trace ≤ at → (s : Start) × (next_start set at link trace ≡ Some s) × (s.packet ≡ p) × (s.moment ≡ free link trace)
    by p next h = (
      start_at set link p (free link trace),
      ap (λ b. cond b (option_map (λ p. start_at set link p (free link trace)) (next_packet link trace)) None) (soon h)
          ∙ ap (λ (o : Option Accepted). option_map (λ p. start_at set link p (free link trace)) o) next,
      refl,
      refl,
    )

counted : (number : ℕ) (trace : List Event) → start_count number trace ≡ starts_as number trace
counted number [] = refl
counted number (opened l ∷ t) = let rest = counted number t in let one = count-event (is_start_with number) (opened l) t in omega (arith, rest, one)
counted number (arrived p ∷ t) = let rest = counted number t in let one = count-event (is_start_with number) (arrived p) t in omega (arith, rest, one)
counted number (started s ∷ t) = let rest = counted number t in let one = count-event (is_start_with number) (started s) t in omega (arith, rest, one)
counted number (lost l f ∷ t) = let rest = counted number t in let one = count-event (is_start_with number) (lost l f) t in omega (arith, rest, one)
counted number (refused l f ∷ t) = let rest = counted number t in let one = count-event (is_start_with number) (refused l f) t in omega (arith, rest, one)
counted number (discarded f ∷ t) = let rest = counted number t in let one = count-event (is_start_with number) (discarded f) t in omega (arith, rest, one)
counted number (collected at ∷ t) = let rest = counted number t in let one = count-event (is_start_with number) (collected at) t in omega (arith, rest, one)

told : (number : ℕ) (list : List Delivery) → count_by (is_packet number) list ≡ given_as number list
told number [] = refl
told number (d ∷ list) = let rest = told number list in let one = count-delivery (is_packet number) d list in omega (arith, rest, one)

pub packets-are-counted : PacketsAreCounted
packets-are-counted number = (
  counted number,
  told number,
  λ rule at trace. let all = told number (given rule at trace) in omega (arith, all),
  λ rule s trace. refl,
)
