-- The laws of a service's callers hold.
use Rattle.dn_laws.proofs.Words.{Answered, Bool, Call, CallerView, Closes, Entry, Has, List, Ordered, Reply, ServiceView, Some, [], ap, append-nil, append_assoc, arith, eq-eqb, eqb-true, false, has_number}
use Rattle.dn_laws.proofs.Words.{having_faced, having_lost, inl, inr, length, new_caller, new_callers, own_entries, refl, slice_get, subst, suc, sym, true, zero, ℕ, ⊎_elim, ◌++◌, ◌+◌, ◌==◌, ◌||◌, ◌∙◌, ◌∷◌, ◌≡◌}
use Rattle.dn_laws.specs.CallerLaws.{AbsentCallersAreMissing, CallersBegin, ComesAfter, Notes, RefusalsAreNoted, SegmentsAreTheHistory, TokensAreTold, WereTaken, joined, met, met_after}
use Rattle.dn_service.specs.Callers.{Refuses}
use Rattle.dn_service.specs.Histories.{AreBelow, StartsWith}
use Rattle.dn_service.specs.Lasting.{LastingView, RefusesAfter}
use Rattle.dn_service.specs.declared.try_after_fault.TryAfterFault.{TryAfterFault}
use Rattle.dn_service.specs.declared.try_after_fault.TryAfterFault.TheVariants.{Busy as BusyAfter, OutOfMemory as NoMemoryAfter, Ahead}
use Rattle.dn_service.specs.declared.try_fault.TryFault.{TryFault}
use Rattle.dn_service.specs.declared.try_fault.TryFault.TheVariants.{Busy, OutOfMemory}
use Rattle.dn_types.specs.History.{IsLawful}

-- The caller with a number among callers.
this-or-later : (k : ℕ) (c : CallerView) (cs : List CallerView) (b : Bool) → c.number == k ≡ b → b || has_number k cs ≡ true
    → (has_number k cs ≡ true → (o : CallerView) × Has cs o × (o.number ≡ k)) → (o : CallerView) × Has (c ∷ cs) o × (o.number ≡ k)
this-or-later k c cs true is e later = (c, inl refl, eqb-true c.number k is)
this-or-later k c cs false is e later = let rest = later e in (rest.0, inr rest.1, rest.2)

pub any-caller : (k : ℕ) (cs : List CallerView) → has_number k cs ≡ true → (c : CallerView) × Has cs c × (c.number ≡ k)
any-caller k [] e = absurd cc
any-caller k (c ∷ cs) e = this-or-later k c cs (c.number == k) refl e (any-caller k cs)

or-true : (b : Bool) → b || true ≡ true
or-true true = refl
or-true false = refl

pub has-its-number : (k : ℕ) (callers : List CallerView) (c : CallerView) → Has callers c → c.number ≡ k → has_number k callers ≡ true
has-its-number k [] c there is = absurd there
has-its-number k (o ∷ callers) c there is = ⊎_elim
    (λ e. ap (λ b. b || has_number k callers) (eq-eqb o.number k (ap (λ (x : CallerView). x.number) e ∙ is)))
    (λ rest. ap (λ b. o.number == k || b) (has-its-number k callers c rest is) ∙ or-true (o.number == k)) there

-- The callers of a new service.
module _ (service : ServiceView) where
  new-many : (k n : ℕ) → length (new_callers service k n) ≡ n
  new-many k zero = refl
  new-many k (suc n) = let rest = new-many (k + 1) n in omega (arith, rest)

  new-each : (k n i : ℕ) (c : CallerView) → slice_get (new_callers service k n) i ≡ Some c → c ≡ new_caller service (k + i)
  new-each k zero i c e = absurd cc
  new-each k (suc n) zero c e =
      let same : new_caller service k ≡ c = cc in let here : k ≡ k + 0 = omega arith in sym same ∙ ap (new_caller service) here
  new-each k (suc n) (suc i) c e =
      let here : k + 1 + i ≡ k + suc i = omega arith in new-each (k + 1) n i c e ∙ ap (new_caller service) here

pub callers-begin : CallersBegin
callers-begin service = record {
  many = new-many service 0 service.callers;
  each = λ k c e. let is : 0 + k ≡ k = omega arith in new-each service 0 service.callers k c e ∙ ap (new_caller service) is;
}

-- What a refused try leaves.
some-met : (k : ℕ) → k ∷ [] ≡ [] → ⊥
some-met k e = cc

note-busy : (before after : CallerView) (k : ℕ) → after ≡ having_lost k before → Notes before (k ∷ []) after
note-busy before after k e =
    subst (λ (c : CallerView). Notes before (k ∷ []) c) (sym e) (record { service = refl; number = refl; front = refl; own = refl; lost = refl; faced = λ some. refl })

note-none : (before after : CallerView) → after ≡ having_faced after.faced before → Notes before [] after
note-none before after e = subst (λ (c : CallerView). Notes before [] c) (sym e)
    (record { service = refl; number = refl; front = refl; own = refl; lost = sym (append-nil before.lost); faced = λ some. absurd (some refl) })

refusals-suffice : (before after : CallerView) (fault : TryFault) → Notes before (met fault) after → Refuses before fault after
refusals-suffice before after (Busy k) n =
    λ i. record { service = n.service i; number = n.number i; front = n.front i; own = n.own i; lost = n.lost i; faced = n.faced (some-met k) i }
refusals-suffice before after OutOfMemory n =
    let lost = n.lost ∙ append-nil before.lost in
    λ i. record { service = n.service i; number = n.number i; front = n.front i; own = n.own i; lost = lost i; faced = after.faced }

tries-note : (before after : CallerView) (fault : TryFault) → Refuses before fault after → Notes before (met fault) after
tries-note before after (Busy k) e = note-busy before after k e
tries-note before after OutOfMemory e = note-none before after e

placed-note : (before after : CallerView) (fault : TryAfterFault) → RefusesAfter before fault after → Notes before (met_after fault) after
placed-note before after (BusyAfter k) e = note-busy before after k e
placed-note before after NoMemoryAfter e = note-none before after e
placed-note before after Ahead e = note-none before after e

pub refusals-are-noted : RefusalsAreNoted
refusals-are-noted = record { tries = tries-note; placed = placed-note; suffice = refusals-suffice; calls = λ before after kept. (kept.front, kept.own) }

-- What a token tells.
came : (front : List Entry) (after later : CallerView) (c : Call) (r : Reply) → StartsWith after.front front → Answered after c r later → ComesAfter front after c r later
came front after later c r begins a = (
  begins.0 ++ a.between,
  a.front ∙ ap (λ (h : List Entry). (h ++ a.between) ++ record { caller = after.number; call = c; reply = r } ∷ []) begins.1
      ∙ ap (λ (h : List Entry). h ++ record { caller = after.number; call = c; reply = r } ∷ []) (append_assoc front begins.0 a.between),
)

pub tokens-are-told : TokensAreTold
tokens-are-told before after seen h = record {
  comes = λ c r later a. (came before.front after later c r h.had a, came seen.front after later c r h.told a);
  own = h.own;
  tries = (h.lost, h.faced);
  front = ⊎_elim (λ had. inl had.1) (λ told. inr told.1) h.one;
}

-- What was taken out is all segments.
taken-is : (service : ServiceView) (segments : List (List Entry)) (lasting : LastingView) → WereTaken service segments lasting → (lasting.service ≡ service) × (lasting.taken ≡ joined segments)
taken-is service [] lasting e = (ap (λ (l : LastingView). l.service) e, ap (λ (l : LastingView). l.taken) e)
taken-is service (s ∷ segments) lasting h =
    let rest = taken-is service segments h.0 h.4 in (h.5.service ∙ rest.0, h.5.taken ∙ ap (λ (t : List Entry). t ++ s) rest.1)

pub segments-are-the-history : SegmentsAreTheHistory
segments-are-the-history = record {
  next = λ service segments before caller place s lasting after were takes.
      let is = taken-is service segments before were in
      let whole : lasting.taken ≡ joined segments ++ s = takes.taken ∙ ap (λ (t : List Entry). t ++ s) is.1 in
      let many : length before.taken ≡ length (joined segments) = ap (λ (t : List Entry). length t) is.1 in
      record {
        start = λ few. takes.start (rw many few) ∙ many;
        lawful = subst (IsLawful Ordered) whole takes.lawful;
        below = subst (λ (t : List Entry). AreBelow service.callers t) whole (subst (λ (v : ServiceView). AreBelow v.callers lasting.taken) is.0 takes.below);
        front = takes.front ∙ whole;
        seen = takes.seen;
        own = (takes.own, takes.all_own ∙ ap (λ (t : List Entry). own_entries caller.number t) whole);
      };
  closes = λ service segments lasting callers rest were closes.
      let is = taken-is service segments lasting were in
      subst (λ (v : ServiceView). Closes v callers (joined segments ++ rest)) is.0 (subst (λ (t : List Entry). Closes lasting.service callers (t ++ rest)) is.1 closes);
}

-- Who is missing.
pub absent-callers-are-missing : AbsentCallersAreMissing
absent-callers-are-missing service callers k h = record {
  below = h.below;
  missing = λ c there is. let e = has-its-number k callers c there is in let no = h.missing in cc;
  lower = λ j l. any-caller j callers (h.least j l);
  unclosed = λ history closes. let e = closes.whole k h.below in let no = h.missing in cc;
}
