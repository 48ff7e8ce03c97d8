-- What holds in any case holds where a call was refused, and what a caller's tries leave.
use Rattle.dn_service.proofs.Words.{Answered, AreBelow, Call, CallerView, Entry, Err, IsSameCaller, KeepsSeen, LastingView, List, Ok, OnErr, Reply, Result, ServiceView, StartsWith, Takes, [], ap}
use Rattle.dn_service.proofs.Words.{entry_of, having_faced, having_lost, own_entries, subst, ℕ, ◌++◌, ◌∙◌, ◌∷◌, ◌≡◌}

pub on_err : {T E P : Type 0} (r : Result T E) → P → OnErr r P
on_err (Ok x) p = tt
on_err (Err e) p = p

-- A caller that tried is the same one, and has seen what it had.
pub same_lost : (a b d : CallerView) (k : ℕ) → IsSameCaller a b → d ≡ having_lost k b → IsSameCaller a d
same_lost a b d k same e = record { service = ap (λ (c : CallerView). c.service) e ∙ same.service; number = ap (λ (c : CallerView). c.number) e ∙ same.number }

pub keeps_lost : (a b d : CallerView) (k : ℕ) → KeepsSeen a b → d ≡ having_lost k b → KeepsSeen a d
keeps_lost a b d k keeps e = record { front = ap (λ (c : CallerView). c.front) e ∙ keeps.front; own = ap (λ (c : CallerView). c.own) e ∙ keeps.own }

pub keeps_faced : (a b d : CallerView) (n : ℕ) → KeepsSeen a b → d ≡ having_faced n b → KeepsSeen a d
keeps_faced a b d n keeps e = record { front = ap (λ (c : CallerView). c.front) e ∙ keeps.front; own = ap (λ (c : CallerView). c.own) e ∙ keeps.own }

pub same_on : (a b d : CallerView) → IsSameCaller a b → IsSameCaller b d → IsSameCaller a d
same_on a b d p q = record { service = q.service ∙ p.service; number = q.number ∙ p.number }

pub answered_on : (a b d : CallerView) (c : Call) (r : Reply) → IsSameCaller a b → KeepsSeen a b → Answered b c r d → Answered a c r d
answered_on a b d c r same keeps t = record {
  lawful = t.lawful;
  below = subst (λ (s : ServiceView). AreBelow s.callers d.front) same.service t.below;
  between = t.between;
  front = t.front ∙ (λ i. (keeps.front i ++ t.between) ++ entry_of (same.number i) c r ∷ []);
  own = t.own ∙ (λ i. keeps.own i ++ entry_of (same.number i) c r ∷ []);
  all_own = t.all_own ∙ ap (λ k. own_entries k d.front) same.number;
}

pub takes_on : (before after : LastingView) (a b d : CallerView) (place : ℕ) (entries : List Entry) → IsSameCaller a b → KeepsSeen a b
    → Takes before b place entries after d → Takes before a place entries after d
takes_on before after a b d place entries same keeps t = record {
  service = t.service;
  taken = t.taken;
  start = t.start;
  lawful = t.lawful;
  below = t.below;
  front = t.front;
  seen = subst (λ (l : List Entry). StartsWith d.front l) keeps.front t.seen;
  own = t.own ∙ keeps.own;
  all_own = t.all_own ∙ ap (λ k. own_entries k after.taken) same.number;
}
