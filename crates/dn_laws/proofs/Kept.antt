-- Nothing but a start moves the moment at which a link is free, its last due moment and, in a busy period, its virtual time.
use Rattle.dn_laws.proofs.Words.{All, All-head, All-tail, LinksAreKept, List, VirtualTimeIsKept, [], ap, cond, false, link_eq-refl, link_eq-true, refl, subst, sym, true, ℕ, ◌++◌, ◌+◌, ◌∙◌, ◌∷◌}
use Rattle.dn_laws.proofs.Words.{◌≡◌}
use Rattle.dn_laws.proofs.LawWords.{IsDueBy, IsNoOpening, IsNoStart, free, last_due, arrival_time, due_by, virtual_time, link_heads, Link, link_eq, Start, Event, opened, started, grown, Rule, Free}
use Rattle.dn_laws.proofs.LawWords.{Ordered}
use Rattle.dn_laws.proofs.Isolation.{false-if}

module _ (rule : Rule) (link : Link) where
  other : (s : Start) → IsNoStart link (started s) → link_eq s.packet.link link ≡ false
  other s h = false-if (link_eq s.packet.link link) (λ same. h (link_eq-true s.packet.link link same))

  free-kept : (later earlier : List Event) → All (IsNoStart link) later → free link (later ++ earlier) ≡ free link earlier
  free-kept [] earlier h = refl
  free-kept (e ∷ later) earlier h = one e (All-head (IsNoStart link) e later h) ∙ free-kept later earlier (All-tail (IsNoStart link) e later h)
    where
      one : (e : Event) → IsNoStart link e → free link (e ∷ later ++ earlier) ≡ free link (later ++ earlier)
      one (started s) h = ap {B = ℕ} (λ b. cond b (s.moment + s.transmission) (free link (later ++ earlier))) (other s h)
      one _ h = refl

  due-kept : (later earlier : List Event) → All (IsNoStart link) later → last_due rule link (later ++ earlier) ≡ last_due rule link earlier
  due-kept [] earlier h = refl
  due-kept (e ∷ later) earlier h = one e (All-head (IsNoStart link) e later h) ∙ due-kept later earlier (All-tail (IsNoStart link) e later h)
    where
      one : (e : Event) → IsNoStart link e → last_due rule link (e ∷ later ++ earlier) ≡ last_due rule link (later ++ earlier)
      one (started s) h = ap {B = ℕ} (λ b. cond b (due_by rule (arrival_time s) (last_due rule link (later ++ earlier))) (last_due rule link (later ++ earlier))) (other s h)
      one _ h = refl

  virtual-kept : (later earlier : List Event) → All (IsNoStart link) later → All (IsNoOpening link) later → virtual_time link (later ++ earlier) ≡ virtual_time link earlier
  virtual-kept [] earlier h k = refl
  virtual-kept (e ∷ later) earlier h k =
      one e (All-head (IsNoStart link) e later h) (All-head (IsNoOpening link) e later k)
      ∙ virtual-kept later earlier (All-tail (IsNoStart link) e later h) (All-tail (IsNoOpening link) e later k)
    where
      one : (e : Event) → IsNoStart link e → IsNoOpening link e → virtual_time link (e ∷ later ++ earlier) ≡ virtual_time link (later ++ earlier)
      one (started s) h k = ap {B = ℕ} (λ b. cond b (grown (virtual_time link (later ++ earlier)) (link_heads link (later ++ earlier)) s.packet.stamped.len)
          (virtual_time link (later ++ earlier))) (other s h)
      one (opened l) h k = ap {B = ℕ} (λ b. cond b 0 (virtual_time link (later ++ earlier))) (false-if (link_eq l link) (λ same. k (link_eq-true l link same)))
      one _ h k = refl

  none-after : (later : List Event) → later ++ [] ≡ later
  none-after [] = refl
  none-after (e ∷ later) = ap (λ (r : List Event). e ∷ r) (none-after later)

  here : (s : Start) → s.packet.link ≡ link → link_eq s.packet.link link ≡ true
  here s same = ap (λ (l : Link). link_eq l link) same ∙ link_eq-refl link

  due-is : (r : Rule) (s : Start) (last : ℕ) → IsDueBy r s last (due_by r (arrival_time s) last)
  due-is Free s last = refl
  due-is Ordered s last = refl

pub links-are-kept : LinksAreKept
links-are-kept rule link later earlier h = (
  λ s same. (
    free-kept rule link later (started s ∷ earlier) h ∙ ap {B = ℕ} (λ b. cond b (s.moment + s.transmission) (free link earlier)) (here rule link s same),
    subst (λ (n : ℕ). IsDueBy rule s (last_due rule link earlier) n)
        (sym (due-kept rule link later (started s ∷ earlier) h
        ∙ ap {B = ℕ} (λ b. cond b (due_by rule (arrival_time s) (last_due rule link earlier)) (last_due rule link earlier)) (here rule link s same)))
        (due-is rule link rule s (last_due rule link earlier)),
  ),
  ap (free link) (sym (none-after rule link later)) ∙ free-kept rule link later [] h,
  ap (last_due rule link) (sym (none-after rule link later)) ∙ due-kept rule link later [] h,
)

pub virtual-time-is-kept : VirtualTimeIsKept
virtual-time-is-kept link later earlier h k =
    (virtual-kept Free link later earlier h k, ap {B = ℕ} (λ b. cond b 0 (virtual_time link earlier)) (link_eq-refl link), refl)
