-- What the four handles have in common: their fields, and their machine value. Assumes `Logic`.
--     Handle        a struct that is a handle of values of the type R: a pointer, a flag and the list of what it holds
--     HandleRow     the type that such a struct has
--     kept          what it owns
--     holds         a handle that is made of a list holds it
--     handle_out    a handle's machine value has two fields, and it owns what it holds
--     handle_in     and the other way round
use Rattle.hingetulip_c.proofs.Words.{freed, owned_by}
use mir.Syntax.{Sym}
use base.Fml.{fsep}
use denote.Exit.{unseen}
use denote.Struct.Struct.{Shape, Struct}
use Rattle.dn_history.specs.contracts.file_audit.file_audit.FileAudit as file_audit
use Rattle.dn_shaper.specs.contracts.shaper.Shaper as shaper
use Rattle.hingetulip_c.specs.contracts.audit_handle.AuditHandle as c_audit
use Rattle.hingetulip_c.specs.contracts.caller_handle.CallerHandle as c_caller
use Rattle.hingetulip_c.specs.contracts.client.Client as client
use Rattle.hingetulip_c.specs.contracts.handle.Handle as c_shaper
use Rattle.hingetulip_c.specs.contracts.ledger.Ledger as ledger
use Rattle.hingetulip_c.specs.contracts.service_handle.ServiceHandle as c_service
use Rattle.hingetulip_c.proofs.Walks.{◌≡◌, List, [], ◌∷◌, ◌++◌, refl, ap, subst, Bool, Ura, Val, vbool, vstruct, of_list, Fml, Logic, Item, Goal, Seq, Step, step, ‵, ◌$◌, drop, fsplit, fjoin, fpick}
use Rattle.hingetulip_c.proofs.Walks.{fpack, feq_i, feq_l, within, RattleType, Valss, RawPtr, bool, Ptr, ptr_val, nothing, box_owns}
use Rattle.hingetulip_c.proofs.RawBoxes.{two}

pub record Handle (R Hd : RattleType) : Type 0 where
  pub name : Sym
  pub at : Hd.Denot → Ptr
  pub there : Hd.Denot → Bool
  pub held : Hd.Denot → List R.Denot
  pub make : Ptr → Bool → List R.Denot → Hd.Denot
  pub is : (p : Ptr) (y : Bool) (xs : List R.Denot)
      → ◌≡◌ {A = Ptr × (Bool × List R.Denot)} (at (make p y xs), (there (make p y xs), held (make p y xs))) (p, (y, xs))

abbrev pub shaper_handle : Handle shaper.the_row c_shaper.the_row
shaper_handle = record { name = c_shaper.struct.name; at = λ d. d.at; there = λ d. d.there; held = λ d. d.held; make = λ p y xs. record { at = p; there = y; held = xs }; is = λ p y xs. refl }

abbrev pub caller_handle : Handle client.the_row c_caller.the_row
caller_handle = record { name = c_caller.struct.name; at = λ d. d.at; there = λ d. d.there; held = λ d. d.held; make = λ p y xs. record { at = p; there = y; held = xs }; is = λ p y xs. refl }

abbrev pub service_handle : Handle ledger.the_row c_service.the_row
service_handle = record { name = c_service.struct.name; at = λ d. d.at; there = λ d. d.there; held = λ d. d.held; make = λ p y xs. record { at = p; there = y; held = xs }; is = λ p y xs. refl }

abbrev pub audit_handle : Handle file_audit.the_row c_audit.the_row
audit_handle = record { name = c_audit.struct.name; at = λ d. d.at; there = λ d. d.there; held = λ d. d.held; make = λ p y xs. record { at = p; there = y; held = xs }; is = λ p y xs. refl }

module _ {R Hd : RattleType} (h : Handle R Hd) where
  abbrev shape : Shape
  shape = record { name = h.name; args = []; types = []; fields = RawPtr ∷ bool ∷ [] }

  abbrev pub kept : Ptr → Bool → List R.Denot → Fml
  kept p y xs = owned_by (box_owns freed R p) y xs

  abbrev own : Ptr → Bool → List R.Denot → List Val → Fml
  own p y xs vs = fsep ((Struct shape).own_val (p, (y, tt)) vs) (kept p y xs)

  abbrev pub HandleRow : RattleType
  HandleRow = record {
    Denot = Hd.Denot;
    mir = (Struct shape).mir;
    written = Hd.written;
    reaches = Hd.reaches;
    lives = Hd.lives;
    own_val = λ d vs. own (h.at d) (h.there d) (h.held d) vs;
    exit = λ k. unseen;
    coded = Hd.coded;
    shr_at = Hd.shr_at;
  }

  pub holds : (p : Ptr) (y : Bool) (xs : List R.Denot) → h.held (h.make p y xs) ≡ xs
  holds p y xs = ap (λ (of : Ptr × (Bool × List R.Denot)). of.1.1) (h.is p y xs)

  module _ {M : Type 1} {𝓤 : Ura M} {𝓛 : Logic 𝓤} {K : Type 0} {Γ : List (Item 𝓤)} {G : Goal 𝓤 𝓛.H} where
    pub handle_out : K → (d : Hd.Denot) (vs : List Val)
        → (vs ≡ two (ptr_val (h.at d)) (vbool (h.there d)) ∷ [] → Seq K 𝓛 (‵ (kept (h.at d) (h.there d) (h.held d)) ∷ Γ) G)
        → Seq K 𝓛 (‵ (HandleRow.own_val d vs) ∷ Γ) G
    handle_out t d vs k =
        fsplit t $ fpick t (λ vss. fsplit t $ feq_l t (λ ev. fsplit t $ feq_l t (λ ep. fsplit t $ feq_l t (λ eb. drop t $ k
        (subst (λ (ws : List Val). vs ≡ vstruct (of_list (ptr_val (h.at d) ∷ (ws ++ []))) ∷ []) eb
        (subst (λ (ps : List Val). vs ≡ vstruct (of_list (ps ++ (vss.1.0 ++ []))) ∷ []) ep ev))))))

    pub handle_in : K → (p : Ptr) (y : Bool) (xs : List R.Denot)
        → Step K 𝓛 (‵ (HandleRow.own_val (h.make p y xs) (two (ptr_val p) (vbool y) ∷ [])) ∷ Γ) G (‵ (kept p y xs) ∷ Γ) G
    handle_in t p y xs = step (λ s. let v : Val = two (ptr_val p) (vbool y) in
        nothing t $ feq_i t (List Val) (vbool y ∷ []) (vbool y ∷ []) refl $ fjoin t $ feq_i t (List Val) (ptr_val p ∷ []) (ptr_val p ∷ []) refl $ fjoin t $
        feq_i t (List Val) (v ∷ []) (v ∷ []) refl $ fjoin t $
        fpack t (Valss (RawPtr ∷ bool ∷ [])) (within shape (p, (y, tt)) (v ∷ [])) (ptr_val p ∷ [], (vbool y ∷ [], tt)) $ fjoin t $
        subst (λ (of : Ptr × (Bool × List R.Denot)). Seq K 𝓛 (‵ (own of.0 of.1.0 of.1.1 (v ∷ [])) ∷ Γ) G) (h.is p y xs) s)
