-- A `RawBox` by value: one machine value of two fields, its pointer and its allocator. Assumes `Logic`.
--     two         a struct of two fields
--     ptr_good    a pointer is of its type
--     handle_good a handle's pointer and flag are of its type
--     two_cases   a handle is closed, or open with one value
--     typed       a pointer into a block beside an allocator's value is of the struct's type
--     opened      what a `RawBox` owns is what a box owns at its pointer, and its allocator
--     made        and the other way round
use Rattle.hingetulip_c.proofs.Words.{Al, Ghosts, Good, List, [], and_tt, ap, box_owns, freed, handle_tells, lit<, owned_by, refl, ℕ, ◌++◌, ◌∙◌, ◌∷◌, ◌≡◌}
use mathlib.Core.Bool.{Bool, ◌&&◌, true, false}
use lib.Dec.{T}
use seplogic.Ra.Ura.{Ura}
use mir.Syntax.{impl, tnil, dnil, ty_ptr}
use mir.Raw.{raw as bare}
use mir.Val.{Val, vbool, vptr, vstruct, vcons, vnil, of_list, has_ty, WT}
use base.Logic.{never, never_e, fst∗}
use base.Fml.{ftrue}
use types.Logic.{Logic, sem}
use types.Kit.{Item, Goal, Seq, Step, step, ‵, given, ◌$◌, use1, learn, move, drop, fsplit, fjoin, fpick, fpack, feq_i, feq_l}
use denote.RattleType.{RattleType, Valss}
use denote.Builtin.{RawPtr}
use denote.Memory.{lone}
use denote.Param.{layout}
use denote.Param.Laws.{Laws}
use denote.RawPtr.{Ptr, block_ptr, null_ptr, ptr_val, in_a_block}
use denote.Steps.{nothing}
use denote.Struct.Owning.{shape}
use denote.Struct.Struct.{within}
use Rattle.hingetulip_c.specs.contracts.raw_box.RawBox as raw_box

abbrev pub two : Val → Val → Val
two v w = vstruct (vcons v (vcons w vnil))

pub ptr_good : (p : Ptr) → T (has_ty ty_ptr (ptr_val p)) × WT (ptr_val p)
ptr_good (block_ptr b o) = (tt, tt)
ptr_good null_ptr = (tt, record { fits = lit< tt })

pub handle_good : (p : Ptr) (y : Bool) → T (has_ty ty_ptr (ptr_val p) && true) × WT (two (ptr_val p) (vbool y))
handle_good (block_ptr b o) y = (tt, (tt, (tt, tt)))
handle_good null_ptr y = (tt, (record { fits = lit< tt }, (tt, tt)))

module _ (R : RattleType) {M : Type 1} {𝓤 : Ura M} {𝓛 : Logic 𝓤} {K : Type 0} {Γ : List (Item 𝓤)} {G : Goal 𝓤 𝓛.H} where
  pub two_cases : K → (p : Ptr) (y : Bool) (xs : List R.Denot)
      → (y ≡ false → xs ≡ [] → Seq K 𝓛 Γ G)
      → ((x : R.Denot) → y ≡ true → xs ≡ x ∷ [] → Seq K 𝓛 (‵ (box_owns freed R p x) ∷ Γ) G)
      → Seq K 𝓛 (‵ (owned_by (box_owns freed R p) y xs) ∷ Γ) G
  two_cases t p true (x ∷ []) none one = one x refl refl
  two_cases t p true [] none one = use1 𝓛 (given ⊥ (‵ ftrue)) (never_e 𝓤 _) $ learn t (λ z. absurd z)
  two_cases t p true (x ∷ y ∷ xs) none one = use1 𝓛 (given ⊥ (‵ ftrue)) (never_e 𝓤 _) $ learn t (λ z. absurd z)
  two_cases t p false [] none one = drop t $ none refl refl
  two_cases t p false (x ∷ xs) none one = use1 𝓛 (given ⊥ (‵ ftrue)) (never_e 𝓤 _) $ learn t (λ z. absurd z)

module _ (R Z : RattleType) (L : Laws Z) (g : Ghosts Z.Denot) where
  abbrev pub Row : RattleType
  Row = raw_box.the_row R Z g

  abbrev pub allocator : Al
  allocator = record { row = Z; laws = L; g = g; d = impl [] tnil dnil; drops = impl [] tnil dnil }

  pub typed : (block offset : ℕ) (h : Val) → Good (layout Z) h → T (has_ty (layout Z) h && true) × WT (two (vptr block offset) h)
  typed block offset h good = (and_tt (has_ty (layout Z) h) good.0, (tt, (good.1, tt)))

  module _ {M : Type 1} {𝓤 : Ura M} {𝓛 : Logic 𝓤} {K : Type 0} {Γ : List (Item 𝓤)} {G : Goal 𝓤 𝓛.H} where
    pub opened : K → (b : Row.Denot) (vs : List Val)
        → ((block offset : ℕ) (h : Val) → Good (layout Z) h → vs ≡ two (vptr block offset) h ∷ []
        → Seq K 𝓛 (‵ (box_owns (g.dealloc_token b.alloc) R (block_ptr block offset) b.held) ∷ ‵ (Z.own_val b.alloc (h ∷ [])) ∷ Γ) G)
        → Seq K 𝓛 (‵ (Row.own_val b vs) ∷ Γ) G
    opened t b vs rest =
        -- [the fields; what a box owns]
        fsplit t $ fpick t (λ parts. fsplit t $ feq_l t (λ whole_is.
        fsplit t $ feq_l t (λ pointer_is.
        fsplit t $ handle_tells allocator t b.alloc parts.1.0 (λ h alloc_is good.
        -- [the allocator; no more fields; what a box owns]
        move t (2 ∷ 0 ∷ 1 ∷ []) $
        in_a_block t b.pointer (λ p. box_owns (g.dealloc_token b.alloc) R p b.held) (fst∗ 𝓤 (never 𝓤) (sem 𝓛 (g.dealloc_token b.alloc (bare (lone R.mir)) null_ptr))) (λ block offset there.
        let pointer : parts.0 ≡ vptr block offset ∷ [] = pointer_is ∙ ap (λ (p : Ptr). ptr_val p ∷ []) there in
        move t (2 ∷ []) $ drop t $ rest block offset h good (whole_is ∙ (λ i. vstruct (of_list (pointer i ++ (alloc_is i ++ []))) ∷ [])))))))

    pub made : K → (block offset : ℕ) (h : Val) (a : Z.Denot) (x : R.Denot)
        → Step K 𝓛 (‵ (Row.own_val (record { pointer = block_ptr block offset; alloc = a; held = x }) (two (vptr block offset) h ∷ [])) ∷ Γ) G
        (‵ (box_owns (g.dealloc_token a) R (block_ptr block offset) x) ∷ ‵ (Z.own_val a (h ∷ [])) ∷ Γ) G
    made t block offset h a x = step (λ rest.
        let word : List Val = two (vptr block offset) h ∷ [] in let pointer : List Val = vptr block offset ∷ [] in
        -- the fields from the last to the first, then that these are the struct's, then what a box owns
        nothing t $ move t (2 ∷ 0 ∷ []) $ fjoin t $
        feq_i t (List Val) pointer pointer refl $ fjoin t $
        feq_i t (List Val) word word refl $ fjoin t $
        fpack t (Valss (RawPtr ∷ Z ∷ [])) (within (shape (raw_box.the_type R Z g)) (block_ptr block offset, (a, tt)) word) (pointer, (h ∷ [], tt)) $
        fjoin t $ rest)
