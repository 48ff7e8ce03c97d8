-- `apart` takes the pointer and the allocator out of the box.
use mir.Raw.{raw as bare}
use base.Fml.{fsep}
use types.ByLocal.{lands_as}
use denote.Struct.Tuple.{Tuple}
use denote.Triple.Call.{calls_at}
use Rattle.std_alloc.proofs.BoxSteps.Form as box
use Rattle.std_alloc.specs.contracts.boxed.Box.into_raw_with_allocator as taking
use Rattle.std_alloc.proofs.boxed.Box.into_raw_with_allocator.Met.{met}
use Rattle.hingetulip_c.proofs.Walks.{◌≡◌, ◌∙◌, List, [], ◌∷◌, ◌++◌, refl, sym, ap, subst, Args, Fn, a_type, dcons, dnil, inst_fn, Val, vptr, vstruct, of_list, ftrue, flft, SProp, ent, emp, never}
use Rattle.hingetulip_c.proofs.Walks.{id⊢, fst∗, WpFn, fact, fact_i, tables, sem, Item, ‵, raw, ◌⊛◌, some, later, ◌$◌, ◌∵◌, !, qed, by, move, keep, drop, split, split3, join, fsplit, fjoin, fpick}
use Rattle.hingetulip_c.proofs.Walks.{pick, suffices, use0, use1, await, rewrite, feq_l, agg, sub, whole, stop, fld, of_opd, no_more, and_then, returns, enter, alloc_all, pass_all, free_all}
use Rattle.hingetulip_c.proofs.Walks.{look_at, get, get_in, sets, RawPtr, no, param, layout, bounded, param_laws, RattleType, owns, Ptr, block_ptr, null_ptr, ptr_val, in_a_block, types_at, plain}
use Rattle.hingetulip_c.proofs.Walks.{nothing, only, heard, triple_of, framed, Stays, stay_dropped, walk_of, Goes-blank, handle_tells, proved_at, leaves, box_owns, box_out, box_in}
use Rattle.hingetulip_c.proofs.RawBoxes.{two, typed, made}
use Rattle.hingetulip_c.specs.contracts.raw_box.RawBox.apart as f
use Rattle.hingetulip_c.proofs.raw_box.RawBox.apart.Statement.{statement}
use Rattle.hingetulip_c.proofs.raw_box.RawBox.apart.Code as code

pub apart_spec : {M : Type 1} → statement M
apart_spec 𝓤 𝓛 𝓜 𝓡 wired X A LX LA g d dx dd allocator glue glued =
    let 𝓣 = tables 𝓤 𝓛.H 𝓜 𝓡 𝓡.env in
    let E : box.Bx = record { row = X; laws = LX; al = record { row = A; laws = LA; g = g; d = d; drops = dd } } in
    let R : RattleType = param 0 X in let Z : RattleType = param 1 A in let L = param_laws 1 A LA in
    let given : Args = bounded (a_type ∷ a_type ∷ []) (X, (A, tt)) (dcons d (dcons dx (dcons dd dnil))) in
    let fn : Fn = inst_fn given code.function in
    let End = f.ended X A g d dx dd in let c = f.clauses X A g d dx dd 𝓛 𝓜.mem 𝓡.returns in
    let stays : Stays End.signature.params End.kept = (stay_dropped (plain (λ _. box.B E)) no, tt) in
    proved_at 𝓛 End stays c 𝓜 𝓡 (Goes-blank 𝓛 2 (plain (λ _. box.B E)) no (λ κs x w. tt), tt) (f.Key.name given) fn (code.unfolded 𝓤 𝓛.H 𝓜 𝓡 wired (X, (A, tt)) d dx dd) (λ z are.
    let κs = z.0.0 in let qs = z.0.1 in let b = z.0.3.0 in let a = b.alloc in
    let Post : Val → SProp 𝓤 = (walk_of 𝓛 End stays c).post z in
    let Runs : List Val → SProp 𝓤 = λ vs. WpFn 𝓤 𝓛.H 𝓣.C 𝓣.Λ fn vs Post in
    let alive : Item 𝓤 = ‵ (flft κs.0 qs.0) ⊛ ‵ (flft κs.1.0 qs.1.0) ⊛ ‵ ftrue in
    let Pair : RattleType = Tuple (RawPtr ∷ Z ∷ []) in
    let Taken = triple_of 𝓛 (taking.signature X A g d dd dx) (taking.spec X A g d dd dx 𝓛 𝓜.mem 𝓡.returns) in
    let known = met 𝓤 𝓛 𝓜 𝓡 (code.calls-std_alloc::boxed::Box::into_raw_with_allocator 𝓡.env wired) X A LX LA g d dd dx allocator glued glue in
    qed 𝓛 ((alive ⊛ ‵ (owns (types_at End.signature.params κs) z.0.3 z.0.4)) ∷ raw ((c κs z.0.3).requires z.1) ∷ []) ∵
    -- the box is one machine value, of a pointer into a block
    split ! $ move ! (1 ∷ []) $ fsplit ! $ box_out E ! b z.0.4.0 (λ block offset h at vs_are good. box_in E ! b block offset b.value at refl $
    let word : Val = two (vptr block offset) h in
    let y : Taken.Ghost = ((κs, qs, tt, (b, tt), (word ∷ [], tt)), tt) in
    -- [what the parameter owns; the tokens]
    fjoin ! $ move ! (1 ∷ 0 ∷ []) $ join ! $ join ! $ use1 𝓛 (raw (Taken.pre y)) (id⊢ 𝓤 _) $
    suffices ! (Runs (word ∷ [])) (subst (λ (vs : List Val). ent 𝓤 (Runs (word ∷ [])) (Runs vs)) (sym (λ i. vs_are i ++ [])) (id⊢ 𝓤 (Runs (word ∷ [])))) $
    enter ! 𝓣.C 𝓣.Λ fn (word ∷ []) Post $ alloc_all ! (λ l. pass_all ! refl (typed R Z L g block offset h good, tt) $
    sets ! (of_opd ! (get ! refl)) refl (typed R Z L g block offset h good) $
    calls_at ! (framed 𝓤 𝓛.H 𝓜 𝓣) Taken known y (and_then ! (get ! refl) (no_more !)) (λ u.
    use1 𝓛 (later (some (λ (r : Ptr × A.Denot). (alive ⊛ ‵ (Pair.own_val r (u ∷ []))) ⊛ some (λ (_ : (Unit {0} × (Unit {0} × Unit {0})) × Unit {0}).
    ‵ (fsep (fsep ftrue (fsep ftrue ftrue)) ftrue) ⊛ (raw (fact 𝓤 (r.1 ≡ a)) ⊛ ‵ (box_owns (g.dealloc_token a) R r.0 b.value)))))) (id⊢ 𝓤 _) $
    await ! tt $ pick ! (λ r. split ! $ move ! (1 ∷ []) $ pick ! (λ _. split3 ! $ drop ! $ heard ! (r.1 ≡ a) (λ same.
    -- [what a box owns at the pointer; the tokens with the pair]
    in_a_block ! r.0 (λ p. box_owns (g.dealloc_token a) R p b.value) (fst∗ 𝓤 (never 𝓤) (sem 𝓛 (g.dealloc_token a (bare (layout X)) null_ptr))) (λ block' offset' there.
    move ! (1 ∷ []) $ split ! $ move ! (1 ∷ []) $ fpick ! (λ parts. fsplit ! $ feq_l ! (λ pair_is. fsplit ! $ feq_l ! (λ pointer_is. fsplit ! $
    rewrite ! 0 (λ (x : A.Denot). ‵ (A.own_val x parts.1.0)) same refl $ handle_tells E.al ! a parts.1.0 (λ h' alloc_is good'.
    let out : Val = two (vptr block' offset') h' in let fits = typed R Z L g block' offset' h' good' in
    let pointer : parts.0 ≡ vptr block' offset' ∷ [] = pointer_is ∙ ap (λ (p : Ptr). ptr_val p ∷ []) there in
    lands_as ! (ap only (pair_is ∙ (λ i. vstruct (of_list (pointer i ++ (alloc_is i ++ []))) ∷ []))) refl fits $
    sets ! (of_opd ! (get_in ! (fld ! refl (stop !)) (sub ! 0 refl (whole !)))) refl (tt, tt) $
    sets ! (of_opd ! (get_in ! (fld ! refl (stop !)) (sub ! 1 refl (whole !)))) refl good' $
    sets ! (of_opd ! (get ! refl)) refl good' $
    sets ! (agg ! (and_then ! (get ! refl) (and_then ! (get ! refl) (no_more !)))) refl fits $
    -- [the allocator; no more fields; the tokens; what a box owns]
    move ! (3 ∷ 0 ∷ []) $ made R Z L g ! block' offset' h' a b.value $
    use0 𝓛 (raw (fact 𝓤 (b.value ≡ b.value))) (fact_i 𝓤 (b.value ≡ b.value) (emp 𝓤) refl) $ nothing ! $ nothing ! $ fjoin ! $
    returns ! (look_at ! 0 refl) $ free_all ! refl $ keep ! (4 ∷ 0 ∷ 2 ∷ 1 ∷ []) $
    by ! (leaves 𝓛 End stays c z out (record { pointer = block_ptr block' offset'; alloc = a; held = b.value }) ((tt, (tt, tt)), tt) (tt, tt))))))))))))))
