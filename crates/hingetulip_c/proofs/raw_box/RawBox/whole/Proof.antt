-- `whole` makes a box of the pointer and the allocator.
use contract.BorrowLft.{◌⊑◌}
use types.Run.{blocks}
use types.ByLocal.{lands_last}
use denote.Triple.Call.{calls_at_last}
use denote.Triple.Clauses.{Lasts, lasts}
use Rattle.std_alloc.proofs.BoxSteps.Form as box
use Rattle.std_alloc.specs.contracts.boxed.Box.from_raw as making
use Rattle.std_alloc.proofs.boxed.Box.from_raw.Met.{met}
use Rattle.hingetulip_c.proofs.Walks.{◌≡◌, List, [], ◌∷◌, ◌++◌, refl, sym, ap, subst, Args, Fn, a_type, dcons, dnil, inst_fn, Val, vptr, ftrue, flft, SProp, ent, emp, id⊢, WpFn, fact, fact_i}
use Rattle.hingetulip_c.proofs.Walks.{tables, Item, ‵, raw, ◌⊛◌, some, later, at_ret, ◌$◌, ◌∵◌, !, qed, by, move, keep, drop, split, split3, join, fsplit, fjoin, pick, suffices, use0, use1, await}
use Rattle.hingetulip_c.proofs.Walks.{rewrite, feq_i, sub, whole, stop, fld, of_opd, no_more, and_then, first, exec, returns, enter, alloc_all, pass_all, free_all, look_at, get, get_in, sets, env}
use Rattle.hingetulip_c.proofs.Walks.{no, param, layout, bounded, param_laws, RattleType, owns, block_ptr, types_at, plain, nothing, only, heard, triple_of, framed, Stays, stay_dropped, walk_of}
use Rattle.hingetulip_c.proofs.Walks.{Goes-blank, after, Good, proved_at, leaves, box_out, box_in}
use Rattle.hingetulip_c.proofs.RawBoxes.{Row, two, typed, opened}
use Rattle.hingetulip_c.specs.contracts.raw_box.RawBox.whole as f
use Rattle.hingetulip_c.proofs.raw_box.RawBox.whole.Statement.{statement}
use Rattle.hingetulip_c.proofs.raw_box.RawBox.whole.Code as code

pub whole_spec : {M : Type 1} → statement M
whole_spec 𝓤 𝓛 𝓜 𝓡 wired X A LX LA g d dx dd allocator glue glued =
    let 𝓣 = tables 𝓤 𝓛.H 𝓜 𝓡 𝓡.env in
    let E : box.Bx = record { row = X; laws = LX; al = record { row = A; laws = LA; g = g; d = d; drops = dd } } in
    let R : RattleType = param 0 X in let Z : RattleType = param 1 A in let L = param_laws 1 A LA in let B : RattleType = box.B E in
    let given : Args = bounded (a_type ∷ a_type ∷ []) (X, (A, tt)) (dcons d (dcons dx (dcons dd dnil))) in
    let fn : Fn = inst_fn given code.function in
    let End = f.ended X A g d dx dd in let c = f.clauses X A g d dx dd 𝓛 𝓜.mem 𝓡.returns in
    let stays : Stays End.signature.params End.kept = (stay_dropped (plain (λ _. Row R Z L g)) no, tt) in
    proved_at 𝓛 End stays c 𝓜 𝓡 (Goes-blank 𝓛 2 (plain (λ _. Row R Z L g)) no (λ κs x w. tt), tt) (f.Key.name given) fn (code.unfolded 𝓤 𝓛.H 𝓜 𝓡 wired (X, (A, tt)) d dx dd) (λ z are.
    let κs = z.0.0 in let qs = z.0.1 in let b = z.0.3.0 in let a = b.alloc in
    let Post : Val → SProp 𝓤 = (walk_of 𝓛 End stays c).post z in
    let Runs : List Val → SProp 𝓤 = λ vs. WpFn 𝓤 𝓛.H 𝓣.C 𝓣.Λ fn vs Post in
    let alive : Item 𝓤 = ‵ (flft κs.0 qs.0) ⊛ ‵ (flft κs.1.0 qs.1.0) ⊛ ‵ ftrue in
    let lives = κs.0 ⊑ X.lives in let lives' = κs.1.0 ⊑ A.lives in
    let Made = triple_of 𝓛 (making.signature X A g d dd) (making.spec X A g d dd 𝓛 𝓜.mem 𝓡.returns) in
    let known = met 𝓤 𝓛 𝓜 𝓡 (code.calls-std_alloc::boxed::Box::from_raw 𝓡.env wired) X A LX LA g d dd allocator glued in
    let After = making.ended X A g d dd in
    qed 𝓛 ((alive ⊛ ‵ (owns (types_at End.signature.params κs) z.0.3 z.0.4)) ∷ (raw (fact 𝓤 lives) ⊛ raw (fact 𝓤 lives') ⊛ ‵ ftrue) ∷ []) ∵
    move ! (1 ∷ []) $ split3 ! $ heard ! lives (λ le. heard ! lives' (λ le'. drop ! $
    split ! $ move ! (1 ∷ []) $ fsplit ! $ opened R Z L g ! b z.0.4.0 (λ block offset h good vs_are.
    -- [what a box owns; the allocator; no more parameters; the tokens]
    let word : Val = two (vptr block offset) h in
    let y : Made.Ghost = ((κs, qs, tt, (a, (block_ptr block offset, tt)), (h ∷ [], (vptr block offset ∷ [], tt))), b.held) in
    use0 𝓛 (raw (fact 𝓤 lives')) (fact_i 𝓤 lives' (emp 𝓤) le') $ join ! $ use0 𝓛 (raw (fact 𝓤 lives)) (fact_i 𝓤 lives (emp 𝓤) le) $ join ! $
    -- [what `from_raw` asks for; the allocator; no more parameters; the tokens]
    move ! (2 ∷ []) $ feq_i ! (List Val) (vptr block offset ∷ []) (vptr block offset ∷ []) refl $ fjoin ! $
    move ! (2 ∷ 0 ∷ []) $ fjoin ! $ move ! (2 ∷ 0 ∷ []) $ join ! $ join ! $ use1 𝓛 (raw (Made.pre y)) (id⊢ 𝓤 _) $
    suffices ! (Runs (word ∷ [])) (subst (λ (vs : List Val). ent 𝓤 (Runs (word ∷ [])) (Runs vs)) (sym (λ i. vs_are i ++ [])) (id⊢ 𝓤 (Runs (word ∷ [])))) $
    enter ! 𝓣.C 𝓣.Λ fn (word ∷ []) Post $ alloc_all ! (λ l. pass_all ! refl (typed R Z L g block offset h good, tt) $
    sets ! (of_opd ! (get_in ! (fld ! refl (stop !)) (sub ! 0 refl (whole !)))) refl (tt, tt) $
    sets ! (of_opd ! (get_in ! (fld ! refl (stop !)) (sub ! 1 refl (whole !)))) refl good $
    first ! $ blocks ! $ sets ! (of_opd ! (get ! refl)) refl good $
    calls_at_last ! (framed 𝓤 𝓛.H 𝓜 𝓣) Made known y (and_then ! (get ! refl) (and_then ! (get ! refl) (no_more !))) (λ u.
    use1 𝓛 (later (some (λ (r : B.Denot). (alive ⊛ ‵ (B.own_val r (u ∷ []))) ⊛ some (λ (ls : Lasts After κs y.0.3). ‵ (lasts After κs y.0.3 ls) ⊛
    (raw (fact 𝓤 (r.value ≡ b.held)) ⊛ raw (fact 𝓤 (r.alloc ≡ a))))))) (id⊢ 𝓤 (Made.post y u)) $
    await ! tt $ pick ! (λ r. split ! $ move ! (1 ∷ []) $ pick ! (λ _. split3 ! $ drop ! $ heard ! (r.value ≡ b.held) (λ same. drop ! $
    -- [the tokens with the box]
    split ! $ move ! (1 ∷ []) $ box_out E ! r (u ∷ []) (λ block' offset' h' at us_are good'. box_in E ! r block' offset' r.value at refl $
    rewrite ! 0 (λ (vs : List Val). ‵ (B.own_val r vs)) (sym us_are) refl $
    let fits : Good (layout B) u = subst (Good (layout B)) (sym (ap only us_are)) (typed R Z L g block' offset' h' good') in
    lands_last ! refl fits $ exec ! 𝓣.C 𝓣.Λ (env fn.locals l) (after 3 fn.body) (at_ret (env fn.locals l) Post) $ sets ! (of_opd ! (get ! refl)) refl fits $
    use0 𝓛 (raw (fact 𝓤 (r.value ≡ b.held))) (fact_i 𝓤 (r.value ≡ b.held) (emp 𝓤) same) $ nothing ! $ nothing ! $ fjoin ! $
    returns ! (look_at ! 0 refl) $ free_all ! refl $ keep ! (3 ∷ 0 ∷ 2 ∷ 1 ∷ []) $
    by ! (leaves 𝓛 End stays c z u r ((tt, (tt, tt)), tt) (tt, tt))))))))))))
