-- The calls that make a handle or take one apart, for whichever struct. Assumes `Logic`.
--     of_code, closed_code, into_code            what each is compiled to
--     of_ended, of_clauses and so on             its contract
--     of_meets, closed_meets, into_meets         the code meets the contract
use Rattle.hingetulip_c.proofs.Words.{MatchOption, freed, ℕ}
use mir.Raw.{raw as bare}
use mir.Syntax.{Callee, Fn, Body, Local, local, value_local, Opd, Rv, rv_opd, copy, place, field, assign, aggregate, seq, cond, return, int, w8, w64, opd_true, opd_false, ty_ptr, ty_bool}
use contract.Running.{Running, MachineTables}
use denote.Triple.Clauses.{Ended, Clauses, closing}
use denote.Triple.Spec.{Meets}
use prog.Model.{Model}
use prog.Wp.{Closed}
use Rattle.std.specs.contracts.alloc.Global as heap
use Rattle.std.specs.contracts.option.Option as option
use Rattle.std.proofs.alloc.Global.TheLaws as heap_laws
use Rattle.hingetulip_c.proofs.Walks.{◌≡◌, List, [], ◌∷◌, ◌++◌, refl, sym, ap, subst, lit<, ◌∙◌, Bool, true, false, Val, vbool, vptr, vcons, vnil, SProp, ent, emp, id⊢, never, fst∗, WpFn, sem, ‵, raw}
use Rattle.hingetulip_c.proofs.Walks.{◌⊛◌, at_ret, ◌$◌, ◌∵◌, !, qed, by, move, keep, split, fsplit, fjoin, suffices, use0, use1, stop, fld, of_opd, lit, true_lit, false_lit, no_more, and_then, first}
use Rattle.hingetulip_c.proofs.Walks.{branches, exec, returns, enter, alloc_all, pass_all, free_all, look_at, get, get_in, sets, sets_last, env, agg, sub, whole, live, fact, fact_i, tables, yes}
use Rattle.hingetulip_c.proofs.Walks.{RattleType, Ura, Logic, owns, Ptr, block_ptr, null_ptr, ptr_val, in_a_block, lone, layout, types_at, plain, nothing, alive, Stays, stay_dropped, walk_of}
use Rattle.hingetulip_c.proofs.Walks.{Goes-dropped, None, Some, ghosts, handle_tells, after, Good, Some-of, none_of, and_tt, box_owns, proved_at, leaves}
use Rattle.hingetulip_c.proofs.RawBoxes.{Row, two, ptr_good, handle_good, two_cases, allocator, typed, opened, made}
use Rattle.hingetulip_c.proofs.Handles.{Handle, HandleRow, holds, handle_in, handle_out}

abbrev function : ℕ → List Local → Body → Fn
function n locals body = record { lifetimes = 0; outlives = []; ty_params = []; givens = 0; params = n; locals = locals; body = body }

abbrev local_of : RattleType → Local
local_of T = local (layout T) value_local

abbrev pointer : Local
pointer = local ty_ptr value_local

abbrev flag : Local
flag = local ty_bool value_local

abbrev to : ℕ → Rv → Body
to n value = assign (place n []) value

abbrev read : ℕ → Opd
read n = copy (place n [])

abbrev field_of : ℕ → ℕ → Opd
field_of n i = copy (place n (field i ∷ []))

module _ {R Hd : RattleType} (h : Handle R Hd) where
  abbrev Own : RattleType
  Own = HandleRow h

  abbrev Z : RattleType
  Z = heap.the_row

  abbrev Box : RattleType
  Box = Row R Z heap_laws.the_row_laws ghosts

  abbrev pub of_code : Fn
  of_code = function 1 (local_of Own ∷ local_of Box ∷ pointer ∷ pointer ∷ [])
      (seq (to 2 (rv_opd (field_of 1 0))) (seq (to 3 (rv_opd (read 2))) (seq (to 0 (aggregate (read 3 ∷ opd_true ∷ []))) return)))

  abbrev pub of_ended : Ended
  of_ended = record { signature = record { lifetimes = 0; outlives = []; params = plain (λ _. Box) ∷ []; result = plain (λ _. Own) }; kept = (yes, tt) }

  abbrev pub of_clauses : {M : Type 1} (𝓤 : Ura M) → Clauses 𝓤 of_ended
  of_clauses 𝓤 κs a = record { ghost = Unit {0}; requires = λ _. emp 𝓤; ensures = λ _ d _. fact 𝓤 (h.held d ≡ a.0.held ∷ []) }

  abbrev pub closed_code : Fn
  closed_code = function 0 (local_of Own ∷ []) (seq (to 0 (aggregate (int w64 0 ∷ opd_false ∷ []))) return)

  abbrev pub closed_ended : Ended
  closed_ended = record { signature = record { lifetimes = 0; outlives = []; params = []; result = plain (λ _. Own) }; kept = tt }

  abbrev pub closed_clauses : {M : Type 1} (𝓤 : Ura M) → Clauses 𝓤 closed_ended
  closed_clauses 𝓤 κs a = record { ghost = Unit {0}; requires = λ _. emp 𝓤; ensures = λ _ d _. fact 𝓤 (h.held d ≡ []) }

  abbrev Out : RattleType
  Out = option.the_row Box

  abbrev pub into_code : Fn
  into_code = function 2 (local_of Out ∷ local_of Own ∷ local_of Z ∷ pointer ∷ flag ∷ flag ∷ local_of Out ∷ pointer ∷ local_of Box ∷ [])
      (seq (to 3 (rv_opd (field_of 1 0))) (seq (to 4 (rv_opd (field_of 1 1))) (seq (to 5 (rv_opd (read 4)))
      (seq (cond (read 5) (seq (to 7 (rv_opd (read 3))) (seq (to 8 (aggregate (read 7 ∷ read 2 ∷ []))) (to 6 (aggregate (int w8 1 ∷ read 8 ∷ []))))) (to 6 (aggregate (int w8 0 ∷ []))))
      (seq (to 0 (rv_opd (read 6))) return)))))

  abbrev pub into_ended : Ended
  into_ended = record { signature = record { lifetimes = 0; outlives = []; params = plain (λ _. Own) ∷ plain (λ _. Z) ∷ []; result = plain (λ _. Out) }; kept = (yes, (yes, tt)) }

  abbrev pub into_clauses : {M : Type 1} (𝓤 : Ura M) → Clauses 𝓤 into_ended
  into_clauses 𝓤 κs a = record {
    ghost = Unit {0};
    requires = λ _. emp 𝓤;
    ensures = λ _ out _. fact 𝓤 (MatchOption out (h.held a.0 ≡ []) (λ b. h.held a.0 ≡ b.held ∷ []));
  }

  module _ {M : Type 1} {𝓤 : Ura M} (𝓛 : Logic 𝓤) (𝓜 : Model 𝓤 𝓛.H) (𝓡 : Running 𝓤 𝓛.H 𝓜) (self : Callee) where
    abbrev 𝓣 : MachineTables 𝓤 𝓛.H 𝓜
    𝓣 = tables 𝓤 𝓛.H 𝓜 𝓡 𝓡.env

    pub of_meets : Closed 𝓤 𝓛.H 𝓣.C 𝓣.Λ self of_code → Meets 𝓛 of_ended.signature (𝓣.C self) (closing 𝓛 of_ended (of_clauses 𝓤))
    of_meets unfolded =
        let H = 𝓛.H in let c = of_clauses 𝓤 in let fn = of_code in let LZ = heap_laws.the_row_laws in
        let hs : Stays of_ended.signature.params of_ended.kept = (stay_dropped (plain (λ _. Box)) yes, tt) in
        proved_at 𝓛 of_ended hs c 𝓜 𝓡 (Goes-dropped 𝓛 0 (plain (λ _. Box)) yes (λ κs x f. refl), tt) self fn unfolded (λ z are.
        let κs = z.0.0 in let qs = z.0.1 in let v = z.0.3.0 in let Post : Val → SProp 𝓤 = (walk_of 𝓛 of_ended hs c).post z in
        let Run : List Val → SProp 𝓤 = λ ws. WpFn 𝓤 H 𝓣.C 𝓣.Λ fn ws Post in
        qed 𝓛 ((raw (alive 𝓛 of_ended.signature κs qs) ⊛ ‵ (owns (types_at of_ended.signature.params κs) z.0.3 z.0.4)) ∷ raw ((c κs z.0.3).requires z.1) ∷ []) ∵ split ! $ move ! (1 ∷ []) $ fsplit ! $
        opened R Z LZ ghosts ! v z.0.4.0 (λ b o g fits ws.
        let w : Val = two (vptr b o) g in
        keep ! (0 ∷ 3 ∷ []) $
        suffices ! (Run (w ∷ [])) (subst (λ (us : List Val). ent 𝓤 (Run (w ∷ [])) (Run us)) (sym (λ i. ws i ++ [])) (id⊢ 𝓤 (Run (w ∷ [])))) $
        enter ! 𝓣.C 𝓣.Λ fn (w ∷ []) Post $ alloc_all ! (λ l. pass_all ! refl (typed R Z LZ ghosts b o g fits, tt) $
        sets ! (of_opd ! (get_in ! (fld ! refl (stop !)) (sub ! 0 refl (whole !)))) refl (tt, tt) $ sets ! (of_opd ! (get ! refl)) refl (tt, tt) $
        sets ! (agg ! (and_then ! (get ! refl) (and_then ! (true_lit !) (no_more !)))) refl (handle_good (block_ptr b o) true) $
        let one : List R.Denot = v.held ∷ [] in let d = h.make (block_ptr b o) true one in
        handle_in h ! (block_ptr b o) true one $ use0 𝓛 (raw (fact 𝓤 (h.held d ≡ one))) (fact_i 𝓤 (h.held d ≡ one) (emp 𝓤) (holds h (block_ptr b o) true one)) $ nothing ! $ nothing ! $ fjoin ! $
        returns ! (look_at ! 0 refl) $ free_all ! refl $ keep ! (3 ∷ 0 ∷ 2 ∷ 1 ∷ []) $ by ! (leaves 𝓛 of_ended hs c z (two (vptr b o) (vbool true)) d (_, tt) (tt, tt)))))

    pub closed_meets : Closed 𝓤 𝓛.H 𝓣.C 𝓣.Λ self closed_code → Meets 𝓛 closed_ended.signature (𝓣.C self) (closing 𝓛 closed_ended (closed_clauses 𝓤))
    closed_meets unfolded =
        let H = 𝓛.H in let c = closed_clauses 𝓤 in let fn = closed_code in
        let hs : Stays closed_ended.signature.params closed_ended.kept = tt in
        proved_at 𝓛 closed_ended hs c 𝓜 𝓡 tt self fn unfolded (λ z are.
        let κs = z.0.0 in let qs = z.0.1 in let Post : Val → SProp 𝓤 = (walk_of 𝓛 closed_ended hs c).post z in
        let d = h.make null_ptr false [] in let w : Val = two (ptr_val null_ptr) (vbool false) in
        qed 𝓛 ((raw (alive 𝓛 closed_ended.signature κs qs) ⊛ ‵ (owns (types_at closed_ended.signature.params κs) z.0.3 z.0.4)) ∷ raw ((c κs z.0.3).requires z.1) ∷ []) ∵ split ! $ keep ! (0 ∷ []) $
        enter ! 𝓣.C 𝓣.Λ fn [] Post $ alloc_all ! (λ l. pass_all ! refl tt $
        sets ! (agg ! (and_then ! (lit ! tt) (and_then ! (false_lit !) (no_more !)))) refl (handle_good null_ptr false) $
        nothing ! $ handle_in h ! null_ptr false [] $
        use0 𝓛 (raw (fact 𝓤 (h.held d ≡ []))) (fact_i 𝓤 (h.held d ≡ []) (emp 𝓤) (holds h null_ptr false [])) $ nothing ! $
        returns ! (look_at ! 0 refl) $ free_all ! refl $ keep ! (3 ∷ 0 ∷ 2 ∷ 1 ∷ []) $ by ! (leaves 𝓛 closed_ended hs c z w d tt tt)))

    pub into_meets : Closed 𝓤 𝓛.H 𝓣.C 𝓣.Λ self into_code → Meets 𝓛 into_ended.signature (𝓣.C self) (closing 𝓛 into_ended (into_clauses 𝓤))
    into_meets unfolded =
        let H = 𝓛.H in let c = into_clauses 𝓤 in let fn = into_code in let LZ = heap_laws.the_row_laws in
        let hs : Stays into_ended.signature.params into_ended.kept = (stay_dropped (plain (λ _. Own)) yes, (stay_dropped (plain (λ _. Z)) yes, tt)) in
        proved_at 𝓛 into_ended hs c 𝓜 𝓡 (Goes-dropped 𝓛 0 (plain (λ _. Own)) yes (λ κs x f. refl), (Goes-dropped 𝓛 0 (plain (λ _. Z)) yes (λ κs x f. refl), tt)) self fn unfolded (λ z are.
        let κs = z.0.0 in let qs = z.0.1 in let d = z.0.3.0 in let a = z.0.3.1.0 in let Post : Val → SProp 𝓤 = (walk_of 𝓛 into_ended hs c).post z in
        let Run : List Val → SProp 𝓤 = λ ws. WpFn 𝓤 H 𝓣.C 𝓣.Λ fn ws Post in
        qed 𝓛 ((raw (alive 𝓛 into_ended.signature κs qs) ⊛ ‵ (owns (types_at into_ended.signature.params κs) z.0.3 z.0.4)) ∷ raw ((c κs z.0.3).requires z.1) ∷ []) ∵
        split ! $ move ! (1 ∷ []) $ fsplit ! $ handle_out h ! d z.0.4.0 (λ ws. move ! (1 ∷ []) $ fsplit ! $ handle_tells (allocator R Z LZ ghosts) ! a z.0.4.1.0 (λ g eh fits. keep ! (2 ∷ 0 ∷ 3 ∷ []) $
        -- [what the handle owns; the allocator; the tokens]
        two_cases R ! (h.at d) (h.there d) (h.held d)
        (λ is has.
        let w : Val = two (ptr_val (h.at d)) (vbool false) in let v₁ : Val = live 0 vnil in
        let told : z.0.4.0 ++ (z.0.4.1.0 ++ []) ≡ w ∷ g ∷ [] = (λ i. ws i ++ (eh i ++ [])) ∙ ap (λ (y : Bool). two (ptr_val (h.at d)) (vbool y) ∷ g ∷ []) is in
        suffices ! (Run (w ∷ g ∷ [])) (subst (λ (us : List Val). ent 𝓤 (Run (w ∷ g ∷ [])) (Run us)) (sym told) (id⊢ 𝓤 (Run (w ∷ g ∷ [])))) $
        enter ! 𝓣.C 𝓣.Λ fn (w ∷ g ∷ []) Post $ alloc_all ! (λ l. pass_all ! refl (handle_good (h.at d) false, (fits, tt)) $ let Ev = env fn.locals l in
        sets ! (of_opd ! (get_in ! (fld ! refl (stop !)) (sub ! 0 refl (whole !)))) refl (ptr_good (h.at d)) $
        sets ! (of_opd ! (get_in ! (fld ! refl (stop !)) (sub ! 1 refl (whole !)))) refl (tt, tt) $ sets ! (of_opd ! (get ! refl)) refl (tt, tt) $
        first ! $ branches ! (get ! refl) (λ wrong. absurd wrong) (λ _.
        sets_last ! (agg ! (and_then ! (lit ! tt) (no_more !))) refl (tt, (record { fits = lit< tt }, tt)) $ exec ! 𝓣.C 𝓣.Λ Ev (after 4 fn.body) (at_ret Ev Post) $
        sets ! (of_opd ! (get ! refl)) refl (tt, (record { fits = lit< tt }, tt)) $
        use0 𝓛 (‵ (Out.own_val None (v₁ ∷ []))) (none_of 𝓛 Box) $ use0 𝓛 (raw (fact 𝓤 (h.held d ≡ []))) (fact_i 𝓤 (h.held d ≡ []) (emp 𝓤) has) $ nothing ! $ nothing ! $ fjoin ! $ nothing ! $ fjoin ! $
        returns ! (look_at ! 0 refl) $ free_all ! refl $ keep ! (4 ∷ 0 ∷ 2 ∷ 1 ∷ []) $ by ! (leaves 𝓛 into_ended hs c z v₁ None (_, (_, tt)) (tt, (tt, tt))))))
        (λ x is has.
        in_a_block ! (h.at d) (λ p. box_owns freed R p x) (fst∗ 𝓤 (never 𝓤) (sem 𝓛 (freed (bare (lone R.mir)) null_ptr))) (λ b o e.
        let w : Val = two (vptr b o) (vbool true) in let word : Val = two (vptr b o) g in let fitting = typed R Z LZ ghosts b o g fits in let v₁ : Val = live 1 (vcons word vnil) in
        let r : Box.Denot = record { pointer = block_ptr b o; alloc = a; held = x } in
        let good : Good (layout Out) v₁ = (and_tt _ fitting.0, (record { fits = lit< tt }, (fitting.1, tt))) in
        let told : z.0.4.0 ++ (z.0.4.1.0 ++ []) ≡ w ∷ g ∷ [] = (λ i. ws i ++ (eh i ++ [])) ∙ (ap (λ (y : Bool). two (ptr_val (h.at d)) (vbool y) ∷ g ∷ []) is
        ∙ ap (λ (p : Ptr). two (ptr_val p) (vbool true) ∷ g ∷ []) e) in
        suffices ! (Run (w ∷ g ∷ [])) (subst (λ (us : List Val). ent 𝓤 (Run (w ∷ g ∷ [])) (Run us)) (sym told) (id⊢ 𝓤 (Run (w ∷ g ∷ [])))) $
        enter ! 𝓣.C 𝓣.Λ fn (w ∷ g ∷ []) Post $ alloc_all ! (λ l. pass_all ! refl (handle_good (block_ptr b o) true, (fits, tt)) $ let Ev = env fn.locals l in
        sets ! (of_opd ! (get_in ! (fld ! refl (stop !)) (sub ! 0 refl (whole !)))) refl (tt, tt) $ sets ! (of_opd ! (get_in ! (fld ! refl (stop !)) (sub ! 1 refl (whole !)))) refl (tt, tt) $
        sets ! (of_opd ! (get ! refl)) refl (tt, tt) $
        first ! $ branches ! (get ! refl) (λ _.
        sets ! (of_opd ! (get ! refl)) refl (tt, tt) $ sets ! (agg ! (and_then ! (get ! refl) (and_then ! (get ! refl) (no_more !)))) refl fitting $
        sets_last ! (agg ! (and_then ! (lit ! tt) (and_then ! (get ! refl) (no_more !)))) refl good $
        exec ! 𝓣.C 𝓣.Λ Ev (after 4 fn.body) (at_ret Ev Post) $ sets ! (of_opd ! (get ! refl)) refl good $ made R Z LZ ghosts ! b o g a x $
        use1 𝓛 (‵ (Out.own_val (Some r) (v₁ ∷ []))) (Some-of 𝓛 Box r word) $ use0 𝓛 (raw (fact 𝓤 (h.held d ≡ x ∷ []))) (fact_i 𝓤 (h.held d ≡ x ∷ []) (emp 𝓤) has) $
        nothing ! $ nothing ! $ fjoin ! $ nothing ! $ fjoin ! $
        returns ! (look_at ! 0 refl) $ free_all ! refl $ keep ! (3 ∷ 0 ∷ 2 ∷ 1 ∷ []) $ by ! (leaves 𝓛 into_ended hs c z v₁ (Some r) (_, (_, tt)) (tt, (tt, tt)))) (λ wrong. absurd wrong)))))))
