-- `then` makes the list that its clause names.
use Rattle.dn_wf2q.proofs.Words.{List, [], changed, leaves, proved_at, refl, the_row, ◌++◌, ◌∷◌, ◌≡◌}
use base.Logic.{SProp, emp}
use contract.Monad.{fact, fact_i}
use contract.Running.{tables}
use denote.Builtin.{RefOf}
use denote.Exit.{yes}
use denote.RattleType.{owns}
use denote.Shadow.{pure_i}
use denote.Signature.{plain, types_at}
use denote.Steps.{nothing}
use denote.Triple.Entry.{alive}
use denote.Triple.Walked.{Stays, stay_dropped, walk_of, Goes-dropped}
use mir.Val.{Val, vptr, vstruct, vnil}
use prog.Wp.{WpFn}
use types.ByLocal.{alloc_all, pass_all, free_all, look_at, sets}
use types.Kit.{‵, raw, prop, ◌⊛◌, ◌$◌, ◌∵◌, !, qed, by, move, keep, drop, split, fsplit, fjoin, feq_l, regoal, use0}
use types.Part.{agg}
use types.Run.{no_more, returns, enter}
use Rattle.dn_wf2q.specs.contracts.behind.Change as change
use Rattle.dn_wf2q.specs.contracts.behind.Behind.then.{clauses, ended}
use Rattle.dn_wf2q.specs.contracts.behind.Behind.then.Key.{name as #self}
use Rattle.dn_wf2q.proofs.behind.Behind.then.Statement.{statement}
use Rattle.dn_wf2q.proofs.behind.Behind.then.Code as code

pub then_spec : {M : Type 1} → statement M
then_spec 𝓤 𝓛 𝓜 𝓡 wired =
    let H = 𝓛.H in let 𝓣 = tables 𝓤 H 𝓜 𝓡 𝓡.env in let c = clauses 𝓛 𝓜.mem 𝓡.returns in let fn = code.function in
    let self = RefOf (0 ∷ []) tt (plain (λ _. the_row)) (λ _. tt) in let other = RefOf (1 ∷ []) tt (plain (λ _. change.the_row)) (λ _. tt) in
    let hs : Stays ended.signature.params ended.kept = (stay_dropped self yes, (stay_dropped other yes, tt)) in
    proved_at 𝓛 ended hs c 𝓜 𝓡 (Goes-dropped 𝓛 2 self yes (λ κs x f. refl), (Goes-dropped 𝓛 2 other yes (λ κs x f. refl), tt)) #self fn (code.unfolded 𝓤 H 𝓜 𝓡 wired) (λ z are.
    let κs = z.0.0 in let qs = z.0.1 in let a = z.0.3 in let vss = z.0.4 in let Post : Val → SProp 𝓤 = (walk_of 𝓛 ended hs c).post z in
    let u : Val = vptr a.0.ref_ptr.0 a.0.ref_ptr.1 in let v : Val = vptr a.1.0.ref_ptr.0 a.1.0.ref_ptr.1 in
    let d : the_row.Denot = record { packets = changed a.1.0.now a.0.now.packets } in let w : Val = vstruct vnil in
    qed 𝓛 ((raw (alive 𝓛 ended.signature κs qs) ⊛ ‵ (owns (types_at ended.signature.params κs) a vss)) ∷ raw ((c κs a).requires z.1) ∷ []) ∵ keep ! (0 ∷ []) $ split ! $ move ! (1 ∷ []) $
    fsplit ! $ fsplit ! $ feq_l ! (λ is₀. drop ! $ fsplit ! $ fsplit ! $ feq_l ! (λ is₁. drop ! $ drop ! $
    regoal ! (λ (us : List Val). prop (WpFn 𝓤 H 𝓣.C 𝓣.Λ fn (us ++ (vss.1.0 ++ [])) Post)) is₀ refl $
    regoal ! (λ (us : List Val). prop (WpFn 𝓤 H 𝓣.C 𝓣.Λ fn ((u ∷ []) ++ (us ++ [])) Post)) is₁ refl $
    enter ! 𝓣.C 𝓣.Λ fn (u ∷ v ∷ []) Post $ alloc_all ! (λ l. pass_all ! refl ((tt, tt), ((tt, tt), tt)) $
    sets ! (agg ! (no_more !)) refl (tt, tt) $
    pure_i ! (the_row.own_val d (w ∷ [])) ((λ vss. (tt, tt)), tt) ((tt, (refl, tt)), tt) $
    use0 𝓛 (raw (fact 𝓤 (d.packets ≡ changed a.1.0.now a.0.now.packets))) (fact_i 𝓤 (d.packets ≡ changed a.1.0.now a.0.now.packets) (emp 𝓤) refl) $
    nothing ! $ nothing ! $ fjoin ! $ nothing ! $ fjoin ! $
    returns ! (look_at ! 0 refl) $ free_all ! refl $ keep ! (3 ∷ 0 ∷ 2 ∷ 1 ∷ []) $ by ! (leaves 𝓛 ended hs c z w d (tt, (tt, tt)) (tt, (tt, tt)))))))
