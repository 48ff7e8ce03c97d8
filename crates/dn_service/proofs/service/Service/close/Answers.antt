use Rattle.dn_service.proofs.Words.{Closes, Entry, List, [], ap, keeping, shed_in, subst, sym, ◌++◌, ◌∙◌, ◌≡◌}
use Rattle.dn_service.proofs.Lastings.{is_waiting}
use Rattle.dn_service.proofs.service.Service.close.Goals as goal

pub leave-requires-clause-callers : goal.leave-requires-clause-callers
leave-requires-clause-callers c =
    let m = c.self.inside.seat.me in (
      c.args.self,
      sym (ap (λ s. s.table) c.self.view_is),
      is_waiting c.self.inside.count [] m c.self.invariant.waits ∙ ap (λ n. (keeping n (shed_in m.0.shed) [], [])) (ap (λ s. s.callers) c.self.view_is),
      c.requires,
    )

pub returns-clause-ok : goal.returns-clause-ok
returns-clause-ok c =
    let m = c.self.inside.seat.me in
    let count : c.args.self.callers ≡ m.0.count = sym (ap (λ x. x.0.count) c.self.invariant.waits ∙ ap (λ s. s.callers) c.self.view_is) in
    let out : shed_in m.0.shed ≡ [] = ap (λ x. shed_in x.0.shed) c.self.invariant.waits in
    subst (λ (l : List Entry). Closes c.args.self c.args.callers.items (l ++ c.leave.result.items)) out (c.leave.ensures c.args.self count)
