use Rattle.dn_service.proofs.Words.{Closes, Entry, List, [], ap, keeping, shed_in, subst, sym, ◌++◌, ◌∙◌, ◌≡◌}
use Rattle.dn_service.proofs.lasting.Lasting.close.Goals as goal

pub leave-requires-clause-callers : goal.leave-requires-clause-callers
leave-requires-clause-callers c =
    let m = c.self.inside.seat.me in (
      c.args.self.service,
      sym (ap (λ s. s.service.table) c.self.view_is),
      c.self.invariant.0.waits ∙ ap (λ n. (keeping n (shed_in m.0.shed) [], [])) (ap (λ s. s.service.callers) c.self.view_is),
      c.requires,
    )

pub returns-clause-ok : goal.returns-clause-ok
returns-clause-ok c =
    let m = c.self.inside.seat.me in
    let count : c.args.self.service.callers ≡ m.0.count = sym (ap (λ x. x.0.count) c.self.invariant.0.waits ∙ ap (λ s. s.service.callers) c.self.view_is) in
    let out : shed_in m.0.shed ≡ c.args.self.taken = ap (λ s. s.taken) c.self.view_is in
    subst (λ (l : List Entry). Closes c.args.self.service c.args.callers.items (l ++ c.leave.result.items)) out (c.leave.ensures c.args.self.service count)
