use Rattle.dn_service.proofs.Words.{IsOf, [], accounts_of, ap, append_assoc, keeping, rules, shed_in, sym, ◌++◌, ◌∙◌, ◌∷◌}
use Rattle.dn_service.proofs.Handing.{takes_in, taken_in, between}
use Rattle.dn_service.proofs.take_in.take_in.Goals as goal

pub join_seat-requires : goal.join_seat-requires
join_seat-requires c =
    let was = c.loop-caller.invariant in let one = c.in-Some.caller in let r = c.requires.callers in
    let of : IsOf r.0 one =
    between (IsOf r.0) c.loop-caller.yielded one c.next.new.self.rest.items c.args.callers.items
    (ap (λ l. c.loop-caller.yielded ++ l) (sym c.in-Some.ensures.steps.0) ∙ was.4) r.3 in (
      search rules,
      c.into_seat.ensures.table ∙ (ap (λ s. s.table) of ∙ (r.1 ∙ c.requires.table.0)),
      ap (λ x. x.1) c.into_seat.ensures.seat,
      search rules,
      takes_in _ _ _ _ one.service.callers one.number _ _ one.front one.own one.lost one.faced _ _ (ap (λ x. x.0) was.3) (ap (λ x. x.0) c.into_seat.ensures.seat),
    )

pub loop-caller-preserved : goal.loop-caller-preserved
loop-caller-preserved c =
    let was = c.loop-caller.invariant in let one = c.in-Some.caller in let r = c.requires.callers in
    let of : IsOf r.0 one =
    between (IsOf r.0) c.loop-caller.yielded one c.next.new.self.rest.items c.args.callers.items
    (ap (λ l. c.loop-caller.yielded ++ l) (sym c.in-Some.ensures.steps.0) ∙ was.4) r.3 in
    let did = c.join_seat.ensures in (
      tt,
      tt,
      did.0 ∙ was.2,
      did.2 ∙ (λ i. (
        (taken_in _ _ c.loop-caller.yielded one _ _ (ap (λ x. x.0) was.3) (ap (λ x. x.0) c.into_seat.ensures.seat)
            ∙ ap (λ n. keeping n (shed_in c.args.seat.now.me.0.shed) (accounts_of (c.loop-caller.yielded ++ one ∷ []))) (ap (λ s. s.callers) of ∙ sym (ap (λ x. x.0.count) r.2))) i,
        (ap (λ x. x.1) was.3) i,
      )),
      append_assoc c.loop-caller.yielded (one ∷ []) c.next.new.self.rest.items ∙ (ap (λ l. c.loop-caller.yielded ++ l) (sym c.in-Some.ensures.steps.0) ∙ was.4),
    )
