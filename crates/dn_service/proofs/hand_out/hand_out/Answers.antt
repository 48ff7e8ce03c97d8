use Rattle.dn_service.proofs.Words.{ServiceView, [], ap, new_caller, rules, sitting, sym, ◌++◌, ◌∙◌, ◌∷◌, ◌≡◌}
use Rattle.dn_service.proofs.Handing.{hands_out, left_over, handed, one_more_caller}
use Rattle.dn_service.proofs.hand_out.hand_out.Goals as goal

pub split_seat-one-requires : goal.split_seat-one-requires
split_seat-one-requires c = (search rules, search rules, hands_out _ _ c.args.count c.loop-number.number _ (search rules) c.loop-number.invariant.1)

pub new-requires-clause-seat : goal.new-requires-clause-seat
new-requires-clause-seat c =
    let count = c.args.count in let k = c.loop-number.number in
    let alone : c.split_seat-one.result.me.0 ≡ sitting count k [] [] [] 0 =
    ap (λ x. x.0) c.split_seat-one.ensures.4 ∙ handed count k c.loop-number.seat.me c.loop-number-test.true c.loop-number.invariant.1 in
    c.split_seat-one.ensures.4 ∙ (λ i. (handed count k c.loop-number.seat.me c.loop-number-test.true c.loop-number.invariant.1 i, []))
    ∙ ap (λ n. (sitting n k [] [] [] 0, [])) (sym (ap (λ v. v.count) alone))

pub loop-number-preserved : goal.loop-number-preserved
loop-number-preserved c =
    let count = c.args.count in let k = c.loop-number.number in let was = c.loop-number.invariant in let did = c.split_seat-one.ensures in
    let service : ServiceView = record { table = c.args.seat.now.table_id; callers = count } in
    let alone : c.split_seat-one.result.me.0 ≡ sitting count k [] [] [] 0 = ap (λ x. x.0) did.4 ∙ handed count k c.loop-number.seat.me c.loop-number-test.true was.1 in
    let one : c.new.result ≡ new_caller service k = search rules in (
      did.0 ∙ was.0,
      did.2 ∙ (λ i. (left_over count k c.loop-number.seat.me c.loop-number-test.true was.1 i, (ap (λ x. x.1) was.1) i)),
      c.push_reserved.ensures.items ∙ ((λ i. was.2 i ++ one i ∷ []) ∙ one_more_caller service k),
      search rules,
      search rules,
    )
