use Rattle.dn_service.proofs.Words.{List, SeatRule, Slot, Some, [], first_seat, opening, rules, subst, sym, ◌∷◌, ◌≡◌}
use Rattle.dn_service.proofs.Splitting.{opens}
use Rattle.dn_service.proofs.service.new_table.Goals as goal

pub new-requires-2 : goal.new-requires-2
new-requires-2 c =
    let is : c.push_reserved.new.self.items ≡ Some c.in_ok-new.field-0 ∷ [] = search rules in
    subst (λ (xs : List Slot). SeatRule c.args.count (opening (0 ∷ []) xs (first_seat c.args.count))) (sym is) (opens c.args.count _ c.in_ok-new.ensures)
