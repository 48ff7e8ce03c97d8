use Rattle.dn_flows.proofs.Words.{Err, List, Ok, OnErr, Result, [], ap, arith, cond, get_or-map, length, length-map, list_at, map, map-set, nat_eq, sym, vec_items, ℕ, ◌++◌, ◌<◌, ◌∙◌, ◌∷◌, ◌≡◌}
use Rattle.dn_flows.proofs.Lists.{pushed_at, same_at}
use Rattle.dn_flows.proofs.by_number.ByNumber.push.Goals.{After-index_mut-list}
use Rattle.dn_flows.proofs.by_number.ByNumber.push.Goals as goal

on_err : {T E : Type 0} (r : Result T E) (Q : Type 0) → Q → OnErr r Q
on_err (Ok x) Q q = tt
on_err (Err e) Q q = q

-- The lists once there is one at the number.
module _ (c : After-index_mut-list) where
  abbrev lists : List (List ℕ)
  lists = map vec_items c.self.inside.lists.items

  within : c.get-place.result < length c.self.inside.lists.items
  within =
      let long = ap (λ (l : List (List ℕ)). length l) c.self.view_is in
      omega (arith, length-map c.self.inside.lists.items vec_items, c.in_ok-grow.ensures.there, long)

  among : c.get-place.result < length lists
  among = let lt = within in omega (arith, length-map c.self.inside.lists.items vec_items)

  -- The list that was read is the number's.
  read : list_at lists c.get-place.result ≡ c.index_mut-list.result.now.items
  read = get_or-map vec_items c.self.inside.lists.items c.get-place.result c.index_mut-list.result.now [] within ∙ ap vec_items (sym c.index_mut-list.ensures.value)

  kept : (other : ℕ) → list_at lists other ≡ list_at c.args.self.now other
  kept other = ap (λ (l : List (List ℕ)). list_at l other) c.self.view_is ∙ c.grow.ensures.kept other

pub returns-in_err-reserve-clause-err : goal.returns-in_err-reserve-clause-err
returns-in_err-reserve-clause-err c = on_err c.from_residual-in_err-reserve.result _ (λ other.
    let w = (goal.at.returns-in_err-reserve-clause-err c).After-index_mut-list in
    let new = c.reserve.new.self in
    ap (λ (l : List (List ℕ)). list_at l other) (map-set vec_items c.self.inside.lists.items c.get-place.result new)
    ∙ same_at (lists w) c.get-place.result new.items (among w) (c.in_err-reserve.ensures.items ∙ sym (read w)) other
    ∙ kept w other)

pub returns-clause-ok : goal.returns-clause-ok
returns-clause-ok c = λ other.
    let w = (goal.at.returns-clause-ok c).After-index_mut-list in
    let new = c.push_reserved.new.self in
    let is = c.push_reserved.ensures.items ∙ ap (λ (xs : List ℕ). xs ++ c.args.flow ∷ []) (c.in_ok-reserve.ensures.items ∙ sym (read w)) in
    ap (λ (l : List (List ℕ)). list_at l other) (map-set vec_items c.self.inside.lists.items c.get-place.result new)
    ∙ pushed_at (lists w) c.get-place.result new.items c.args.flow (among w) is other
    ∙ (λ i. cond (nat_eq (c.get-place.ensures.value i) other) (kept w other i ++ c.args.flow ∷ []) (kept w other i))
