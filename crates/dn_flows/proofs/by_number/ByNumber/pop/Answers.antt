use Rattle.dn_flows.proofs.Words.{List, [], ap, arith, get_or-map, length, length-map, list_at, map, map-set, nat_eq, sym, take, vec_items, vec_len, ℕ, ◌-◌, ◌<◌, ◌∙◌, ◌≡◌}
use Rattle.dn_flows.proofs.Lists.{less_last, popped_at}
use Rattle.dn_flows.proofs.by_number.ByNumber.pop.Goals as goal

pub returns : goal.returns
returns c = λ other.
    let lists = c.self.inside.lists.items in
    let place = c.get-place.result in
    let old = c.index_mut-list.result.now in
    let new = c.pop.new.self in
    let within : place < length lists = omega arith in
    let same = length-map lists vec_items in
    let within_all : place < length (map vec_items lists) = omega arith in
    let long : vec_len old ≡ length old.items = omega arith in
    let at : list_at (map vec_items lists) place ≡ old.items = get_or-map vec_items lists place old [] within ∙ ap vec_items (sym c.index_mut-list.ensures.value) in
    let rest : new.items ≡ take (length old.items - 1) old.items = c.pop.ensures.rest ∙ ap (λ n. take (n - 1) old.items) long in
    let is : new.items ≡ take (length (list_at (map vec_items lists) place) - 1) (list_at (map vec_items lists) place) = rw at rest in
    rw (← c.self.view_is)
    (ap (λ (l : List (List ℕ)). list_at l other) (map-set vec_items lists place new) ∙ popped_at (map vec_items lists) place new.items within_all is other
    ∙ ap (λ n. less_last (nat_eq n other) (list_at (map vec_items lists) other)) c.get-place.ensures.value)
