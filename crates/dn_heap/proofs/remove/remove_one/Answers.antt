use Rattle.dn_heap.proofs.Words.{IsPermutation-cons, IsPermutation-trans, arith, is_eq, length_permutation, refl, rules, ◌≡◌}
use Rattle.dn_heap.proofs.TakenOnce.{taken_once}
use Rattle.dn_heap.proofs.remove.remove_one.Goals as goal

pub returns-clause-removed : goal.returns-clause-removed
returns-clause-removed g c =
    let r = c.retain.ensures.filtered in
    let t =
    taken_once _ (λ f. f.1.now ≡ c.args.key.now) (λ f. f.0.now) (λ x. is_eq (g.K.Ord.cmp x.0 c.args.key.now))
    (λ p x b q j k. (record { before = λ d n. search rules; found = λ d n. search rules; after = λ d. search rules }, search rules))
    _ _ _ refl refl c.requires.held r.1 in
    (t.0, t.1, IsPermutation-trans _ _ _ t.2 (IsPermutation-cons t.0 _ _ r.2))

pub returns-clause-len : goal.returns-clause-len
returns-clause-len g c =
    let t = returns-clause-removed g c in
    let e = length_permutation _ _ t.2 in
    omega (arith, e, c.args.heap.now.data.ok.0, c.retain.new.self.data.ok.0)
