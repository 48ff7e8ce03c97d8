-- A call on the shaper that a handle holds is a call on the handle.
use Rattle.hingetulip_c.proofs.Words.{AnswersHeld, Call, HeldAfter, List, Reply, Rule, State, [], arith, items_in, length, reply, subst, sym, take, ℕ, ◌∷◌, ◌≡◌, ◌≤◌}

pub answers_held : (s s' : State) (xs ys : List State) (call : Call) (r : Reply) → xs ≡ s ∷ [] → ys ≡ s' ∷ []
    → AnswersHeld call (s ∷ []) (s' ∷ []) r → AnswersHeld call xs ys r
answers_held s s' xs ys call r e f ok rule calls stands =
    let a = ok rule calls (subst (λ (l : List State). HeldAfter rule l calls) e stands) in (a.0, subst (λ (l : List State). HeldAfter rule l (call ∷ calls)) (sym f) a.1)

at_most : (a b c : ℕ) → a ≤ b → b ≤ c → a ≤ c
at_most a b c p q = omega arith

-- What was written of the reply is what the definition's has, where the list has the room that was asked for.
pub listed : {X : Type 0} (of : Reply → List X) (rule : Rule) (calls : List Call) (call call' : Call) (xs xs' ys : List State) (r : Reply) (room had : ℕ) (new : List X)
    → xs' ≡ xs → call' ≡ call → AnswersHeld call' xs' ys r → items_in (reply rule calls call) ≤ room → room ≤ had
    → (items_in r ≤ had → take (length (of r)) new ≡ of r) → HeldAfter rule xs calls → take (length (of (reply rule calls call))) new ≡ of (reply rule calls call)
listed of rule calls call call' xs xs' ys r room had new same named ok few fits wrote stands =
    let a = ok rule calls (subst (λ (l : List State). HeldAfter rule l calls) (sym same) stands) in
    let e : r ≡ reply rule calls call = subst (λ (c : Call). r ≡ reply rule calls c) named a.0 in
    subst (λ (x : Reply). take (length (of x)) new ≡ of x) e (wrote (subst (λ (x : Reply). items_in x ≤ had) (sym e) (at_most (items_in (reply rule calls call)) room had few fits)))
