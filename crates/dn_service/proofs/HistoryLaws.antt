-- Laws of histories: what one entry more does.
use Rattle.dn_service.proofs.Words.{All-append, All-cons, All-nil, AreBelow, Bool, Call, Entry, List, Reply, StartsWith, [], ap, append-nil, append_assoc, arith, cond, drop, entry_of, eq-eqb, eqb}
use Rattle.dn_service.proofs.Words.{filter-append, length, ne_eqb, own_entries, refl, sym, ℕ, ◌++◌, ◌<◌, ◌∙◌, ◌∷◌, ◌≡◌, ◌≢◌, ◌≤◌}

-- An entry of the caller is added to its own entries.
pub own-more : (k : ℕ) (history : List Entry) (e : Entry) → e.caller ≡ k → own_entries k (history ++ e ∷ []) ≡ own_entries k history ++ e ∷ []
own-more k history e is = filter-append (λ (x : Entry). eqb x.caller k) history (e ∷ [])
    ∙ ap (λ (b : Bool). own_entries k history ++ cond b (e ∷ []) []) (eq-eqb e.caller k is)

-- An entry of another caller is not.
pub own-other : (k : ℕ) (history : List Entry) (e : Entry) → e.caller ≢ k → own_entries k (history ++ e ∷ []) ≡ own_entries k history
own-other k history e is = filter-append (λ (x : Entry). eqb x.caller k) history (e ∷ [])
    ∙ (ap (λ (b : Bool). own_entries k history ++ cond b (e ∷ []) []) (ne_eqb e.caller k is) ∙ append-nil (own_entries k history))

pub below_more : (n : ℕ) (history : List Entry) (e : Entry) → AreBelow n history → e.caller < n → AreBelow n (history ++ e ∷ [])
below_more n history e below small = All-append (λ (x : Entry). x.caller < n) history (e ∷ []) below (All-cons (λ (x : Entry). x.caller < n) e [] small (All-nil (λ (x : Entry). x.caller < n)))

pub below_none : (n : ℕ) → AreBelow n []
below_none n = All-nil (λ (x : Entry). x.caller < n)

-- A beginning of a history begins the history with one entry more.
pub starts_more : (history front : List Entry) (e : Entry) → StartsWith history front → StartsWith (history ++ e ∷ []) front
starts_more history front e h = (h.0 ++ e ∷ [], ap (λ l. l ++ e ∷ []) h.1 ∙ append_assoc front h.0 (e ∷ []))

pub starts_all : (history : List Entry) → StartsWith history history
starts_all history = ([], sym (append-nil history))

pub starts_none : (history : List Entry) → StartsWith history []
starts_none history = (history, refl)

-- The history as it is once an entry with a copy of the reply was pushed.
pub noted : (was kept now : List Entry) (k : ℕ) (c : Call) (r copy : Reply) → now ≡ kept ++ entry_of k c copy ∷ [] → kept ≡ was → copy ≡ r → now ≡ was ++ entry_of k c r ∷ []
noted was kept now k c r copy pushed same is = pushed ∙ (λ i. same i ++ entry_of k c (is i) ∷ [])

abbrev head_or : Entry → List Entry → Entry
head_or d [] = d
head_or d (x ∷ xs) = x

-- Of two that begin one history, the longer begins with the shorter.
pub begins_longer : (xs ys p q : List Entry) → xs ++ p ≡ ys ++ q → length xs ≤ length ys → StartsWith ys xs
begins_longer [] ys p q e l = starts_none ys
begins_longer (x ∷ xs) [] p q e l = absurd (omega arith)
begins_longer (x ∷ xs) (y ∷ ys) p q e l =
    let h = begins_longer xs ys p q (ap (drop 1) e) (omega arith) in
    let same : x ≡ y = ap (head_or x) e in
    (h.0, λ i. sym same i ∷ h.1 i)
