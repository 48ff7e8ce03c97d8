-- What is known of a caller, as a seat at the table of the book has it.
use Rattle.std.specs.Prelude.{◌≡◌, ⊤, ◌⊎◌, ℕ, zero, suc, ◌+◌, List, [], ◌∷◌, ◌++◌, cond, nat_eq}
use Rattle.dn_types.specs.History.{own_entries}
use Rattle.dn_types.specs.declared.entry.Entry.{Entry}

-- One caller: its number, the history that it has seen, its own entries, whom it found in a call at each of its tries that was
-- refused, and how many tries of all callers had found it in a call when it last gave the book back.
pub record Account : Type 0 where
  pub number : ℕ
  pub front : List Entry
  pub own : List Entry
  pub lost : List ℕ
  pub faced : ℕ

-- The fact holds of each account.
abbrev pub Each : (Account → Type 0) → List Account → Type 0
Each P [] = ⊤
Each P (a ∷ accounts) = P a × Each P accounts

-- One of the accounts is that of caller k.
abbrev pub Has : ℕ → List Account → Type 0
Has k [] = ⊥
Has k (a ∷ accounts) = (a.number ≡ k) ⊎ Has k accounts

-- The account of caller k, who has seen nothing.
abbrev pub new_account : ℕ → Account
new_account k = record { number = k; front = []; own = []; lost = []; faced = 0 }

-- The accounts of n callers from k on.
abbrev pub new_accounts : ℕ → ℕ → List Account
new_accounts k zero = []
new_accounts k (suc n) = new_account k ∷ new_accounts (k + 1) n

-- The account after its caller has seen the history, and has been faced so often.
abbrev pub up_to_date : List Entry → (ℕ → ℕ) → Account → Account
up_to_date history faced a = record { number = a.number; front = history; own = own_entries a.number history; lost = a.lost; faced = faced a.number }

-- The account after its caller has been faced so often.
abbrev pub faces : (ℕ → ℕ) → Account → Account
faces faced a = record { number = a.number; front = a.front; own = a.own; lost = a.lost; faced = faced a.number }

-- The first caller found caller j in a call.
abbrev pub note : ℕ → List Account → List Account
note j [] = []
note j (a ∷ accounts) = record { number = a.number; front = a.front; own = a.own; lost = a.lost ++ j ∷ []; faced = a.faced } ∷ accounts

-- How often k is in the list.
abbrev pub times : ℕ → List ℕ → ℕ
times k [] = 0
times k (x ∷ xs) = cond (nat_eq x k) 1 0 + times k xs

-- How many tries of these callers found caller k in a call.
abbrev pub met_by : ℕ → List Account → ℕ
met_by k [] = 0
met_by k (a ∷ accounts) = times k a.lost + met_by k accounts

-- The front and the own entries of the first account.
abbrev pub front_in : List Account → List Entry
front_in [] = []
front_in (a ∷ accounts) = a.front

abbrev pub own_in : List Account → List Entry
own_in [] = []
own_in (a ∷ accounts) = a.own

-- Whom the first account's caller found in a call, and how often it was faced.
abbrev pub lost_in : List Account → List ℕ
lost_in [] = []
lost_in (a ∷ accounts) = a.lost

abbrev pub faced_in : List Account → ℕ
faced_in [] = 0
faced_in (a ∷ accounts) = a.faced
