-- Histories, oldest first: when one is lawful, and which of its entries are a caller's own.
use Rattle.std.specs.Prelude.{ℕ, ◌≡◌, ⊤, List, [], ◌∷◌, map, reverse, nat_eq}
use Rattle.std.specs.List.{filter}
use Rattle.dn_types.specs.Replies.{reply}
use Rattle.dn_types.specs.declared.call.Call.{Call}
use Rattle.dn_types.specs.declared.entry.Entry.{Entry}
use Rattle.dn_types.specs.declared.rule.Rule.{Rule}

-- After the calls, each entry's reply is the one to its call after those before it.
abbrev pub IsLawfulAfter : Rule → List Call → List Entry → Type 0
IsLawfulAfter rule calls [] = ⊤
IsLawfulAfter rule calls (e ∷ entries) = (e.reply ≡ reply rule calls e.call) × IsLawfulAfter rule (e.call ∷ calls) entries

-- A lawful history is one of sequential dummynet from its beginning.
abbrev pub IsLawful : Rule → List Entry → Type 0
IsLawful rule history = IsLawfulAfter rule [] history

-- The calls of a history, newest first.
abbrev pub calls_of : List Entry → List Call
calls_of history = reverse (map (λ e. e.call) history)

-- The entries of one caller, in order.
abbrev pub own_entries : ℕ → List Entry → List Entry
own_entries caller history = filter (λ e. nat_eq e.caller caller) history
