-- Words about histories, oldest entry first.
use Rattle.std.specs.Prelude.{◌≡◌, ℕ, ◌<◌, List, ◌++◌, All}
use Rattle.dn_types.specs.declared.call.Call.{Call}
use Rattle.dn_types.specs.declared.entry.Entry.{Entry}
use Rattle.dn_types.specs.declared.reply.Reply.{Reply}

-- The entry of a caller's call with the reply that it got.
abbrev pub entry_of : ℕ → Call → Reply → Entry
entry_of k c r = record { caller = k; call = c; reply = r }

-- The history begins with the front.
abbrev pub StartsWith : List Entry → List Entry → Type 0
StartsWith history front = (rest : List Entry) × (history ≡ front ++ rest)

-- Every entry is of a caller below n.
abbrev pub AreBelow : ℕ → List Entry → Type 0
AreBelow n history = All (λ e. e.caller < n) history
