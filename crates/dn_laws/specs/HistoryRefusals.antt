-- The law of what is read as a history, and of where remarks may stand.
use Rattle.std.specs.Prelude.{ℕ, ◌≡◌, ◌≢◌, ◌<◌, List, [], ◌∷◌, ◌++◌, length, codes, decimal, Some, Ok}
use Rattle.std.specs.List.{All}
use Rattle.dn_config.specs.Line.{answer}
use Rattle.dn_history.specs.HistoryFile.{history_file}
use Rattle.dn_laws.specs.Determined.Emulators.{Has}
use Rattle.dn_laws.specs.RecordLaws.{Texts, answered, asked, listed, rules}
use Rattle.dn_records.specs.Records.{records_of}
use Rattle.dn_types.specs.declared.call.Call.{Call}
use Rattle.dn_types.specs.declared.call.Call.TheVariants.{Configure}
use Rattle.dn_types.specs.declared.entry.Entry.{Entry}
use Rattle.dn_types.specs.declared.rule.Rule.{Rule}
use Rattle.dn_types.specs.declared.rule.Rule.TheVariants.{Free}

-- A remark of a transcript begins with `#` (35). A command may be told by each line that says it.
abbrev pub IsRemark : Texts → Texts → Type 0
IsRemark first fields = (first ≡ codes "dummynet-live" ∷ codes "1" ∷ []) × (rest : List ℕ) × (more : Texts) × (fields ≡ (35 ∷ rest) ∷ more)

abbrev pub IsAsked : Call → Texts → Type 0
IsAsked (Configure command) fields = (line : List ℕ) × (answer line ≡ Ok (Some command)) × (fields ≡ codes "configure" ∷ line ∷ [])
IsAsked call fields = fields ≡ asked call

-- Behind the first record stand those of these entries, and remarks before each or behind the last.
abbrev pub Tell : Texts → List Entry → List Texts → Type 0
Tell first [] left = All (IsRemark first) left
Tell first (e ∷ entries) left = (remarks : List Texts) × (call : Texts) × (behind : List Texts) × All (IsRemark first) remarks × (e.caller < 16) × IsAsked e.call call
    × Tell first entries behind × (left ≡ remarks ++ ((codes "c" ∷ decimal e.caller ∷ call) ∷ (codes "r" ∷ answered e.reply) ∷ (listed e.reply ++ behind)))

-- No other history is read: the last record is the count of the entries, and those before it tell them, but for version 1.
abbrev pub OnlyHistoriesAreRead : Type 0
OnlyHistoriesAreRead = (text : List ℕ) (rule : Rule) (entries : List Entry) → history_file text ≡ Ok (rule, entries) →
    (first : Texts) × (left : List Texts) × (records_of text ≡ first ∷ (left ++ (codes "end" ∷ decimal (length entries) ∷ []) ∷ []))
    × Has ((codes "dummynet-history" ∷ codes "1" ∷ [], Free) ∷ rules) (first, rule) × (first ≢ codes "dummynet-history" ∷ codes "1" ∷ [] → Tell first entries left)
