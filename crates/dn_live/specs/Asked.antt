-- What a line asks for: a call, as a record of a history file or as a configuration line.
use Rattle.std.specs.Prelude.{ℕ, ◌==◌, ◌||◌, ◌&&◌, Bool, true, false, not, cond, List, [], ◌∷◌, Option, Some, None, Result, Ok, Err, codes}
use Rattle.std.specs.List.{slice_split}
use Rattle.std.specs.Str.{is_utf8}
use Rattle.dn_types.specs.declared.call.Call.{Call}
use Rattle.dn_types.specs.declared.call.Call.TheVariants.{Configure}
use Rattle.dn_types.specs.declared.command.Command.{Command}
use Rattle.dn_config.specs.Line.{answer}
use Rattle.dn_config.specs.declared.fault.LineFault.{LineFault}
use Rattle.dn_records.specs.PlainLines.{has_quotes}
use Rattle.dn_records.specs.Records.{Fields, records_of}
use Rattle.dn_files.specs.Fields.{column, is_form, is_name}
use Rattle.dn_history.specs.HistoryRecords.{caller_of, is_call, plain_call}
use Rattle.dn_live.specs.declared.asked.Asked.{Asked}
use Rattle.dn_live.specs.declared.asked.Asked.TheVariants.{Nothing, Next, Calls, Bad}
use Rattle.dn_live.specs.declared.cause.Cause.{Cause}
use Rattle.dn_live.specs.declared.cause.Cause.TheVariants.{BadField, NoCommand, NotText, Faulty, NotOneRecord}

-- A line that is bad in this field.
abbrev pub bad : ℕ → Cause → Asked
bad field cause = Bad (record { field = field; cause = cause })

-- What a configuration line says, or why it says nothing.
abbrev pub said : Result (Option Command) LineFault → Result (Option Command) Cause
said (Ok command) = Ok command
said (Err fault) = Err (Faulty fault)

-- The command of a configuration line, if it has one, or why it is none.
abbrev pub command_in : List ℕ → Result (Option Command) Cause
command_in line = cond (is_utf8 line) (said (answer line)) (Err NotText)

-- The command of a Configure stands in the fourth field of its record.
abbrev pub configure_asked : ℕ → Result (Option Command) Cause → Asked
configure_asked caller (Ok (Some command)) = Calls caller (Configure command)
configure_asked caller (Ok None) = bad 4 NoCommand
configure_asked caller (Err cause) = bad 4 cause

-- A call that is no Configure.
abbrev pub plain_asked : ℕ → Result Call ℕ → Asked
plain_asked caller (Ok call) = Calls caller call
plain_asked caller (Err place) = bad place BadField

-- The call of a caller, or the first bad field of its record.
abbrev pub call_asked : Fields → Result ℕ ℕ → Asked
call_asked fields (Ok caller) =
    cond (is_call (codes "configure") 4 fields) (configure_asked caller (command_in (column 4 fields))) (plain_asked caller (plain_call fields))
call_asked fields (Err place) = bad place BadField

-- A configuration line by itself is a Configure of caller 0. One without a command asks for nothing.
abbrev pub typed_asked : Result (Option Command) Cause → Asked
typed_asked (Ok (Some command)) = Calls 0 (Configure command)
typed_asked (Ok None) = Nothing
typed_asked (Err cause) = bad 1 cause

-- A line whose first field is `c` is the record of a call, one whose only field is `next` asks when to ask next, and any
-- other is a configuration line.
unfoldable pub asked_by : List ℕ → Fields → Asked
asked_by line fields =
    cond (is_name 1 fields (codes "c")) (call_asked fields (caller_of fields))
    (cond (is_form 1 (codes "next") 1 fields) Next (typed_asked (command_in line)))

-- The records in a line, without its line feed: one, whose fields stand between its commas, or what CSV reads where it has
-- quotes.
unfoldable pub records_in : List ℕ → List Fields
records_in line = cond (has_quotes line) (records_of line) (slice_split (λ b. b == 44) line ∷ [])

-- Whether a record asks for something by itself: a call, or when to ask next. A configuration line isn't split into records.
abbrev pub is_asking : Fields → Bool
is_asking fields = is_name 1 fields (codes "c") || is_form 1 (codes "next") 1 fields

-- What a line asks for by the fields of its first record, which may be its only one. A record that asks for something has to be.
abbrev pub asked_by_first : List ℕ → Bool → Fields → Asked
asked_by_first line one fields = cond (not one && is_asking fields) (bad 0 NotOneRecord) (asked_by line fields)

-- What a line with these records asks for.
abbrev pub asked_of : List ℕ → List Fields → Asked
asked_of line [] = asked_by line []
asked_of line (fields ∷ []) = asked_by_first line true fields
asked_of line (fields ∷ more ∷ rest) = asked_by_first line false fields

-- Whether a line is a comment.
abbrev pub is_comment : List ℕ → Bool
is_comment [] = false
is_comment (b ∷ line) = b == 35

-- What a line asks for.
unfoldable pub asked : List ℕ → Asked
asked line = cond (is_comment line) Nothing (asked_of line (records_in line))
