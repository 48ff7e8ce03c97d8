-- No fault of an input is a bad count of callers.
use Rattle.dn_replay.proofs.Words.{AskFor, BadCount, BadRow, Call, Command, Config, ConfigText, Configure, Err, Fields, IfErr, LineFault, List, None, Ok, Option, Ordered, Packets, ReplayFault}
use Rattle.dn_replay.proofs.Words.{Reply, Result, Row, Some, Source, TooLong, [], answer, applied, calls_of_inputs, calls_within, command_at, cond, config_calls, config_limit, configured_by}
use Rattle.dn_replay.proofs.Words.{configured_from, false, fault_at, is_header, is_utf8, length, lines_of, nat_le, packet_file, packet_limit, position_of, records_of, refusal, replayed, reply}
use Rattle.dn_replay.proofs.Words.{row_at, row_of, rows_below, rows_from, rows_of, said_at, true, unless, within_limit, ℕ, ⊤, ◌+◌, ◌>>=◌, ◌∷◌, ◌≡◌}
use Rattle.dn_types.specs.declared.reply.Reply.TheVariants as r

abbrev IsOther : ReplayFault → Type 0
IsOther BadCount = ⊥
IsOther fault = ⊤

chained : {A B : Type 0} (first : Result A ReplayFault) (next : A → Result B ReplayFault) → IfErr first IsOther → ((x : A) → IfErr (next x) IsOther) → IfErr (first >>= next) IsOther
chained (Ok x) next other others = others x
chained (Err fault) next other others = other

limited : (limit : ℕ) (source : Source) (text : List ℕ) → IfErr (within_limit limit source text) IsOther
limited limit source text = elim (nat_le (length text) limit) as (λ b. IfErr (cond {A = Result (List ℕ) ReplayFault} b (Ok text) (Err (TooLong source))) IsOther) [
  | true ↦ tt
  | false ↦ tt
]

at_position : (number : ℕ) (fault : LineFault) (position : Option ℕ) → IsOther (fault_at number fault position)
at_position number fault None = tt
at_position number fault (Some position) = tt

said : (number : ℕ) (line : Result (Option Command) LineFault) → IfErr (said_at number line) IsOther
said number (Ok command) = tt
said number (Err fault) = at_position number fault (position_of fault)

in_line : (number : ℕ) (line : List ℕ) → IfErr (command_at number line) IsOther
unfolding command_at
in_line number line = elim (is_utf8 line) as (λ b. IfErr (cond {A = Result (Option Command) ReplayFault} b (said_at number (answer line)) (Err (ConfigText number))) IsOther) [
  | true ↦ said number (answer line)
  | false ↦ tt
]

refused : (number : ℕ) (r : Reply) (calls : List Call) → IfErr (unless (refusal number r) calls) IsOther
refused number r.Configured calls = tt
refused number _ calls = tt

in_command : (number : ℕ) (calls : List Call) (command : Option Command) → IfErr (applied number calls command) IsOther
in_command number calls None = tt
in_command number calls (Some command) = refused number (reply Ordered calls (Configure command)) (Configure command ∷ calls)

in_lines : (calls : List Call) (number : ℕ) (lines : List (List ℕ)) → IfErr (configured_from calls number lines) IsOther
unfolding configured_from
in_lines calls number [] = tt
in_lines calls number (line ∷ rest) =
    chained (command_at number line) (λ command. applied number calls command >>= λ after. configured_from after (number + 1) rest) (in_line number line)
    (λ command. chained (applied number calls command) (λ after. configured_from after (number + 1) rest) (in_command number calls command) (λ after. in_lines after (number + 1) rest))

in_row : (number : ℕ) (row : Result Row ℕ) → IfErr (row_at number row) IsOther
in_row number (Ok row) = tt
in_row number (Err field) = tt

in_rows : (number : ℕ) (records : List Fields) → IfErr (rows_from number records) IsOther
unfolding rows_from
in_rows number [] = tt
in_rows number (fields ∷ rest) =
    chained (row_at number (row_of fields)) (λ row. rows_from (number + 1) rest >>= λ rows. Ok (row ∷ rows)) (in_row number (row_of fields))
    (λ row. chained (rows_from (number + 1) rest) (λ rows. Ok (row ∷ rows)) (in_rows (number + 1) rest) (λ rows. tt))

in_records : (records : List Fields) → IfErr (rows_below records) IsOther
unfolding rows_below
in_records [] = tt
in_records (first ∷ rest) = elim (is_header first) as (λ b. IfErr (cond {A = Result (List Row) ReplayFault} b (rows_from 1 rest) (Err (BadRow 0 0))) IsOther) [
  | true ↦ in_rows 1 rest
  | false ↦ tt
]

no_count : {A : Type 0} (read : Result A ReplayFault) → IfErr read IsOther → read ≡ Err BadCount → ⊥
no_count read other is = rw is at other

in_config : (text : List ℕ) → IfErr (config_calls text) IsOther
in_config text = chained (within_limit config_limit Config text) configured_by (limited config_limit Config text) (λ whole. in_lines [] 1 (lines_of whole))

in_packets : (text : List ℕ) → IfErr (packet_file text) IsOther
in_packets text = chained (within_limit packet_limit Packets text) rows_of (limited packet_limit Packets text) (λ whole. in_records (records_of whole))

in_both : (config packets : List ℕ) → IfErr (calls_of_inputs config packets) IsOther
unfolding calls_within
in_both config packets =
    chained (config_calls config) (λ calls. packet_file packets >>= λ rows. Ok (replayed calls rows)) (in_config config)
    (λ calls. chained (packet_file packets) (λ rows. Ok (replayed calls rows)) (in_packets packets) (λ rows. tt))

pub no_count_asked : (config packets : Option (List ℕ)) → AskFor config packets (Err BadCount) → ⊥
no_count_asked config packets (c, p, of_config, of_packets, asked) = no_count (calls_of_inputs c p) (in_both c p) asked
