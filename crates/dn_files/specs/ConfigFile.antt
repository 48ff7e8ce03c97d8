-- A configuration: its lines from the first on, each a command, nothing, or a fault.
use Rattle.std.specs.Prelude.{ℕ, ◌+◌, cond, List, [], ◌∷◌, ◌++◌, Option, Some, None, Result, Ok, Err}
use Rattle.std.specs.Str.{is_utf8}
use Rattle.dn_types.specs.declared.command.Command.{Command}
use Rattle.dn_config.specs.Line.{answer}
use Rattle.dn_config.specs.Faults.{position_of}
use Rattle.dn_config.specs.declared.fault.LineFault.{LineFault}
use Rattle.dn_config.specs.Tokens.Lines.{lines_of}
use Rattle.dn_files.specs.Reading.{◌>>=◌, within_limit}
use Rattle.dn_files.specs.declared.replay_fault.ReplayFault.{ReplayFault}
use Rattle.dn_files.specs.declared.replay_fault.ReplayFault.TheVariants.{Config, ConfigText, OutOfMemory}
use Rattle.dn_files.specs.declared.source.Source.TheVariants.{Config as TheConfig}

-- The fault of a line. Want of memory, which no line has of its own, has no position.
abbrev pub fault_at : ℕ → LineFault → Option ℕ → ReplayFault
fault_at number fault None = OutOfMemory
fault_at number fault (Some position) = Config number fault

-- What a line says.
abbrev pub said_at : ℕ → Result (Option Command) LineFault → Result (Option Command) ReplayFault
said_at number (Ok command) = Ok command
said_at number (Err fault) = Err (fault_at number fault (position_of fault))

-- The command of the line with this number, or none.
unfoldable pub command_at : ℕ → List ℕ → Result (Option Command) ReplayFault
command_at number line = cond (is_utf8 line) (said_at number (answer line)) (Err (ConfigText number))

-- A command with the number of its line.
abbrev pub numbered : ℕ → Option Command → List (ℕ × Command)
numbered number None = []
numbered number (Some command) = (number, command) ∷ []

-- The commands of lines, the first with this number, or the fault of the first faulty line.
unfoldable pub commands_from : ℕ → List (List ℕ) → Result (List (ℕ × Command)) ReplayFault
commands_from number [] = Ok []
commands_from number (line ∷ rest) = do
  command ← command_at number line
  commands ← commands_from (number + 1) rest
  Ok (numbered number command ++ commands)

-- The commands of a configuration's text.
abbrev pub commands_in : List ℕ → Result (List (ℕ × Command)) ReplayFault
commands_in text = commands_from 1 (lines_of text)

-- The greatest length of a configuration in bytes.
abbrev pub config_limit : ℕ
config_limit = 1048576

-- What a configuration is read as.
abbrev pub config_file : List ℕ → Result (List (ℕ × Command)) ReplayFault
config_file text = within_limit config_limit TheConfig text >>= commands_in
