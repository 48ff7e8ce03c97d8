-- A configuration that is applied: each line is read and its command made, before the next line is read.
use Rattle.std.specs.Prelude.{ℕ, ◌+◌, List, [], ◌∷◌, Option, Some, None, Result, Ok, Err}
use Rattle.dn_types.specs.Replies.{reply}
use Rattle.dn_types.specs.declared.call.Call.{Call}
use Rattle.dn_types.specs.declared.call.Call.TheVariants.{Configure}
use Rattle.dn_types.specs.declared.command.Command.{Command}
use Rattle.dn_types.specs.declared.reply.Reply.{Reply}
use Rattle.dn_types.specs.declared.reply.Reply.TheVariants as r
use Rattle.dn_types.specs.declared.rule.Rule.TheVariants.{Ordered}
use Rattle.dn_config.specs.Tokens.Lines.{lines_of}
use Rattle.dn_files.specs.ConfigFile.{command_at}
use Rattle.dn_files.specs.Reading.{◌>>=◌}
use Rattle.dn_files.specs.declared.replay_fault.ReplayFault.{ReplayFault}
use Rattle.dn_files.specs.declared.replay_fault.ReplayFault.TheVariants.{NoSuchPipe, PipeHasQueues, NoSuchQueue}

-- Why the command of a line is refused, by its reply.
abbrev pub refusal : ℕ → Reply → Option ReplayFault
refusal number r.NoSuchPipe = Some (NoSuchPipe number)
refusal number r.PipeHasQueues = Some (PipeHasQueues number)
refusal number r.NoSuchQueue = Some (NoSuchQueue number)
refusal number _ = None

abbrev pub unless : Option ReplayFault → List Call → Result (List Call) ReplayFault
unless None calls = Ok calls
unless (Some fault) calls = Err fault

-- The calls after a line, newest first, or the refusal of its command.
abbrev pub applied : ℕ → List Call → Option Command → Result (List Call) ReplayFault
applied number calls None = Ok calls
applied number calls (Some command) = unless (refusal number (reply Ordered calls (Configure command))) (Configure command ∷ calls)

-- The calls after the lines, the first with this number, or the fault of the first faulty line.
unfoldable pub configured_from : List Call → ℕ → List (List ℕ) → Result (List Call) ReplayFault
configured_from calls number [] = Ok calls
configured_from calls number (line ∷ rest) = do
  command ← command_at number line
  after ← applied number calls command
  configured_from after (number + 1) rest

-- The calls of a configuration's text.
abbrev pub configured_by : List ℕ → Result (List Call) ReplayFault
configured_by text = configured_from [] 1 (lines_of text)
