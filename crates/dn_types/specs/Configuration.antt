-- Configuration: which commands are accepted, and what is in force after them (`config` and `delete` of ipfw(8)).
use Rattle.std.specs.Prelude.{ℕ, Bool, false, cond, List, [], ◌∷◌, nat_eq, Option, Some, None, is_some}
use Rattle.std.specs.List.{list_any}
use Rattle.dn_types.specs.declared.call.Call.{Call}
use Rattle.dn_types.specs.declared.call.Call.TheVariants.{Configure}
use Rattle.dn_types.specs.declared.target.Target.{Target}
use Rattle.dn_types.specs.declared.target.Target.TheVariants.{Pipe as ToPipe, Queue as ToQueue}
use Rattle.dn_types.specs.declared.command.Command.{Command}
use Rattle.dn_types.specs.declared.command.Command.TheVariants.{Pipe, Queue, DeletePipe, DeleteQueue}
use Rattle.dn_types.specs.declared.reply.Reply.{Reply}
use Rattle.dn_types.specs.declared.reply.Reply.TheVariants.{Configured, NoSuchPipe, Deleted, PipeHasQueues, NoSuchQueue}

-- Whether two targets are the same.
abbrev pub target_eq : Target → Target → Bool
target_eq (ToPipe a) (ToPipe b) = nat_eq a b
target_eq (ToQueue a) (ToQueue b) = nat_eq a b
target_eq _ _ = false

-- What is in force for each pipe and queue: the command that configured it, if there is one.
abbrev pub Settings : Type 0
Settings = Target → Option Command

-- The pipe or the queue that a command is about.
abbrev pub subject : Command → Target
subject (Pipe number bw delay limit loss buckets mask) = ToPipe number
subject (Queue number pipe weight limit loss buckets mask) = ToQueue number
subject (DeletePipe number) = ToPipe number
subject (DeleteQueue number) = ToQueue number

-- Whether what is in force is a queue of the pipe.
abbrev pub is_queue_of : ℕ → Option Command → Bool
is_queue_of n (Some (Queue number pipe weight limit loss buckets mask)) = nat_eq pipe n
is_queue_of n _ = false

-- The numbers of all queue commands among the calls, refused ones and repeats included.
abbrev pub queue_numbers : List Call → List ℕ
queue_numbers [] = []
queue_numbers (Configure (Queue number pipe weight limit loss buckets mask) ∷ calls) = number ∷ queue_numbers calls
queue_numbers (_ ∷ calls) = queue_numbers calls

-- Whether one of the queues is configured and names the pipe.
abbrev pub has_queues : Settings → List ℕ → ℕ → Bool
has_queues settings queues n = list_any (λ q. is_queue_of n (settings (ToQueue q))) queues

-- How a command is answered. A queue needs a pipe that is configured, and a pipe can be deleted once no
-- configured queue names it (both this project's own rules).
abbrev pub command_reply : Settings → List ℕ → Command → Reply
command_reply settings queues (Pipe number bw delay limit loss buckets mask) = Configured
command_reply settings queues (Queue number pipe weight limit loss buckets mask) = cond (is_some (settings (ToPipe pipe))) Configured NoSuchPipe
command_reply settings queues (DeletePipe number) = cond (is_some (settings (ToPipe number))) (cond (has_queues settings queues number) PipeHasQueues Deleted) NoSuchPipe
command_reply settings queues (DeleteQueue number) = cond (is_some (settings (ToQueue number))) Deleted NoSuchQueue

-- What is in force for a command's subject once the command was answered. A refused one changes nothing.
abbrev pub setting_after : Reply → Command → Option Command → Option Command
setting_after Configured command before = Some command
setting_after Deleted command before = None
setting_after _ command before = before

-- What is in force after the calls: the last accepted command about the pipe or queue, and nothing where that is
-- a delete. A command gives the whole configuration.
abbrev pub settings : List Call → Settings
settings [] target = None
settings (Configure command ∷ calls) target = cond (target_eq (subject command) target) (setting_after (command_reply (settings calls) (queue_numbers calls) command) command (settings calls target)) (settings calls target)
settings (_ ∷ calls) target = settings calls target

-- How a command is answered after the calls.
abbrev pub reply_to_command : List Call → Command → Reply
reply_to_command calls command = command_reply (settings calls) (queue_numbers calls) command
