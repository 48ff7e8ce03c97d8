-- The count of its queues that is kept for each pipe.
use Rattle.std.specs.Prelude.{◌≡◌, ℕ, zero, suc, ◌+◌, ◌<◌, Bool, true, cond, List, Option, None, Some, is_some, nat_eq, slice_index}
use Rattle.dn_types.specs.Configuration.{is_queue_of}
use Rattle.dn_types.specs.declared.command.Command.{Command}
use Rattle.dn_types.specs.declared.command.Command.TheVariants.{Queue}
use Rattle.std.specs.Prelude.{length}
use Rattle.dn_shaper.specs.Refinement.Settings.{InForce, at_number}

-- How many of the numbers below the limit pass.
unfoldable pub count_below : (ℕ → Bool) → ℕ → ℕ
count_below test zero = 0
count_below test (suc limit) = cond (test limit) 1 0 + count_below test limit

-- How many of the queues in force name the pipe. The numbers of queues are below 65536.
abbrev pub queues_of : ℕ → List (Option Command) → ℕ
queues_of pipe queues = count_below (λ number. is_queue_of pipe (at_number queues number)) 65536

-- The count that is kept for the pipe. Past the last it is 0.
abbrev pub count_at : List ℕ → ℕ → ℕ
count_at counts pipe = slice_index counts pipe

-- The count that is kept for each pipe is that of the queues that name it, and each pipe in force has a place for one.
pub record CountsQueues (commands : InForce) (counts : List ℕ) : Type 0 where
  pub counts_are : (pipe : ℕ) → count_at counts pipe ≡ queues_of pipe commands.queues
  pub places : (pipe : ℕ) → is_some (at_number commands.pipes pipe) ≡ true → pipe < length counts
  pub numbers : (queue : ℕ) → is_some (at_number commands.queues queue) ≡ true → queue < 65536

-- The pipe that is named by the queue, where this is in force for one.
abbrev pub named_pipe : Option Command → Option ℕ
named_pipe (Some (Queue q pipe weight limit loss buckets mask)) = Some pipe
named_pipe _ = None

-- 1 for the pipe itself, and 0 for any other.
abbrev pub one_for : Option ℕ → ℕ → ℕ
one_for None pipe = 0
one_for (Some named) pipe = cond (nat_eq named pipe) 1 0
