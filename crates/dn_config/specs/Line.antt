-- A configuration line: its words, then its head and its option groups, then the command or the first fault.
use Rattle.std.specs.Prelude.{ℕ, ◌+◌, cond, List, [], ◌∷◌, Option, Some, None, Result, Ok, Err, codes, bytes_eq}
use Rattle.dn_types.specs.declared.command.Command.{Command}
use Rattle.dn_types.specs.declared.command.Command.TheVariants as c
use Rattle.dn_config.specs.Words.{words}
use Rattle.dn_config.specs.Values.{pipe_or_queue_at}
use Rattle.dn_config.specs.Settings.{filled, defaults}
use Rattle.dn_config.specs.Keywords.{is_query}
use Rattle.dn_config.specs.Groups.{◌>>=◌, groups, group_settings}
use Rattle.dn_config.specs.declared.fault.LineFault.{LineFault}
use Rattle.dn_config.specs.declared.fault.LineFault.TheVariants.{UnknownWord, MissingValue, LeftOut, NeedsPipe}
use Rattle.dn_config.specs.declared.kind.Kind.{Kind}
use Rattle.dn_config.specs.declared.kind.Kind.TheVariants as kind
use Rattle.dn_config.specs.declared.options.Options.{Options}

-- The command that the options of a `config` line make; `at` is the position of the word that begins the command.
abbrev pub queue_with : ℕ → ℕ → Options → Option ℕ → Result Command LineFault
queue_with at n o None = Err (NeedsPipe at)
queue_with at n o (Some p) = Ok (c.Queue n p o.weight o.limit o.loss o.buckets o.mask)

-- The command of a line of this kind, of its number and its options.
abbrev pub command_with : Kind → ℕ → ℕ → Options → Result Command LineFault
command_with kind.Pipe at n o = Ok (c.Pipe n o.bw o.delay o.limit o.loss o.buckets o.mask)
command_with kind.Queue at n o = queue_with at n o o.pipe

-- What follows the word `config`: option groups, and nothing else. A queue without its pipe is a fault only where no group has one.
abbrev pub config_at : Kind → ℕ → ℕ → List (List ℕ) → Result Command LineFault
config_at k at n ws = group_settings k (groups (at + 3) ws) >>= λ ss. command_with k at n (filled defaults ss)

-- The deletion of a pipe or of a queue.
abbrev pub deletes : Kind → ℕ → Command
deletes kind.Pipe n = c.DeletePipe n
deletes kind.Queue n = c.DeleteQueue n

-- Nothing follows a delete.
abbrev pub whole_at : ℕ → List (List ℕ) → Command → Result Command LineFault
whole_at at [] command = Ok command
whole_at at (w ∷ ws) command = Err (UnknownWord at)

-- Behind the number.
abbrev pub verb_at : Kind → ℕ → ℕ → List (List ℕ) → Result Command LineFault
verb_at k at n [] = Err (MissingValue (at + 1))
verb_at k at n (w ∷ ws) =
    cond (bytes_eq w (codes "config")) (config_at k at n ws)
    (cond (bytes_eq w (codes "delete")) (whole_at (at + 3) ws (deletes k n))
    (cond (is_query w) (Err (LeftOut (at + 2))) (Err (UnknownWord (at + 2)))))

-- Behind a `delete` that stands before the number.
abbrev pub delete_at : Kind → ℕ → List (List ℕ) → Result Command LineFault
delete_at k at [] = Err (MissingValue (at + 1))
delete_at k at (w ∷ ws) = pipe_or_queue_at (at + 2) w >>= λ n. whole_at (at + 3) ws (deletes k n)

-- Behind `pipe` or `queue`.
abbrev pub behind_kind : Kind → ℕ → List (List ℕ) → Result Command LineFault
behind_kind k at [] = Err (MissingValue at)
behind_kind k at (w ∷ ws) =
    cond (bytes_eq w (codes "delete")) (delete_at k at ws)
    (cond (is_query w) (Err (LeftOut (at + 1)))
    (pipe_or_queue_at (at + 1) w >>= λ n. verb_at k at n ws))

-- The command that begins at the position `at`.
abbrev pub command_from : ℕ → List (List ℕ) → Result Command LineFault
command_from at [] = Err (MissingValue at)
command_from at (w ∷ ws) =
    cond (bytes_eq w (codes "pipe")) (behind_kind kind.Pipe at ws)
    (cond (bytes_eq w (codes "queue")) (behind_kind kind.Queue at ws)
    (cond (bytes_eq w (codes "sched")) (Err (LeftOut at)) (Err (UnknownWord at))))

-- What follows the word `ipfw`.
abbrev pub behind_ipfw : List (List ℕ) → Result Command LineFault
behind_ipfw [] = Err (MissingValue 1)
behind_ipfw (w ∷ ws) = command_from 2 (w ∷ ws)

-- The command of all words of a line, and None of no words.
abbrev pub command_of : List (List ℕ) → Result (Option Command) LineFault
command_of [] = Ok None
command_of (w ∷ ws) = cond (bytes_eq w (codes "ipfw")) (behind_ipfw ws) (command_from 1 (w ∷ ws)) >>= λ c. Ok (Some c)

-- The command of a line, None, or its first fault.
unfoldable pub answer : List ℕ → Result (Option Command) LineFault
answer line = command_of (words line)
