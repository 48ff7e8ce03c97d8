-- What is in force for each pipe and queue, by its number.
use Rattle.std.specs.Prelude.{◌≡◌, ℕ, cond, List, map, Option, None, Box, nat_eq, slice_index_or}
use Rattle.std.specs.Global.{Global}
use Rattle.std.specs.Option.{option_map}
use Rattle.dn_types.specs.Configuration.{Settings}
use Rattle.dn_types.specs.declared.command.Command.{Command}
use Rattle.dn_types.specs.declared.target.Target.TheVariants.{Pipe as ToPipe, Queue as ToQueue}

-- What stands under the number. Past the last nothing does.
abbrev pub at_number : {A : Type 0} → List (Option A) → ℕ → Option A
at_number kept number = slice_index_or kept number None

-- So much stands under the number, and all else stays.
abbrev pub Sets : {A : Type 0} → ℕ → Option A → List (Option A) → List (Option A) → Type 0
Sets number setting old new = (other : ℕ) → at_number new other ≡ cond (nat_eq number other) setting (at_number old other)

-- The commands themselves, without the blocks that they stand in.
abbrev pub unboxed : List (Option (Box Command Global)) → List (Option Command)
unboxed places = map (option_map (λ block. block.value)) places

-- The commands that are in force for pipes and for queues.
pub record InForce : Type 0 where
  pub pipes : List (Option Command)
  pub queues : List (Option Command)

-- What is in force where these are the commands.
abbrev pub settings_of : InForce → Settings
settings_of c (ToPipe number) = at_number c.pipes number
settings_of c (ToQueue number) = at_number c.queues number
