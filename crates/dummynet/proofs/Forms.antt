-- The commands of the program, as clap reads them.
use Rattle.std.proofs.Common.{◌≡◌, ◌∙◌, ◌||◌, true, ap, ap₂, refl}
use Rattle.clap.specs.Words.{AddsSubcommand, App, is_simple, is_simple_and_free, with_subcommand}
use Rattle.clap.specs.declared.builder.command.Command.{Command}
use Rattle.dummynet.specs.Program.{IsForm, program}

-- a command with one more below it
pub adds_form : (old sub new : Command) (a b : App) → IsForm a old → IsForm b sub → AddsSubcommand old sub new → IsForm (with_subcommand a b.top) new
adds_form old sub new a b above below adds =
    (adds.shape below.1 ∙ ap₂ with_subcommand above.0 (ap (λ (x : App). x.top) below.0), adds.globals ∙ ap₂ (λ x y. x || y) above.1 below.1)

-- the program is one of which clap's definitions give the matches and the faults
pub program_is_simple : is_simple program ≡ true
program_is_simple = refl

pub program_is_free : is_simple_and_free program ≡ true
program_is_free = refl
