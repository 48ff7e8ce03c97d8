-- The command line of the program, as clap's own definitions read one: its commands, and the arguments of each.
use Rattle.std.specs.Prelude.{◌≡◌, ◌^◌, true, false, Some, codes}
use Rattle.clap.specs.Words.{App, Rule, Shape, Text, app_of, new_app, new_rule, with_rule, with_subcommand}
use Rattle.clap.specs.declared.builder.command.Command.{Command}
use Rattle.clap.specs.declared.builder.command.Command.TheViews.{out-Command as fields_of}
use Rattle.clap.specs.declared.builder.value_parser.ValueParser.TheVariants.{Unsigned}

-- A file that has to be named.
abbrev pub file_rule : Text → Rule
file_rule id = record (new_rule id) { value_names = 1; required = true }

-- --callers N, of 1 to 16.
abbrev pub callers_rule : Rule
callers_rule = record (new_rule (codes "callers")) {
  long = Some (codes "callers");
  value_names = 1;
  parser = Some (Unsigned 1 16);
}

-- --history FILE
abbrev pub history_rule : Rule
history_rule = record (new_rule (codes "history")) {
  long = Some (codes "history");
  value_names = 1;
}

-- --most-packets BYTES or --most-history BYTES, of 1 to 2^40.
abbrev pub most_rule : Text → Rule
most_rule id = record (new_rule id) {
  long = Some id;
  value_names = 1;
  parser = Some (Unsigned 1 (2 ^ 40));
}

-- replay CONFIG PACKETS, with two of its options
abbrev pub unlimited_form : App
unlimited_form =
    with_rule
    (with_rule
    (with_rule (with_rule (new_app (codes "replay")) (file_rule (codes "config"))) (file_rule (codes "packets")))
    callers_rule)
    history_rule

-- The same with --most-packets
abbrev pub replay_form : App
replay_form = with_rule unlimited_form (most_rule (codes "most-packets"))

-- audit HISTORY
abbrev pub audit_form : App
audit_form = with_rule (with_rule (new_app (codes "audit")) (file_rule (codes "history"))) (most_rule (codes "most-history"))

-- live
abbrev pub live_form : App
live_form = new_app (codes "live")

abbrev versioned : Shape → Shape
versioned s = record s { has_version = true }

-- The program without its commands, which has a version.
abbrev pub bare_form : App
bare_form =
    let unversioned = new_app (codes "dummynet") in
    record unversioned { top = versioned unversioned.top }

-- The program, with its commands.
abbrev pub program : App
program = with_subcommand (with_subcommand (with_subcommand bare_form replay_form.top) audit_form.top) live_form.top

-- A command that clap reads so, with no argument that its commands share.
abbrev pub IsForm : App → Command → Type 0
IsForm form c = (app_of c ≡ form) × ((fields_of c).has_globals ≡ false)
