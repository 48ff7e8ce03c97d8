-- What the options of a line say together.
use Rattle.std.specs.Prelude.{List, [], ◌∷◌, Some, None}
use Rattle.dn_types.specs.declared.limit.Limit.TheVariants.{Slots}
use Rattle.dn_config.specs.Masks.{no_bits}
use Rattle.dn_config.specs.declared.options.Options.{Options}
use Rattle.dn_config.specs.declared.option_group.Setting.{Setting}
use Rattle.dn_config.specs.declared.option_group.Setting.TheVariants as set

-- What a line without options says.
abbrev pub defaults : Options
defaults = record { bw = 0; delay = 0; limit = Slots 50; loss = 0; buckets = None; weight = 1; pipe = None; mask = no_bits }

-- The options with one more setting.
abbrev pub set_option : Options → Setting → Options
set_option o (set.Bandwidth n) = record o { bw = n }
set_option o (set.Delay n) = record o { delay = n }
set_option o (set.Limit n) = record o { limit = n }
set_option o (set.Loss n) = record o { loss = n }
set_option o (set.Buckets n) = record o { buckets = Some n }
set_option o (set.Weight n) = record o { weight = n }
set_option o (set.Pipe n) = record o { pipe = Some n }
set_option o (set.Mask n) = record o { mask = n }

-- The options with these settings, applied from left to right: of two settings of an option the last one counts.
abbrev pub filled : Options → List Setting → Options
filled o [] = o
filled o (s ∷ ss) = filled (set_option o s) ss
