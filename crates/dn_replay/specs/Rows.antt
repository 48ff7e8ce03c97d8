-- Rows of a packet file as calls that follow others.
use Rattle.std.specs.Prelude.{List, [], ◌∷◌}
use Rattle.dn_types.specs.declared.call.Call.{Call}
use Rattle.dn_types.specs.declared.call.Call.TheVariants.{Submit}
use Rattle.dn_files.specs.declared.row.Row.{Row}

-- The Submit of a row.
abbrev pub submit : Row → Call
submit row = Submit row.target row.packet row.moment

-- The calls, followed by a Submit of each row.
unfoldable pub submitted : List Call → List Row → List Call
submitted calls [] = calls
submitted calls (row ∷ rows) = submitted (submit row ∷ calls) rows
