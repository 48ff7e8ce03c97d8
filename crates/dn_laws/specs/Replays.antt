-- Replays: commands, then packets, then one Collect. A choice of links has its part of one.
use Rattle.std.specs.Prelude.{max, ⊤, cond, List, [], ◌∷◌}
use Rattle.dn_types.specs.Clock.{effective_moment}
use Rattle.dn_types.specs.Configuration.{settings}
use Rattle.dn_types.specs.Flows.{treatment}
use Rattle.dn_laws.specs.Parts.{Choice, is_carried}
use Rattle.dn_types.specs.declared.call.Call.{Call}
use Rattle.dn_types.specs.declared.call.Call.TheVariants.{Configure, Submit, Collect}

abbrev pub AreCommands : List Call → Type 0
AreCommands [] = ⊤
AreCommands (Configure command ∷ calls) = AreCommands calls
AreCommands (_ ∷ calls) = ⊥

abbrev pub ArePackets : List Call → Type 0
ArePackets (Submit target packet moment ∷ calls) = ArePackets calls
ArePackets calls = AreCommands calls

abbrev pub IsReplay : List Call → Type 0
IsReplay (Collect moment ∷ calls) = ArePackets calls
IsReplay calls = ArePackets calls

-- The replay with the packets on chosen links alone, each at its effective moment: its own if the packets come in order of time.
abbrev pub own_calls : Choice → List Call → List Call
own_calls chosen [] = []
own_calls chosen (Submit target packet moment ∷ calls) =
    cond (is_carried chosen target packet.tuple (treatment (settings calls target)))
    (Submit target packet (max (effective_moment calls) moment) ∷ own_calls chosen calls) (own_calls chosen calls)
own_calls chosen (Collect moment ∷ calls) = Collect (max (effective_moment calls) moment) ∷ own_calls chosen calls
own_calls chosen (c ∷ calls) = c ∷ own_calls chosen calls
