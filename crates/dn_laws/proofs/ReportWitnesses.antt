-- The laws of reports at examples.
use Rattle.std.proofs.Common.{List, Ok, [], arith, inl, inr, map, refl, reverse, sym, ℕ, ◌++◌, ◌^◌, ◌∙◌, ◌∷◌, ◌≡◌}
use Rattle.csv.proofs.OnLiterals.{csv_on_literals}
use Rattle.dn_config.specs.Tokens.Lines.{lines_of}
use Rattle.dn_files.specs.ConfigFile.{config_file}
use Rattle.dn_files.specs.PacketFile.{packet_file, rows_below}
use Rattle.dn_files.specs.declared.row.Row.{Row}
use Rattle.dn_laws.proofs.ReportLawsHold.{inputs-are-calls, lines-are-in-order, lines-are-told, reports-are-written}
use Rattle.dn_laws.specs.Determined.Emulators.{Has}
use Rattle.dn_laws.specs.ReportLaws.{Delivers, Precedes, fields, names}
use Rattle.dn_records.specs.Records.{records_of}
use Rattle.dn_replay.specs.Configuring.{configured_from}
use Rattle.dn_replay.specs.Replays.{calls_of_inputs, calls_within}
use Rattle.dn_replay.specs.Report.{deliveries, lines_after, report, report_lines, sorted_by, with_placed}
use Rattle.dn_replay.specs.Rows.{submitted}
use Rattle.dn_replay.specs.declared.report.line.ReportLine.TheVariants.{Out}
use Rattle.dn_types.specs.declared.call.Call.TheVariants.{Collect, Configure, Submit}
use Rattle.dn_types.specs.declared.command.Command.{Command}
use Rattle.dn_types.specs.declared.delivery.Delivery.{Delivery}
use Rattle.dn_types.specs.declared.entry.Entry.{Entry}
use Rattle.dn_types.specs.declared.packet.Packet.{Packet}
use Rattle.dn_types.specs.declared.reply.Reply.TheVariants.{Delivered, Queued}
use Rattle.dn_types.specs.declared.target.Target.TheVariants.{Pipe}

-- Caller 0 sends a packet, which is delivered at 5 ns.
abbrev packet : Packet
packet = record { tuple = record { src = 1; dst = 2; proto = 6; sport = 3; dport = 4 }; len = 100; word = 7 }

abbrev given : Delivery
given = record { due = 5; packet = 0; flow = 0; start = 0 }

abbrev history : List Entry
history = record { caller = 0; call = Submit (Pipe 1) packet 0; reply = Queued 0 0 0 } ∷ record { caller = 0; call = Collect 9; reply = Delivered 9 (given ∷ []) } ∷ []

is-given : (d : Delivery) → Delivers history d → given ≡ d
is-given d (e, at, list, inl same, is, has) = let no : Queued 0 0 0 ≡ Delivered at list = (λ i. (same i).reply) ∙ is in absurd (cc)
is-given d (e, at, list, inr (inl same), is, has) = let it : Delivered 9 (given ∷ []) ≡ Delivered at list = (λ i. (same i).reply) ∙ is in one list (cc) has
  where
    one : (l : List Delivery) → given ∷ [] ≡ l → Has l d → given ≡ d
    one [] e h = absurd h
    one (x ∷ []) e (inl this) = let first : given ≡ x = cc in first ∙ this
    one (x ∷ []) e (inr h) = absurd h
    one (x ∷ y ∷ l) e h = absurd (cc)
is-given d (e, at, list, inr (inr among), is, has) = absurd among

delivered_line : Has (report_lines 1 history) (Out 1 0 0 0 0 5)
delivered_line = (lines-are-told 1 history).each (λ d other a b same. sym (is-given d a) ∙ is-given other b) (Out 1 0 0 0 0 5) (record {
  before = [];
  own = record { caller = 0; call = Submit (Pipe 1) packet 0; reply = Queued 0 0 0 };
  behind = record { caller = 0; call = Collect 9; reply = Delivered 9 (given ∷ []) } ∷ [];
  among = refl;
  submits = refl;
  tells = inl (given, (record { caller = 0; call = Collect 9; reply = Delivered 9 (given ∷ []) }, 9, given ∷ [], inr (inl refl), refl, inl refl), refl, refl);
})

written : records_of (report 1 history) ≡ names ∷ map fields (report_lines 1 history)
written = reports-are-written 1 history

-- Two packets that are due together, by number.
abbrev second : Delivery
second = record { due = 5; packet = 1; flow = 0; start = 5 }

abbrev both : List Entry
both = record { caller = 0; call = Submit (Pipe 1) packet 0; reply = Queued 0 0 0 } ∷ record { caller = 0; call = Submit (Pipe 1) packet 0; reply = Queued 0 0 1 }
    ∷ record { caller = 0; call = Collect 9; reply = Delivered 9 (second ∷ given ∷ []) } ∷ []

in_order : Precedes (Out 1 0 0 0 0 5) (Out 2 0 1 0 5 5)
unfolding lines_after with_placed sorted_by deliveries
in_order = lines-are-in-order 1 both 0 1 (Out 1 0 0 0 0 5) (omega arith) (omega arith)

none_asked : calls_of_inputs [] [] ≡ Ok (Collect (2 ^ 62) ∷ [])
unfolding calls_within configured_from rows_below submitted csv_on_literals lines_of
none_asked = refl

asked_alone : (commands : List (ℕ × Command)) × (rows : List Row) × (config_file [] ≡ Ok commands) × (packet_file [] ≡ Ok rows)
    × (reverse (Collect (2 ^ 62) ∷ []) ≡ map (λ c. Configure c.1) commands ++ (map (λ row. Submit row.target row.packet row.moment) rows ++ Collect (2 ^ 62) ∷ []))
asked_alone = inputs-are-calls [] [] (Collect (2 ^ 62) ∷ []) none_asked
