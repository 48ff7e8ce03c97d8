-- The report of a history: a header, and a line for each Submit that says what became of its packet.
use Rattle.std.specs.Prelude.{ℕ, ◌+◌, ◌*◌, ◌&&◌, Bool, true, false, cond, nat_eq, nat_lt, List, [], ◌∷◌, ◌++◌, map, find, Option, None, Some, option_to_list, codes, decimal, not}
use Rattle.std.specs.List.{count_by, filter}
use Rattle.dn_types.specs.declared.call.Call.{Call}
use Rattle.dn_types.specs.declared.call.Call.TheVariants.{Submit}
use Rattle.dn_types.specs.declared.delivery.Delivery.{Delivery}
use Rattle.dn_types.specs.declared.entry.Entry.{Entry}
use Rattle.dn_types.specs.declared.reply.Reply.{Reply}
use Rattle.dn_types.specs.declared.reply.Reply.TheVariants.{Queued, Lost, Full, NoTarget, Delivered}
use Rattle.dn_records.specs.Records.{Fields, text_of}
use Rattle.dn_replay.specs.declared.report.line.ReportLine.{ReportLine}
use Rattle.dn_replay.specs.declared.report.line.ReportLine.TheVariants as line

-- What a reply delivers.
abbrev pub delivered : Reply → List Delivery
delivered (Delivered at list) = list
delivered _ = []

-- All that a history delivers, in order.
unfoldable pub deliveries : List Entry → List Delivery
deliveries [] = []
deliveries (e ∷ rest) = delivered e.reply ++ deliveries rest

-- The delivery of a packet, if there is one.
abbrev pub delivery_of_packet : ℕ → List Delivery → Option Delivery
delivery_of_packet packet list = find (λ d. nat_eq d.packet packet) list

-- The line of an accepted packet.
abbrev pub queued_line : ℕ → ℕ → ℕ → ℕ → Option Delivery → ReportLine
queued_line row at flow packet None = line.Held row flow packet at
queued_line row at flow packet (Some d) = line.Out row flow packet at d.start d.due

-- The line of a Submit of this row by its reply.
abbrev pub reply_line : ℕ → List Delivery → Reply → Option ReportLine
reply_line row given (Queued at flow packet) = Some (queued_line row at flow packet (delivery_of_packet packet given))
reply_line row given (Lost at flow) = Some (line.Lost row flow at)
reply_line row given (Full at flow) = Some (line.Full row flow at)
reply_line row given (NoTarget at) = Some (line.NoTarget row at)
reply_line row given _ = None

abbrev pub is_submit : Call → Bool
is_submit (Submit target packet moment) = true
is_submit _ = false

-- How many Submits of a caller stand in a list of entries.
abbrev pub submits_by : ℕ → List Entry → ℕ
submits_by caller entries = count_by (λ e. is_submit e.call && nat_eq e.caller caller) entries

-- The line of an entry whose caller has made this many Submits before it. With n callers, the rows of a caller are n apart.
abbrev pub entry_line : ℕ → List Delivery → ℕ → Entry → Option ReportLine
entry_line n given before e = cond (is_submit e.call) (reply_line (e.caller + before * n + 1) given e.reply) None

-- The lines of the entries that follow those before them.
unfoldable pub lines_after : ℕ → List Delivery → List Entry → List Entry → List ReportLine
lines_after n given before [] = []
lines_after n given before (e ∷ rest) = option_to_list (entry_line n given (submits_by e.caller before) e) ++ lines_after n given (before ++ e ∷ []) rest

-- The lines of a history with n callers, as its Submits follow each other.
abbrev pub submit_lines : ℕ → List Entry → List ReportLine
submit_lines n history = lines_after n (deliveries history) [] history

abbrev pub is_out : ReportLine → Bool
is_out (line.Out row flow packet at start due) = true
is_out _ = false

abbrev pub is_other : ReportLine → Bool
is_other l = not (is_out l)

-- When the packet of an `out` line is due, and its number. Other lines are never asked.
abbrev pub due_of : ReportLine → ℕ
due_of (line.Out row flow packet at start due) = due
due_of _ = 0

abbrev pub packet_of : ReportLine → ℕ
packet_of (line.Out row flow packet at start due) = packet
packet_of _ = 0

-- The row of a line.
abbrev pub row_number : ReportLine → ℕ
row_number (line.Out row flow packet at start due) = row
row_number (line.Held row flow packet at) = row
row_number (line.Lost row flow at) = row
row_number (line.Full row flow at) = row
row_number (line.NoTarget row at) = row

-- One more in its place, before those that are level with it.
unfoldable pub with_placed : {X : Type 0} → (X → ℕ) → X → List X → List X
with_placed place x [] = x ∷ []
with_placed place x (y ∷ ys) = cond (nat_lt (place y) (place x)) (y ∷ with_placed place x ys) (x ∷ y ∷ ys)

-- A list in order. What is level stays as it stands.
unfoldable pub sorted_by : {X : Type 0} → (X → ℕ) → List X → List X
sorted_by place [] = []
sorted_by place (x ∷ xs) = with_placed place x (sorted_by place xs)

-- The `out` lines by their due moments, and those of one due moment by packet number.
abbrev pub outs_in_order : List ReportLine → List ReportLine
outs_in_order outs = sorted_by due_of (sorted_by packet_of outs)

-- The lines of a report: the `out` lines in the order of their deliveries, and then the others by row.
abbrev pub report_lines : ℕ → List Entry → List ReportLine
report_lines n history = outs_in_order (filter is_out (submit_lines n history)) ++ sorted_by row_number (filter is_other (submit_lines n history))

-- The fields of a line. What doesn't apply is empty.
abbrev pub line_fields : ReportLine → Fields
line_fields (line.Out row flow packet at start due) = codes "out" ∷ decimal row ∷ decimal flow ∷ decimal packet ∷ decimal at ∷ decimal start ∷ decimal due ∷ []
line_fields (line.Held row flow packet at) = codes "held" ∷ decimal row ∷ decimal flow ∷ decimal packet ∷ decimal at ∷ [] ∷ [] ∷ []
line_fields (line.Lost row flow at) = codes "lost" ∷ decimal row ∷ decimal flow ∷ [] ∷ decimal at ∷ [] ∷ [] ∷ []
line_fields (line.Full row flow at) = codes "full" ∷ decimal row ∷ decimal flow ∷ [] ∷ decimal at ∷ [] ∷ [] ∷ []
line_fields (line.NoTarget row at) = codes "none" ∷ decimal row ∷ [] ∷ [] ∷ decimal at ∷ [] ∷ [] ∷ []

abbrev pub report_header : Fields
report_header = codes "event" ∷ codes "row" ∷ codes "flow" ∷ codes "packet" ∷ codes "at" ∷ codes "start" ∷ codes "due" ∷ []

-- The report of a history with n callers.
unfoldable pub report : ℕ → List Entry → List ℕ
report n history = text_of (report_header ∷ map line_fields (report_lines n history))
