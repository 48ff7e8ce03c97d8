-- The laws of packet files and histories: which field of a record says what, in which units, and which rows and files are refused.
use Rattle.std.specs.Prelude.{ℕ, ◌≡◌, ◌≢◌, ◌≤◌, ◌<◌, ◌+◌, ◌/◌, ◌%◌, ◌^◌, List, [], ◌∷◌, ◌++◌, ◌⊎◌, length, map, flat_map, codes, decimal, Ok, Err}
use Rattle.std.specs.List.{All, join_with_byte}
use Rattle.dn_config.specs.Text.{text as canonical}
use Rattle.dn_files.specs.ConfigFile.{config_file}
use Rattle.dn_files.specs.PacketFile.{packet_file, rows_of}
use Rattle.dn_files.specs.PacketParts.{header}
use Rattle.dn_files.specs.declared.replay_fault.ReplayFault.TheVariants.{BadRow, TooLong}
use Rattle.dn_files.specs.declared.row.Row.{Row}
use Rattle.dn_files.specs.declared.source.Source.TheVariants.{Config, Packets, History}
use Rattle.dn_history.specs.HistoryFile.{history_file}
use Rattle.dn_history.specs.HistoryText.{history_text}
use Rattle.dn_history.specs.Ranges.{AreEntries}
use Rattle.dn_laws.specs.Determined.Emulators.{Has}
use Rattle.dn_records.specs.Records.{records_of}
use Rattle.dn_types.specs.declared.call.Call.{Call}
use Rattle.dn_types.specs.declared.call.Call.TheVariants.{Configure, Submit, Advance, Collect, Show}
use Rattle.dn_types.specs.declared.entry.Entry.{Entry}
use Rattle.dn_types.specs.declared.five_tuple.FiveTuple.{FiveTuple}
use Rattle.dn_types.specs.declared.flow_status.FlowStatus.{FlowStatus}
use Rattle.dn_types.specs.declared.mask.Mask.{Mask}
use Rattle.dn_types.specs.declared.packet.Packet.{Packet}
use Rattle.dn_types.specs.declared.reply.Reply.{Reply}
use Rattle.dn_types.specs.declared.reply.Reply.TheVariants as r
use Rattle.dn_types.specs.declared.rule.Rule.{Rule}
use Rattle.dn_types.specs.declared.rule.Rule.TheVariants.{Free, Ordered}
use Rattle.dn_types.specs.declared.target.Target.{Target}
use Rattle.dn_types.specs.declared.target.Target.TheVariants.{Pipe, Queue}

-- Fields, each the list of its bytes.
abbrev pub Texts : Type 0
Texts = List (List ℕ)

-- An address is its four bytes, the highest first, with points (46) between them.
abbrev pub dotted : ℕ → List ℕ
dotted a = join_with_byte 46 (map decimal (a / 2 ^ 24 ∷ a / 2 ^ 16 % 2 ^ 8 ∷ a / 2 ^ 8 % 2 ^ 8 ∷ a % 2 ^ 8 ∷ []))

abbrev pub tuple : FiveTuple → Texts
tuple t = dotted t.src ∷ dotted t.dst ∷ map decimal (t.proto ∷ t.sport ∷ t.dport ∷ [])

abbrev pub bits : Mask → Texts
bits m = dotted m.src ∷ dotted m.dst ∷ map decimal (m.proto ∷ m.sport ∷ m.dport ∷ [])

abbrev pub aim : Target → Texts
aim (Pipe n) = codes "pipe" ∷ decimal n ∷ []
aim (Queue n) = codes "queue" ∷ decimal n ∷ []

-- Where a packet goes, its addresses, protocol and ports, its length in bytes and its random number.
abbrev pub sent : Target → Packet → Texts
sent target p = aim target ++ (tuple p.tuple ++ map decimal (p.len ∷ p.word ∷ []))

-- The line of a row begins with the moment in nanoseconds. Commas (44) stand between fields, and a line feed ends the line.
abbrev pub columns : Row → Texts
columns row = decimal row.moment ∷ sent row.target row.packet

abbrev pub row_line : Row → List ℕ
row_line row = join_with_byte 44 (columns row) ++ 10 ∷ []

abbrev pub file_of : List Row → List ℕ
file_of rows = codes "moment,target,number,src,dst,proto,sport,dport,len,word\n" ++ flat_map row_line rows

-- The range of each number of a row.
abbrev pub IsAim : Target → Type 0
IsAim (Pipe n) = (1 ≤ n) × (n < 2 ^ 16)
IsAim (Queue n) = (1 ≤ n) × (n < 2 ^ 16)

abbrev pub IsRow : Row → Type 0
IsRow row = (row.moment ≤ 2 ^ 62) × IsAim row.target × (row.packet.tuple.src < 2 ^ 32) × (row.packet.tuple.dst < 2 ^ 32) × (row.packet.tuple.proto < 2 ^ 8)
    × (row.packet.tuple.sport < 2 ^ 16) × (row.packet.tuple.dport < 2 ^ 16) × (1 ≤ row.packet.len) × (row.packet.len < 2 ^ 16) × (row.packet.word < 2 ^ 32)

abbrev pub RowsAreRead : Type 0
RowsAreRead = (rows : List Row) → All IsRow rows → length (file_of rows) ≤ 2 ^ 26 → packet_file (file_of rows) ≡ Ok rows

-- No other row is read: behind the header each record has the columns of a row in range. A file without a record has no row.
abbrev pub OnlyRowsAreRead : Type 0
OnlyRowsAreRead = (text : List ℕ) (rows : List Row) → packet_file text ≡ Ok rows →
    All IsRow rows × ((records_of text ≡ header ∷ map columns rows) ⊎ ((records_of text ≡ []) × (rows ≡ [])))

-- A row without ten fields is refused by its number, which counts from 1.
abbrev pub RowsHaveTenFields : Type 0
RowsHaveTenFields = (text : List ℕ) (rows : List Row) (fields : Texts) (more : List Texts) → All IsRow rows →
    records_of text ≡ header ∷ (map columns rows ++ fields ∷ more) → length fields ≢ 10 → rows_of text ≡ Err (BadRow (length rows + 1) 0)

-- The record of a call, behind its letter and its caller, and that of a reply, behind its letter.
abbrev pub asked : Call → Texts
asked (Configure command) = codes "configure" ∷ canonical command ∷ []
asked (Submit target packet moment) = codes "submit" ∷ (sent target packet ++ decimal moment ∷ [])
asked (Advance moment) = codes "advance" ∷ decimal moment ∷ []
asked (Collect moment) = codes "collect" ∷ decimal moment ∷ []
asked Show = codes "show" ∷ []

abbrev pub answered : Reply → Texts
answered r.Configured = codes "configured" ∷ []
answered r.NoSuchPipe = codes "no-such-pipe" ∷ []
answered r.NoSuchQueue = codes "no-such-queue" ∷ []
answered r.PipeHasQueues = codes "pipe-has-queues" ∷ []
answered r.Deleted = codes "deleted" ∷ []
answered r.Exhausted = codes "exhausted" ∷ []
answered (r.Queued at flow packet) = codes "queued" ∷ map decimal (at ∷ flow ∷ packet ∷ [])
answered (r.Lost at flow) = codes "lost" ∷ map decimal (at ∷ flow ∷ [])
answered (r.Full at flow) = codes "full" ∷ map decimal (at ∷ flow ∷ [])
answered (r.NoTarget at) = codes "no-target" ∷ decimal at ∷ []
answered (r.Advanced at) = codes "advanced" ∷ decimal at ∷ []
answered (r.Delivered at list) = codes "delivered" ∷ map decimal (at ∷ length list ∷ [])
answered (r.Status list) = codes "status" ∷ decimal (length list) ∷ []

-- The records of what a reply lists, and those of an entry.
abbrev pub state : FlowStatus → Texts
state s = codes "f" ∷ decimal s.flow ∷ (aim s.key.target ++ decimal s.key.pipe ∷ (bits s.key.mask ++ (tuple s.key.tuple
    ++ map decimal (s.queued ∷ s.bytes ∷ s.lost ∷ s.full ∷ s.started ∷ s.discarded ∷ []))))

abbrev pub listed : Reply → List Texts
listed (r.Delivered at list) = map (λ d. codes "d" ∷ map decimal (d.packet ∷ d.flow ∷ d.start ∷ d.due ∷ [])) list
listed (r.Status list) = map state list
listed _ = []

abbrev pub entry : Entry → List Texts
entry e = (codes "c" ∷ decimal e.caller ∷ asked e.call) ∷ (codes "r" ∷ answered e.reply) ∷ listed e.reply

-- The records of a history behind the first one: those of each entry in turn, and the count of the entries.
abbrev pub records : List Entry → List Texts
records entries = flat_map entry entries ++ (codes "end" ∷ decimal (length entries) ∷ []) ∷ []

abbrev pub HistoriesAreWritten : Type 0
HistoriesAreWritten = (entries : List Entry) → records_of (history_text entries) ≡ (codes "dummynet-history" ∷ codes "3" ∷ []) ∷ records entries

-- The first record names the rule of a history.
abbrev pub rules : List (Texts × Rule)
rules = (codes "dummynet-history" ∷ codes "2" ∷ [], Free) ∷ (codes "dummynet-history" ∷ codes "3" ∷ [], Ordered) ∷ (codes "dummynet-live" ∷ codes "1" ∷ [], Ordered) ∷ []

abbrev pub HistoriesAreRead : Type 0
HistoriesAreRead = (text : List ℕ) (entries : List Entry) (first : Texts × Rule) → length text ≤ 2 ^ 28 → AreEntries entries → All (λ e. e.caller < 16) entries →
    Has rules first → records_of text ≡ first.0 ∷ records entries → history_file text ≡ Ok (first.1, entries)

-- The greatest lengths of files in bytes.
pub record LongFilesAreRefused (text : List ℕ) : Type 0 where
  pub config : 2 ^ 20 < length text → config_file text ≡ Err (TooLong Config)
  pub packets : 2 ^ 26 < length text → packet_file text ≡ Err (TooLong Packets)
  pub history : 2 ^ 28 < length text → history_file text ≡ Err (TooLong History)

abbrev pub LimitsAreKnown : Type 0
LimitsAreKnown = (text : List ℕ) → LongFilesAreRefused text
