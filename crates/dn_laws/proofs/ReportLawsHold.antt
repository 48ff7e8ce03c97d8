-- The laws of reports hold.
use Rattle.std.proofs.Common.{Bool, List, None, Option, Some, [], ap, append-nil, append_assoc, arith, cond, filter, inl, inr, length, length-append, map, nat_eq, refl, subst, sym, true}
use Rattle.std.proofs.Common.{false, not, option_to_list, ℕ, ◌&&◌, ◌++◌, ◌+◌, ◌*◌, ◌^◌, ◌∙◌, ◌∷◌, ◌≡◌, ◌≢◌, ◌≤◌, Result, Ok, Err, reverse, ap₂}
use Rattle.std.proofs.lemmas.Bool.{cases_Bool, eqb-true}
use Rattle.std.proofs.lemmas.Bool.Decides.{nat_tests}
use Rattle.std.proofs.lemmas.List.{reverse-append, reverse-reverse}
use Rattle.std.proofs.lemmas.List.Filters.{length-filter_both}
use Rattle.std.proofs.lemmas.List.Sums.{sum_by-cons}
use Rattle.csv.specs.Reading.{strip_bom}
use Rattle.csv.specs.Writing.{escaped, fields_text, is_blank}
use Rattle.dn_laws.proofs.Members.{has-either, has-left, has-passed, has-right, passed-has}
use Rattle.dn_laws.proofs.SortedLines.{Lex, all-pairs, in-sorted, pairs-append, pairs-in, pairs-least, sorted-in, sorted-length, sorted-pairs}
use Rattle.dn_laws.specs.Determined.Emulators.{Has}
use Rattle.dn_laws.specs.ReportLaws.{Delivers, InputsAreCalls, IsToldOf, LinesAreInOrder, LinesAreTold, Precedes, ReportsAreWritten, Tells, fields, is_sent, parts, sent}
use Rattle.dn_records.proofs.ReadBack.{read-back}
use Rattle.dn_records.specs.Records.{AllFilled, Fields, HasNoMark, records_of, text_of}
use Rattle.dn_replay.specs.Report.{deliveries, delivered, delivery_of_packet, due_of, entry_line, is_other, is_out, is_submit, line_fields, lines_after, outs_in_order, packet_of}
use Rattle.dn_replay.specs.Report.{queued_line, reply_line, report, report_header, report_lines, row_number, sorted_by, submit_lines, submits_by}
use Rattle.dn_replay.specs.declared.report.line.ReportLine.{ReportLine}
use Rattle.dn_replay.specs.declared.report.line.ReportLine.TheVariants.{Out, Held, Lost, Full, NoTarget}
use Rattle.dn_types.specs.History.{own_entries}
use Rattle.dn_types.specs.declared.call.Call.{Call}
use Rattle.dn_types.specs.declared.call.Call.TheVariants.{Collect, Configure, Submit}
use Rattle.dn_types.specs.declared.command.Command.{Command}
use Rattle.dn_types.specs.declared.rule.Rule.TheVariants.{Ordered}
use Rattle.dn_types.specs.Replies.{reply}
use Rattle.dn_config.specs.Tokens.Lines.{lines_of}
use Rattle.dn_files.specs.ConfigFile.{config_file, command_at, commands_from, config_limit, numbered}
use Rattle.dn_files.specs.PacketFile.{packet_file, packet_limit, rows_of}
use Rattle.dn_files.specs.Reading.{◌>>=◌, within_limit}
use Rattle.dn_files.specs.declared.replay_fault.ReplayFault.{ReplayFault}
use Rattle.dn_files.specs.declared.row.Row.{Row}
use Rattle.dn_files.specs.declared.source.Source.TheVariants.{Config, Packets}
use Rattle.dn_replay.specs.Configuring.{applied, configured_by, configured_from, refusal, unless}
use Rattle.dn_replay.specs.Replays.{calls_within, config_calls}
use Rattle.dn_replay.specs.Rows.{submit, submitted}
use Rattle.dn_replay.specs.Runs.{replayed}
use Rattle.dn_types.specs.declared.delivery.Delivery.{Delivery}
use Rattle.dn_types.specs.declared.entry.Entry.{Entry}
use Rattle.dn_types.specs.declared.reply.Reply.{Reply}
use Rattle.dn_types.specs.declared.reply.Reply.TheVariants as r

-- What is delivered.
delivered-is : (reply : Reply) (d : Delivery) → Has (delivered reply) d → (at : ℕ) × (list : List Delivery) × (reply ≡ r.Delivered at list) × Has list d
delivered-is (r.Delivered at list) d h = (at, list, refl, h)
delivered-is _ d h = absurd h

given-from : (entries : List Entry) (d : Delivery) → Has (deliveries entries) d → Delivers entries d
unfolding deliveries
given-from [] d h = absurd h
given-from (e ∷ rest) d h = elim (has-either (delivered e.reply) (deliveries rest) d h) [
  | inl one ↦ let (at, list, is, has) = delivered-is e.reply d one in (e, at, list, inl refl, is, has)
  | inr later ↦ let (x, at, list, among, is, has) = given-from rest d later in (x, at, list, inr among, is, has)
]

given-to : (entries : List Entry) (d : Delivery) → Delivers entries d → Has (deliveries entries) d
unfolding deliveries
given-to [] d h = absurd h.3
given-to (e ∷ rest) d (x, at, list, inl same, is, has) =
    let reply : e.reply ≡ r.Delivered at list = ap (λ (y : Entry). y.reply) same ∙ is in
    subst (λ (y : Reply). Has (delivered y ++ deliveries rest) d) (sym reply) (has-left list (deliveries rest) d has)
given-to (e ∷ rest) d (x, at, list, inr among, is, has) = has-right (delivered e.reply) (deliveries rest) d (given-to rest d (x, at, list, among, is, has))

-- What is found of a packet.
abbrev IsFound : ℕ → List Delivery → Option Delivery → Type 0
IsFound packet given None = (d : Delivery) → Has given d → d.packet ≢ packet
IsFound packet given (Some d) = Has given d × (d.packet ≡ packet)

differ : (a b : ℕ) → nat_eq a b ≡ false → a ≢ b
differ a b e = grind (arith, nat_tests)

found-later : (packet : ℕ) (d : Delivery) (ds : List Delivery) (o : Option Delivery) → d.packet ≢ packet → IsFound packet ds o → IsFound packet (d ∷ ds) o
found-later packet d ds None other none = λ x h. elim h [ inl same ↦ subst (λ (y : Delivery). y.packet ≢ packet) same other | inr among ↦ none x among ]
found-later packet d ds (Some x) other (has, same) = (inr has, same)

found : (packet : ℕ) (given : List Delivery) → IsFound packet given (delivery_of_packet packet given)
found packet [] = λ d h. absurd h
found packet (d ∷ ds) = elim (cases_Bool (nat_eq d.packet packet)) [
  | inl this ↦ rw this (inl refl, eqb-true d.packet packet this)
  | inr other ↦ rw other (found-later packet d ds (delivery_of_packet packet ds) (differ d.packet packet other) (found packet ds))
]

-- ---- What a reply tells

module _ (entries : List Entry) where
  abbrev all_given : List Delivery
  all_given = deliveries entries

  queued-tells : (row at flow packet : ℕ) (o : Option Delivery) (l : ReportLine) → IsFound packet all_given o → queued_line row at flow packet o ≡ l → Tells entries row (r.Queued at flow packet) l
  queued-tells row at flow packet None l none e = inr (λ d h. none d (given-to entries d h), sym e)
  queued-tells row at flow packet (Some d) l (has, same) e = inl (d, given-from entries d has, same, sym e)

  reply-tells : (row : ℕ) (reply : Reply) (l : ReportLine) → reply_line row all_given reply ≡ Some l → Tells entries row reply l
  reply-tells row (r.Queued at flow packet) l e =
      let same : queued_line row at flow packet (delivery_of_packet packet all_given) ≡ l = cc in queued-tells row at flow packet (delivery_of_packet packet all_given) l (found packet all_given) same
  reply-tells row (r.Lost at flow) l e = cc
  reply-tells row (r.Full at flow) l e = cc
  reply-tells row (r.NoTarget at) l e = cc
  reply-tells row _ l e = absurd cc

  module _ (unique : (d other : Delivery) → Delivers entries d → Delivers entries other → d.packet ≡ other.packet → d ≡ other) where
    tells-queued : (row at flow packet : ℕ) (o : Option Delivery) (l : ReportLine) → IsFound packet all_given o → Tells entries row (r.Queued at flow packet) l → queued_line row at flow packet o ≡ l
    tells-queued row at flow packet None l none (inl (d, delivers, same, is)) = absurd (none d (given-to entries d delivers) same)
    tells-queued row at flow packet (Some x) l (has, own) (inl (d, delivers, same, is)) =
        ap (λ (y : Delivery). Out row flow packet at y.start y.due) (unique x d (given-from entries x has) delivers (own ∙ sym same)) ∙ sym is
    tells-queued row at flow packet None l none (inr (never, is)) = sym is
    tells-queued row at flow packet (Some x) l (has, own) (inr (never, is)) = absurd (never x (given-from entries x has) own)

    tells-reply : (row : ℕ) (reply : Reply) (l : ReportLine) → Tells entries row reply l → reply_line row all_given reply ≡ Some l
    tells-reply row (r.Queued at flow packet) l h = ap Some (tells-queued row at flow packet (delivery_of_packet packet all_given) l (found packet all_given) h)
    tells-reply row (r.Lost at flow) l h = ap Some (sym h)
    tells-reply row (r.Full at flow) l h = ap Some (sym h)
    tells-reply row (r.NoTarget at) l h = ap Some (sym h)
    tells-reply row _ l h = absurd h

-- ---- Rows

submits-are : (c : Call) (b : Bool) → is_submit c && b ≡ cond b (is_sent c) false
submits-are (Submit target packet moment) true = refl
submits-are (Submit target packet moment) false = refl
submits-are _ true = refl
submits-are _ false = refl

rows-one : (e : Entry) (own : List Entry) (count : ℕ) (b : Bool) → count ≡ sent own → cond (cond b (is_sent e.call) false) 1 0 + count ≡ sent (cond b (e ∷ own) own)
rows-one e own count true same = ap (λ n. cond (is_sent e.call) 1 0 + n) same ∙ sym (sum_by-cons (λ (x : Entry). cond (is_sent x.call) 1 0) e own)
rows-one e own count false same = omega (arith, same)

rows-are : (caller : ℕ) (entries : List Entry) → submits_by caller entries ≡ sent (own_entries caller entries)
rows-are caller [] = refl
rows-are caller (e ∷ rest) =
    sum_by-cons (λ (x : Entry). cond (is_submit x.call && nat_eq x.caller caller) 1 0) e rest
    ∙ ap (λ (b : Bool). cond b 1 0 + submits_by caller rest) (submits-are e.call (nat_eq e.caller caller))
    ∙ rows-one e (own_entries caller rest) (submits_by caller rest) (nat_eq e.caller caller) (rows-are caller rest)

-- ---- The entry of a line

record Entered (n : ℕ) (given : List Delivery) (before rest : List Entry) (l : ReportLine) : Type 0 where
  mid : List Entry
  own : Entry
  behind : List Entry
  is : rest ≡ mid ++ own ∷ behind
  line : entry_line n given (submits_by own.caller (before ++ mid)) own ≡ Some l

of-option : (o : Option ReportLine) (l : ReportLine) → Has (option_to_list o) l → o ≡ Some l
of-option None l h = absurd h
of-option (Some x) l (inl same) = ap Some same
of-option (Some x) l (inr h) = absurd h

to-option : (o : Option ReportLine) (l : ReportLine) → o ≡ Some l → Has (option_to_list o) l
to-option None l e = absurd cc
to-option (Some x) l e = inl cc

entered : (n : ℕ) (given : List Delivery) (before rest : List Entry) (l : ReportLine) → Has (lines_after n given before rest) l → Entered n given before rest l
unfolding lines_after
entered n given before [] l h = absurd h
entered n given before (e ∷ rest) l h = elim (has-either (option_to_list (entry_line n given (submits_by e.caller before) e)) (lines_after n given (before ++ e ∷ []) rest) l h) [
  | inl one ↦ record {
    mid = [];
    own = e;
    behind = rest;
    is = refl;
    line = ap (λ (b : List Entry). entry_line n given (submits_by e.caller b) e) (append-nil before) ∙ of-option (entry_line n given (submits_by e.caller before) e) l one;
  }
  | inr later ↦
      let rec = entered n given (before ++ e ∷ []) rest l later in
      record {
        mid = e ∷ rec.mid;
        own = rec.own;
        behind = rec.behind;
        is = ap (λ (t : List Entry). e ∷ t) rec.is;
        line = ap (λ (b : List Entry). entry_line n given (submits_by rec.own.caller b) rec.own) (sym (append_assoc before (e ∷ []) rec.mid)) ∙ rec.line;
      }
]

enters : (n : ℕ) (given : List Delivery) (before mid : List Entry) (own : Entry) (behind : List Entry) (l : ReportLine)
    → entry_line n given (submits_by own.caller (before ++ mid)) own ≡ Some l → Has (lines_after n given before (mid ++ own ∷ behind)) l
unfolding lines_after
enters n given before [] own behind l e =
    has-left (option_to_list (entry_line n given (submits_by own.caller before) own)) (lines_after n given (before ++ own ∷ []) behind) l
    (to-option (entry_line n given (submits_by own.caller before) own) l (ap (λ (b : List Entry). entry_line n given (submits_by own.caller b) own) (sym (append-nil before)) ∙ e))
enters n given before (x ∷ mid) own behind l e =
    has-right (option_to_list (entry_line n given (submits_by x.caller before) x)) (lines_after n given (before ++ x ∷ []) (mid ++ own ∷ behind)) l
    (enters n given (before ++ x ∷ []) mid own behind l (ap (λ (b : List Entry). entry_line n given (submits_by own.caller b) own) (append_assoc before (x ∷ []) mid) ∙ e))

-- ---- The lines of a report

lines-in : (n : ℕ) (entries : List Entry) (l : ReportLine) → Has (report_lines n entries) l → Has (submit_lines n entries) l
lines-in n entries l h = elim (has-either (outs_in_order (filter is_out (submit_lines n entries))) (sorted_by row_number (filter is_other (submit_lines n entries))) l h) [
  | inl out ↦
      let among = sorted-in packet_of (filter is_out (submit_lines n entries)) l (sorted-in due_of (sorted_by packet_of (filter is_out (submit_lines n entries))) l out) in
      (has-passed is_out (submit_lines n entries) l among).0
  | inr other ↦ (has-passed is_other (submit_lines n entries) l (sorted-in row_number (filter is_other (submit_lines n entries)) l other)).0
]

in-lines : (n : ℕ) (entries : List Entry) (l : ReportLine) → Has (submit_lines n entries) l → Has (report_lines n entries) l
in-lines n entries l h = elim (cases_Bool (is_out l)) [
  | inl out ↦
      has-left (outs_in_order (filter is_out (submit_lines n entries))) (sorted_by row_number (filter is_other (submit_lines n entries))) l
      (in-sorted due_of (sorted_by packet_of (filter is_out (submit_lines n entries))) l (in-sorted packet_of (filter is_out (submit_lines n entries)) l (passed-has is_out (submit_lines n entries) l h out)))
  | inr other ↦
      has-right (outs_in_order (filter is_out (submit_lines n entries))) (sorted_by row_number (filter is_other (submit_lines n entries))) l
      (in-sorted row_number (filter is_other (submit_lines n entries)) l (passed-has is_other (submit_lines n entries) l h (ap not other)))
]

by-submit : (b : Bool) (o : Option ReportLine) (l : ReportLine) → cond b o None ≡ Some l → (b ≡ true) × (o ≡ Some l)
by-submit true o l e = (refl, e)
by-submit false o l e = absurd cc

sends : (c : Call) → is_submit c ≡ is_sent c
sends (Submit target packet moment) = refl
sends _ = refl

only : (n : ℕ) (entries : List Entry) (l : ReportLine) → Has (report_lines n entries) l → IsToldOf n entries l
only n entries l h =
    let e = entered n (deliveries entries) [] entries l (lines-in n entries l h) in
    let (submits, line) = by-submit (is_submit e.own.call) (reply_line (e.own.caller + submits_by e.own.caller e.mid * n + 1) (deliveries entries) e.own.reply) l e.line in
    record {
      before = e.mid;
      own = e.own;
      behind = e.behind;
      among = e.is;
      submits = sym (sends e.own.call) ∙ submits;
      tells = subst (λ m. Tells entries (e.own.caller + m * n + 1) e.own.reply l) (rows-are e.own.caller e.mid)
          (reply-tells entries (e.own.caller + submits_by e.own.caller e.mid * n + 1) e.own.reply l line);
    }

each : (n : ℕ) (entries : List Entry) → ((d other : Delivery) → Delivers entries d → Delivers entries other → d.packet ≡ other.packet → d ≡ other)
    → (l : ReportLine) → IsToldOf n entries l → Has (report_lines n entries) l
each n entries unique l t =
    let submit : is_submit t.own.call ≡ true = sends t.own.call ∙ t.submits in
    let told = tells-reply entries unique (t.own.caller + sent (own_entries t.own.caller t.before) * n + 1) t.own.reply l t.tells in
    let line : entry_line n (deliveries entries) (submits_by t.own.caller t.before) t.own ≡ Some l =
    rw (submit, rows-are t.own.caller t.before) told in
    in-lines n entries l (subst (λ (es : List Entry). Has (lines_after n (deliveries entries) [] es) l) (sym t.among) (enters n (deliveries entries) [] t.before t.own t.behind l line))

one-line : (b : Bool) (o : Option ReportLine) → length (option_to_list (cond b o None)) ≤ cond b 1 0
one-line true None = omega arith
one-line true (Some l) = omega arith
one-line false o = omega arith

lines-few : (n : ℕ) (given : List Delivery) (before rest : List Entry) → length (lines_after n given before rest) ≤ sent rest
unfolding lines_after
lines-few n given before [] = omega arith
lines-few n given before (e ∷ rest) =
    let one = one-line (is_submit e.call) (reply_line (e.caller + submits_by e.caller before * n + 1) given e.reply) in
    let same = ap {B = ℕ} (λ (b : Bool). cond b 1 0) (sends e.call) in
    let more = lines-few n given (before ++ e ∷ []) rest in
    let both = length-append (option_to_list (entry_line n given (submits_by e.caller before) e)) (lines_after n given (before ++ e ∷ []) rest) in
    let count = sum_by-cons (λ (x : Entry). cond (is_sent x.call) 1 0) e rest in
    omega (arith, one, same, more, both, count)

once : (n : ℕ) (entries : List Entry) → length (report_lines n entries) ≤ sent entries
once n entries =
    let lines = submit_lines n entries in
    let both = length-append (outs_in_order (filter is_out lines)) (sorted_by row_number (filter is_other lines)) in
    let outs = sorted-length due_of (sorted_by packet_of (filter is_out lines)) in
    let outs2 = sorted-length packet_of (filter is_out lines) in
    let others = sorted-length row_number (filter is_other lines) in
    let split = length-filter_both is_out is_other (λ l. refl) lines in
    let few = lines-few n (deliveries entries) [] entries in
    omega (arith, both, outs, outs2, others, split, few)

pub lines-are-told : LinesAreTold
lines-are-told n entries = record { only = only n entries; each = each n entries; once = once n entries }

-- ---- Texts

fields-are : (l : ReportLine) → line_fields l ≡ fields l
fields-are (Out row flow packet at start due) = refl
fields-are (Held row flow packet at) = refl
fields-are (Lost row flow at) = refl
fields-are (Full row flow at) = refl
fields-are (NoTarget row at) = refl

all-fields : (ls : List ReportLine) → map line_fields ls ≡ map fields ls
all-fields [] = refl
all-fields (l ∷ ls) = ap₂ (λ (f : Fields) (fs : List Fields). f ∷ fs) (fields-are l) (all-fields ls)

filled : (ls : List ReportLine) → AllFilled (map fields ls)
filled [] = tt
filled (l ∷ ls) = filled ls

no-mark : (rest : List Fields) → HasNoMark (text_of (report_header ∷ rest))
unfolding text_of fields_text is_blank escaped strip_bom
no-mark rest = refl

pub reports-are-written : ReportsAreWritten
unfolding report
reports-are-written n entries =
    let lines = report_lines n entries in
    ap (λ (fs : List Fields). records_of (text_of (report_header ∷ fs))) (all-fields lines) ∙ read-back (report_header ∷ map fields lines) (filled lines) (no-mark (map fields lines))

-- ---- Order

row-is : (l : ReportLine) → row_number l ≡ (parts l).1
row-is (Out row flow packet at start due) = refl
row-is (Held row flow packet at) = refl
row-is (Lost row flow at) = refl
row-is (Full row flow at) = refl
row-is (NoTarget row at) = refl

outs-precede : (x y : ReportLine) → is_out x ≡ true → is_out y ≡ true → Lex due_of packet_of x y → Precedes x y
outs-precede (Out row flow packet at start due) (Out row2 flow2 packet2 at2 start2 due2) e f h = h
outs-precede (Out row flow packet at start due) y e f h = tt
outs-precede x y e f h = absurd cc

others-precede : (x y : ReportLine) → is_other x ≡ true → is_other y ≡ true → (parts x).1 ≤ (parts y).1 → Precedes x y
others-precede (Out row flow packet at start due) y e f h = absurd cc
others-precede x (Out row flow packet at start due) e f h = absurd cc
others-precede x y e f h = h

out-precedes : (x y : ReportLine) → is_out x ≡ true → is_other y ≡ true → Precedes x y
out-precedes (Out row flow packet at start due) (Out row2 flow2 packet2 at2 start2 due2) e f = absurd cc
out-precedes (Out row flow packet at start due) y e f = tt
out-precedes x y e f = absurd cc

pub lines-are-in-order : LinesAreInOrder
lines-are-in-order n entries =
    let lines = submit_lines n entries in
    let outs = filter is_out lines in
    let others = filter is_other lines in
    let is_first : (x : ReportLine) → Has (outs_in_order outs) x → is_out x ≡ true =
    λ x h. (has-passed is_out lines x (sorted-in packet_of outs x (sorted-in due_of (sorted_by packet_of outs) x h))).1 in
    let is_last : (x : ReportLine) → Has (sorted_by row_number others) x → is_other x ≡ true = λ x h. (has-passed is_other lines x (sorted-in row_number others x h)).1 in
    all-pairs Precedes (report_lines n entries) (
    pairs-append Precedes (outs_in_order outs) (sorted_by row_number others)
    (pairs-in (Lex due_of packet_of) Precedes (outs_in_order outs) (λ x y m k h. outs-precede x y (is_first x m) (is_first y k) h)
    (sorted-pairs due_of packet_of (sorted_by packet_of outs) (pairs-least packet_of outs)))
    (pairs-in (λ x y. row_number x ≤ row_number y) Precedes (sorted_by row_number others)
    (λ x y m k h. let a = row-is x in let b = row-is y in others-precede x y (is_last x m) (is_last y k) (omega (arith, a, b, h))) (pairs-least row_number others))
    (λ x y m k. out-precedes x y (is_first x m) (is_last y k))
    )

-- ---- Calls

then-ok : {A B E : Type 0} (r : Result A E) (f : A → Result B E) (y : B) → (r >>= f) ≡ Ok y → (x : A) × (r ≡ Ok x) × (f x ≡ Ok y)
then-ok (Ok x) f y e = (x, refl, e)
then-ok (Err fault) f y e = absurd cc

onto : {X : Type 0} (x : X) (xs ys : List X) → reverse xs ++ x ∷ ys ≡ reverse (x ∷ xs) ++ ys
onto x xs ys = sym (ap (λ (l : List _). l ++ ys) (reverse-append (x ∷ []) xs) ∙ append_assoc (reverse xs) (x ∷ []) ys)

abbrev configures : List (ℕ × Command) → List Call
configures commands = map (λ c. Configure c.1) commands

after-one : (number : ℕ) (calls after : List Call) (command : Option Command) (more : List (ℕ × Command)) (all : List Call) → applied number calls command ≡ Ok after
    → all ≡ reverse (configures more) ++ after → all ≡ reverse (configures (numbered number command ++ more)) ++ calls
after-one number calls after None more all is so_far = let same : calls ≡ after = cc in so_far ∙ ap (λ (l : List Call). reverse (configures more) ++ l) (sym same)
after-one number calls after (Some command) more all is so_far = by (refusal number (reply Ordered calls (Configure command))) is
  where
    by : (o : Option ReplayFault) → unless o (Configure command ∷ calls) ≡ Ok after → all ≡ reverse (configures ((number, command) ∷ more)) ++ calls
    by None e =
        let same : Configure command ∷ calls ≡ after = cc in so_far ∙ ap (λ (l : List Call). reverse (configures more) ++ l) (sym same) ∙ onto (Configure command) (configures more) calls
    by (Some fault) e = absurd cc

said-first : (number : ℕ) (line : List ℕ) (rest : List (List ℕ)) (command : Option Command) (more : List (ℕ × Command)) → command_at number line ≡ Ok command
    → commands_from (number + 1) rest ≡ Ok more → commands_from number (line ∷ rest) ≡ Ok (numbered number command ++ more)
unfolding commands_from
said-first number line rest command more said read = rw (said, read) refl

file-said : (config text : List ℕ) (commands : List (ℕ × Command)) → within_limit config_limit Config config ≡ Ok text → commands_from 1 (lines_of text) ≡ Ok commands → config_file config ≡ Ok commands
file-said config text commands fits said = rw fits said

configured : (calls : List Call) (number : ℕ) (lines : List (List ℕ)) (after : List Call) → configured_from calls number lines ≡ Ok after
    → (commands : List (ℕ × Command)) × (commands_from number lines ≡ Ok commands) × (after ≡ reverse (configures commands) ++ calls)
unfolding configured_from commands_from
configured calls number [] after e = let same : calls ≡ after = cc in ([], refl, sym same)
configured calls number (line ∷ rest) after e =
    let (command, said, later) = then-ok (command_at number line) (λ command. applied number calls command >>= λ next. configured_from next (number + 1) rest) after e in
    let (next, is, last) = then-ok (applied number calls command) (λ next. configured_from next (number + 1) rest) after later in
    let (more, read, all) = configured next (number + 1) rest after last in
    (numbered number command ++ more, said-first number line rest command more said read, after-one number calls next command more after is all)

abbrev sends_all : List Row → List Call
sends_all rows = map (λ row. Submit row.target row.packet row.moment) rows

submitted-are : (calls : List Call) (rows : List Row) → submitted calls rows ≡ reverse (sends_all rows) ++ calls
unfolding submitted
submitted-are calls [] = refl
submitted-are calls (row ∷ rows) = submitted-are (submit row ∷ calls) rows ∙ onto (submit row) (sends_all rows) calls

in-turn : (commands sends : List Call) (last : Call) → reverse (last ∷ (reverse sends ++ (reverse commands ++ []))) ≡ commands ++ (sends ++ last ∷ [])
in-turn commands sends last =
    let newest : reverse (commands ++ (sends ++ last ∷ [])) ≡ last ∷ (reverse sends ++ (reverse commands ++ [])) =
    reverse-append commands (sends ++ last ∷ []) ∙ ap (λ (l : List Call). l ++ reverse commands) (reverse-append sends (last ∷ []))
    ∙ ap (λ (l : List Call). last ∷ (reverse sends ++ l)) (sym (append-nil (reverse commands))) in
    ap reverse (sym newest) ∙ reverse-reverse (commands ++ (sends ++ last ∷ []))

pub inputs-are-calls : InputsAreCalls
unfolding calls_within
inputs-are-calls config packets calls e =
    let (made, configured_is, later) = then-ok (config_calls config) (λ made. (within_limit packet_limit Packets packets >>= rows_of) >>= λ rows. Ok (replayed made rows)) calls e in
    let (rows, read, last) = then-ok (packet_file packets) (λ rows. Ok (replayed made rows)) calls later in
    let (text, fits, from) = then-ok (within_limit config_limit Config config) configured_by made configured_is in
    let (commands, said, are) = configured [] 1 (lines_of text) made from in
    let all : replayed made rows ≡ calls = cc in (
      commands,
      rows,
      file-said config text commands fits said,
      read,
      ap reverse (sym all) ∙ ap (λ (l : List Call). reverse (Collect (2 ^ 62) ∷ l)) (submitted-are made rows ∙ ap (λ (l : List Call). reverse (sends_all rows) ++ l) are)
          ∙ in-turn (configures commands) (sends_all rows) (Collect (2 ^ 62)),
    )
