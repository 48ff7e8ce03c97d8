-- The laws of what is written in live sessions hold.
use Rattle.std.proofs.Common.{List, None, Option, Some, [], ap, append-nil, arith, codes, decimal, length, length-append, map, not, option_to_list, refl, reverse}
use Rattle.std.proofs.Common.{sum, sym, ℕ, ◌++◌, ◌+◌, ◌∙◌, ◌∷◌, ◌≡◌, flat_map}
use Rattle.std.proofs.lemmas.Grind.{flat_map-append}
use Rattle.std.proofs.lemmas.List.{reverse-append}
use Rattle.std.proofs.lemmas.List.Elements.{filter-append}
use Rattle.std.proofs.lemmas.List.Sums.{sum_by-cons}
use Rattle.csv.specs.Reading.{strip_bom}
use Rattle.csv.specs.Records.{field_at}
use Rattle.csv.specs.Writing.{escaped, fields_text, is_blank}
use Rattle.dn_records.proofs.ReadBack.{read-back}
use Rattle.dn_records.proofs.TextSteps.{text-append}
use Rattle.dn_records.specs.Records.{AllFilled, HasNoMark, records_of, text_of}
use Rattle.dn_history.proofs.HistoryBack.{entry-filled, entry-plain, filled-append}
use Rattle.dn_history.specs.HistoryText.{end_record, entry_records, live_header}
use Rattle.dn_history.specs.Remarks.{is_remark, without_remarks}
use Rattle.dn_laws.proofs.RecordLawsHold.{entry-is}
use Rattle.dn_laws.specs.RecordLaws.{Texts, entry}
use Rattle.dn_laws.specs.SessionLaws.{IsOwn, IsTail, LinesAreAnswered, SessionsAreHistories, TranscriptsAreWritten, called, is_bad}
use Rattle.dn_live.specs.Asked.{asked}
use Rattle.dn_live.specs.Session.{answer, answers, bad_lines, bad_of, bad_record, calls_after, calls_of, next_record, tail_answer}
use Rattle.dn_live.specs.declared.asked.Asked.{Asked}
use Rattle.dn_live.specs.declared.asked.Asked.TheVariants.{Nothing, Next, Calls, Bad}
use Rattle.dn_shaper.specs.Waking.{wake_of}
use Rattle.dn_types.proofs.Histories.{calls_of-more, lawful-more}
use Rattle.dn_types.specs.Calls.{trace_of}
use Rattle.dn_types.specs.Clock.{counted}
use Rattle.dn_types.specs.History.{IsLawful, calls_of as history_calls}
use Rattle.dn_types.specs.Replies.{reply}
use Rattle.dn_types.specs.declared.call.Call.{Call}
use Rattle.dn_types.specs.declared.entry.Entry.{Entry}
use Rattle.dn_types.specs.declared.rule.Rule.TheVariants.{Ordered}

abbrev made : List Call → ℕ → Call → Entry
made calls caller call = record { caller = caller; call = call; reply = reply Ordered calls call }

next-is : (w : Option ℕ) → next_record w ≡ codes "#" ∷ codes "next" ∷ map decimal (option_to_list w)
next-is None = refl
next-is (Some moment) = refl

own-is : (number : ℕ) (calls : List Call) (what : Asked) → IsOwn number calls what (answer number calls what)
own-is number calls Nothing = refl
own-is number calls Next = ap (λ (r : List (List ℕ)). r ∷ []) (next-is (wake_of Ordered (trace_of (counted calls))))
own-is number calls (Calls caller call) = entry-is (made calls caller call)
own-is number calls (Bad bad) = refl

pub lines-are-answered : LinesAreAnswered
unfolding answers
lines-are-answered line lines = (answer (length lines + 1) (calls_of lines) (asked line), refl, own-is (length lines + 1) (calls_of lines) (asked line))

-- ---- The history of a session

record So (calls : List Call) (asks : List (ℕ × Call)) (records : List Texts) (entries : List Entry) : Type 0 where
  lawful : IsLawful Ordered entries
  are : history_calls entries ≡ calls
  pairs : map (λ e. (e.caller, e.call)) (reverse entries) ≡ asks
  written : without_remarks records ≡ flat_map entry entries
  count : length calls ≡ length entries

abbrev entries_with : List Entry → List Call → Asked → List Entry
entries_with entries calls (Calls caller call) = entries ++ made calls caller call ∷ []
entries_with entries calls _ = entries

remarked : (records : List Texts) (remark : Texts) → without_remarks (remark ∷ []) ≡ [] → without_remarks (records ++ remark ∷ []) ≡ without_remarks records
remarked records remark none = filter-append (λ (fields : Texts). not (is_remark fields)) records (remark ∷ []) ∙ ap (λ (l : List Texts). without_remarks records ++ l) none ∙ append-nil (without_remarks records)

next-plain : (w : Option ℕ) → without_remarks (next_record w ∷ []) ≡ []
unfolding field_at
next-plain None = refl
next-plain (Some moment) = refl

bad-plain : (number : ℕ) (bad : _) → without_remarks (bad_record number bad ∷ []) ≡ []
unfolding field_at
bad-plain number bad = refl

step : (number : ℕ) (calls : List Call) (asks : List (ℕ × Call)) (records : List Texts) (entries : List Entry) (what : Asked) → So calls asks records entries
    → So (calls_after calls what) (called what ++ asks) (records ++ answer number calls what) (entries_with entries calls what)
step number calls asks records entries Nothing h = record { lawful = h.lawful; are = h.are; pairs = h.pairs; written = ap without_remarks (append-nil records) ∙ h.written; count = h.count }
step number calls asks records entries Next h =
    record { lawful = h.lawful; are = h.are; pairs = h.pairs; written = remarked records (next_record (wake_of Ordered (trace_of (counted calls)))) (next-plain (wake_of Ordered (trace_of (counted calls)))) ∙ h.written; count = h.count }
step number calls asks records entries (Bad bad) h =
    record { lawful = h.lawful; are = h.are; pairs = h.pairs; written = remarked records (bad_record number bad) (bad-plain number bad) ∙ h.written; count = h.count }
step number calls asks records entries (Calls caller call) h =
    let e : Entry = made calls caller call in
    record {
      lawful = lawful-more Ordered entries e h.lawful (ap (λ (cs : List Call). reply Ordered cs call) (sym h.are));
      are = calls_of-more entries e ∙ ap (λ (cs : List Call). call ∷ cs) h.are;
      pairs = ap (λ (es : List Entry). map (λ e. (e.caller, e.call)) es) (reverse-append entries (e ∷ [])) ∙ ap (λ (l : List (ℕ × Call)). (caller, call) ∷ l) h.pairs;
      written =
          filter-append (λ (fields : Texts). not (is_remark fields)) records (entry_records e)
          ∙ (λ i. h.written i ++ (entry-plain e ∙ entry-is e) i)
          ∙ sym (flat_map-append entry entries (e ∷ []) ∙ ap (λ (l : List Texts). flat_map entry entries ++ l) (append-nil (entry e)));
      count = omega (arith, h.count, length-append entries (e ∷ []));
    }

so : (lines : List (List ℕ)) → (entries : List Entry) × So (calls_of lines) (flat_map (λ line. called (asked line)) lines) (answers lines) entries
unfolding calls_of answers
so [] = ([], record { lawful = tt; are = refl; pairs = refl; written = refl; count = refl })
so (line ∷ lines) =
    let (entries, h) = so lines in
    (entries_with entries (calls_of lines) (asked line), step (length lines + 1) (calls_of lines) (flat_map (λ l. called (asked l)) lines) (answers lines) entries (asked line) h)

bad-is : (what : Asked) → bad_of what ≡ is_bad what
bad-is (Bad bad) = refl
bad-is _ = refl

bad-are : (lines : List (List ℕ)) → bad_lines lines ≡ sum (map (λ line. is_bad (asked line)) lines)
unfolding bad_lines
bad-are [] = refl
bad-are (line ∷ lines) =
    let one = bad-is (asked line) in
    let more = bad-are lines in
    let all = sum_by-cons (λ n. n) (is_bad (asked line)) (map (λ l. is_bad (asked l)) lines) in
    omega (arith, one, more, all)

pub sessions-are-histories : SessionsAreHistories
sessions-are-histories lines =
    let (entries, h) = so lines in (
      entries,
      record {
        lawful = h.lawful;
        calls = h.pairs;
        written = h.written;
        counted = h.count;
        refused = let bad = bad-are lines in omega (arith, bad);
        tail = λ b rest. (let none : bad_lines lines + 1 ≡ (bad_lines lines + 0) + 1 = omega arith in λ i. record { calls = h.count i; bad = none i });
      },
    )

-- ---- The text of a session

next-filled : (w : Option ℕ) → AllFilled (next_record w ∷ [])
next-filled None = tt
next-filled (Some moment) = tt

answer-filled : (number : ℕ) (calls : List Call) (what : Asked) → AllFilled (answer number calls what)
answer-filled number calls Nothing = tt
answer-filled number calls Next = next-filled (wake_of Ordered (trace_of (counted calls)))
answer-filled number calls (Calls caller call) = entry-filled (made calls caller call)
answer-filled number calls (Bad bad) = tt

answers-filled : (lines : List (List ℕ)) → AllFilled (answers lines)
unfolding answers
answers-filled [] = tt
answers-filled (line ∷ lines) = filled-append (answers lines) (answer (length lines + 1) (calls_of lines) (asked line)) (answers-filled lines) (answer-filled (length lines + 1) (calls_of lines) (asked line))

closing-filled : (number count : ℕ) (tail : List ℕ) → AllFilled (tail_answer number tail ++ end_record count ∷ [])
closing-filled number count [] = tt
closing-filled number count (b ∷ tail) = tt

no-mark : (rest : List Texts) → HasNoMark (text_of (live_header ∷ rest))
unfolding text_of fields_text is_blank escaped strip_bom
no-mark rest = refl

tail-is : (number : ℕ) (tail : List ℕ) → IsTail number tail (tail_answer number tail)
tail-is number [] = refl
tail-is number (b ∷ tail) = refl

pub transcripts-are-written : TranscriptsAreWritten
transcripts-are-written lines tail =
    let last : List Texts = tail_answer (length lines + 1) tail ++ end_record (length (calls_of lines)) ∷ [] in (
      tail_answer (length lines + 1) tail,
      tail-is (length lines + 1) tail,
      ap records_of (sym (text-append (live_header ∷ answers lines) last))
          ∙ read-back (live_header ∷ (answers lines ++ last)) (filled-append (answers lines) last (answers-filled lines) (closing-filled (length lines + 1) (length (calls_of lines)) tail)) (no-mark (answers lines ++ last)),
    )
