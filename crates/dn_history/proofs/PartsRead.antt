-- A history whose text comes in parts: the whole records at the front of what has come, and the entries that are read off them.
use Rattle.dn_history.proofs.Words.{AreRead, BeginsHistory, BeginsRecords, Entry, Err, Fields, First, HasRead, HistoryVersion, IsWhole, List, Live, Ok, Reading, ReplayFault, Rest, Result, Rule}
use Rattle.dn_history.proofs.Words.{Second, Some, Third, Unread, [], after_entries, ap, append-nil, append_assoc, arith, before, behind-feed, drop, drop-append_seam, entries_left, entries_with}
use Rattle.dn_history.proofs.Words.{entry_from, false, false≢true, field_at, history_from, history_in, length, length-append, live_of, nat_tests, next_record, records-then, records_after}
use Rattle.dn_history.proofs.Words.{records_of, refl, rule_of, sym, take, take-append_seam, true, version_of, with_rule, ℕ, ◌++◌, ◌+◌, ◌-◌, ◌<◌, ◌==◌, ◌>>=◌, ◌∙◌, ◌∷◌, ◌≡◌}
use Rattle.csv.specs.declared.parser.State.TheVariants as st
use Rattle.dn_history.proofs.EntriesBehind.{behind, entry_reads}
use Rattle.dn_history.proofs.EntryTurns.{entries_step}
use Rattle.dn_history.proofs.VersionLines.{version-first, version_record}

-- Nothing read.
starts : (left : Result (List Entry) ReplayFault) → left ≡ after_entries [] left
starts (Ok entries) = refl
starts (Err fault) = refl

pub none-read : (version : HistoryVersion) (given : ℕ) (rest left : Rest) → left ≡ rest → AreRead version given rest [] given left
none-read version given rest left is = rw is (record { counted = omega arith; goes_on = λ more. starts _ })

joined : (front : List Entry) (entry : Entry) (read : Result (List Entry) ReplayFault) → after_entries front (before (Some entry) read) ≡ after_entries (front ++ entry ∷ []) read
joined front entry (Ok entries) = ap (λ (es : List Entry). Ok es) (simp append_assoc)
joined front entry (Err fault) = refl

-- One entry more.
pub one-read : (version : HistoryVersion) (given count : ℕ) (rest old new : Rest) (entries : List Entry) (entry : Entry) → AreRead version given rest entries count old
    → entry_from version count old ≡ Ok (Some entry, new) → length new.records < length old.records → AreRead version given rest (entries ++ entry ∷ []) (count + 1) new
one-read version given count rest old new entries entry read is fewer = record {
  counted = omega (arith, read.counted, length-append entries (entry ∷ []));
  goes_on = λ more.
      let step = entries_step version count (behind old more) (behind new more) (Some entry) (entry_reads more version count old new entry is)
      (omega (arith, fewer, length-append new.records more, length-append old.records more)) in
      read.goes_on more ∙ ap (after_entries entries) step ∙ joined entries entry _;
}

grouped : (rule : Rule) (front middle : List Entry) (read : Result (List Entry) ReplayFault)
    → (after_entries middle read >>= λ last. with_rule rule (front ++ last)) ≡ (read >>= λ last. with_rule rule ((front ++ middle) ++ last))
grouped rule front middle (Ok last) = ap (with_rule rule) (sym (append_assoc front middle last))
grouped rule front middle (Err fault) = refl

-- The entries of whole lines were read, and what is left are whole lines too.
pub parts-read : (version : HistoryVersion) (given number count next : ℕ) (lines behind_lines left text : List ℕ) (front entries : List Entry)
    → IsWhole lines → IsWhole left
    → AreRead version given (record { number = number; records = records_after st.StartRecord lines }) entries count
    (record { number = next; records = records_after st.StartRecord left })
    → HasRead (record { version = version; given = given; number = number; text = lines ++ behind_lines }) text front
    → HasRead (record { version = version; given = count; number = next; text = left ++ behind_lines }) text (front ++ entries)
parts-read version given number count next lines behind_lines left text front entries whole left_whole read so_far = record {
  count = omega (arith, read.counted, so_far.count, length-append front entries);
  goes_on = λ more.
      let after = records_after st.StartRecord (behind_lines ++ more) in
      let old : entries_with (record { version = version; given = given; number = number; text = lines ++ behind_lines }) more
      ≡ entries_left Reading version given (record { number = number; records = records_after st.StartRecord lines ++ after }) =
      ap (λ (rs : List Fields). entries_left Reading version given (record { number = number; records = rs }))
      (ap (λ (t : List ℕ). records_after st.StartRecord t) (append_assoc lines behind_lines more) ∙ records-then lines (behind_lines ++ more) whole) in
      let new : entries_with (record { version = version; given = count; number = next; text = left ++ behind_lines }) more
      ≡ entries_left Reading version count (record { number = next; records = records_after st.StartRecord left ++ after }) =
      ap (λ (rs : List Fields). entries_left Reading version count (record { number = next; records = rs }))
      (ap (λ (t : List ℕ). records_after st.StartRecord t) (append_assoc left behind_lines more) ∙ records-then left (behind_lines ++ more) left_whole) in
      so_far.goes_on more
      ∙ ap (λ (r : Result (List Entry) ReplayFault). r >>= λ last. with_rule (rule_of version) (front ++ last)) (old ∙ read.goes_on after ∙ ap (after_entries entries) (sym new))
      ∙ grouped (rule_of version) front entries _;
}

-- The record of the header tells the version.
pub header-tells : (version : HistoryVersion) → version_of (version_record version) ≡ Ok version
unfolding version_of live_of field_at
header-tells First = refl
header-tells Second = refl
header-tells Third = refl
header-tells Live = refl

started : (rule : Rule) (left : Result (List Entry) ReplayFault) → (left >>= λ entries. with_rule rule entries) ≡ (left >>= λ last. with_rule rule ([] ++ last))
started rule (Ok entries) = refl
started rule (Err fault) = refl

-- Behind the header no entry was given.
pub begun : (text rest : List ℕ) (version : HistoryVersion) → BeginsHistory text version rest → HasRead (record { version = version; given = 0; number = 2; text = rest }) text []
unfolding history_from next_record
begun text rest version begins = record {
  count = refl;
  goes_on = λ more.
      let first = version-first text version rest begins in
      let stands : text ++ more ≡ first.front ++ 10 ∷ (rest ++ more) = ap (λ (t : List ℕ). t ++ more) first.stands ∙ append_assoc first.front (10 ∷ rest) more in
      rw (ap records_of stands ∙ first.reads (rest ++ more), header-tells version) (started (rule_of version) _);
}

-- The entries that are left, where the text has ended.
pub all-read : (left : Unread) (text : List ℕ) (entries : List Entry) → HasRead left text entries
    → history_in text ≡ (entries_left Reading left.version left.given (record { number = left.number; records = records_after st.StartRecord left.text })
    >>= λ last. with_rule (rule_of left.version) (entries ++ last))
all-read left text entries read =
    ap history_in (sym (append-nil text)) ∙ read.goes_on []
    ∙ ap (λ (t : List ℕ). entries_left Reading left.version left.given (record { number = left.number; records = records_after st.StartRecord t })
    >>= λ last. with_rule (rule_of left.version) (entries ++ last)) (append-nil left.text)

-- Where nothing stands behind whole records, they are the text.
pub only-whole : (text rest : List ℕ) → BeginsRecords text rest → (length rest == 0) ≡ true → IsWhole text
only-whole text [] begins none = rw (begins.stands, append-nil begins.front) begins.whole
only-whole text (byte ∷ rest) begins none = let some : (length (byte ∷ rest) == 0) ≡ false = grind (arith, nat_tests) in absurd (false≢true (sym some ∙ none))

-- The entries of the whole records that stand behind the line feed at the front of a text were read.
pub taken : (version : HistoryVersion) (given number count next : ℕ) (items rest lines back left new text : List ℕ) (front entries : List Entry)
    → items ≡ 10 ∷ drop 1 items → BeginsRecords (drop 1 items) rest → lines ≡ take (length items - length rest) items → back ≡ drop (length items - length rest) items
    → IsWhole left
    → AreRead version given (record { number = number; records = records_of lines }) entries count
    (record { number = next; records = records_after st.StartRecord left })
    → new ≡ 10 ∷ (left ++ back)
    → HasRead (record { version = version; given = given; number = number; text = drop 1 items }) text front
    → HasRead (record { version = version; given = count; number = next; text = drop 1 new }) text (front ++ entries)
taken version given number count next items rest lines back left new text front entries feed begins lines_is back_is whole read new_is so_far =
    let rows = begins.front in
    let stands : items ≡ (10 ∷ rows) ++ rest = feed ∙ ap (λ (t : List ℕ). 10 ∷ t) begins.stands in
    let count_is = ap (length {A = ℕ}) stands ∙ length-append (10 ∷ rows) rest in
    let place : length items - length rest ≡ length (10 ∷ rows) = omega (arith, count_is) in
    let lines_are : lines ≡ 10 ∷ rows =
    lines_is ∙ ap (λ k. take k items) place ∙ ap (take (length (10 ∷ rows))) stands ∙ take-append_seam (10 ∷ rows) rest in
    let rest_is : back ≡ rest = back_is ∙ ap (λ k. drop k items) place ∙ ap (drop (length (10 ∷ rows))) stands ∙ drop-append_seam (10 ∷ rows) rest in
    let records_are : records_of lines ≡ records_after st.StartRecord rows = ap records_of lines_are ∙ behind-feed rows in
    let here : HasRead (record { version = version; given = given; number = number; text = rows ++ rest }) text front = rw begins.stands at so_far in
    rw (new_is, rest_is) (parts-read version given number count next rows rest left text front entries begins.whole whole (rw records_are at read) here)
