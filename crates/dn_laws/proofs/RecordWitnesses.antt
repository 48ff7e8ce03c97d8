-- The laws of packet files and histories at examples.
use Rattle.dn_laws.proofs.Words.{Advance, Advanced, All, All-cons, All-nil, BadRow, Config, Entry, Err, IsEntry, IsRow, List, Ok, Ordered, Row, Texts, TooLong, [], arith, codes, columns, config_file, csv_on_literals}
use Rattle.dn_laws.proofs.Words.{escaped, fields_text, header, history_file, history_text, inl, inr, is_blank, length, map, packet_file, records_of, refl, rows_of, text_of, ℕ, ◌++◌, ◌<◌, ◌∷◌, ◌≡◌, ◌⊎◌}
use Rattle.std.specs.Fmt.{digits}
use Rattle.dn_types.specs.declared.target.Target.TheVariants.{Queue}
use Rattle.dn_laws.proofs.OnlyHistoriesHold.{only-histories-are-read}
use Rattle.dn_laws.proofs.OnlyRowsHold.{only-rows-are-read}
use Rattle.dn_laws.proofs.RecordLawsHold.{histories-are-read, histories-are-written, limits-are-known, rows-are-read, rows-have-ten-fields}

-- From 10.0.0.3 to 10.0.0.2, by TCP.
abbrev row : Row
row = record { moment = 1500000; target = Queue 2; packet = record { tuple = record { src = 167772163; dst = 167772162; proto = 6; sport = 40000; dport = 443 }; len = 1500; word = 7 } }

abbrev one_row : List ℕ
one_row = codes "moment,target,number,src,dst,proto,sport,dport,len,word\n1500000,queue,2,10.0.0.3,10.0.0.2,6,40000,443,1500,7\n"

row_in_range : IsRow row
row_in_range = (omega arith, (omega arith, omega arith), omega arith, omega arith, omega arith, omega arith, omega arith, omega arith, omega arith, omega arith)

row_read : packet_file one_row ≡ Ok (row ∷ [])
unfolding digits
row_read = rows-are-read (row ∷ []) (All-cons IsRow row [] row_in_range (All-nil IsRow)) (omega arith)

row_alone : All IsRow (row ∷ []) × ((records_of one_row ≡ header ∷ map columns (row ∷ [])) ⊎ ((records_of one_row ≡ []) × (row ∷ [] ≡ [])))
row_alone = only-rows-are-read one_row (row ∷ []) row_read

abbrev short : List ℕ
short = codes "moment,target,number,src,dst,proto,sport,dport,len,word\n1,pipe\n"

short_row : rows_of short ≡ Err (BadRow 1 0)
unfolding csv_on_literals
short_row = rows-have-ten-fields short [] (codes "1" ∷ codes "pipe" ∷ []) [] (All-nil IsRow) refl (λ e. absurd (omega (arith, e)))

-- Caller 3 moved the clock.
abbrev moved : Entry
moved = record { caller = 3; call = Advance 5; reply = Advanced 5 }

moved_read : history_file (codes "dummynet-history,3\nc,3,advance,5\nr,advanced,5\nend,1\n") ≡ Ok (Ordered, moved ∷ [])
unfolding history_text text_of fields_text is_blank escaped digits
moved_read = histories-are-read (history_text (moved ∷ [])) (moved ∷ []) (codes "dummynet-history" ∷ codes "3" ∷ [], Ordered) (omega arith)
    (record { count = omega arith; each = All-cons IsEntry moved [] (record { call = omega arith; reply = omega arith }) (All-nil IsEntry) })
    (All-cons (λ (e : Entry). e.caller < 16) moved [] (omega arith) (All-nil (λ (e : Entry). e.caller < 16))) (inr (inl refl)) (histories-are-written (moved ∷ []))

moved_alone : (first : Texts) × (left : List Texts) × (records_of (codes "dummynet-history,3\nc,3,advance,5\nr,advanced,5\nend,1\n") ≡ first ∷ (left ++ (codes "end" ∷ codes "1" ∷ []) ∷ []))
unfolding digits
moved_alone = let read = only-histories-are-read (codes "dummynet-history,3\nc,3,advance,5\nr,advanced,5\nend,1\n") Ordered (moved ∷ []) moved_read in (read.0, read.1, read.2)

long_config : (text : List ℕ) → length text ≡ 1048577 → config_file text ≡ Err (TooLong Config)
long_config text long = (limits-are-known text).config (omega (arith, long))
