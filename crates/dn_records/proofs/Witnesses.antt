-- Texts and their records, computed: what the definitions say of a text of this project, and of the corners of CSV.
use Rattle.dn_records.proofs.Words.{Fields, HasNoMark, List, [], codes, csv_on_literals, escaped, fields_text, is_blank, records_of, refl, strip_bom, text_of, ◌∷◌, ◌≡◌}
use Rattle.dn_records.proofs.ReadBack.{read-back}

-- a history file of four entries
abbrev history : List Fields
history =
    (codes "dummynet-history" ∷ codes "3" ∷ [])
    ∷ (codes "c" ∷ codes "0" ∷ codes "configure" ∷ codes "pipe 1 config bw 8000000bit/s" ∷ [])
    ∷ (codes "r" ∷ codes "configured" ∷ [])
    ∷ (codes "c" ∷ codes "0" ∷ codes "submit" ∷ codes "pipe" ∷ codes "1" ∷ codes "10.0.0.1" ∷ codes "10.0.0.2" ∷ codes "17" ∷ codes "1000" ∷ codes "2000" ∷ codes "1000" ∷ codes "0" ∷ codes "0" ∷ [])
    ∷ (codes "r" ∷ codes "queued" ∷ codes "0" ∷ codes "0" ∷ codes "0" ∷ [])
    ∷ (codes "c" ∷ codes "0" ∷ codes "collect" ∷ codes "1000000" ∷ [])
    ∷ (codes "r" ∷ codes "delivered" ∷ codes "1000000" ∷ codes "1" ∷ [])
    ∷ (codes "d" ∷ codes "0" ∷ codes "0" ∷ codes "0" ∷ codes "1000000" ∷ [])
    ∷ (codes "c" ∷ codes "0" ∷ codes "show" ∷ [])
    ∷ (codes "r" ∷ codes "status" ∷ codes "1" ∷ [])
    ∷ (codes "f" ∷ codes "0" ∷ codes "pipe" ∷ codes "1" ∷ codes "1" ∷ codes "0.0.0.0" ∷ codes "0.0.0.0" ∷ codes "0" ∷ codes "0" ∷ codes "0"
    ∷ codes "0.0.0.0" ∷ codes "0.0.0.0" ∷ codes "0" ∷ codes "0" ∷ codes "0" ∷ codes "0" ∷ codes "0" ∷ codes "0" ∷ codes "0" ∷ codes "1"
    ∷ codes "0" ∷ [])
    ∷ (codes "end" ∷ codes "4" ∷ [])
    ∷ []

history_text : text_of history ≡ codes "dummynet-history,3\nc,0,configure,pipe 1 config bw 8000000bit/s\nr,configured\nc,0,submit,pipe,1,10.0.0.1,10.0.0.2,17,1000,2000,1000,0,0\nr,queued,0,0,0\nc,0,collect,1000000\nr,delivered,1000000,1\nd,0,0,0,1000000\nc,0,show\nr,status,1\nf,0,pipe,1,1,0.0.0.0,0.0.0.0,0,0,0,0.0.0.0,0.0.0.0,0,0,0,0,0,0,0,1,0\nend,4\n"
unfolding text_of fields_text is_blank escaped
history_text = refl

history_has_no_mark : HasNoMark (text_of history)
unfolding text_of fields_text is_blank escaped strip_bom
history_has_no_mark = refl

-- the law that written records read back, at this file
history_reads_back : records_of (text_of history) ≡ history
history_reads_back = read-back history tt history_has_no_mark

-- a comma, a quote and an end of line call for quotes, and so does a record of one empty field
quoted_fields : text_of ((codes "a,b" ∷ codes "\"c\"" ∷ [] ∷ codes "d\ne" ∷ []) ∷ ([] ∷ []) ∷ []) ≡ codes "\"a,b\",\"\"\"c\"\"\",,\"d\ne\"\n\"\"\n"
unfolding text_of fields_text is_blank escaped
quoted_fields = refl

-- empty lines are no records, a carriage return alone ends one, and quotes are taken off
lines_and_quotes : records_of (codes "a,b\n\n\nc\rd\r\n\"0\",\"x\"\"y\"") ≡ (codes "a" ∷ codes "b" ∷ []) ∷ (codes "c" ∷ []) ∷ (codes "d" ∷ []) ∷ (codes "0" ∷ codes "x\"y" ∷ []) ∷ []
unfolding csv_on_literals
lines_and_quotes = refl

-- an open quote runs to the end of the text
open_quote : records_of (codes "a,\"b\nc,d\n") ≡ (codes "a" ∷ codes "b\nc,d\n" ∷ []) ∷ []
unfolding csv_on_literals
open_quote = refl

-- a byte order mark is passed over at the front alone
marks : records_of (239 ∷ 187 ∷ 191 ∷ 97 ∷ 10 ∷ 239 ∷ 187 ∷ 191 ∷ []) ≡ ((97 ∷ []) ∷ []) ∷ ((239 ∷ 187 ∷ 191 ∷ []) ∷ []) ∷ []
unfolding csv_on_literals
marks = refl

no_byte : records_of [] ≡ []
unfolding csv_on_literals
no_byte = refl
