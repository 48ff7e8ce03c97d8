-- The law of what no packet file may be holds.
use Rattle.dn_laws.proofs.Words.{All, All-cons, All-nil, Bool, Err, IsRow, List, Ok, ReplayFault, Result, Row, Texts, [], and_parts, ap, arith, codes, columns, cond, eqb-true, false, header}
use Rattle.dn_laws.proofs.Words.{inl, inr, is_header, length, map, nat_le, packet_at, records_of, refl, row_of, rows_below, rows_from, rows_of, subst, sym, target_at, true, ℕ, ⊎_elim, ◌++◌}
use Rattle.dn_laws.proofs.Words.{◌+◌, ◌==◌, ◌^◌, ◌∙◌, ◌∷◌, ◌≡◌, ◌⊎◌}
use Rattle.dn_files.specs.Fields.{is_name, number_at}
use Rattle.dn_files.specs.PacketFile.{row_at}
use Rattle.dn_files.specs.Reading.{◌>>=◌}
use Rattle.dn_laws.specs.RecordLaws.{OnlyRowsAreRead}
use Rattle.dn_laws.proofs.FieldsRead.{bound, cond-ok, name-read, number-read, ok-is, packet-read, spread, target-read}

abbrev IsReadOf : Texts → Row → Type 0
IsReadOf fields row = IsRow row × (fields ≡ columns row)

row-read : (fields : Texts) (row : Row) → row_of fields ≡ Ok row → IsReadOf fields row
unfolding row_of
row-read fields row e = ⊎_elim (λ h. bound (number_at 1 0 (2 ^ 62) fields) _ row (λ m is-m e1.
    bound (target_at 2 fields) _ row (λ t is-t e2.
    bound (packet_at 4 fields) _ row (λ p is-p e3.
    let moment = number-read 1 0 (2 ^ 62) m fields (omega arith) is-m in
    let target = target-read 2 fields t is-t in
    let packet = packet-read 4 fields p is-p in
    let tuple = packet.0 in
    subst (IsReadOf fields) (ok-is (record { moment = m; target = t; packet = p }) row e3) (
      (moment.2, target.1, tuple.0.1, tuple.1.1, omega (arith, tuple.2.2), omega (arith, tuple.3.2), omega (arith, tuple.4.2), packet.1.1, omega (arith, packet.1.2), omega (arith, packet.2.2)),
      spread 10 fields (eqb-true (length fields) 10 h.0)
          ∙ λ i. moment.0 i ∷ (target.0 i ++ (tuple.0.0 i ∷ tuple.1.0 i ∷ tuple.2.0 i ∷ tuple.3.0 i ∷ tuple.4.0 i ∷ packet.1.0 i ∷ packet.2.0 i ∷ [])),
    )) e2) e1) h.1) (λ h. let no = h.1 in cc no) (cond-ok (length fields == 10) _ _ row e)

row-at-is : (number : ℕ) (r : Result Row ℕ) (row : Row) → row_at number r ≡ Ok row → r ≡ Ok row
row-at-is number (Ok one) row e = ap Ok (ok-is one row e)
row-at-is number (Err place) row e = cc e

abbrev AreReadOf : List Texts → List Row → Type 0
AreReadOf records rows = All IsRow rows × (records ≡ map columns rows)

rows-read : (records : List Texts) (number : ℕ) (rows : List Row) → rows_from number records ≡ Ok rows → AreReadOf records rows
unfolding rows_from
rows-read [] number rows e = subst (AreReadOf []) (ok-is [] rows e) (All-nil IsRow, refl)
rows-read (fields ∷ records) number rows e =
    bound (row_at number (row_of fields)) _ rows (λ row is e1.
    bound (rows_from (number + 1) records) _ rows (λ others is-others e2.
    let first = row-read fields row (row-at-is number (row_of fields) row is) in
    let more = rows-read records (number + 1) others is-others in
    subst (AreReadOf (fields ∷ records)) (ok-is (row ∷ others) rows e2) (All-cons IsRow row others first.0 more.0, λ i. first.1 i ∷ more.1 i)) e1) e

header-read : (fields : Texts) → is_header fields ≡ true → fields ≡ header
unfolding is_header
header-read fields e =
    let e9 = and_parts _ (is_name 10 fields (codes "word")) e in
    let e8 = and_parts _ (is_name 9 fields (codes "len")) e9.0 in
    let e7 = and_parts _ (is_name 8 fields (codes "dport")) e8.0 in
    let e6 = and_parts _ (is_name 7 fields (codes "sport")) e7.0 in
    let e5 = and_parts _ (is_name 6 fields (codes "proto")) e6.0 in
    let e4 = and_parts _ (is_name 5 fields (codes "dst")) e5.0 in
    let e3 = and_parts _ (is_name 4 fields (codes "src")) e4.0 in
    let e2 = and_parts _ (is_name 3 fields (codes "number")) e3.0 in
    let e1 = and_parts _ (is_name 2 fields (codes "target")) e2.0 in
    let e0 = and_parts (length fields == 10) (is_name 1 fields (codes "moment")) e1.0 in
    spread 10 fields (eqb-true (length fields) 10 e0.0)
    ∙ λ i. name-read 1 fields (codes "moment") e0.1 i ∷ name-read 2 fields (codes "target") e1.1 i ∷ name-read 3 fields (codes "number") e2.1 i
    ∷ name-read 4 fields (codes "src") e3.1 i ∷ name-read 5 fields (codes "dst") e4.1 i ∷ name-read 6 fields (codes "proto") e5.1 i
    ∷ name-read 7 fields (codes "sport") e6.1 i ∷ name-read 8 fields (codes "dport") e7.1 i ∷ name-read 9 fields (codes "len") e8.1 i ∷ name-read 10 fields (codes "word") e9.1 i ∷ []

below-read : (records : List Texts) (rows : List Row) → rows_below records ≡ Ok rows → All IsRow rows × ((records ≡ header ∷ map columns rows) ⊎ ((records ≡ []) × (rows ≡ [])))
unfolding rows_below
below-read [] rows e = let none = ok-is [] rows e in (subst (All IsRow) none (All-nil IsRow), inr (refl, sym none))
below-read (first ∷ records) rows e = ⊎_elim (λ h. let more = rows-read records 1 rows h.1 in (more.0, inl (λ i. header-read first h.0 i ∷ more.1 i)))
    (λ h. let no = h.1 in cc no) (cond-ok (is_header first) _ _ rows e)

within-read : (b : Bool) (text : List ℕ) (fault : ReplayFault) (rows : List Row) → (cond b (Ok text) (Err fault) >>= rows_of) ≡ Ok rows → rows_of text ≡ Ok rows
within-read true text fault rows e = e
within-read false text fault rows e = cc e

pub only-rows-are-read : OnlyRowsAreRead
only-rows-are-read text rows e = below-read (records_of text) rows (within-read (nat_le (length text) 67108864) text _ rows e)
