-- Packets that were read are the first rows of a text.
use Rattle.hingetulip_c.proofs.Words.{BeginsWith, CPacket, HasCount, HasRead, List, None, Ok, Option, Row, Some, [], ap, arith, begins_shorter, c_packet, drop, drop_all, inl, inr, left_behind}
use Rattle.hingetulip_c.proofs.Words.{left_whole, length, map, none_used, refl, row_at_front, row_reads, rows_left, sym, take, take-length, told, ℕ, ◌<◌, ◌∙◌, ◌≡◌, ◌⊎◌}

pub front_read : (text : List ℕ) (used : ℕ) (rows : List Row) (packets : List CPacket) → BeginsWith text used rows → packets ≡ map c_packet rows → HasRead text used packets
front_read text used rows packets begins are = record {
  rows = rows;
  packets_are = are;
  told = told (take used text) rows begins.first;
  goes_on = left_behind text used rows begins;
}

pub whole_read : (text : List ℕ) (rows : List Row) (packets : List CPacket) → rows_left 1 text ≡ Ok rows → packets ≡ map c_packet rows → HasRead text (length text) packets
whole_read text rows packets read are = record {
  rows = rows;
  packets_are = are;
  told = ap (rows_left 1) (take-length text) ∙ read;
  goes_on = left_whole text rows read;
}

-- Where no byte is used, and the list has room, no row stands at the front of the text.
pub none_at_front : (text : List ℕ) (used most : ℕ) (rows : List Row) → BeginsWith text used rows → (length rows ≡ most) ⊎ (row_at_front (drop used text) ≡ None) → used ≡ 0 → 0 < most
    → row_at_front text ≡ None
none_at_front text used most rows begins (inl full) none some =
    let empty : length rows ≡ 0 = ap (length {A = Row}) (none_used text used rows begins none) in
    absurd (omega arith)
none_at_front text used most rows begins (inr stops) none some = ap (λ k. row_at_front (drop k text)) (sym none) ∙ stops

-- No row stands behind the whole text.
no_row : row_at_front [] ≡ None
no_row = chosen (row_at_front []) refl
  where
    chosen : (o : Option (Row × List ℕ)) → row_at_front [] ≡ o → o ≡ None
    chosen None is = refl
    chosen (Some p) is = let shorter = begins_shorter [] (p.1) (p.0) (row_reads [] (p.1) (p.0) is) in absurd (omega arith)

pub none_behind : (text : List ℕ) (used : ℕ) → used ≡ length text → row_at_front (drop used text) ≡ None
none_behind text used all = ap row_at_front (ap (λ k. drop k text) all ∙ drop_all (length text) text (omega arith)) ∙ no_row

pub all_counted : (text : List ℕ) (rows : List Row) (count : ℕ) → rows_left 1 text ≡ Ok rows → count ≡ length rows → HasCount text count
all_counted text rows count read counted = record { rows = rows; rows_are = read; count_is = counted }
