-- Rows with fields in quotes: their fields, and what these say.
use Rattle.dn_files.proofs.Words.{BeginsFields, FiveTuple, List, None, Opens, Option, Pipe, Queue, Row, Some, Target, Writes, [], address_field, address_parts, address_until, ap, append_assoc}
use Rattle.dn_files.proofs.Words.{behind_end, behind_name, behind_word, bound, codes, default_writer, digit_value, digits, digits_are_digits, false, field-begins, inl, inr, is_address_byte}
use Rattle.dn_files.proofs.Words.{last_field, list_any, nat_lt, needs_byte, number_at_end, number_field, number_parts, number_until, option_or, pipe_fields, queue_fields, quoted-writes}
use Rattle.dn_files.proofs.Words.{quoted_address, quoted_at_end, quoted_number, quoted_row_until, refl, row_at_front, row_until, some_is, subst, sym, target_fields, tuple_fields, ℕ, ◌++◌, ◌^◌}
use Rattle.dn_files.proofs.Words.{◌∙◌, ◌∷◌, ◌≡◌}
use Rattle.dn_files.proofs.LastNumbers.{end_stands, word_stands}
use Rattle.dn_files.proofs.PlainFields.{BeginsAddress, BeginsNumber, BeginsTarget, BeginsTuple, EndsIn, EndsNumber, IsPlain}
use Rattle.dn_files.proofs.PlainLines.{unquoted}
use Rattle.dn_files.proofs.PlainRows.{ReadsRow, address-plain, digit-plain, pipe_begins, plain-address, plain-end, plain-number, queue_begins, row_begins, row_read, tuple_begins, word-begins}

-- A field in quotes.
abbrev in_quotes : List ℕ → List ℕ
in_quotes field = 34 ∷ (field ++ 34 ∷ [])

digits-quoted : (text : List ℕ) → Writes (in_quotes (digits text)) (digits text)
digits-quoted text = quoted-writes (digits text) (unquoted (λ byte. nat_lt (digit_value byte) 10) digit-plain (digits text) (digits_are_digits text))

-- What stands behind the first quote, and what stands behind the second one.
quotes-stand : (text inner field tail : List ℕ) → text ≡ 34 ∷ inner → inner ≡ field ++ 34 ∷ tail → text ≡ in_quotes field ++ tail
quotes-stand text inner field tail first second = first ∙ ap (λ (t : List ℕ). 34 ∷ t) (second ∙ sym (append_assoc field (34 ∷ []) tail))

-- A number with a comma behind it.
number-in-quotes : (least greatest : ℕ) (text inner : List ℕ) (n : ℕ) (behind rest : List ℕ) → text ≡ 34 ∷ inner → number_until 34 least greatest inner ≡ Some (n, behind) → behind ≡ 44 ∷ rest
    → BeginsNumber text least greatest n rest
number-in-quotes least greatest text inner n behind rest first is comma =
    let parts = number_parts 34 least greatest inner n behind is in
    record {
      field = digits inner;
      fields = field-begins text (in_quotes (digits inner)) (digits inner) rest
          (quotes-stand text inner (digits inner) behind first parts.0 ∙ ap (λ (t : List ℕ). in_quotes (digits inner) ++ t) comma) (digits-quoted inner);
      opens = subst Opens (sym first) (refl, refl);
      says = parts.1;
    }

number-read : (least greatest : ℕ) (text : List ℕ) (n : ℕ) (rest : List ℕ) → number_field least greatest text ≡ Some (n, rest) → BeginsNumber text least greatest n rest
unfolding number_field quoted_number
number-read least greatest text n rest e = chosen (number_until 44 least greatest text) refl e
  where
    chosen : (o : Option (ℕ × List ℕ)) → number_until 44 least greatest text ≡ o → option_or o (quoted_number least greatest text) ≡ Some (n, rest) → BeginsNumber text least greatest n rest
    chosen (Some p) is e = plain-number least greatest text n rest (is ∙ e)
    chosen None is e =
        bound (behind_word (34 ∷ []) text) _ (n, rest) (λ inner is_inner e1.
        bound (number_until 34 least greatest inner) _ (n, rest) (λ number is_number e2.
        bound (behind_word (44 ∷ []) number.1) _ (n, rest) (λ left is_left e3.
        let both = some_is (number.0, left) (n, rest) e3 in
        number-in-quotes least greatest text inner n number.1 rest (word_stands (34 ∷ []) text inner is_inner) (is_number ∙ ap (λ p. Some (p.0, number.1)) both)
        (word_stands (44 ∷ []) number.1 left is_left ∙ ap (λ p. 44 ∷ p.1) both)) e2) e1) e

-- The last number of a line.
end-in-quotes : (least greatest : ℕ) (text inner : List ℕ) (n : ℕ) (behind rest : List ℕ) → text ≡ 34 ∷ inner → number_until 34 least greatest inner ≡ Some (n, behind) → EndsIn behind [] rest
    → EndsNumber text least greatest n rest
end-in-quotes least greatest text inner n behind rest first is ends =
    let parts = number_parts 34 least greatest inner n behind is in
    record { written = in_quotes (digits inner); field = digits inner; ends = moved ends parts.0; writes = digits-quoted inner; says = parts.1 }
  where
    moved : EndsIn behind [] rest → inner ≡ digits inner ++ 34 ∷ behind → EndsIn text (in_quotes (digits inner)) rest
    moved (inl feed) second = inl (quotes-stand text inner (digits inner) behind first second ∙ ap (λ (t : List ℕ). in_quotes (digits inner) ++ t) feed)
    moved (inr return) second = inr (quotes-stand text inner (digits inner) behind first second ∙ ap (λ (t : List ℕ). in_quotes (digits inner) ++ t) return)

end-read : (least greatest : ℕ) (text : List ℕ) (n : ℕ) (rest : List ℕ) → last_field least greatest text ≡ Some (n, rest) → EndsNumber text least greatest n rest
unfolding last_field quoted_at_end
end-read least greatest text n rest e = chosen (number_at_end least greatest text) refl e
  where
    chosen : (o : Option (ℕ × List ℕ)) → number_at_end least greatest text ≡ o → option_or o (quoted_at_end least greatest text) ≡ Some (n, rest) → EndsNumber text least greatest n rest
    chosen (Some p) is e = plain-end least greatest text n rest (is ∙ e)
    chosen None is e =
        bound (behind_word (34 ∷ []) text) _ (n, rest) (λ inner is_inner e1.
        bound (number_until 34 least greatest inner) _ (n, rest) (λ number is_number e2.
        bound (behind_end number.1) _ (n, rest) (λ left is_left e3.
        let both = some_is (number.0, left) (n, rest) e3 in
        end-in-quotes least greatest text inner n number.1 rest (word_stands (34 ∷ []) text inner is_inner) (is_number ∙ ap (λ p. Some (p.0, number.1)) both)
        (end_stands number.1 rest (is_left ∙ ap (λ p. Some (p.1)) both))) e2) e1) e

-- An address with a comma behind it.
address-in-quotes : (text inner : List ℕ) (a : ℕ) (behind rest : List ℕ) → text ≡ 34 ∷ inner → address_until 34 inner ≡ Some (a, behind) → behind ≡ 44 ∷ rest → BeginsAddress text a rest
address-in-quotes text inner a behind rest first is comma =
    let (field, second, read, plain) = address_parts 34 inner a behind is in
    record {
      field = field;
      fields = field-begins text (in_quotes field) field rest (quotes-stand text inner field behind first second ∙ ap (λ (t : List ℕ). in_quotes field ++ t) comma)
          (quoted-writes field (unquoted is_address_byte address-plain field plain));
      says = read;
    }

address-read : (text : List ℕ) (a : ℕ) (rest : List ℕ) → address_field text ≡ Some (a, rest) → BeginsAddress text a rest
unfolding address_field quoted_address
address-read text a rest e = chosen (address_until 44 text) refl e
  where
    chosen : (o : Option (ℕ × List ℕ)) → address_until 44 text ≡ o → option_or o (quoted_address text) ≡ Some (a, rest) → BeginsAddress text a rest
    chosen (Some p) is e = plain-address text a rest (is ∙ e)
    chosen None is e =
        bound (behind_word (34 ∷ []) text) _ (a, rest) (λ inner is_inner e1.
        bound (address_until 34 inner) _ (a, rest) (λ address is_address e2.
        bound (behind_word (44 ∷ []) address.1) _ (a, rest) (λ left is_left e3.
        let both = some_is (address.0, left) (a, rest) e3 in
        address-in-quotes text inner a address.1 rest (word_stands (34 ∷ []) text inner is_inner) (is_address ∙ ap (λ p. Some (p.0, address.1)) both)
        (word_stands (44 ∷ []) address.1 left is_left ∙ ap (λ p. 44 ∷ p.1) both)) e2) e1) e

-- A name with a comma behind it.
name-read : (name text rest : List ℕ) → IsPlain name → list_any (needs_byte default_writer) name ≡ false → behind_name name text ≡ Some rest → BeginsFields text (name ∷ []) rest
unfolding behind_name
name-read name text rest plain none e = chosen (behind_word (name ++ 44 ∷ []) text) refl e
  where
    chosen : (o : Option (List ℕ)) → behind_word (name ++ 44 ∷ []) text ≡ o → option_or o (behind_word (34 ∷ (name ++ 34 ∷ 44 ∷ [])) text) ≡ Some rest → BeginsFields text (name ∷ []) rest
    chosen (Some left) is e = word-begins text rest name (word_stands (name ++ 44 ∷ []) text rest (is ∙ e) ∙ append_assoc name (44 ∷ []) rest) plain
    chosen None is e =
        let stands = word_stands (34 ∷ (name ++ 34 ∷ 44 ∷ [])) text rest e ∙ ap (λ (t : List ℕ). 34 ∷ t) (append_assoc name (34 ∷ 44 ∷ []) rest) in
        field-begins text (in_quotes name) name rest (quotes-stand text (name ++ 34 ∷ 44 ∷ rest) name (44 ∷ rest) stands refl) (quoted-writes name none)

pipe-read : (text rest : List ℕ) (target : Target) → pipe_fields text ≡ Some (target, rest) → BeginsTarget text target rest
unfolding pipe_fields
pipe-read text rest target e =
    bound (behind_name (codes "pipe") text) _ (target, rest) (λ middle is e1.
    bound (number_field 1 65535 middle) _ (target, rest) (λ number is_number e2.
    let both = some_is (Pipe number.0, number.1) (target, rest) e2 in
    subst (λ (t : Target). BeginsTarget text t rest) (ap (λ p. p.0) both)
    (pipe_begins text middle rest number.0 (name-read (codes "pipe") text middle refl refl is) (number-read 1 65535 middle number.0 rest (is_number ∙ ap (λ p. Some (number.0, p.1)) both)))) e1) e

queue-read : (text rest : List ℕ) (target : Target) → queue_fields text ≡ Some (target, rest) → BeginsTarget text target rest
unfolding queue_fields
queue-read text rest target e =
    bound (behind_name (codes "queue") text) _ (target, rest) (λ middle is e1.
    bound (number_field 1 65535 middle) _ (target, rest) (λ number is_number e2.
    let both = some_is (Queue number.0, number.1) (target, rest) e2 in
    subst (λ (t : Target). BeginsTarget text t rest) (ap (λ p. p.0) both)
    (queue_begins text middle rest number.0 (name-read (codes "queue") text middle refl refl is) (number-read 1 65535 middle number.0 rest (is_number ∙ ap (λ p. Some (number.0, p.1)) both)))) e1) e

target-read : (text rest : List ℕ) (target : Target) → target_fields text ≡ Some (target, rest) → BeginsTarget text target rest
unfolding target_fields
target-read text rest target e = chosen (pipe_fields text) refl e
  where
    chosen : (o : Option (Target × List ℕ)) → pipe_fields text ≡ o → option_or o (queue_fields text) ≡ Some (target, rest) → BeginsTarget text target rest
    chosen None is e = queue-read text rest target e
    chosen (Some p) is e = pipe-read text rest target (is ∙ e)

tuple-read : (text rest : List ℕ) (tuple : FiveTuple) → tuple_fields text ≡ Some (tuple, rest) → BeginsTuple text tuple rest
unfolding tuple_fields
tuple-read text rest tuple e =
    bound (address_field text) _ (tuple, rest) (λ src is_src e1.
    bound (address_field src.1) _ (tuple, rest) (λ dst is_dst e2.
    bound (number_field 0 255 dst.1) _ (tuple, rest) (λ proto is_proto e3.
    bound (number_field 0 65535 proto.1) _ (tuple, rest) (λ sport is_sport e4.
    bound (number_field 0 65535 sport.1) _ (tuple, rest) (λ dport is_dport e5.
    let whole : FiveTuple = record { src = src.0; dst = dst.0; proto = proto.0; sport = sport.0; dport = dport.0 } in
    let both = some_is (whole, dport.1) (tuple, rest) e5 in
    subst (λ (t : FiveTuple). BeginsTuple text t rest) (ap (λ p. p.0) both)
    (tuple_begins text src.1 dst.1 proto.1 sport.1 rest src.0 dst.0 proto.0 sport.0 dport.0 (address-read text src.0 src.1 is_src) (address-read src.1 dst.0 dst.1 is_dst)
    (number-read 0 255 dst.1 proto.0 proto.1 is_proto) (number-read 0 65535 proto.1 sport.0 sport.1 is_sport)
    (number-read 0 65535 sport.1 dport.0 rest (is_dport ∙ ap (λ p. Some (dport.0, p.1)) both)))) e4) e3) e2) e1) e

quoted-read : (text rest : List ℕ) (row : Row) → quoted_row_until text ≡ Some (row, rest) → ReadsRow text row rest
unfolding quoted_row_until
quoted-read text rest row e =
    bound (number_field 0 (2 ^ 62) text) _ (row, rest) (λ moment is_moment e1.
    bound (target_fields moment.1) _ (row, rest) (λ target is_target e2.
    bound (tuple_fields target.1) _ (row, rest) (λ tuple is_tuple e3.
    bound (number_field 1 65535 tuple.1) _ (row, rest) (λ len is_len e4.
    bound (last_field 0 4294967295 len.1) _ (row, rest) (λ word is_word e5.
    let whole : Row = record { moment = moment.0; target = target.0; packet = record { tuple = tuple.0; len = len.0; word = word.0 } } in
    let both = some_is (whole, word.1) (row, rest) e5 in
    subst (λ (r : Row). ReadsRow text r rest) (ap (λ p. p.0) both)
    (row_begins text moment.1 target.1 tuple.1 len.1 rest moment.0 len.0 word.0 target.0 tuple.0 (number-read 0 (2 ^ 62) text moment.0 moment.1 is_moment)
    (target-read moment.1 target.1 target.0 is_target) (tuple-read target.1 tuple.1 tuple.0 is_tuple) (number-read 1 65535 tuple.1 len.0 len.1 is_len)
    (end-read 0 4294967295 len.1 word.0 rest (is_word ∙ ap (λ p. Some (word.0, p.1)) both)))) e4) e3) e2) e1) e

-- What is read as a row is the line of a record that has this row.
pub row_reads : (text rest : List ℕ) (row : Row) → row_at_front text ≡ Some (row, rest) → ReadsRow text row rest
unfolding row_at_front
row_reads text rest row e = chosen (row_until text) refl e
  where
    chosen : (o : Option (Row × List ℕ)) → row_until text ≡ o → option_or o (quoted_row_until text) ≡ Some (row, rest) → ReadsRow text row rest
    chosen None is e = quoted-read text rest row e
    chosen (Some p) is e = row_read text rest row (is ∙ e)
