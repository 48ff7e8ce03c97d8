-- Rows that are written plainly: their fields, and what these say.
use Rattle.dn_files.proofs.Words.{BeginsFields, BeginsLine, Fields, FiveTuple, List, None, Ok, Opens, Option, Pipe, Queue, Row, Some, Target, Writes, [], address_parts, address_until, ap}
use Rattle.dn_files.proofs.Words.{append_assoc, arith, behind_word, bound, cases_Bool, codes, default_writer, digit_from_value, digit_value, digits, digits_are_digits, eqb-true, false}
use Rattle.dn_files.proofs.Words.{field-begins, field_at, fields-then, inl, inr, is_address_byte, kind_until, list_all, ltb-true, nat_lt, ne_eqb, needs_byte, number_at_end, number_parts}
use Rattle.dn_files.proofs.Words.{number_until, option_or, packet_at, plain-writes, refl, row_of, row_until, some_is, subst, sym, target_at, target_until, true, tuple_at, tuple_until, ℕ, ◌++◌}
use Rattle.dn_files.proofs.Words.{◌==◌, ◌^◌, ◌∙◌, ◌∷◌, ◌≡◌}
use Rattle.dn_files.proofs.LastNumbers.{end_parts, word_stands}
use Rattle.dn_files.proofs.PlainFields.{BeginsAddress, BeginsNumber, BeginsTarget, BeginsTuple, EndsNumber, IsPlain}
use Rattle.dn_files.proofs.PlainLines.{line-begins, plain-field}

pub digit-plain : (byte : ℕ) → nat_lt (digit_value byte) 10 ≡ true → needs_byte default_writer byte ≡ false
digit-plain byte is =
    let range = digit_from_value byte (ltb-true (digit_value byte) 10 is) in
    rw (ne_eqb byte 44 (λ e. omega (arith, range)), ne_eqb byte 34 (λ e. omega (arith, range)), ne_eqb byte 13 (λ e. omega (arith, range)), ne_eqb byte 10 (λ e. omega (arith, range))) refl

pub address-plain : (byte : ℕ) → is_address_byte byte ≡ true → needs_byte default_writer byte ≡ false
address-plain byte is = elim (cases_Bool (nat_lt (digit_value byte) 10)) [
  | inl digit ↦ digit-plain byte digit
  | inr other ↦
      let point : (byte == 46) ≡ true = rw other at is in
      subst (λ (b : ℕ). needs_byte default_writer b ≡ false) (sym (eqb-true byte 46 point)) refl
]

pub digits-plain : (text : List ℕ) → IsPlain (digits text)
digits-plain text = plain-field (λ byte. nat_lt (digit_value byte) 10) digit-plain (digits text) (digits_are_digits text)

-- Plain fields are written as they are.
pub digits-write : (text : List ℕ) → Writes (digits text) (digits text)
digits-write text = plain-writes (digits text) (digits-plain text)

-- A number and a comma are a field.
pub number-field : (text rest : List ℕ) (least greatest n : ℕ) → number_until 44 least greatest text ≡ Some (n, rest) → BeginsFields text (digits text ∷ []) rest
number-field text rest least greatest n is = field-begins text (digits text) (digits text) rest (number_parts 44 least greatest text n rest is).0 (digits-write text)

-- A text that begins with a number and a comma does not begin with the end of a line.
opens-digits : (ds rest : List ℕ) → list_all (λ byte. nat_lt (digit_value byte) 10) ds ≡ true → Opens (ds ++ 44 ∷ rest)
opens-digits [] rest all = (refl, refl)
opens-digits (byte ∷ ds) rest all = elim (cases_Bool (nat_lt (digit_value byte) 10)) [
  | inl digit ↦
      let range = digit_from_value byte (ltb-true (digit_value byte) 10 digit) in
      (ne_eqb byte 13 (λ e. omega (arith, range)), ne_eqb byte 10 (λ e. omega (arith, range)))
  | inr other ↦ let k = rw other at all in cc k
]

pub number-opens : (text rest : List ℕ) (least greatest n : ℕ) → number_until 44 least greatest text ≡ Some (n, rest) → Opens text
number-opens text rest least greatest n is = subst Opens (sym (number_parts 44 least greatest text n rest is).0) (opens-digits (digits text) rest (digits_are_digits text))

-- A number, the last number of a line and an address, as they are read of a plain line.
pub plain-number : (least greatest : ℕ) (text : List ℕ) (n : ℕ) (rest : List ℕ) → number_until 44 least greatest text ≡ Some (n, rest) → BeginsNumber text least greatest n rest
plain-number least greatest text n rest is = record {
  field = digits text;
  fields = number-field text rest least greatest n is;
  opens = number-opens text rest least greatest n is;
  says = (number_parts 44 least greatest text n rest is).1;
}

pub plain-end : (least greatest : ℕ) (text : List ℕ) (n : ℕ) (rest : List ℕ) → number_at_end least greatest text ≡ Some (n, rest) → EndsNumber text least greatest n rest
plain-end least greatest text n rest is =
    let parts = end_parts least greatest text n rest is in record { written = digits text; field = digits text; ends = parts.0; writes = digits-write text; says = parts.1 }

pub plain-address : (text : List ℕ) (a : ℕ) (rest : List ℕ) → address_until 44 text ≡ Some (a, rest) → BeginsAddress text a rest
plain-address text a rest is =
    let (field, stands, read, plain) = address_parts 44 text a rest is in
    record { field = field; fields = field-begins text field field rest stands (plain-writes field (plain-field is_address_byte address-plain field plain)); says = read }

-- A word and the comma behind it.
pub word-begins : (text rest word : List ℕ) → text ≡ word ++ 44 ∷ rest → IsPlain word → BeginsFields text (word ∷ []) rest
word-begins text rest word stands plain = field-begins text word word rest stands (plain-writes word plain)

-- A name and a number are the two fields of a target.
pub pipe_begins : (text middle rest : List ℕ) (n : ℕ) → BeginsFields text (codes "pipe" ∷ []) middle → BeginsNumber middle 1 65535 n rest → BeginsTarget text (Pipe n) rest
unfolding target_at field_at
pipe_begins text middle rest n name number = record {
  kind = codes "pipe";
  number = number.field;
  fields = fields-then text (codes "pipe" ∷ []) (number.field ∷ []) middle rest name number.fields;
  says = λ first others. rw number.says refl;
}

pub queue_begins : (text middle rest : List ℕ) (n : ℕ) → BeginsFields text (codes "queue" ∷ []) middle → BeginsNumber middle 1 65535 n rest → BeginsTarget text (Queue n) rest
unfolding target_at field_at
queue_begins text middle rest n name number = record {
  kind = codes "queue";
  number = number.field;
  fields = fields-then text (codes "queue" ∷ []) (number.field ∷ []) middle rest name number.fields;
  says = λ first others. rw number.says refl;
}

-- Two addresses and three numbers are the five fields of a tuple.
pub tuple_begins : (text t1 t2 t3 t4 rest : List ℕ) (src dst proto sport dport : ℕ) → BeginsAddress text src t1 → BeginsAddress t1 dst t2
    → BeginsNumber t2 0 255 proto t3 → BeginsNumber t3 0 65535 sport t4 → BeginsNumber t4 0 65535 dport rest
    → BeginsTuple text (record { src = src; dst = dst; proto = proto; sport = sport; dport = dport }) rest
unfolding tuple_at field_at
tuple_begins text t1 t2 t3 t4 rest src dst proto sport dport f1 f2 f3 f4 f5 = record {
  src = f1.field;
  dst = f2.field;
  proto = f3.field;
  sport = f4.field;
  dport = f5.field;
  fields = fields-then text (f1.field ∷ []) _ t1 rest f1.fields (fields-then t1 (f2.field ∷ []) _ t2 rest f2.fields
      (fields-then t2 (f3.field ∷ []) _ t3 rest f3.fields (fields-then t3 (f4.field ∷ []) _ t4 rest f4.fields f5.fields)));
  says = λ a b c others. rw (f1.says, f2.says, f3.says, f4.says, f5.says) refl;
}

-- A text begins with the line of a record that has this row.
pub record ReadsRow (text : List ℕ) (row : Row) (rest : List ℕ) : Type 0 where
  pub fields : Fields
  pub line : BeginsLine text fields rest
  pub says : row_of fields ≡ Ok row

pub row_begins : (text t1 t2 t3 t4 rest : List ℕ) (moment len word : ℕ) (target : Target) (tuple : FiveTuple) → BeginsNumber text 0 (2 ^ 62) moment t1
    → BeginsTarget t1 target t2 → BeginsTuple t2 tuple t3 → BeginsNumber t3 1 65535 len t4 → EndsNumber t4 0 4294967295 word rest
    → ReadsRow text (record { moment = moment; target = target; packet = record { tuple = tuple; len = len; word = word } }) rest
unfolding row_of packet_at field_at
row_begins text t1 t2 t3 t4 rest moment len word target tuple f1 at named f4 f5 =
    let others : Fields = named.src ∷ named.dst ∷ named.proto ∷ named.sport ∷ named.dport ∷ f4.field ∷ f5.field ∷ [] in
    let all : BeginsFields text (f1.field ∷ at.kind ∷ at.number ∷ named.src ∷ named.dst ∷ named.proto ∷ named.sport ∷ named.dport ∷ f4.field ∷ []) t4 =
    fields-then text (f1.field ∷ []) _ t1 t4 f1.fields (fields-then t1 (at.kind ∷ at.number ∷ []) _ t2 t4 at.fields
    (fields-then t2 (named.src ∷ named.dst ∷ named.proto ∷ named.sport ∷ named.dport ∷ []) _ t3 t4 named.fields f4.fields)) in
    record {
      fields = f1.field ∷ at.kind ∷ at.number ∷ others;
      line = line-begins text t4 _ f5.written f5.field rest all f5.ends f5.writes f1.opens;
      says = rw (f1.says, at.says f1.field others, named.says f1.field at.kind at.number (f4.field ∷ f5.field ∷ []), f4.says, f5.says) refl;
    }

-- What is read as a target of a kind.
kind_begins : (name : List ℕ) (kind : ℕ → Target) (text rest : List ℕ) (target : Target) → kind_until name kind text ≡ Some (target, rest)
    → ((behind : List ℕ) (n : ℕ) → text ≡ name ++ 44 ∷ behind → BeginsNumber behind 1 65535 n rest → BeginsTarget text (kind n) rest) → BeginsTarget text target rest
unfolding kind_until
kind_begins name kind text rest target e begins =
    bound (behind_word (name ++ 44 ∷ []) text) _ (target, rest) (λ behind is e1.
    bound (number_until 44 1 65535 behind) _ (target, rest) (λ number is_number e2.
    let both = some_is (kind number.0, number.1) (target, rest) e2 in
    subst (λ (t : Target). BeginsTarget text t rest) (ap (λ p. p.0) both)
    (begins behind number.0 (word_stands (name ++ 44 ∷ []) text behind is ∙ append_assoc name (44 ∷ []) behind)
    (plain-number 1 65535 behind number.0 rest (is_number ∙ ap (λ p. Some (number.0, p.1)) both)))) e1) e

pub target_read : (text rest : List ℕ) (target : Target) → target_until text ≡ Some (target, rest) → BeginsTarget text target rest
unfolding target_until
target_read text rest target e = chosen (kind_until (codes "pipe") Pipe text) refl e
  where
    chosen : (o : Option (Target × List ℕ)) → kind_until (codes "pipe") Pipe text ≡ o → option_or o (kind_until (codes "queue") Queue text) ≡ Some (target, rest) → BeginsTarget text target rest
    chosen None is e = kind_begins (codes "queue") Queue text rest target e (λ behind n stands. queue_begins text behind rest n (word-begins text behind (codes "queue") stands refl))
    chosen (Some p) is e = kind_begins (codes "pipe") Pipe text rest target (is ∙ e) (λ behind n stands. pipe_begins text behind rest n (word-begins text behind (codes "pipe") stands refl))

pub tuple_read : (text rest : List ℕ) (tuple : FiveTuple) → tuple_until text ≡ Some (tuple, rest) → BeginsTuple text tuple rest
unfolding tuple_until
tuple_read text rest tuple e =
    bound (address_until 44 text) _ (tuple, rest) (λ src is_src e1.
    bound (address_until 44 src.1) _ (tuple, rest) (λ dst is_dst e2.
    bound (number_until 44 0 255 dst.1) _ (tuple, rest) (λ proto is_proto e3.
    bound (number_until 44 0 65535 proto.1) _ (tuple, rest) (λ sport is_sport e4.
    bound (number_until 44 0 65535 sport.1) _ (tuple, rest) (λ dport is_dport e5.
    let whole : FiveTuple = record { src = src.0; dst = dst.0; proto = proto.0; sport = sport.0; dport = dport.0 } in
    let both = some_is (whole, dport.1) (tuple, rest) e5 in
    subst (λ (t : FiveTuple). BeginsTuple text t rest) (ap (λ p. p.0) both)
    (tuple_begins text src.1 dst.1 proto.1 sport.1 rest src.0 dst.0 proto.0 sport.0 dport.0 (plain-address text src.0 src.1 is_src) (plain-address src.1 dst.0 dst.1 is_dst)
    (plain-number 0 255 dst.1 proto.0 proto.1 is_proto) (plain-number 0 65535 proto.1 sport.0 sport.1 is_sport)
    (plain-number 0 65535 sport.1 dport.0 rest (is_dport ∙ ap (λ p. Some (dport.0, p.1)) both)))) e4) e3) e2) e1) e

-- What is read as a row is the line of a record that has this row.
pub row_read : (text rest : List ℕ) (row : Row) → row_until text ≡ Some (row, rest) → ReadsRow text row rest
unfolding row_until
row_read text rest row e =
    bound (number_until 44 0 (2 ^ 62) text) _ (row, rest) (λ moment is_moment e1.
    bound (target_until moment.1) _ (row, rest) (λ target is_target e2.
    bound (tuple_until target.1) _ (row, rest) (λ tuple is_tuple e3.
    bound (number_until 44 1 65535 tuple.1) _ (row, rest) (λ len is_len e4.
    bound (number_at_end 0 4294967295 len.1) _ (row, rest) (λ word is_word e5.
    let whole : Row = record { moment = moment.0; target = target.0; packet = record { tuple = tuple.0; len = len.0; word = word.0 } } in
    let both = some_is (whole, word.1) (row, rest) e5 in
    subst (λ (r : Row). ReadsRow text r rest) (ap (λ p. p.0) both)
    (row_begins text moment.1 target.1 tuple.1 len.1 rest moment.0 len.0 word.0 target.0 tuple.0 (plain-number 0 (2 ^ 62) text moment.0 moment.1 is_moment)
    (target_read moment.1 target.1 target.0 is_target) (tuple_read target.1 tuple.1 tuple.0 is_tuple) (plain-number 1 65535 tuple.1 len.0 len.1 is_len)
    (plain-end 0 4294967295 len.1 word.0 rest (is_word ∙ ap (λ p. Some (word.0, p.1)) both)))) e4) e3) e2) e1) e
