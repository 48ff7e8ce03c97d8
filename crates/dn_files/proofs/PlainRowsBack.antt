-- The line of a record that has a row is read as that row.
use Rattle.dn_files.proofs.Words.{BeginsRow, Bool, Err, Fields, FiveTuple, List, None, NumberFault, Ok, Option, Packet, Pipe, Queue, Result, Row, Some, Target, [], address_back, address_of, ap}
use Rattle.dn_files.proofs.Words.{arith, bytes_eq, bytes_eq-Decides, codes, cond, digit_value, false, field_at, inl, inr, is_address_byte, kind_until, length, line_of, nat_lt, ne_eqb}
use Rattle.dn_files.proofs.Words.{number_at_end, number_back, number_before_return, number_digits, number_within, or_place, packet_at, refl, result_ok, returned_line, row_at_front, row_of}
use Rattle.dn_files.proofs.Words.{row_until, subst, sym, target_at, target_until, true, tuple_at, tuple_until, ℕ, ◌++◌, ◌==◌, ◌^◌, ◌∙◌, ◌∷◌, ◌≡◌}
use Rattle.dn_files.specs.Reading.{◌>>=◌}
use Rattle.dn_files.proofs.LastNumbers.{other_end}
use Rattle.dn_files.proofs.PlainFields.{AllPlain, IsPlain}
use Rattle.dn_files.proofs.PlainLines.{line-is, plain-field, plain_end, return-is}
use Rattle.dn_files.proofs.PlainRows.{address-plain, digit-plain}

ok_is : {A : Type 0} (x y : A) → ◌≡◌ {A = Result A ℕ} (Ok x) (Ok y) → x ≡ y
ok_is x y e = cc

-- What was read before it was read on.
bound : {A B C : Type 0} (o : Result A ℕ) (read : A → Result B ℕ) (b : B) → ((a : A) → o ≡ Ok a → read a ≡ Ok b → C) → (o >>= read) ≡ Ok b → C
bound (Err place) read b more e = cc e
bound (Ok a) read b more e = more a refl e

placed : {A : Type 0} (place : ℕ) (o : Option A) (a : A) → or_place place o ≡ Ok a → o ≡ Some a
placed place None a e = cc e
placed place (Some b) a e = ap Some (ok_is b a e)

number_is : (place : ℕ) (r : Result ℕ NumberFault) (n : ℕ) → or_place place (result_ok r) ≡ Ok n → r ≡ Ok n
number_is place (Err fault) n e = cc e
number_is place (Ok m) n e = ap Ok (ok_is m n e)

number_plain : (least greatest : ℕ) (field : List ℕ) (n : ℕ) → number_within least greatest field ≡ Ok n → IsPlain field
number_plain least greatest field n is = plain-field (λ byte. nat_lt (digit_value byte) 10) digit-plain field (number_digits least greatest field n is)

-- The last number of a line, with either end behind it.
feed-end : (word rest : List ℕ) (w : ℕ) → number_within 0 4294967295 word ≡ Ok w → number_at_end 0 4294967295 (word ++ 10 ∷ rest) ≡ Some (w, rest)
unfolding number_at_end
feed-end word rest w is = rw (number_back 10 0 4294967295 word rest w refl is) refl

return-end : (word rest : List ℕ) (w : ℕ) → number_within 0 4294967295 word ≡ Ok w → number_at_end 0 4294967295 (word ++ 13 ∷ 10 ∷ rest) ≡ Some (w, rest)
unfolding number_at_end number_before_return
return-end word rest w is =
    let read = number_back 13 0 4294967295 word (10 ∷ rest) w refl is in
    rw (other_end 10 13 0 4294967295 (word ++ 13 ∷ 10 ∷ rest) w (10 ∷ rest) refl read, read) refl

-- The two fields of a target.
abbrev TargetBack : List ℕ → List ℕ → Target → Type 0
TargetBack kind number target = ((rest : List ℕ) → target_until (kind ++ 44 ∷ (number ++ 44 ∷ rest)) ≡ Some (target, rest)) × AllPlain (kind ∷ number ∷ [])

pipe_back : (number : List ℕ) (n : ℕ) → number_within 1 65535 number ≡ Ok n → TargetBack (codes "pipe") number (Pipe n)
unfolding target_until kind_until
pipe_back number n is = (λ rest. rw (number_back 44 1 65535 number rest n refl is) refl, (refl, (number_plain 1 65535 number n is, tt)))

queue_back : (number : List ℕ) (n : ℕ) → number_within 1 65535 number ≡ Ok n → TargetBack (codes "queue") number (Queue n)
unfolding target_until kind_until
queue_back number n is = (λ rest. rw (number_back 44 1 65535 number rest n refl is) refl, (refl, (number_plain 1 65535 number n is, tt)))

kind_back : (kind number : List ℕ) (target : Target) (pipe queue : Bool) → bytes_eq kind (codes "pipe") ≡ pipe → bytes_eq kind (codes "queue") ≡ queue
    → cond {A = Result Target ℕ} pipe (or_place 3 (result_ok (number_within 1 65535 number)) >>= λ n. Ok (Pipe n))
    (cond queue (or_place 3 (result_ok (number_within 1 65535 number)) >>= λ n. Ok (Queue n)) (Err 2)) ≡ Ok target
    → TargetBack kind number target
kind_back kind number target true queue p q e =
    bound (or_place 3 (result_ok (number_within 1 65535 number))) _ target (λ n is e1.
    subst (λ (k : List ℕ). TargetBack k number target) (sym ((bytes_eq-Decides kind (codes "pipe")).0 p))
    (subst (TargetBack (codes "pipe") number) (ok_is (Pipe n) target e1) (pipe_back number n (number_is 3 (number_within 1 65535 number) n is)))) e
kind_back kind number target false true p q e =
    bound (or_place 3 (result_ok (number_within 1 65535 number))) _ target (λ n is e1.
    subst (λ (k : List ℕ). TargetBack k number target) (sym ((bytes_eq-Decides kind (codes "queue")).0 q))
    (subst (TargetBack (codes "queue") number) (ok_is (Queue n) target e1) (queue_back number n (number_is 3 (number_within 1 65535 number) n is)))) e
kind_back kind number target false false p q e = cc e

target_back : (first kind number : List ℕ) (others : Fields) (target : Target) → target_at 2 (first ∷ kind ∷ number ∷ others) ≡ Ok target → TargetBack kind number target
unfolding target_at field_at
target_back first kind number others target e = kind_back kind number target (bytes_eq kind (codes "pipe")) (bytes_eq kind (codes "queue")) refl refl e

address_plain : (field : List ℕ) (a : ℕ) → address_of field ≡ Some a → IsPlain field
address_plain field a is = plain-field is_address_byte address-plain field (address_back field a is).1

-- The five fields of a tuple.
abbrev TupleBack : List ℕ → List ℕ → List ℕ → List ℕ → List ℕ → FiveTuple → Type 0
TupleBack src dst proto sport dport tuple =
    ((rest : List ℕ) → tuple_until (src ++ 44 ∷ (dst ++ 44 ∷ (proto ++ 44 ∷ (sport ++ 44 ∷ (dport ++ 44 ∷ rest))))) ≡ Some (tuple, rest))
    × AllPlain (src ∷ dst ∷ proto ∷ sport ∷ dport ∷ [])

five_back : (src dst proto sport dport : List ℕ) (a b p s d : ℕ) → address_of src ≡ Some a → address_of dst ≡ Some b → number_within 0 255 proto ≡ Ok p → number_within 0 65535 sport ≡ Ok s
    → number_within 0 65535 dport ≡ Ok d → TupleBack src dst proto sport dport (record { src = a; dst = b; proto = p; sport = s; dport = d })
unfolding tuple_until
five_back src dst proto sport dport a b p s d e1 e2 e3 e4 e5 = (
  λ rest. rw (
    (address_back src a e1).0 44 (dst ++ 44 ∷ (proto ++ 44 ∷ (sport ++ 44 ∷ (dport ++ 44 ∷ rest)))) refl,
    (address_back dst b e2).0 44 (proto ++ 44 ∷ (sport ++ 44 ∷ (dport ++ 44 ∷ rest))) refl,
    number_back 44 0 255 proto (sport ++ 44 ∷ (dport ++ 44 ∷ rest)) p refl e3,
    number_back 44 0 65535 sport (dport ++ 44 ∷ rest) s refl e4,
    number_back 44 0 65535 dport rest d refl e5,
  ) refl,
  (address_plain src a e1, (address_plain dst b e2, (number_plain 0 255 proto p e3, (number_plain 0 65535 sport s e4, (number_plain 0 65535 dport d e5, tt))))),
)

tuple_back : (a b c src dst proto sport dport : List ℕ) (others : Fields) (tuple : FiveTuple) → tuple_at 4 (a ∷ b ∷ c ∷ src ∷ dst ∷ proto ∷ sport ∷ dport ∷ others) ≡ Ok tuple
    → TupleBack src dst proto sport dport tuple
unfolding tuple_at field_at
tuple_back a b c src dst proto sport dport others tuple e =
    bound (or_place 4 (address_of src)) _ tuple (λ x is1 e1.
    bound (or_place 5 (address_of dst)) _ tuple (λ y is2 e2.
    bound (or_place 6 (result_ok (number_within 0 255 proto))) _ tuple (λ p is3 e3.
    bound (or_place 7 (result_ok (number_within 0 65535 sport))) _ tuple (λ s is4 e4.
    bound (or_place 8 (result_ok (number_within 0 65535 dport))) _ tuple (λ d is5 e5.
    subst (TupleBack src dst proto sport dport) (ok_is (record { src = x; dst = y; proto = p; sport = s; dport = d }) tuple e5)
    (five_back src dst proto sport dport x y p s d (placed 4 (address_of src) x is1) (placed 5 (address_of dst) y is2) (number_is 6 (number_within 0 255 proto) p is3)
    (number_is 7 (number_within 0 65535 sport) s is4) (number_is 8 (number_within 0 65535 dport) d is5))) e4) e3) e2) e1) e

module _ (moment kind number src dst proto sport dport len word : List ℕ) where
  -- The ten fields of a row.
  abbrev ten : Fields
  ten = moment ∷ kind ∷ number ∷ src ∷ dst ∷ proto ∷ sport ∷ dport ∷ len ∷ word ∷ []

  -- A text that begins with them as they are, and what stands behind the last one.
  module _ (text tail rest : List ℕ)
      (stands : IsPlain moment → AllPlain (kind ∷ number ∷ src ∷ dst ∷ proto ∷ sport ∷ dport ∷ len ∷ word ∷ [])
      → text ≡ moment ++ plain_end (kind ∷ number ∷ src ∷ dst ∷ proto ∷ sport ∷ dport ∷ len ∷ word ∷ []) tail)
      (ends : (w : ℕ) → number_within 0 4294967295 word ≡ Ok w → number_at_end 0 4294967295 (word ++ tail) ≡ Some (w, rest)) where
    -- Each of them is read.
    row_line : (m l w : ℕ) (target : Target) (tuple : FiveTuple) → number_within 0 (2 ^ 62) moment ≡ Ok m → TargetBack kind number target
        → TupleBack src dst proto sport dport tuple → number_within 1 65535 len ≡ Ok l → number_within 0 4294967295 word ≡ Ok w
        → row_until text ≡ Some (record { moment = m; target = target; packet = record { tuple = tuple; len = l; word = w } }, rest)
    unfolding row_until
    row_line m l w target tuple is at named is_len is_word =
        let plain : AllPlain (kind ∷ number ∷ src ∷ dst ∷ proto ∷ sport ∷ dport ∷ len ∷ word ∷ []) = (
          at.1.0,
          (
            at.1.1.0,
            (
              named.1.0,
              (
                named.1.1.0,
                (named.1.1.1.0, (named.1.1.1.1.0, (named.1.1.1.1.1.0, (number_plain 1 65535 len l is_len, (number_plain 0 4294967295 word w is_word, tt))))),
              ),
            ),
          ),
        ) in
        let behind : List ℕ = src ++ 44 ∷ (dst ++ 44 ∷ (proto ++ 44 ∷ (sport ++ 44 ∷ (dport ++ 44 ∷ (len ++ 44 ∷ (word ++ tail)))))) in
        rw (
          stands (number_plain 0 (2 ^ 62) moment m is) plain,
          number_back 44 0 (2 ^ 62) moment (kind ++ 44 ∷ (number ++ 44 ∷ behind)) m refl is,
          at.0 behind,
          named.0 (len ++ 44 ∷ (word ++ tail)),
          number_back 44 1 65535 len (word ++ tail) l refl is_len,
          ends w is_word,
        ) refl

    packet_line : (m : ℕ) (target : Target) (packet : Packet) → number_within 0 (2 ^ 62) moment ≡ Ok m → TargetBack kind number target
        → packet_at 4 ten ≡ Ok packet → row_until text ≡ Some (record { moment = m; target = target; packet = packet }, rest)
    unfolding packet_at field_at
    packet_line m target packet is at e =
        bound (tuple_at 4 ten) _ packet (λ tuple named e1.
        bound (or_place 9 (result_ok (number_within 1 65535 len))) _ packet (λ l is_len e2.
        bound (or_place 10 (result_ok (number_within 0 4294967295 word))) _ packet (λ w is_word e3.
        row_line m l w target tuple is at (tuple_back moment kind number src dst proto sport dport (len ∷ word ∷ []) tuple named)
        (number_is 9 (number_within 1 65535 len) l is_len) (number_is 10 (number_within 0 4294967295 word) w is_word)
        ∙ ap (λ (p : Packet). Some (record { moment = m; target = target; packet = p }, rest)) (ok_is (record { tuple = tuple; len = l; word = w }) packet e3)) e2) e1) e

    ten_line : (row : Row) → row_of ten ≡ Ok row → row_until text ≡ Some (row, rest)
    unfolding row_of field_at
    ten_line row e =
        bound (or_place 1 (result_ok (number_within 0 (2 ^ 62) moment))) _ row (λ m is e1.
        bound (target_at 2 ten) _ row (λ target at e2.
        bound (packet_at 4 ten) _ row (λ packet packed e3.
        packet_line m target packet (number_is 1 (number_within 0 (2 ^ 62) moment) m is)
        (target_back moment kind number (src ∷ dst ∷ proto ∷ sport ∷ dport ∷ len ∷ word ∷ []) target at) packed
        ∙ ap (λ (r : Row). Some (r, rest)) (ok_is (record { moment = m; target = target; packet = packet }) row e3)) e2) e1) e

  -- Their line, in either form.
  module _ (rest : List ℕ) (row : Row) (says : row_of ten ≡ Ok row) where
    feed_back : row_until (line_of ten ++ rest) ≡ Some (row, rest)
    feed_back = ten_line (line_of ten ++ rest) (10 ∷ rest) rest (λ plain more. line-is moment kind _ rest plain more) (λ w is. feed-end word rest w is) row says

    return_back : row_until (returned_line ten ++ rest) ≡ Some (row, rest)
    return_back = ten_line (returned_line ten ++ rest) (13 ∷ 10 ∷ rest) rest (λ plain more. return-is moment kind _ rest plain more) (λ w is. return-end word rest w is) row says

-- The line of a record that has a row, in either form, and what stands behind it.
abbrev IsBack : Fields → List ℕ → Row → Type 0
IsBack fields rest row = (row_until (line_of fields ++ rest) ≡ Some (row, rest)) × (row_until (returned_line fields ++ rest) ≡ Some (row, rest))

line_back : (fields : Fields) (rest : List ℕ) (row : Row) → row_of fields ≡ Ok row → IsBack fields rest row
unfolding row_of
line_back [] rest row e = cc e
line_back (a ∷ []) rest row e = cc e
line_back (a ∷ b ∷ []) rest row e = cc e
line_back (a ∷ b ∷ c ∷ []) rest row e = cc e
line_back (a ∷ b ∷ c ∷ d ∷ []) rest row e = cc e
line_back (a ∷ b ∷ c ∷ d ∷ f ∷ []) rest row e = cc e
line_back (a ∷ b ∷ c ∷ d ∷ f ∷ g ∷ []) rest row e = cc e
line_back (a ∷ b ∷ c ∷ d ∷ f ∷ g ∷ h ∷ []) rest row e = cc e
line_back (a ∷ b ∷ c ∷ d ∷ f ∷ g ∷ h ∷ i ∷ []) rest row e = cc e
line_back (a ∷ b ∷ c ∷ d ∷ f ∷ g ∷ h ∷ i ∷ j ∷ []) rest row e = cc e
line_back (a ∷ b ∷ c ∷ d ∷ f ∷ g ∷ h ∷ i ∷ j ∷ k ∷ []) rest row e = (feed_back a b c d f g h i j k rest row e, return_back a b c d f g h i j k rest row e)
line_back (a ∷ b ∷ c ∷ d ∷ f ∷ g ∷ h ∷ i ∷ j ∷ k ∷ l ∷ more) rest row e =
    let long : (length (a ∷ b ∷ c ∷ d ∷ f ∷ g ∷ h ∷ i ∷ j ∷ k ∷ l ∷ more) == 10) ≡ false = ne_eqb _ _ (λ same. omega arith) in
    let k = rw long at e in
    cc k

-- A text that begins with a row's line is read as that row.
pub row_back : (text rest : List ℕ) (row : Row) → BeginsRow text row rest → row_at_front text ≡ Some (row, rest)
unfolding row_at_front
row_back text rest row begins =
    let read : row_until text ≡ Some (row, rest) = elim begins.stands [
      | inl feed ↦ ap row_until feed ∙ (line_back begins.fields rest row begins.says).0
      | inr return ↦ ap row_until return ∙ (line_back begins.fields rest row begins.says).1
    ] in
    rw read refl
