-- The records of a Submit, of an accepted packet and of a delivery, where their lines are written plainly.
use Rattle.dn_history.proofs.Words.{BeginsCall, BeginsDelivery, BeginsFields, BeginsLine, BeginsReply, BeginsTarget, BeginsTuple, Call, Delivery, Fields, First, FiveTuple, HistoryVersion, IsPlain}
use Rattle.dn_history.proofs.Words.{List, Live, None, Ok, Opens, Option, Queued, Reply, Rest, Result, Second, Some, Submit, Target, Third, [], address_of, answered, ap, arith, bytes_eq, call_of}
use Rattle.dn_history.proofs.Words.{cases_Bool, codes, delivery_item, digits-write, end_parts, entry_by, entry_from, false, field-begins, field_at, fields-then, has_remarks, inl, inr, is_remark}
use Rattle.dn_history.proofs.Words.{item_from, length, line-begins, line-reads, next_record, number-field, number_at_end, number_parts, number_until, number_within, or_place, packet_at}
use Rattle.dn_history.proofs.Words.{plain-writes, plain_call, plain_reply, queued_of, records_after, refl, reply_by, reply_from, result_ok, submit_of, subst, sym, target_at, timed_reply, tuple_at}
use Rattle.dn_history.proofs.Words.{ℕ, ◌++◌, ◌+◌, ◌<◌, ◌>>=◌, ◌^◌, ◌∙◌, ◌∷◌, ◌≡◌}
use Rattle.csv.specs.declared.parser.State.TheVariants as st
use Rattle.dn_config.specs.Tokens.Numbers.{digits}
use Rattle.dn_history.proofs.Remarks.{ahead_plain}

-- What is read of a field is the same at another place, where there is no fault.
moved : {A B : Type 0} (p q : ℕ) (o : Option A) (f g : A → Result B ℕ) (v : B) → (or_place p o >>= f) ≡ Ok v → ((x : A) → f x ≡ Ok v → g x ≡ Ok v) → (or_place q o >>= g) ≡ Ok v
moved p q None f g v e more = cc e
moved p q (Some x) f g v e more = more x e

target-moves : (a b c kind number : List ℕ) (others : Fields) (target : Target) → target_at 2 (c ∷ kind ∷ number ∷ others) ≡ Ok target
    → target_at 4 (a ∷ b ∷ c ∷ kind ∷ number ∷ others) ≡ Ok target
unfolding target_at field_at
target-moves a b c kind number others target e = elim (cases_Bool (bytes_eq kind (codes "pipe"))) [
  | inl pipe ↦ let k = rw pipe at e in rw pipe (moved 3 5 (result_ok (number_within 1 65535 number)) _ _ target k (λ n is. is))
  | inr other ↦ elim (cases_Bool (bytes_eq kind (codes "queue"))) [
    | inl queue ↦ let k = rw (other, queue) at e in rw (other, queue) (moved 3 5 (result_ok (number_within 1 65535 number)) _ _ target k (λ n is. is))
    | inr neither ↦ let k = rw (other, neither) at e in cc k
  ]
]

tuple-moves : (a b c d f src dst proto sport dport : List ℕ) (others : Fields) (tuple : FiveTuple) → tuple_at 4 (c ∷ d ∷ f ∷ src ∷ dst ∷ proto ∷ sport ∷ dport ∷ others) ≡ Ok tuple
    → tuple_at 6 (a ∷ b ∷ c ∷ d ∷ f ∷ src ∷ dst ∷ proto ∷ sport ∷ dport ∷ others) ≡ Ok tuple
unfolding tuple_at field_at
tuple-moves a b c d f src dst proto sport dport others tuple e =
    moved 4 6 (address_of src) _ _ tuple e (λ n1 e1. moved 5 7 (address_of dst) _ _ tuple e1 (λ n2 e2. moved 6 8 (result_ok (number_within 0 255 proto)) _ _ tuple e2
    (λ n3 e3. moved 7 9 (result_ok (number_within 0 65535 sport)) _ _ tuple e3 (λ n4 e4. moved 8 10 (result_ok (number_within 0 65535 dport)) _ _ tuple e4 (λ n5 e5. e5)))))

-- A word and a comma are a field.
word : (text rest name : List ℕ) → text ≡ name ++ 44 ∷ rest → IsPlain name → BeginsFields text (name ∷ []) rest
word text rest name stands plain = field-begins text name name rest stands (plain-writes name plain)

-- The last number of a line.
ends : (text last rest : List ℕ) (least greatest n : ℕ) (fields : Fields) → BeginsFields text fields last → number_at_end least greatest last ≡ Some (n, rest) → Opens text
    → BeginsLine text (fields ++ digits last ∷ []) rest
ends text last rest least greatest n fields begins is opens = line-begins text last fields (digits last) (digits last) rest begins (end_parts least greatest last n rest is).0 (digits-write last) opens

pub submit_begins : (text t1 t2 t3 t4 t5 t6 t7 rest : List ℕ) (caller len word_is moment : ℕ) (target : Target) (tuple : FiveTuple) → text ≡ codes "c," ++ t1
    → number_until 44 0 15 t1 ≡ Some (caller, t2)
    → t2 ≡ codes "submit," ++ t3 → BeginsTarget t3 target t4 → BeginsTuple t4 tuple t5 → number_until 44 1 65535 t5 ≡ Some (len, t6) → number_until 44 0 4294967295 t6 ≡ Some (word_is, t7)
    → number_at_end 0 (2 ^ 62) t7 ≡ Some (moment, rest) → BeginsCall text caller (Submit target (record { tuple = tuple; len = len; word = word_is }) moment) rest
unfolding call_of plain_call submit_of packet_at field_at
submit_begins text t1 t2 t3 t4 t5 t6 t7 rest caller len word_is moment target tuple e0 e1 e2 at named e3 e4 e5 =
    let is1 = (number_parts 44 0 15 t1 caller t2 e1).1 in
    let is3 = (number_parts 44 1 65535 t5 len t6 e3).1 in
    let is4 = (number_parts 44 0 4294967295 t6 word_is t7 e4).1 in
    let is5 = (end_parts 0 (2 ^ 62) t7 moment rest e5).1 in
    let numbers : Fields = digits t5 ∷ digits t6 ∷ digits t7 ∷ [] in
    let middle : Fields = digits t1 ∷ codes "submit" ∷ at.kind ∷ at.number ∷ named.src ∷ named.dst ∷ named.proto ∷ named.sport ∷ named.dport ∷ digits t5 ∷ digits t6 ∷ [] in
    let all : BeginsFields text (codes "c" ∷ middle) t7 =
    fields-then text (codes "c" ∷ []) _ t1 t7 (word text t1 (codes "c") e0 refl) (fields-then t1 (digits t1 ∷ []) _ t2 t7 (number-field t1 t2 0 15 caller e1)
    (fields-then t2 (codes "submit" ∷ []) _ t3 t7 (word t2 t3 (codes "submit") e2 refl) (fields-then t3 (at.kind ∷ at.number ∷ []) _ t4 t7 at.fields
    (fields-then t4 (named.src ∷ named.dst ∷ named.proto ∷ named.sport ∷ named.dport ∷ []) _ t5 t7 named.fields
    (fields-then t5 (digits t5 ∷ []) _ t6 t7 (number-field t5 t6 1 65535 len e3) (number-field t6 t7 0 4294967295 word_is e4)))))) in
    let target_is = target-moves (codes "c") (digits t1) (codes "submit") at.kind at.number (named.src ∷ named.dst ∷ named.proto ∷ named.sport ∷ named.dport ∷ numbers) target
    (at.says (codes "submit") (named.src ∷ named.dst ∷ named.proto ∷ named.sport ∷ named.dport ∷ numbers)) in
    let tuple_is = tuple-moves (codes "c") (digits t1) (codes "submit") at.kind at.number named.src named.dst named.proto named.sport named.dport numbers tuple
    (named.says (codes "submit") at.kind at.number numbers) in
    record {
      others = digits t1 ∷ codes "submit" ∷ at.kind ∷ at.number ∷ named.src ∷ named.dst ∷ named.proto ∷ named.sport ∷ named.dport ∷ numbers;
      line = ends text t7 rest 0 (2 ^ 62) moment (codes "c" ∷ middle) all e5 (subst Opens (sym e0) (refl, refl));
      says_caller = rw is1 refl;
      says_call = λ version number. rw (target_is, tuple_is, is3, is4, is5) refl;
    }

pub queued_begins : (text t1 t2 t3 rest : List ℕ) (at flow packet : ℕ) → text ≡ codes "r,queued," ++ t1 → number_until 44 0 18446744073709551615 t1 ≡ Some (at, t2)
    → number_until 44 0 18446744073709551615 t2 ≡ Some (flow, t3) → number_at_end 0 18446744073709551615 t3 ≡ Some (packet, rest) → BeginsReply text (Queued at flow packet) rest
unfolding reply_by plain_reply timed_reply queued_of field_at
queued_begins text t1 t2 t3 rest at flow packet e0 e1 e2 e3 =
    let is1 = (number_parts 44 0 18446744073709551615 t1 at t2 e1).1 in
    let is2 = (number_parts 44 0 18446744073709551615 t2 flow t3 e2).1 in
    let is3 = (end_parts 0 18446744073709551615 t3 packet rest e3).1 in
    let middle : Fields = codes "queued" ∷ digits t1 ∷ digits t2 ∷ [] in
    let names : BeginsFields text (codes "r" ∷ codes "queued" ∷ []) t1 =
    record { written = codes "r" ∷ codes "queued" ∷ []; stands = e0; all = (plain-writes (codes "r") refl, (plain-writes (codes "queued") refl, tt)) } in
    let all : BeginsFields text (codes "r" ∷ middle) t3 =
    fields-then text (codes "r" ∷ codes "queued" ∷ []) _ t1 t3 names (fields-then t1 (digits t1 ∷ []) _ t2 t3 (number-field t1 t2 0 18446744073709551615 at e1)
    (number-field t2 t3 0 18446744073709551615 flow e2)) in
    record {
      others = codes "queued" ∷ digits t1 ∷ digits t2 ∷ digits t3 ∷ [];
      line = ends text t3 rest 0 18446744073709551615 packet (codes "r" ∷ middle) all e3 (subst Opens (sym e0) (refl, refl));
      says = says is1 is2 is3;
    }
  where
    says : number_within 0 18446744073709551615 (digits t1) ≡ Ok at → number_within 0 18446744073709551615 (digits t2) ≡ Ok flow → number_within 0 18446744073709551615 (digits t3) ≡ Ok packet
        → (version : HistoryVersion) (number : ℕ) (left : Rest) → reply_by version number (codes "r" ∷ codes "queued" ∷ digits t1 ∷ digits t2 ∷ digits t3 ∷ []) left ≡ Ok (Queued at flow packet, left)
    says is1 is2 is3 First number left = rw (is1, is2, is3) refl
    says is1 is2 is3 Second number left = rw (is1, is2, is3) refl
    says is1 is2 is3 Third number left = rw (is1, is2, is3) refl
    says is1 is2 is3 Live number left = rw (is1, is2, is3) refl

pub delivery_begins : (text t1 t2 t3 t4 rest : List ℕ) (packet flow start due : ℕ) → text ≡ codes "d," ++ t1 → number_until 44 0 18446744073709551615 t1 ≡ Some (packet, t2)
    → number_until 44 0 18446744073709551615 t2 ≡ Some (flow, t3) → number_until 44 0 18446744073709551615 t3 ≡ Some (start, t4) → number_at_end 0 18446744073709551615 t4 ≡ Some (due, rest)
    → BeginsDelivery text (record { due = due; packet = packet; flow = flow; start = start }) rest
unfolding delivery_item field_at
delivery_begins text t1 t2 t3 t4 rest packet flow start due e0 e1 e2 e3 e4 =
    let is1 = (number_parts 44 0 18446744073709551615 t1 packet t2 e1).1 in
    let is2 = (number_parts 44 0 18446744073709551615 t2 flow t3 e2).1 in
    let is3 = (number_parts 44 0 18446744073709551615 t3 start t4 e3).1 in
    let is4 = (end_parts 0 18446744073709551615 t4 due rest e4).1 in
    let middle : Fields = digits t1 ∷ digits t2 ∷ digits t3 ∷ [] in
    let all : BeginsFields text (codes "d" ∷ middle) t4 =
    fields-then text (codes "d" ∷ []) _ t1 t4 (word text t1 (codes "d") e0 refl) (fields-then t1 (digits t1 ∷ []) _ t2 t4 (number-field t1 t2 0 18446744073709551615 packet e1)
    (fields-then t2 (digits t2 ∷ []) _ t3 t4 (number-field t2 t3 0 18446744073709551615 flow e2) (number-field t3 t4 0 18446744073709551615 start e3))) in
    record {
      others = digits t1 ∷ digits t2 ∷ digits t3 ∷ digits t4 ∷ [];
      line = ends text t4 rest 0 18446744073709551615 due (codes "d" ∷ middle) all e4 (subst Opens (sym e0) (refl, refl));
      says = rw (is1, is2, is3, is4) refl;
    }

-- The records of a text that begins with the line of a record.
module _ (records new : List Fields) (text rest field : List ℕ) (others : Fields) (is : records ≡ records_after st.StartRecord text)
    (line : BeginsLine text (field ∷ others) rest) (goes : new ≡ records_after st.StartRecord rest) where
  pub one-record : records ≡ (field ∷ others) ∷ new
  one-record = is ∙ line-reads text (field ∷ others) rest line ∙ ap (λ (t : List Fields). (field ∷ others) ∷ t) (sym goes)

  pub one-counted : length records ≡ length new + 1
  one-counted = rw one-record (omega arith)

  pub one-fewer : length new < length records
  one-fewer = omega (arith, one-counted)

-- The record of a call is no remark.
call-unremarked : (others : Fields) → is_remark (codes "c" ∷ others) ≡ false
unfolding field_at
call-unremarked others = refl

-- What is read of the records that are left, where the first is that of a call, of a reply, or of a delivery.
pub call-taken : (records new : List Fields) (text rest : List ℕ) (caller : ℕ) (call : Call) → records ≡ records_after st.StartRecord text → BeginsCall text caller call rest
    → new ≡ records_after st.StartRecord rest → (number count : ℕ) (version : HistoryVersion)
    → entry_from version count (record { number = number; records = records }) ≡ answered version caller call (record { number = number + 1; records = new })
unfolding entry_from entry_by next_record field_at
call-taken records new text rest caller call is asked goes number count version =
    let plain = ahead_plain (has_remarks version) (codes "c" ∷ asked.others) new (call-unremarked asked.others) in
    rw (one-record records new text rest (codes "c") asked.others is asked.line goes, plain) (rw (asked.says_caller, asked.says_call version number) refl)

pub reply-taken : (records new : List Fields) (text rest : List ℕ) (reply : Reply) → records ≡ records_after st.StartRecord text → BeginsReply text reply rest
    → new ≡ records_after st.StartRecord rest → (number : ℕ) (version : HistoryVersion)
    → reply_from version (record { number = number; records = records }) ≡ Ok (reply, record { number = number + 1; records = new })
unfolding reply_from next_record
reply-taken records new text rest reply is answers goes number version =
    rw (one-record records new text rest (codes "r") answers.others is answers.line goes)
    (rw (answers.says version number (record { number = number + 1; records = new })) refl)

pub delivery-taken : (records new : List Fields) (text rest : List ℕ) (delivery : Delivery) → records ≡ records_after st.StartRecord text → BeginsDelivery text delivery rest
    → new ≡ records_after st.StartRecord rest → (number : ℕ)
    → item_from delivery_item (record { number = number; records = records }) ≡ Ok (delivery, record { number = number + 1; records = new })
unfolding item_from next_record
delivery-taken records new text rest delivery is listed goes number =
    rw (one-record records new text rest (codes "d") listed.others is listed.line goes) (rw listed.says refl)
