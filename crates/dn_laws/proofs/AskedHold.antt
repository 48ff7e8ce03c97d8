-- The laws of what a line asks for hold.
use Rattle.std.proofs.Common.{All, Bool, Err, List, None, Ok, Option, Result, Some, [], ap, arith, codes, cond, decimal, false, get_or, inl, inr, ne_eqb, refl, subst, sym, true}
use Rattle.std.proofs.Common.{ℕ, ◌<◌, ◌==◌, ◌∙◌, ◌∷◌, ◌≡◌, ◌≢◌, ◌≤◌, ◌⊎◌}
use Rattle.std.proofs.lemmas.Bool.{and_parts, cases_Bool, or_parts}
use Rattle.std.proofs.lemmas.Bool.Decides.{nat_tests}
use Rattle.std.proofs.lemmas.List.Elements.{All-append, All-cons, All-head, All-nil, All-tail}
use Rattle.std.proofs.lemmas.List.Folds.{list_any_none}
use Rattle.std.proofs.lemmas.List.Splits.{join_with_byte-slice_split, slice_split_at, slice_split_none}
use Rattle.std.proofs.lemmas.Fmt.{decimal_is_IsNumeral}
use Rattle.std.specs.Char.{is_ascii_digit}
use Rattle.std.specs.List.{join_with_byte, list_all, onto_first, slice_split}
use Rattle.std.specs.Str.{is_utf8}
use Rattle.csv.specs.Records.{field_at}
use Rattle.dn_config.proofs.NumbersBack.{ascii_digits}
use Rattle.dn_config.specs.Line.{answer}
use Rattle.dn_config.specs.declared.fault.LineFault.{LineFault}
use Rattle.dn_files.specs.Fields.{column, is_form, is_name}
use Rattle.dn_history.proofs.CallsBack.{call_back}
use Rattle.dn_history.proofs.FieldsBack.{number_back}
use Rattle.dn_history.specs.EntryRecords.{call_record}
use Rattle.dn_history.specs.HistoryFile.{call_of}
use Rattle.dn_history.specs.HistoryRecords.{caller_of, is_call, plain_call}
use Rattle.dn_history.specs.Ranges.{IsCall}
use Rattle.dn_history.specs.declared.history_version.HistoryVersion.TheVariants.{Third}
use Rattle.dn_laws.proofs.FieldsRead.{name-read, number-read}
use Rattle.dn_laws.proofs.OnlyHistoriesHold.{call-form, in-record-is, plain-read}
use Rattle.dn_laws.proofs.RecordLawsHold.{call-is}
use Rattle.dn_laws.specs.HistoryRefusals.{IsAsked}
use Rattle.dn_laws.specs.RecordLaws.{Texts}
use Rattle.dn_laws.specs.SessionLaws.{CallsAreRead, IsBare, IsRecord, LinesAreAsked, OnlyCallsAreMade}
use Rattle.dn_live.specs.Asked.{asked, asked_by, asked_of, call_asked, command_in, configure_asked, is_asking, is_comment, plain_asked, records_in, said, typed_asked}
use Rattle.dn_live.specs.declared.asked.Asked.{Asked}
use Rattle.dn_live.specs.declared.asked.Asked.TheVariants.{Nothing, Next, Calls, Bad}
use Rattle.dn_live.specs.declared.cause.Cause.{Cause}
use Rattle.dn_live.specs.declared.cause.Cause.TheVariants.{NotText}
use Rattle.dn_records.specs.PlainLines.{has_quotes}
use Rattle.dn_records.specs.Records.{records_of}
use Rattle.dn_types.specs.declared.call.Call.{Call}
use Rattle.dn_types.specs.declared.call.Call.TheVariants as c
use Rattle.dn_types.specs.declared.command.Command.{Command}

abbrev pieces : List ℕ → Texts
pieces line = slice_split (λ b. b == 44) line

bare-none : (line : List ℕ) → IsBare line → has_quotes line ≡ false
bare-none line h =
    let quotes = list_any_none (λ b. b == 34) line (λ k d lt. ne_eqb (get_or line k d) 34 (h k d lt).0) in
    let returns = list_any_none (λ b. b == 13) line (λ k d lt. ne_eqb (get_or line k d) 13 (h k d lt).1) in
    rw (quotes, returns) refl

by-pieces : (line : List ℕ) → is_comment line ≡ false → has_quotes line ≡ false → asked line ≡ asked_by line (pieces line)
unfolding asked records_in
by-pieces line plain none = rw (plain, none) refl

-- ---- Configuration lines

onto-begins : (b : ℕ) (parts : Texts) → (more : List ℕ) × (column 1 (onto_first b parts) ≡ b ∷ more)
unfolding field_at
onto-begins b [] = ([], refl)
onto-begins b (part ∷ parts) = (part, refl)

begins : (b : ℕ) (line : List ℕ) → (column 1 (pieces (b ∷ line)) ≡ []) ⊎ ((more : List ℕ) × (column 1 (pieces (b ∷ line)) ≡ b ∷ more))
unfolding field_at
begins b line = elim (cases_Bool (b == 44)) [ inl comma ↦ rw comma (inl refl) | inr other ↦ rw other (inr (onto-begins b (pieces line))) ]

heads : (a b : ℕ) (xs ys : List ℕ) → a ∷ xs ≡ b ∷ ys → a ≡ b
heads a b xs ys e = cc

not-named : (b first : ℕ) (line name : List ℕ) → b ≢ first → is_name 1 (pieces (b ∷ line)) (first ∷ name) ≡ false
not-named b first line name other = elim (cases_Bool (is_name 1 (pieces (b ∷ line)) (first ∷ name))) [
  | inl named ↦
      let is = name-read 1 (pieces (b ∷ line)) (first ∷ name) named in
      elim (begins b line) [
        | inl none ↦ let never : ◌≡◌ {A = List ℕ} [] (first ∷ name) = sym none ∙ is in absurd (cc)
        | inr some ↦ absurd (other (heads b first (some.0) name (sym some.1 ∙ is)))
      ]
  | inr never ↦ never
]

typed-is : (b : ℕ) (line : List ℕ) → b ≢ 35 → b ≢ 99 → b ≢ 110 → IsBare (b ∷ line) → is_utf8 (b ∷ line) ≡ true → asked (b ∷ line) ≡ typed_asked (said (answer (b ∷ line)))
unfolding asked_by
typed-is b line hash c n bare text =
    let plain = ne_eqb b 35 hash in
    let no_call = not-named b 99 line [] c in
    let no_next = not-named b 110 line (codes "ext") n in
    by-pieces (b ∷ line) plain (bare-none (b ∷ line) bare) ∙ rw (no_call, no_next, text) refl

pub lines-are-asked : LinesAreAsked
unfolding asked asked_by records_in field_at
lines-are-asked = record {
  comments = λ line. refl;
  next = refl;
  typed = λ b line hash c n bare text. (let is = typed-is b line hash c n bare text in record {
    command = λ command e. is ∙ ap (λ (r : Result (Option Command) LineFault). typed_asked (said r)) e;
    nothing = λ e. is ∙ ap (λ (r : Result (Option Command) LineFault). typed_asked (said r)) e;
    fault = λ fault e. is ∙ ap (λ (r : Result (Option Command) LineFault). typed_asked (said r)) e;
  });
}

-- ---- Which calls are made

cond-is : (b : Bool) (x y z : Asked) → cond b x y ≡ z → ((b ≡ true) × (x ≡ z)) ⊎ ((b ≡ false) × (y ≡ z))
cond-is true x y z e = inl (refl, e)
cond-is false x y z e = inr (refl, e)

module _ (line : List ℕ) (caller : ℕ) (call : Call) where
  abbrev Typed : Type 0
  Typed = (command : Command) × (caller ≡ 0) × (call ≡ c.Configure command) × (answer line ≡ Ok (Some command))

  said-is : (text : List ℕ) (command : Command) → command_in text ≡ Ok (Some command) → answer text ≡ Ok (Some command)
  said-is text command e = by (is_utf8 text) (answer text) e
    where
      by : (b : Bool) (r : Result (Option Command) LineFault) → cond b (said r) (Err NotText) ≡ Ok (Some command) → r ≡ Ok (Some command)
      by true (Ok o) e = cc
      by true (Err fault) e = absurd (cc)
      by false r e = absurd (cc)

  typed-made : (r : Result (Option Command) Cause) → command_in line ≡ r → typed_asked r ≡ Calls caller call → Typed
  typed-made (Ok (Some command)) is e = (command, cc, cc, said-is line command is)
  typed-made (Ok None) is e = absurd (cc)
  typed-made (Err cause) is e = absurd (cc)

  abbrev Recorded : Texts → Type 0
  Recorded fields = (told : Texts) × (caller < 16) × IsAsked call told × (fields ≡ codes "c" ∷ decimal caller ∷ told)

  configured : (fields : Texts) (n : ℕ) (r : Result (Option Command) Cause) → command_in (column 4 fields) ≡ r → is_call (codes "configure") 4 fields ≡ true → column 2 fields ≡ decimal n → n ≤ 15
      → configure_asked n r ≡ Calls caller call → Recorded fields
  configured fields n (Ok (Some command)) is form second few e =
      let own : n ≡ caller = cc in
      let made : c.Configure command ≡ call = cc in
      let f = call-form (codes "configure") 4 fields form in
      subst (λ (x : Call). (told : Texts) × (caller < 16) × IsAsked x told × (fields ≡ codes "c" ∷ decimal caller ∷ told)) made (
        codes "configure" ∷ column 4 fields ∷ [],
        omega (arith, few, own),
        (column 4 fields, said-is (column 4 fields) command is, refl),
        f.2 ∙ (λ i. f.0 i ∷ (second ∙ ap decimal own) i ∷ f.1 i ∷ column 4 fields ∷ []),
      )
  configured fields n (Ok None) is form second few e = absurd (cc)
  configured fields n (Err cause) is form second few e = absurd (cc)

  plainly : (fields : Texts) (n : ℕ) (r : Result Call ℕ) → plain_call fields ≡ r → column 2 fields ≡ decimal n → n ≤ 15 → plain_asked n r ≡ Calls caller call → Recorded fields
  plainly fields n (Ok x) is second few e =
      let own : n ≡ caller = cc in
      let made : x ≡ call = cc in
      let read = plain-read fields call (is ∙ ap (λ (y : Call). Ok y) made) in
      (read.0, omega (arith, few, own), read.1, read.2 caller (second ∙ ap decimal own))
  plainly fields n (Err place) is second few e = absurd (cc)

  called-by : (fields : Texts) (r : Result ℕ ℕ) → caller_of fields ≡ r → call_asked fields r ≡ Calls caller call → Recorded fields
  called-by fields (Ok n) is e =
      let number = number-read 2 0 15 n fields (omega arith) is in
      elim (cond-is (is_call (codes "configure") 4 fields) (configure_asked n (command_in (column 4 fields))) (plain_asked n (plain_call fields)) (Calls caller call) e) [
        | inl h ↦ configured fields n (command_in (column 4 fields)) refl h.0 number.0 number.2 h.1
        | inr h ↦ plainly fields n (plain_call fields) refl number.0 number.2 h.1
      ]
  called-by fields (Err place) is e = absurd (cc)

  asked-made : (fields : Texts) → asked_by line fields ≡ Calls caller call → ((is_name 1 fields (codes "c") ≡ true) × Recorded fields) ⊎ Typed
  unfolding asked_by
  asked-made fields e =
      elim (cond-is (is_name 1 fields (codes "c")) (call_asked fields (caller_of fields)) (cond (is_form 1 (codes "next") 1 fields) Next (typed_asked (command_in line))) (Calls caller call) e) [
        | inl h ↦ inl (h.0, called-by fields (caller_of fields) refl h.1)
        | inr h ↦ elim (cond-is (is_form 1 (codes "next") 1 fields) Next (typed_asked (command_in line)) (Calls caller call) (h.1)) [
          | inl k ↦ let never = k.1 in absurd (cc)
          | inr k ↦ inr (typed-made (command_in line) refl k.1)
        ]
      ]

  abbrev Made : Type 0
  Made = ((told : Texts) × (caller < 16) × IsAsked call told × IsRecord line (codes "c" ∷ decimal caller ∷ told)) ⊎ Typed

  made-of : (records : List Texts) → ((fields : Texts) → records ≡ fields ∷ [] → IsRecord line fields) → asked_of line records ≡ Calls caller call → Made
  unfolding field_at
  made-of [] is e = elim (asked-made [] e) [ inl h ↦ (let never : ◌≡◌ {A = List ℕ} [] (codes "c") = name-read 1 [] (codes "c") h.0 in absurd (cc)) | inr h ↦ inr h ]
  made-of (fields ∷ []) is e = elim (asked-made fields e) [
    | inl h ↦ inl (h.1.0, h.1.1, h.1.2, subst (IsRecord line) h.1.3 (is fields refl))
    | inr h ↦ inr h
  ]
  made-of (fields ∷ more ∷ rest) is e = elim (cond-is (is_asking fields) (Bad _) (asked_by line fields) (Calls caller call) e) [
    | inl h ↦ let never = h.1 in absurd (cc)
    | inr h ↦ elim (asked-made fields h.1) [
      | inl k ↦ let never = (or_parts (is_name 1 fields (codes "c")) (is_form 1 (codes "next") 1 fields) h.0).0 in let named = k.0 in absurd (cc)
      | inr k ↦ inr k
    ]
  ]

record-is : (line : List ℕ) (b : Bool) (fields : Texts) → cond b (records_of line) (pieces line ∷ []) ≡ fields ∷ [] → IsRecord line fields
record-is line true fields e = inl e
record-is line false fields e = let same : pieces line ≡ fields = cc in inr (sym (join_with_byte-slice_split 44 line) ∙ ap (join_with_byte 44) same)

pub only-calls-are-made : OnlyCallsAreMade
unfolding asked records_in
only-calls-are-made line caller call e = elim (cond-is (is_comment line) Nothing (asked_of line (records_in line)) (Calls caller call) e) [
  | inl h ↦ let never = h.1 in absurd (cc)
  | inr h ↦ made-of line caller call (records_in line) (λ fields is. record-is line (has_quotes line) fields is) h.1
]

-- ---- Records of calls

abbrev IsField : List ℕ → Type 0
IsField field = IsBare field × All (λ b. b ≢ 44) field

split-back : (first : List ℕ) (fields : Texts) → All IsField (first ∷ fields) → pieces (join_with_byte 44 (first ∷ fields)) ≡ first ∷ fields
split-back first [] h = slice_split_none (λ b. b == 44) first (λ k d lt. ne_eqb (get_or first k d) 44 ((All-head IsField first [] h).1 k d lt))
split-back first (second ∷ fields) h =
    slice_split_at (λ b. b == 44) first 44 (join_with_byte 44 (second ∷ fields)) (λ k d lt. ne_eqb (get_or first k d) 44 ((All-head IsField first (second ∷ fields) h).1 k d lt)) refl
    ∙ ap (λ (fs : Texts). first ∷ fs) (split-back second fields (All-tail IsField first (second ∷ fields) h))

bare-join : (first : List ℕ) (fields : Texts) → All IsField (first ∷ fields) → IsBare (join_with_byte 44 (first ∷ fields))
bare-join first [] h = (All-head IsField first [] h).0
bare-join first (second ∷ fields) h =
    All-append (λ b. (b ≢ 34) × (b ≢ 13)) first (44 ∷ join_with_byte 44 (second ∷ fields)) (All-head IsField first (second ∷ fields) h).0
    (All-cons (λ b. (b ≢ 34) × (b ≢ 13)) 44 (join_with_byte 44 (second ∷ fields)) (λ e. absurd (omega (arith, e)), λ e. absurd (omega (arith, e)))
    (bare-join second fields (All-tail IsField first (second ∷ fields) h)))

digits-field : (ds : List ℕ) → list_all is_ascii_digit ds ≡ true → IsField ds
digits-field [] e = (All-nil (λ b. (b ≢ 34) × (b ≢ 13)), All-nil (λ b. b ≢ 44))
digits-field (d ∷ ds) e =
    let both = and_parts (is_ascii_digit d) (list_all is_ascii_digit ds) e in
    let above = least d both.0 in
    let rest = digits-field ds both.1 in
    (All-cons (λ b. (b ≢ 34) × (b ≢ 13)) d ds (λ is. absurd (omega (arith, above, is)), λ is. absurd (omega (arith, above, is))) rest.0, All-cons (λ b. b ≢ 44) d ds (λ is. absurd (omega (arith, above, is))) rest.1)
  where
    least : (d : ℕ) → is_ascii_digit d ≡ true → 48 ≤ d
    least d e = grind (arith, nat_tests)

said-call : (caller : ℕ) (call : Call) (told : Texts) → caller < 16 → IsCall call → IsAsked call told → All (λ field. is_utf8 field ≡ true) told
    → call_asked (codes "c" ∷ decimal caller ∷ told) (Ok caller) ≡ Calls caller call
unfolding field_at call_of
said-call caller (c.Configure command) told few h (line, is, e) text =
    let one : All (λ field. is_utf8 field ≡ true) (codes "configure" ∷ line ∷ []) = subst (λ (t : Texts). All (λ field. is_utf8 field ≡ true) t) e text in
    let utf8 : is_utf8 line ≡ true = All-head (λ field. is_utf8 field ≡ true) line [] (All-tail (λ field. is_utf8 field ≡ true) (codes "configure") (line ∷ []) one) in
    subst (λ (t : Texts). call_asked (codes "c" ∷ decimal caller ∷ t) (Ok caller) ≡ Calls caller (c.Configure command)) (sym e) (rw (utf8, is) refl)
said-call caller call told few h e text =
    let plain : plain_call (call_record caller call) ≡ Ok call = in-record-is 1 (plain_call (call_record caller call)) call (call_back Third 1 caller call refl h) in
    subst (λ (t : Texts). call_asked (codes "c" ∷ decimal caller ∷ t) (Ok caller) ≡ Calls caller call) (call-is call ∙ sym e) (rw plain refl)

pub calls-are-read : CallsAreRead
unfolding asked_by field_at
calls-are-read caller call told few h is all =
    let fields : Texts = codes "c" ∷ decimal caller ∷ told in
    let others : All IsField told = λ k d lt. ((all k d lt).0, (all k d lt).1) in
    let number : IsField (decimal caller) = digits-field (decimal caller) (ascii_digits (decimal caller) (decimal_is_IsNumeral caller (omega (arith, few))).0.1) in
    let letter : IsField (codes "c") = (
      All-cons (λ b. (b ≢ 34) × (b ≢ 13)) 99 [] (λ e. absurd (omega (arith, e)), λ e. absurd (omega (arith, e))) (All-nil (λ b. (b ≢ 34) × (b ≢ 13))),
      All-cons (λ b. b ≢ 44) 99 [] (λ e. absurd (omega (arith, e))) (All-nil (λ b. b ≢ 44)),
    ) in
    let each : All IsField fields = All-cons IsField (codes "c") (decimal caller ∷ told) letter (All-cons IsField (decimal caller) told number others) in
    let by : caller_of fields ≡ Ok caller = number_back 2 0 15 caller fields refl (omega (arith, few)) (omega arith) (omega (arith, few)) in
    by-pieces (join_with_byte 44 fields) refl (bare-none (join_with_byte 44 fields) (bare-join (codes "c") (decimal caller ∷ told) each))
    ∙ ap (asked_by (join_with_byte 44 fields)) (split-back (codes "c") (decimal caller ∷ told) each)
    ∙ rw by (said-call caller call told few h is (λ k d lt. (all k d lt).2))
