-- A record with too many fields is a bad one, whatever they hold and wherever it stands.
use Rattle.dn_history.proofs.Words.{BadRecord, Bool, Err, Fields, First, HistoryVersion, IsFaultOf, List, Live, Ok, ReplayFault, Rest, Result, Second, Third, and-false, ap, arith, between}
use Rattle.dn_history.proofs.Words.{call_of, caller_of, carried, cases_Bool, codes, delivery_item, entry_by, entry_from, false, has_deletes, history_from, in_record, inl, inr, is_call}
use Rattle.dn_history.proofs.Words.{is_delete_reply, is_form, is_name, is_reply, item_from, length, live_of, narrow, narrow_record, nat_lt, nat_tests, ne_eqb, next_record, plain_call, plain_reply}
use Rattle.dn_history.proofs.Words.{refl, reply_by, reply_from, status_item, status_width, timed_reply, too_many, version_of, ℕ, ◌&&◌, ◌<◌, ◌>>=◌, ◌∙◌, ◌≡◌, ◌≤◌}
use Rattle.dn_history.specs.RecordsLeft.{Read}

err_eq : {A : Type 0} (f g : ReplayFault) → ◌≡◌ {A = Result A ReplayFault} (Err f) (Err g) → f ≡ g
err_eq f g e = cc

err_ok : {A : Type 0} (x : A) (f : ReplayFault) → ◌≡◌ {A = Result A ReplayFault} (Ok x) (Err f) → ⊥
err_ok x f e = cc e

-- A reading that begins with the next record has the fault of that, and a bad record where it has too many fields.
module _ {A : Type 0} (rest : Rest) (whole : Result A ReplayFault) (missing : (f : ReplayFault) → next_record rest ≡ Err f → whole ≡ Err f)
    (wide : (first : Fields × Rest) → next_record rest ≡ Ok first → too_many ≤ length first.0 → whole ≡ Err (BadRecord rest.number)) where
  narrowed : (o : Read Fields) → next_record rest ≡ o → (f : ReplayFault) → narrow rest.number o ≡ Err f → whole ≡ Err f
  narrowed (Err fault) is f e = missing f (is ∙ e)
  narrowed (Ok first) is f e = elim (cases_Bool (nat_lt (length first.0) too_many)) [
    | inl few ↦ let k = rw few at e in absurd (err_ok first f k)
    | inr many ↦
        let k = rw many at e in
        let long : too_many ≤ length first.0 = grind (arith, nat_tests) in
        wide first is long ∙ ap (λ (g : ReplayFault). Err g) (err_eq (BadRecord rest.number) f k)
  ]

  from-narrow : (fault : ReplayFault) → IsFaultOf (narrow_record rest) fault → IsFaultOf whole fault
  unfolding narrow_record
  from-narrow fault is = carried (narrow_record rest) whole fault (λ f e. narrowed (next_record rest) refl f e) is

module _ (fields : Fields) (many : too_many ≤ length fields) where
  -- It has no form.
  wide-form : (place : ℕ) (name : List ℕ) (count : ℕ) → count < too_many → is_form place name count fields ≡ false
  wide-form place name count few =
      ap (λ (b : Bool). is_name place fields name && b) (ne_eqb (length fields) count (λ e. omega (arith, e, many, few))) ∙ and-false (is_name place fields name)

  wide-call : (name : List ℕ) (count : ℕ) → count < too_many → is_call name count fields ≡ false
  wide-call name count few = ap (λ (b : Bool). is_name 1 fields (codes "c") && b) (wide-form 3 name count few) ∙ and-false (is_name 1 fields (codes "c"))

  wide-name : (name : List ℕ) (count : ℕ) → count < too_many → is_reply name count fields ≡ false
  wide-name name count few = ap (λ (b : Bool). is_name 1 fields (codes "r") && b) (wide-form 2 name count few) ∙ and-false (is_name 1 fields (codes "r"))

  wide-delete : (version : HistoryVersion) (name : List ℕ) → is_delete_reply version name fields ≡ false
  wide-delete version name = ap (λ (b : Bool). has_deletes version && b) (wide-name name 2 (omega arith)) ∙ and-false (has_deletes version)

  wide-version : version_of fields ≡ Err 1
  unfolding version_of live_of
  wide-version = rw (wide-form 1 (codes "dummynet-history") 2 (omega arith), wide-form 1 (codes "dummynet-live") 2 (omega arith)) refl

  wide-plain : plain_call fields ≡ Err 3
  unfolding plain_call
  wide-plain =
      rw (wide-call (codes "submit") 13 (omega arith), wide-call (codes "advance") 4 (omega arith), wide-call (codes "collect") 4 (omega arith), wide-call (codes "show") 3 (omega arith)) refl

  bad-behind : {A B : Type 0} (number : ℕ) (read : Result A ℕ) → ◌≡◌ {A = Result B ReplayFault} (in_record number read >>= λ value. Err (BadRecord number)) (Err (BadRecord number))
  bad-behind number (Ok value) = refl
  bad-behind number (Err place) = refl

  wide-of : (version : HistoryVersion) (number : ℕ) → call_of version number fields ≡ Err (BadRecord number)
  unfolding call_of
  wide-of version number = rw (wide-call (codes "configure") 4 (omega arith), wide-plain) refl

  wide-entry : (version : HistoryVersion) (number : ℕ) (rest : Rest) → entry_by version number fields rest ≡ Err (BadRecord number)
  unfolding entry_by
  wide-entry version number rest = rw (wide-of version number) (bad-behind number (caller_of fields))

  wide-timed : timed_reply fields ≡ Err 2
  unfolding timed_reply
  wide-timed =
      rw (
        wide-name (codes "queued") 5 (omega arith),
        wide-name (codes "lost") 4 (omega arith),
        wide-name (codes "full") 4 (omega arith),
        wide-name (codes "no-target") 3 (omega arith),
        wide-name (codes "advanced") 3 (omega arith),
      ) refl

  wide-without : (version : HistoryVersion) → plain_reply version fields ≡ Err 2
  unfolding plain_reply
  wide-without version =
      rw (
        wide-name (codes "configured") 2 (omega arith),
        wide-name (codes "no-such-pipe") 2 (omega arith),
        wide-name (codes "exhausted") 2 (omega arith),
        wide-delete version (codes "deleted"),
        wide-delete version (codes "pipe-has-queues"),
        wide-delete version (codes "no-such-queue"),
      ) wide-timed

  wide-reply : (version : HistoryVersion) (number : ℕ) (rest : Rest) → reply_by version number fields rest ≡ Err (BadRecord number)
  unfolding reply_by
  wide-reply version number rest = rw (wide-name (codes "delivered") 4 (omega arith), wide-name (codes "status") 3 (omega arith), wide-without version) refl

  pub wide-delivery : delivery_item fields ≡ Err 1
  unfolding delivery_item
  wide-delivery = rw (wide-form 1 (codes "d") 5 (omega arith)) refl

  width-lt : (version : HistoryVersion) → status_width version < too_many
  width-lt First = omega arith
  width-lt Second = omega arith
  width-lt Third = omega arith
  width-lt Live = omega arith

  pub wide-status : (version : HistoryVersion) → status_item version fields ≡ Err 1
  unfolding status_item
  wide-status version = rw (wide-form 1 (codes "f") (status_width version) (width-lt version)) refl

pub narrow-history : (rest : Rest) (fault : ReplayFault) → IsFaultOf (narrow_record rest) fault → IsFaultOf (history_from rest) fault
unfolding history_from
narrow-history rest fault is = from-narrow rest (history_from rest) (λ f e. rw e refl) (λ first e many. rw (e, wide-version first.0 many) refl) fault is

pub narrow-entry : (version : HistoryVersion) (count : ℕ) (rest : Rest) (fault : ReplayFault) → IsFaultOf (narrow_record (between version rest)) fault → IsFaultOf (entry_from version count rest) fault
unfolding entry_from
narrow-entry version count rest fault is =
    from-narrow (between version rest) (entry_from version count rest) (λ f e. rw e refl)
    (λ first e many. rw (e, wide-form first.0 many 1 (codes "end") 2 (omega arith)) (wide-entry first.0 many version rest.number first.1)) fault is

pub narrow-reply : (version : HistoryVersion) (rest : Rest) (fault : ReplayFault) → IsFaultOf (narrow_record rest) fault → IsFaultOf (reply_from version rest) fault
unfolding reply_from
narrow-reply version rest fault is =
    from-narrow rest (reply_from version rest) (λ f e. rw e refl) (λ first e many. rw e (wide-reply first.0 many version rest.number first.1)) fault is

pub narrow-item : {A : Type 0} (item : Fields → Result A ℕ) → ((fields : Fields) → too_many ≤ length fields → item fields ≡ Err 1) → (rest : Rest) (fault : ReplayFault)
    → IsFaultOf (narrow_record rest) fault → IsFaultOf (item_from item rest) fault
unfolding item_from
narrow-item item bad rest fault is = from-narrow rest (item_from item rest) (λ f e. rw e refl) (λ first e many. rw (e, bad first.0 many) refl) fault is
