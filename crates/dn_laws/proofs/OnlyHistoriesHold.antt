-- The law of what no history may be holds.
use Rattle.dn_laws.proofs.Words.{All, All-cons, All-nil, Bool, Call, Entry, Err, FlowStatus, List, Mask, None, Ok, Option, ReplayFault, Reply, Result, Rule, Some, Texts, TooLong, [], aim}
use Rattle.dn_laws.proofs.Words.{and_parts, answered, ap, append_assoc, arith, asked, bits, codes, cond, decimal, dotted, eqb-true, false, field_at, inl, inr, leb-true, length}
use Rattle.dn_laws.proofs.Words.{length-append, listed, map, nat_le, packet_at, records_of, refl, state, subst, suc, sym, target_at, true, tuple_at, zero, ℕ, ⊎_elim, ◌&&◌, ◌++◌, ◌+◌, ◌<◌}
use Rattle.dn_laws.proofs.Words.{◌^◌, ◌∙◌, ◌∷◌, ◌≡◌, ◌≢◌}
use Rattle.dn_types.specs.declared.call.Call.TheVariants as c
use Rattle.dn_types.specs.declared.command.Command.{Command}
use Rattle.dn_types.specs.declared.delivery.Delivery.{Delivery}
use Rattle.dn_types.specs.declared.flow_key.FlowKey.{FlowKey}
use Rattle.dn_types.specs.declared.reply.Reply.TheVariants as r
use Rattle.dn_types.specs.declared.rule.Rule.TheVariants.{Free, Ordered}
use Rattle.std.specs.Prelude.{not}
use Rattle.std.specs.Str.{is_utf8}
use Rattle.dn_config.specs.Faults.{position_of}
use Rattle.dn_config.specs.Line.{answer}
use Rattle.dn_config.specs.declared.fault.LineFault.{LineFault}
use Rattle.dn_files.specs.ConfigFile.{command_at, fault_at, said_at}
use Rattle.dn_files.specs.Fields.{column, is_form, is_name, number_at}
use Rattle.dn_files.specs.Reading.{◌>>=◌}
use Rattle.dn_files.specs.declared.replay_fault.ReplayFault.TheVariants.{BadRecord, ConfigText}
use Rattle.dn_files.specs.declared.source.Source.TheVariants.{History}
use Rattle.dn_history.specs.HistoryFile.{before, between, call_of, command_by, delivered_from, end_by, entries_from, entries_of, entry_by, entry_from, history_from, history_in, nothing_in, reply_by, reply_from, status_from}
use Rattle.dn_history.specs.HistoryItems.{delivery_item, discarded_item, key_item, mask_item, status_item, status_width}
use Rattle.dn_history.specs.HistoryRecords.{caller_of, has_deletes, has_remarks, is_call, is_delete, is_delete_reply, is_end, is_reply, live_of, long_at, plain_call, plain_reply, queued_of, rule_of, submit_of, timed_reply, told_count, two_of, version_of}
use Rattle.dn_history.specs.Remarks.{ahead, is_remark, past_remarks}
use Rattle.dn_history.specs.RecordsLeft.{Rest, first_record, in_record, item_from, items_from, next_record}
use Rattle.dn_history.specs.declared.history_version.HistoryVersion.{HistoryVersion}
use Rattle.dn_history.specs.declared.history_version.HistoryVersion.TheVariants.{First, Second, Third, Live}
use Rattle.dn_history.proofs.HistoryReading.{numbered}
use Rattle.dn_laws.specs.Determined.Emulators.{Has}
use Rattle.dn_laws.specs.RecordLaws.{tuple, rules}
use Rattle.dn_laws.specs.HistoryRefusals.{IsAsked, IsRemark, OnlyHistoriesAreRead, Tell}
use Rattle.dn_laws.proofs.FieldsRead.{bound, cond-ok, form-read, from, name-read, number-read, ok-is, packet-read, target-read, tuple-read}

pub in-record-is : {A : Type 0} (number : ℕ) (read : Result A ℕ) (a : A) → in_record number read ≡ Ok a → read ≡ Ok a
in-record-is number (Ok b) a e = ap Ok (ok-is b a e)
in-record-is number (Err place) a e = cc e

long-read : (place n : ℕ) (fields : Texts) → long_at place fields ≡ Ok n → column place fields ≡ decimal n
long-read place n fields e = (number-read place 0 18446744073709551615 n fields (omega arith) e).0

-- The next record, and what is left behind it.
next-read : (rest : Rest) (p : Texts × Rest) → next_record rest ≡ Ok p → rest.records ≡ p.0 ∷ p.1.records
unfolding next_record
next-read rest p e = by-records rest.records e
  where
    by-records : (records : List Texts) → first_record rest.number records ≡ Ok p → records ≡ p.0 ∷ p.1.records
    by-records [] e = cc e
    by-records (fields ∷ records) e = ap (λ (q : Texts × Rest). q.0 ∷ q.1.records) (ok-is (fields, record { number = rest.number + 1; records = records }) p e)

-- ---- Calls

abbrev pub IsCallRead : Texts → Call → Type 0
IsCallRead fields call = (told : Texts) × IsAsked call told × ((caller : ℕ) → column 2 fields ≡ decimal caller → fields ≡ codes "c" ∷ decimal caller ∷ told)

pub call-form : (name : List ℕ) (count : ℕ) (fields : Texts) → is_call name count fields ≡ true → (column 1 fields ≡ codes "c") × (column 3 fields ≡ name) × (fields ≡ from count 1 fields)
call-form name count fields e =
    let both = and_parts (is_name 1 fields (codes "c")) (is_form 3 name count fields) e in
    let form = form-read 3 name count fields both.1 in
    (name-read 1 fields (codes "c") both.0, form.0, form.1)

submit-read : (fields : Texts) (call : Call) → is_call (codes "submit") 13 fields ≡ true → submit_of fields ≡ Ok call → IsCallRead fields call
unfolding submit_of
submit-read fields call is e =
    bound (target_at 4 fields) _ call (λ t is-t e1.
    bound (packet_at 6 fields) _ call (λ p is-p e2.
    bound (number_at 13 0 (2 ^ 62) fields) _ call (λ m is-m e3.
    let form = call-form (codes "submit") 13 fields is in
    let target = target-read 4 fields t is-t in
    let packet = packet-read 6 fields p is-p in
    let tuple = packet.0 in
    let moment = number-read 13 0 (2 ^ 62) m fields (omega arith) is-m in
    let behind : Texts = dotted p.tuple.src ∷ dotted p.tuple.dst ∷ decimal p.tuple.proto ∷ decimal p.tuple.sport ∷ decimal p.tuple.dport ∷ decimal p.len ∷ decimal p.word ∷ [] in
    subst (IsCallRead fields) (ok-is (c.Submit t p m) call e3) (
      asked (c.Submit t p m),
      refl,
      λ caller is-c. form.2
          ∙ (λ i. form.0 i ∷ is-c i ∷ form.1 i ∷ (target.0 i
          ++ (tuple.0.0 i ∷ tuple.1.0 i ∷ tuple.2.0 i ∷ tuple.3.0 i ∷ tuple.4.0 i ∷ packet.1.0 i ∷ packet.2.0 i ∷ moment.0 i ∷ [])))
          ∙ ap (λ (fs : Texts). codes "c" ∷ decimal caller ∷ codes "submit" ∷ fs) (sym (append_assoc (aim t) behind (decimal m ∷ []))),
    )) e2) e1) e

module _ (fields : Texts) (call : Call) where
  moment-read : (name : List ℕ) (made : ℕ → Call) → ((m : ℕ) → IsAsked (made m) (name ∷ decimal m ∷ [])) → is_call name 4 fields ≡ true
      → (number_at 4 0 (2 ^ 62) fields >>= λ m. Ok (made m)) ≡ Ok call → IsCallRead fields call
  moment-read name made asks is e =
      bound (number_at 4 0 (2 ^ 62) fields) _ call (λ m is-m e1.
      let form = call-form name 4 fields is in
      let moment = number-read 4 0 (2 ^ 62) m fields (omega arith) is-m in
      subst (IsCallRead fields) (ok-is (made m) call e1)
      (name ∷ decimal m ∷ [], asks m, λ caller is-c. form.2 ∙ λ i. form.0 i ∷ is-c i ∷ form.1 i ∷ moment.0 i ∷ [])) e

  pub plain-read : plain_call fields ≡ Ok call → IsCallRead fields call
  unfolding plain_call
  plain-read e =
      ⊎_elim (λ h. submit-read fields call h.0 h.1)
      (λ h. ⊎_elim (λ h. moment-read (codes "advance") c.Advance (λ m. refl) h.0 h.1)
      (λ h. ⊎_elim (λ h. moment-read (codes "collect") c.Collect (λ m. refl) h.0 h.1)
      (λ h. ⊎_elim (λ h. let form = call-form (codes "show") 3 fields h.0 in
      subst (IsCallRead fields) (ok-is c.Show call h.1) (codes "show" ∷ [], refl, λ caller is-c. form.2 ∙ λ i. form.0 i ∷ is-c i ∷ form.1 i ∷ []))
      (λ h. let no = h.1 in cc no)
      (cond-ok (is_call (codes "show") 3 fields) _ _ call h.1))
      (cond-ok (is_call (codes "collect") 4 fields) _ _ call h.1))
      (cond-ok (is_call (codes "advance") 4 fields) _ _ call h.1))
      (cond-ok (is_call (codes "submit") 13 fields) _ _ call e)

-- The command of a line is what the line answers.
module _ (version : HistoryVersion) (number : ℕ) (line : List ℕ) (command : Command) where
  said-read : (said : Result (Option Command) LineFault) → command_by version number (said_at 1 said) ≡ Ok command → said ≡ Ok (Some command)
  said-read (Ok None) e = cc e
  said-read (Ok (Some other)) e = ⊎_elim (λ h. let no = h.1 in cc no) (λ h. ap (λ (x : Command). Ok (Some x)) (ok-is other command h.1))
      (cond-ok (is_delete other && not (has_deletes version)) (Err (BadRecord number)) (Ok other) command e)
  said-read (Err fault) e = by-position (position_of fault) e
    where
      by-position : (o : Option ℕ) → command_by version number (Err (fault_at 1 fault o)) ≡ Ok command → ◌≡◌ {A = Result (Option Command) LineFault} (Err fault) (Ok (Some command))
      by-position None e = cc e
      by-position (Some position) e = cc e

  command-read : command_by version number (command_at 1 line) ≡ Ok command → answer line ≡ Ok (Some command)
  unfolding command_at
  command-read e = by-test (is_utf8 line) e
    where
      by-test : (b : Bool) → command_by version number (cond b (said_at 1 (answer line)) (Err (ConfigText 1))) ≡ Ok command → answer line ≡ Ok (Some command)
      by-test true e = said-read (answer line) e
      by-test false e = cc e

call-read : (version : HistoryVersion) (number : ℕ) (fields : Texts) (call : Call) → call_of version number fields ≡ Ok call → IsCallRead fields call
unfolding call_of
call-read version number fields call e =
    ⊎_elim (λ h. bound (command_by version number (command_at 1 (column 4 fields))) _ call (λ command is e1.
    let form = call-form (codes "configure") 4 fields h.0 in
    subst (IsCallRead fields) (ok-is (c.Configure command) call e1) (
      codes "configure" ∷ column 4 fields ∷ [],
      (column 4 fields, command-read version number (column 4 fields) command is, refl),
      λ caller is-c. form.2 ∙ λ i. form.0 i ∷ is-c i ∷ form.1 i ∷ column 4 fields ∷ [],
    )) h.1)
    (λ h. plain-read fields call (in-record-is number (plain_call fields) call h.1))
    (cond-ok (is_call (codes "configure") 4 fields) _ _ call e)

-- ---- Replies

-- A list of items, of which what the records say is known where this holds.
abbrev AreItems : {A : Type 0} → Type 0 → (A → Texts) → ℕ → Rest → List A × Rest → Type 0
AreItems known print count rest p = (taken : List Texts) × (rest.records ≡ taken ++ p.1.records) × (length p.0 ≡ count) × (known → taken ≡ map print p.0)

items-read : {A : Type 0} (known : Type 0) (item : Texts → Result A ℕ) (print : A → Texts) → ((fields : Texts) (a : A) → known → item fields ≡ Ok a → fields ≡ print a)
    → (count : ℕ) (rest : Rest) (p : List A × Rest) → items_from item count rest ≡ Ok p → AreItems known print count rest p
unfolding items_from item_from
items-read known item print each zero rest p e = subst (AreItems known print 0 rest) (ok-is ([], rest) p e) ([], refl, refl, λ k. refl)
items-read known item print each (suc count) rest p e =
    bound (item_from item rest) _ p (λ first is e1.
    bound (items_from item count first.1) _ p (λ more are e2.
    bound (next_record rest) _ first (λ next is-next e3.
    bound (in_record rest.number (item next.0)) _ first (λ a is-a e4.
    let same = ok-is (a, next.1) first e4 in
    let others = items-read known item print each count first.1 more are in
    subst (AreItems known print (suc count) rest) (ok-is (first.0 ∷ more.0, more.1) p e2) (
      next.0 ∷ others.0,
      next-read rest next is-next ∙ (λ i. next.0 ∷ (same i).1.records) ∙ (λ i. next.0 ∷ others.1 i),
      omega (arith, others.2),
      λ k. λ i. (each next.0 a k (in-record-is rest.number (item next.0) a is-a) ∙ ap (λ p. print p.0) same) i ∷ others.3 k i,
    )) e3) is) e1) e

delivery-read : (known : Type 0) (fields : Texts) (d : Delivery) → known → delivery_item fields ≡ Ok d → fields ≡ codes "d" ∷ map decimal (d.packet ∷ d.flow ∷ d.start ∷ d.due ∷ [])
unfolding delivery_item
delivery-read known fields d k e =
    ⊎_elim (λ h. bound (long_at 2 fields) _ d (λ packet is1 e1.
    bound (long_at 3 fields) _ d (λ flow is2 e2.
    bound (long_at 4 fields) _ d (λ start is3 e3.
    bound (long_at 5 fields) _ d (λ due is4 e4.
    let form = form-read 1 (codes "d") 5 fields h.0 in
    subst (λ (d : Delivery). fields ≡ codes "d" ∷ map decimal (d.packet ∷ d.flow ∷ d.start ∷ d.due ∷ [])) (ok-is (record { due = due; packet = packet; flow = flow; start = start }) d e4)
    (form.1 ∙ λ i. form.0 i ∷ long-read 2 packet fields is1 i ∷ long-read 3 flow fields is2 i ∷ long-read 4 start fields is3 i ∷ long-read 5 due fields is4 i ∷ [])) e3) e2) e1) h.1)
    (λ h. let no = h.1 in cc no) (cond-ok (is_form 1 (codes "d") 5 fields) _ _ d e)

key-read : (fields : Texts) (k : FlowKey) → key_item fields ≡ Ok k → from 13 3 fields ≡ aim k.target ++ decimal k.pipe ∷ (bits k.mask ++ tuple k.tuple)
unfolding key_item mask_item
key-read fields k e =
    bound (target_at 3 fields) _ k (λ t is1 e1.
    bound (number_at 5 1 65535 fields) _ k (λ pipe is2 e2.
    bound (mask_item 6 fields) _ k (λ mask is3 e3.
    bound (tuple_at 11 fields) _ k (λ five is4 e4.
    bound (tuple_at 6 fields) _ mask (λ kept is5 e5.
    let target = target-read 3 fields t is1 in
    let number = number-read 5 1 65535 pipe fields (omega arith) is2 in
    let m = tuple-read 6 fields kept is5 in
    let f = tuple-read 11 fields five is4 in
    let made = ok-is (record { src = kept.src; dst = kept.dst; proto = kept.proto; sport = kept.sport; dport = kept.dport }) mask e5 in
    subst (λ (k : FlowKey). from 13 3 fields ≡ aim k.target ++ decimal k.pipe ∷ (bits k.mask ++ tuple k.tuple)) (ok-is (record { target = t; pipe = pipe; mask = mask; tuple = five }) k e4)
    ((λ i. target.0 i ++ (number.0 i ∷ m.0.0 i ∷ m.1.0 i ∷ m.2.0 i ∷ m.3.0 i ∷ m.4.0 i ∷ f.0.0 i ∷ f.1.0 i ∷ f.2.0 i ∷ f.3.0 i ∷ f.4.0 i ∷ []))
    ∙ ap (λ (mask : Mask). aim t ++ decimal pipe ∷ (bits mask ++ tuple five)) made)) is3) e3) e2) e1) e

module _ (version : HistoryVersion) where
  abbrev Known : Type 0
  Known = has_deletes version ≡ true

  status-read : (fields : Texts) (s : FlowStatus) → Known → status_item version fields ≡ Ok s → fields ≡ state s
  unfolding status_item
  status-read fields s has e =
      ⊎_elim (λ h. bound (long_at 2 fields) _ s (λ flow is1 e1.
      bound (key_item fields) _ s (λ key is2 e2.
      bound (long_at 16 fields) _ s (λ queued is3 e3.
      bound (long_at 17 fields) _ s (λ bytes is4 e4.
      bound (long_at 18 fields) _ s (λ lost is5 e5.
      bound (long_at 19 fields) _ s (λ full is6 e6.
      bound (long_at 20 fields) _ s (λ started is7 e7.
      bound (discarded_item version fields) _ s (λ discarded is8 e8.
      let form = form-read 1 (codes "f") 21 fields (rw has at h.0) in
      let last : long_at 21 fields ≡ Ok discarded = rw has at is8 in
      let counts : Texts = map decimal (queued ∷ bytes ∷ lost ∷ full ∷ started ∷ discarded ∷ []) in
      subst (λ (s : FlowStatus). fields ≡ state s)
      (ok-is (record { flow = flow; key = key; queued = queued; bytes = bytes; lost = lost; full = full; started = started; discarded = discarded }) s e8)
      (form.1 ∙ (λ i. form.0 i ∷ long-read 2 flow fields is1 i ∷ (key-read fields key is2 i
      ++ (long-read 16 queued fields is3 i ∷ long-read 17 bytes fields is4 i ∷ long-read 18 lost fields is5 i ∷ long-read 19 full fields is6 i ∷ long-read 20 started fields is7 i
      ∷ long-read 21 discarded fields last i ∷ [])))
      ∙ ap (λ (fs : Texts). codes "f" ∷ decimal flow ∷ fs) (append_assoc (aim key.target) (decimal key.pipe ∷ (bits key.mask ++ tuple key.tuple)) counts))) e7) e6) e5) e4) e3) e2) e1) h.1)
      (λ h. let no = h.1 in cc no) (cond-ok (is_form 1 (codes "f") (status_width version) fields) _ _ s e)

  -- A reply by its record and the records behind it.
  abbrev IsReplyRead : Texts → Rest → Reply × Rest → Type 0
  IsReplyRead fields rest p = (fields ≡ codes "r" ∷ answered p.0) × ((taken : List Texts) × (rest.records ≡ taken ++ p.1.records) × (Known → taken ≡ listed p.0))

  reply-form : (name : List ℕ) (count : ℕ) (fields : Texts) → is_reply name count fields ≡ true → (column 1 fields ≡ codes "r") × (column 2 fields ≡ name) × (fields ≡ from count 1 fields)
  reply-form name count fields e =
      let both = and_parts (is_name 1 fields (codes "r")) (is_form 2 name count fields) e in
      let form = form-read 2 name count fields both.1 in
      (name-read 1 fields (codes "r") both.0, form.0, form.1)

  module _ (fields : Texts) (reply : Reply) where
    abbrev IsPlainRead : Reply → Type 0
    IsPlainRead a = (fields ≡ codes "r" ∷ answered a) × (listed a ≡ [])

    bare : (name : List ℕ) (a : Reply) → answered a ≡ name ∷ [] → listed a ≡ [] → is_reply name 2 fields ≡ true → ◌≡◌ {A = Result Reply ℕ} (Ok a) (Ok reply) → IsPlainRead reply
    bare name a says none is e =
        let form = reply-form name 2 fields is in
        subst IsPlainRead (ok-is a reply e) (form.2 ∙ (λ i. form.0 i ∷ form.1 i ∷ []) ∙ (λ i. codes "r" ∷ sym says i), none)

    one : (name : List ℕ) (made : ℕ → Reply) → ((n : ℕ) → answered (made n) ≡ name ∷ decimal n ∷ []) → ((n : ℕ) → listed (made n) ≡ []) → is_reply name 3 fields ≡ true
        → (long_at 3 fields >>= λ at. Ok (made at)) ≡ Ok reply → IsPlainRead reply
    one name made says none is e = bound (long_at 3 fields) _ reply (λ n is1 e1.
        let form = reply-form name 3 fields is in
        subst IsPlainRead (ok-is (made n) reply e1) (form.2 ∙ (λ i. form.0 i ∷ form.1 i ∷ long-read 3 n fields is1 i ∷ []) ∙ (λ i. codes "r" ∷ sym (says n) i), none n)) e

    two-read : (two : ℕ × ℕ) → two_of fields ≡ Ok two → (column 3 fields ≡ decimal two.0) × (column 4 fields ≡ decimal two.1)
    unfolding two_of
    two-read two e = bound (long_at 3 fields) _ two (λ a is1 e1. bound (long_at 4 fields) _ two (λ b is2 e2.
        subst (λ (p : ℕ × ℕ). (column 3 fields ≡ decimal p.0) × (column 4 fields ≡ decimal p.1)) (ok-is (a, b) two e2) (long-read 3 a fields is1, long-read 4 b fields is2)) e1) e

    two : (name : List ℕ) (made : ℕ → ℕ → Reply) → ((n m : ℕ) → answered (made n m) ≡ name ∷ decimal n ∷ decimal m ∷ []) → ((n m : ℕ) → listed (made n m) ≡ [])
        → is_reply name 4 fields ≡ true → (two_of fields >>= λ p. Ok (made p.0 p.1)) ≡ Ok reply → IsPlainRead reply
    two name made says none is e = bound (two_of fields) _ reply (λ p is1 e1.
        let form = reply-form name 4 fields is in
        let both = two-read p is1 in
        subst IsPlainRead (ok-is (made p.0 p.1) reply e1)
        (form.2 ∙ (λ i. form.0 i ∷ form.1 i ∷ both.0 i ∷ both.1 i ∷ []) ∙ (λ i. codes "r" ∷ sym (says p.0 p.1) i), none p.0 p.1)) e

    queued-read : is_reply (codes "queued") 5 fields ≡ true → queued_of fields ≡ Ok reply → IsPlainRead reply
    unfolding queued_of
    queued-read is e = bound (long_at 3 fields) _ reply (λ at is1 e1. bound (long_at 4 fields) _ reply (λ flow is2 e2. bound (long_at 5 fields) _ reply (λ packet is3 e3.
        let form = reply-form (codes "queued") 5 fields is in
        subst IsPlainRead (ok-is (r.Queued at flow packet) reply e3)
        (form.2 ∙ (λ i. form.0 i ∷ form.1 i ∷ long-read 3 at fields is1 i ∷ long-read 4 flow fields is2 i ∷ long-read 5 packet fields is3 i ∷ []), refl)) e2) e1) e

    timed-read : timed_reply fields ≡ Ok reply → IsPlainRead reply
    unfolding timed_reply
    timed-read e =
        ⊎_elim (λ h. queued-read h.0 h.1)
        (λ h. ⊎_elim (λ h. two (codes "lost") r.Lost (λ n m. refl) (λ n m. refl) h.0 h.1)
        (λ h. ⊎_elim (λ h. two (codes "full") r.Full (λ n m. refl) (λ n m. refl) h.0 h.1)
        (λ h. ⊎_elim (λ h. one (codes "no-target") r.NoTarget (λ n. refl) (λ n. refl) h.0 h.1)
        (λ h. ⊎_elim (λ h. one (codes "advanced") r.Advanced (λ n. refl) (λ n. refl) h.0 h.1) (λ h. let no = h.1 in cc no)
        (cond-ok (is_reply (codes "advanced") 3 fields) _ _ reply h.1))
        (cond-ok (is_reply (codes "no-target") 3 fields) _ _ reply h.1))
        (cond-ok (is_reply (codes "full") 4 fields) _ _ reply h.1))
        (cond-ok (is_reply (codes "lost") 4 fields) _ _ reply h.1))
        (cond-ok (is_reply (codes "queued") 5 fields) _ _ reply e)

    plain-reply-read : plain_reply version fields ≡ Ok reply → IsPlainRead reply
    unfolding plain_reply
    plain-reply-read e =
        ⊎_elim (λ h. bare (codes "configured") r.Configured refl refl h.0 h.1)
        (λ h. ⊎_elim (λ h. bare (codes "no-such-pipe") r.NoSuchPipe refl refl h.0 h.1)
        (λ h. ⊎_elim (λ h. bare (codes "exhausted") r.Exhausted refl refl h.0 h.1)
        (λ h. ⊎_elim (λ h. bare (codes "deleted") r.Deleted refl refl (of-delete (codes "deleted") h.0) h.1)
        (λ h. ⊎_elim (λ h. bare (codes "pipe-has-queues") r.PipeHasQueues refl refl (of-delete (codes "pipe-has-queues") h.0) h.1)
        (λ h. ⊎_elim (λ h. bare (codes "no-such-queue") r.NoSuchQueue refl refl (of-delete (codes "no-such-queue") h.0) h.1) (λ h. timed-read h.1)
        (cond-ok (is_delete_reply version (codes "no-such-queue") fields) _ _ reply h.1))
        (cond-ok (is_delete_reply version (codes "pipe-has-queues") fields) _ _ reply h.1))
        (cond-ok (is_delete_reply version (codes "deleted") fields) _ _ reply h.1))
        (cond-ok (is_reply (codes "exhausted") 2 fields) _ _ reply h.1))
        (cond-ok (is_reply (codes "no-such-pipe") 2 fields) _ _ reply h.1))
        (cond-ok (is_reply (codes "configured") 2 fields) _ _ reply e)
      where
        of-delete : (name : List ℕ) → is_delete_reply version name fields ≡ true → is_reply name 2 fields ≡ true
        of-delete name is = (and_parts (has_deletes version) (is_reply name 2 fields) is).1

  reply-read : (number : ℕ) (fields : Texts) (rest : Rest) (p : Reply × Rest) → reply_by version number fields rest ≡ Ok p → IsReplyRead fields rest p
  unfolding reply_by delivered_from status_from
  reply-read number fields rest p e =
      ⊎_elim (λ h. bound (in_record number (two_of fields)) _ p (λ head is1 e1. bound (items_from delivery_item head.1 rest) _ p (λ list is2 e2.
      let form = reply-form (codes "delivered") 4 fields h.0 in
      let both = two-read fields r.Exhausted head (in-record-is number (two_of fields) head is1) in
      let items = items-read Known delivery_item (λ d. codes "d" ∷ map decimal (d.packet ∷ d.flow ∷ d.start ∷ d.due ∷ [])) (delivery-read Known) head.1 rest list is2 in
      subst (IsReplyRead fields rest) (ok-is (r.Delivered head.0 list.0, list.1) p e2)
      (form.2 ∙ (λ i. form.0 i ∷ form.1 i ∷ both.0 i ∷ both.1 i ∷ []) ∙ (λ i. codes "r" ∷ codes "delivered" ∷ decimal head.0 ∷ decimal (sym items.2 i) ∷ []), (items.0, items.1, items.3))) e1) h.1)
      (λ h. ⊎_elim (λ h. bound (in_record number (long_at 3 fields)) _ p (λ count is1 e1. bound (items_from (status_item version) count rest) _ p (λ list is2 e2.
      let form = reply-form (codes "status") 3 fields h.0 in
      let told = long-read 3 count fields (in-record-is number (long_at 3 fields) count is1) in
      let items = items-read Known (status_item version) state status-read count rest list is2 in
      subst (IsReplyRead fields rest) (ok-is (r.Status list.0, list.1) p e2)
      (form.2 ∙ (λ i. form.0 i ∷ form.1 i ∷ told i ∷ []) ∙ (λ i. codes "r" ∷ codes "status" ∷ decimal (sym items.2 i) ∷ []), (items.0, items.1, items.3))) e1) h.1)
      (λ h. bound (in_record number (plain_reply version fields)) _ p (λ a is1 e1.
      let plain = plain-reply-read fields a (in-record-is number (plain_reply version fields) a is1) in
      subst (IsReplyRead fields rest) (ok-is (a, rest) p e1) (plain.0, ([], refl, λ k. sym plain.1))) h.1)
      (cond-ok (is_reply (codes "status") 3 fields) _ _ p h.1)) (cond-ok (is_reply (codes "delivered") 4 fields) _ _ p e)

-- ---- Entries

abbrev live_header : Texts
live_header = codes "dummynet-live" ∷ codes "1" ∷ []

module _ (version : HistoryVersion) (first : Texts) (live : has_remarks version ≡ true → first ≡ live_header) where
  -- Remarks ahead of other records.
  abbrev Ahead : List Texts → List Texts → Type 0
  Ahead records left = (remarks : List Texts) × All (IsRemark first) remarks × (records ≡ remarks ++ left)

  remark-read : (fields : Texts) → is_remark fields ≡ true → has_remarks version ≡ true → IsRemark first fields
  unfolding field_at
  remark-read [] e h = cc e
  remark-read ([] ∷ more) e h = cc e
  remark-read ((byte ∷ rest) ∷ more) e h = (live h, rest, more, ap (λ (b : ℕ). (b ∷ rest) ∷ more) (eqb-true byte 35 e))

  past-read : has_remarks version ≡ true → (records : List Texts) → Ahead records (past_remarks records)
  past-read h [] = ([], All-nil (IsRemark first), refl)
  past-read h (fields ∷ records) = by-test (is_remark fields) refl (past-read h records)
    where
      by-test : (b : Bool) → is_remark fields ≡ b → Ahead records (past_remarks records) → Ahead (fields ∷ records) (cond b (past_remarks records) (fields ∷ records))
      by-test false is more = ([], All-nil (IsRemark first), refl)
      by-test true is more =
          (fields ∷ more.0, All-cons (IsRemark first) fields more.0 (remark-read fields is h) more.1, λ i. fields ∷ more.2 i)

  ahead-read : (records : List Texts) → Ahead records (ahead (has_remarks version) records)
  ahead-read records = by-test (has_remarks version) refl
    where
      by-test : (b : Bool) → has_remarks version ≡ b → Ahead records (ahead b records)
      by-test true is = past-read is records
      by-test false is = ([], All-nil (IsRemark first), refl)

  -- An entry by its record and the records behind it.
  abbrev IsEntryRead : Texts → Rest → Option Entry × Rest → Type 0
  IsEntryRead fields rest p = (e : Entry) × (told : Texts) × (taken : List Texts) × (p.0 ≡ Some e) × (e.caller < 16) × IsAsked e.call told
      × (◌≡◌ {A = List Texts} (fields ∷ rest.records) ((codes "c" ∷ decimal e.caller ∷ told) ∷ (codes "r" ∷ answered e.reply) ∷ (taken ++ p.1.records)))
      × (has_deletes version ≡ true → taken ≡ listed e.reply)

  entry-read : (number : ℕ) (fields : Texts) (rest : Rest) (p : Option Entry × Rest) → entry_by version number fields rest ≡ Ok p → IsEntryRead fields rest p
  unfolding entry_by reply_from
  entry-read number fields rest p e =
      bound (in_record number (caller_of fields)) _ p (λ caller is1 e1.
      bound (call_of version number fields) _ p (λ call is2 e2.
      bound (reply_from version rest) _ p (λ reply is3 e3.
      bound (next_record rest) _ reply (λ next is4 e4.
      let by = number-read 2 0 15 caller fields (omega arith) (in-record-is number (caller_of fields) caller is1) in
      let asks = call-read version number fields call is2 in
      let says = reply-read version rest.number next.0 next.1 reply e4 in
      subst (IsEntryRead fields rest) (ok-is (Some (record { caller = caller; call = call; reply = reply.0 }), reply.1) p e3) (
        record { caller = caller; call = call; reply = reply.0 },
        asks.0,
        says.1.0,
        refl,
        omega (arith, by.2),
        asks.1,
        λ i. asks.2 caller by.0 i ∷ (next-read rest next is4 ∙ λ j. says.0 j ∷ says.1.1 j) i,
        says.1.2,
      )) is3) e2) e1) e

  -- The end.
  nothing-read : (rest : Rest) (records : List Texts) (p : Option Entry × Rest) → nothing_in rest records ≡ Ok p → (p.0 ≡ None) × (records ≡ [])
  nothing-read rest [] p e = (λ i. (sym (ok-is (None, rest) p e) i).0, refl)
  nothing-read rest (fields ∷ records) p e = cc e

  end-read : (count number : ℕ) (fields : Texts) (rest : Rest) (p : Option Entry × Rest) → count < 2 ^ 64 → is_end fields ≡ true → end_by count number fields rest ≡ Ok p
      → (p.0 ≡ None) × (fields ∷ rest.records ≡ (codes "end" ∷ decimal count ∷ []) ∷ [])
  unfolding end_by
  end-read count number fields rest p small is e =
      bound (in_record number (told_count count fields)) _ p (λ told is1 e1.
      let number' = number-read 2 count count told fields small (in-record-is number (told_count count fields) told is1) in
      let form = form-read 1 (codes "end") 2 fields is in
      let same : told ≡ count = omega (arith, number'.1, number'.2) in
      let none = nothing-read rest rest.records p e1 in
      (none.0, λ i. (form.1 ∙ λ j. form.0 j ∷ (number'.0 ∙ ap decimal same) j ∷ []) i ∷ none.1 i)) e

  -- The entries up to the end.
  abbrev AreEntriesRead : ℕ → Rest → List Entry → Type 0
  AreEntriesRead count rest entries = (left : List Texts) × (rest.records ≡ left ++ (codes "end" ∷ decimal (count + length entries) ∷ []) ∷ []) × (has_deletes version ≡ true → Tell first entries left)

  before-none : (o : Option Entry) (more : Result (List Entry) ReplayFault) (entries : List Entry) → o ≡ None → before o more ≡ Ok entries → [] ≡ entries
  before-none o more entries none e = ok-is [] entries (rw none at e)

  before-some : (o : Option Entry) (more : Result (List Entry) ReplayFault) (x : Entry) (entries : List Entry) → o ≡ Some x → before o more ≡ Ok entries
      → (others : List Entry) × (more ≡ Ok others) × (x ∷ others ≡ entries)
  before-some o (Ok others) x entries some e = (others, refl, ok-is (x ∷ others) entries (rw some at e))
  before-some o (Err fault) x entries some e = let no = rw some at e in cc no

  module _ (count turns : ℕ) (rest : Rest) (entries : List Entry) (small : count + length rest.records < 2 ^ 64) (p : Option Entry × Rest) (next : Texts × Rest) (front : List Texts)
      (remarks : All (IsRemark first) front) (all : rest.records ≡ front ++ (next.0 ∷ next.1.records)) (e : before p.0 (entries_from turns version (count + 1) p.1) ≡ Ok entries) where
    ends : is_end next.0 ≡ true → end_by count rest.number next.0 next.1 ≡ Ok p → AreEntriesRead count rest entries
    ends is by =
        let end = end-read count rest.number next.0 next.1 p (omega (arith, small)) is by in
        let same : count ≡ count + 0 = omega arith in
        subst (AreEntriesRead count rest) (before-none p.0 (entries_from turns version (count + 1) p.1) entries end.0 e)
        (front, all ∙ (λ i. front ++ end.1 i) ∙ (λ i. front ++ (codes "end" ∷ decimal (same i) ∷ []) ∷ []), λ k. remarks)

    goes-on : ((others : List Entry) → count + 1 + length p.1.records < 2 ^ 64 → entries_from turns version (count + 1) p.1 ≡ Ok others → AreEntriesRead (count + 1) p.1 others)
        → entry_by version rest.number next.0 next.1 ≡ Ok p → AreEntriesRead count rest entries
    goes-on read-on by =
        let (x, told, taken, some, few, asks, are, known) = entry-read rest.number next.0 next.1 p by in
        let (others, is-others, same) = before-some p.0 (entries_from turns version (count + 1) p.1) x entries some e in
        let two : List Texts → List Texts = λ behind. (codes "c" ∷ decimal x.caller ∷ told) ∷ (codes "r" ∷ answered x.reply) ∷ behind in
        let whole : rest.records ≡ front ++ two (taken ++ p.1.records) = all ∙ (λ i. front ++ are i) in
        let fewer : count + 1 + length p.1.records < 2 ^ 64 =
        omega (arith, small, ap (length {A = Texts}) whole, length-append front (two (taken ++ p.1.records)), length-append taken p.1.records) in
        let (left, are-left, tells) = read-on others fewer is-others in
        let end : ℕ → List Texts = λ n. (codes "end" ∷ decimal n ∷ []) ∷ [] in
        let last : count + 1 + length others ≡ count + length (x ∷ others) = omega arith in
        let joined : front ++ two (taken ++ (left ++ end (count + 1 + length others))) ≡ (front ++ two (taken ++ left)) ++ end (count + 1 + length others) = simp append_assoc in
        subst (AreEntriesRead count rest) same (
          front ++ two (taken ++ left),
          whole ∙ (λ i. front ++ two (taken ++ are-left i)) ∙ joined ∙ (λ i. (front ++ two (taken ++ left)) ++ end (last i)),
          λ k. (front, told, left, remarks, few, asks, tells k, λ i. front ++ two (known k i ++ left)),
        )

  entries-read : (turns count : ℕ) (rest : Rest) (entries : List Entry) → count + length rest.records < 2 ^ 64 → entries_from turns version count rest ≡ Ok entries → AreEntriesRead count rest entries
  unfolding entries_from entry_from
  entries-read zero count rest entries small e = cc e
  entries-read (suc turns) count rest entries small e =
      bound (entry_from version count rest) _ entries (λ p is e1.
      bound (next_record (between version rest)) _ p (λ next is-next e2.
      let front = ahead-read rest.records in
      let all : rest.records ≡ front.0 ++ (next.0 ∷ next.1.records) = front.2 ∙ ap (λ (rs : List Texts). front.0 ++ rs) (next-read (between version rest) next is-next) in
      ⊎_elim (λ h. ends count turns rest entries small p next front.0 front.1 all e1 h.0 h.1)
      (λ h. goes-on count turns rest entries small p next front.0 front.1 all e1 (λ others fewer is. entries-read turns (count + 1) p.1 others fewer is) h.1)
      (cond-ok (is_end next.0) _ _ p e2)) is) e

-- ---- The first record

abbrev old_header : Texts
old_header = codes "dummynet-history" ∷ codes "1" ∷ []

abbrev IsVersionRead : Texts → HistoryVersion → Type 0
IsVersionRead fields version = Has ((old_header, Free) ∷ rules) (fields, rule_of version) × (fields ≢ old_header → has_deletes version ≡ true) × (has_remarks version ≡ true → fields ≡ live_header)

version-read : (fields : Texts) (version : HistoryVersion) → version_of fields ≡ Ok version → IsVersionRead fields version
unfolding version_of live_of
version-read fields version e = ⊎_elim (λ h. of-history h.0 h.1) (λ h. of-live h.1) (cond-ok (is_form 1 (codes "dummynet-history") 2 fields) _ _ version e)
  where
    header-is : (name number : List ℕ) → is_form 1 name 2 fields ≡ true → is_name 2 fields number ≡ true → fields ≡ name ∷ number ∷ []
    header-is name number is said = let form = form-read 1 name 2 fields is in form.1 ∙ λ i. form.0 i ∷ name-read 2 fields number said i ∷ []

    named : (read : HistoryVersion) → ◌≡◌ {A = Result HistoryVersion ℕ} (Ok read) (Ok version) → IsVersionRead fields read → IsVersionRead fields version
    named read e is = subst (IsVersionRead fields) (ok-is read version e) is

    of-history : is_form 1 (codes "dummynet-history") 2 fields ≡ true
        → cond {A = Result HistoryVersion ℕ} (is_name 2 fields (codes "1")) (Ok First) (cond (is_name 2 fields (codes "2")) (Ok Second) (cond (is_name 2 fields (codes "3")) (Ok Third) (Err 2))) ≡ Ok version
        → IsVersionRead fields version
    of-history is e =
        ⊎_elim (λ h. let fs = header-is (codes "dummynet-history") (codes "1") is h.0 in named First h.1 (inl (λ i. (sym fs i, Free)), λ other. absurd (other fs), λ no. cc no))
        (λ h. ⊎_elim (λ h. let fs = header-is (codes "dummynet-history") (codes "2") is h.0 in named Second h.1 (inr (inl (λ i. (sym fs i, Free))), λ other. refl, λ no. cc no))
        (λ h. ⊎_elim (λ h. let fs = header-is (codes "dummynet-history") (codes "3") is h.0 in named Third h.1 (inr (inr (inl (λ i. (sym fs i, Ordered)))), λ other. refl, λ no. cc no))
        (λ h. let no = h.1 in cc no)
        (cond-ok (is_name 2 fields (codes "3")) _ _ version h.1)) (cond-ok (is_name 2 fields (codes "2")) _ _ version h.1)) (cond-ok (is_name 2 fields (codes "1")) _ _ version e)

    of-live : cond {A = Result HistoryVersion ℕ} (is_form 1 (codes "dummynet-live") 2 fields) (cond (is_name 2 fields (codes "1")) (Ok Live) (Err 2)) (Err 1) ≡ Ok version → IsVersionRead fields version
    of-live e =
        ⊎_elim (λ h. ⊎_elim (λ g. let fs = header-is (codes "dummynet-live") (codes "1") h.0 g.0 in
        named Live g.1 (inr (inr (inr (inl (λ i. (sym fs i, Ordered))))), λ other. refl, λ has. fs))
        (λ g. let no = g.1 in cc no) (cond-ok (is_name 2 fields (codes "1")) _ _ version h.1))
        (λ h. let no = h.1 in cc no) (cond-ok (is_form 1 (codes "dummynet-live") 2 fields) _ _ version e)

abbrev IsHistoryRead : List Texts → Rule × List Entry → Type 0
IsHistoryRead records p = (first : Texts) × (left : List Texts) × (records ≡ first ∷ (left ++ (codes "end" ∷ decimal (length p.1) ∷ []) ∷ []))
    × Has ((old_header, Free) ∷ rules) (first, p.0) × (first ≢ old_header → Tell first p.1 left)

records-read : (records : List Texts) (p : Rule × List Entry) → length records < 2 ^ 64 → history_from (record { number = 1; records = records }) ≡ Ok p → IsHistoryRead records p
unfolding history_from
records-read records p small e =
    bound (next_record (record { number = 1; records = records })) _ p (λ first is1 e1.
    bound (in_record 1 (version_of first.0)) _ p (λ version is2 e2.
    bound (entries_of version first.1) _ p (λ entries is3 e3.
    let head = next-read (record { number = 1; records = records }) first is1 in
    let known = version-read first.0 version (in-record-is 1 (version_of first.0) version is2) in
    let read = entries-read version first.0 known.2 (length first.1.records + 1) 0 first.1 entries (omega (arith, small, ap (length {A = Texts}) head)) is3 in
    let count : 0 + length entries ≡ length entries = omega arith in
    subst (IsHistoryRead records) (ok-is (rule_of version, entries) p e3) (
      first.0,
      read.0,
      head ∙ (λ i. first.0 ∷ read.1 i) ∙ (λ i. first.0 ∷ (read.0 ++ (codes "end" ∷ decimal (count i) ∷ []) ∷ [])),
      known.0,
      λ other. read.2 (known.1 other),
    )) e2) e1) e

pub only-histories-are-read : OnlyHistoriesAreRead
only-histories-are-read text rule entries e =
    ⊎_elim (λ h. records-read (records_of text) (rule, entries) (omega (arith, numbered text, leb-true (length text) 268435456 h.0)) h.1) (λ h. let no = h.1 in cc no)
    (cond-ok (nat_le (length text) 268435456) (history_in text) (Err (TooLong History)) (rule, entries) (fits (nat_le (length text) 268435456) e))
  where
    fits : (b : Bool) → (cond b (Ok text) (Err (TooLong History)) >>= history_in) ≡ Ok (rule, entries) → cond b (history_in text) (Err (TooLong History)) ≡ Ok (rule, entries)
    fits true e = e
    fits false e = e
