-- What is read off the front of some records is read off them also where more records stand behind.
use Rattle.dn_history.proofs.Words.{Bool, Call, Entry, Err, Fields, HistoryVersion, List, None, Ok, Option, ReplayFault, Reply, Rest, Result, Some, [], ahead, between, call_of, caller_of, codes}
use Rattle.dn_history.proofs.Words.{cond, delivered_from, end_by, entry_by, entry_from, false, first_record, has_remarks, in_record, is_end, is_remark, is_reply, item_from, items_from}
use Rattle.dn_history.proofs.Words.{next_record, nothing_in, past_remarks, plain_reply, refl, reply_by, reply_from, status_from, suc, told_count, true, zero, ℕ, ⊤, ◌++◌, ◌>>=◌, ◌∷◌, ◌≡◌}
use Rattle.dn_history.specs.RecordsLeft.{Read}

-- More records behind those that are left.
abbrev pub behind : Rest → List Fields → Rest
behind rest more = record { number = rest.number; records = rest.records ++ more }

abbrev IsSame : {A : Type 0} → List Fields → Read A → Read A → Type 0
IsSame more (Ok read) again = again ≡ Ok (read.0, behind read.1 more)
IsSame more (Err fault) again = ⊤

-- What is read, if anything, is read again with more records behind.
record Reads {A : Type 0} (more : List Fields) (read again : Read A) : Type 0 where
  same : IsSame more read again

then : {A B : Type 0} (more : List Fields) (first again : Read A) (rest : A × Rest → Read B) → Reads more first again
    → ((p : A × Rest) → Reads more (rest p) (rest (p.0, behind p.1 more))) → Reads more (first >>= rest) (again >>= rest)
then more (Ok p) again rest first next = rw first.same (next p)
then more (Err fault) again rest first next = record { same = tt }

after_value : {A B : Type 0} (more : List Fields) (first : Result A ReplayFault) (rest again : A → Read B) → ((x : A) → Reads more (rest x) (again x)) → Reads more (first >>= rest) (first >>= again)
after_value more (Ok x) rest again next = next x
after_value more (Err fault) rest again next = record { same = tt }

chosen : {A : Type 0} (more : List Fields) (b : Bool) (x y x2 y2 : Read A) → Reads more x x2 → Reads more y y2 → Reads more (cond b x y) (cond b x2 y2)
chosen more true x y x2 y2 p q = p
chosen more false x y x2 y2 p q = q

first_reads : (more : List Fields) (number : ℕ) (records : List Fields) → Reads more (first_record number records) (first_record number (records ++ more))
first_reads more number [] = record { same = tt }
first_reads more number (fields ∷ records) = record { same = refl }

next_reads : (more : List Fields) (rest : Rest) → Reads more (next_record rest) (next_record (behind rest more))
unfolding next_record
next_reads more rest = first_reads more rest.number rest.records

past_reads : (more : List Fields) (number : ℕ) (records : List Fields) → Reads more (first_record number (past_remarks records)) (first_record number (past_remarks (records ++ more)))
past_reads more number [] = record { same = tt }
past_reads more number (fields ∷ records) = by_test (is_remark fields) (past_reads more number records)
  where
    by_test : (b : Bool) → Reads more (first_record number (past_remarks records)) (first_record number (past_remarks (records ++ more)))
        → Reads more (first_record number (cond b (past_remarks records) (fields ∷ records))) (first_record number (cond b (past_remarks (records ++ more)) (fields ∷ (records ++ more))))
    by_test true h = h
    by_test false h = record { same = refl }

ahead_reads : (more : List Fields) (remarks : Bool) (number : ℕ) (records : List Fields)
    → Reads more (first_record number (ahead remarks records)) (first_record number (ahead remarks (records ++ more)))
ahead_reads more true number records = past_reads more number records
ahead_reads more false number records = first_reads more number records

between_reads : (more : List Fields) (version : HistoryVersion) (rest : Rest) → Reads more (next_record (between version rest)) (next_record (between version (behind rest more)))
unfolding next_record
between_reads more version rest = ahead_reads more (has_remarks version) rest.number rest.records

item_reads : {A : Type 0} (more : List Fields) (item : Fields → Result A ℕ) (rest : Rest) → Reads more (item_from item rest) (item_from item (behind rest more))
unfolding item_from
item_reads {A} more item rest = then more _ _ _ (next_reads more rest) (λ first.
    after_value {A = A} more (in_record rest.number (item first.0)) (λ value. Ok (value, first.1)) (λ value. Ok (value, behind first.1 more)) (λ value. record { same = refl }))

items_read : {A : Type 0} (more : List Fields) (item : Fields → Result A ℕ) (count : ℕ) (rest : Rest) → Reads more (items_from item count rest) (items_from item count (behind rest more))
unfolding items_from
items_read more item zero rest = record { same = refl }
items_read more item (suc count) rest = then more _ _ _ (item_reads more item rest) (λ first. then more _ _ _ (items_read more item count first.1) (λ list. record { same = refl }))

delivered_reads : (more : List Fields) (number : ℕ) (fields : Fields) (rest : Rest) → Reads more (delivered_from number fields rest) (delivered_from number fields (behind rest more))
unfolding delivered_from
delivered_reads more number fields rest = after_value more _ _ _ (λ head. then more _ _ _ (items_read more _ head.1 rest) (λ list. record { same = refl }))

status_reads : (more : List Fields) (version : HistoryVersion) (number : ℕ) (fields : Fields) (rest : Rest)
    → Reads more (status_from version number fields rest) (status_from version number fields (behind rest more))
unfolding status_from
status_reads more version number fields rest = after_value more _ _ _ (λ count. then more _ _ _ (items_read more _ count rest) (λ list. record { same = refl }))

reply_reads : (more : List Fields) (version : HistoryVersion) (rest : Rest) → Reads more (reply_from version rest) (reply_from version (behind rest more))
unfolding reply_from reply_by
reply_reads more version rest = then more _ _ _ (next_reads more rest) (λ first.
    chosen more (is_reply (codes "delivered") 4 first.0) _ _ _ _ (delivered_reads more rest.number first.0 first.1)
    (chosen more (is_reply (codes "status") 3 first.0) _ _ _ _ (status_reads more version rest.number first.0 first.1)
    (after_value {A = Reply} more (in_record rest.number (plain_reply version first.0)) (λ reply. Ok (reply, first.1)) (λ reply. Ok (reply, behind first.1 more))
    (λ reply. record { same = refl }))))

entry_by_reads : (more : List Fields) (version : HistoryVersion) (number : ℕ) (fields : Fields) (rest : Rest)
    → Reads more (entry_by version number fields rest) (entry_by version number fields (behind rest more))
unfolding entry_by
entry_by_reads more version number fields rest = after_value {A = ℕ} more (in_record number (caller_of fields)) _ _ (λ caller. after_value {A = Call} more (call_of version number fields) _ _
    (λ call. then more _ _ (λ reply. Ok (Some (record { caller = caller; call = call; reply = reply.0 }), reply.1)) (reply_reads more version rest) (λ reply. record { same = refl })))

-- The end is no entry.
abbrev IsNoEntry : Read (Option Entry) → Type 0
IsNoEntry (Ok read) = read.0 ≡ None
IsNoEntry (Err fault) = ⊤

nothing_ends : (rest : Rest) (records : List Fields) → IsNoEntry (nothing_in rest records)
nothing_ends rest [] = refl
nothing_ends rest (fields ∷ records) = tt

end_ends : (count number : ℕ) (fields : Fields) (rest : Rest) → IsNoEntry (end_by count number fields rest)
unfolding end_by
end_ends count number fields rest = go (in_record number (told_count count fields))
  where
    go : (told : Result ℕ ReplayFault) → IsNoEntry (told >>= λ n. nothing_in rest rest.records)
    go (Ok n) = nothing_ends rest rest.records
    go (Err fault) = tt

-- An entry is read again with more records behind.
pub entry_reads : (more : List Fields) (version : HistoryVersion) (count : ℕ) (rest new : Rest) (entry : Entry) → entry_from version count rest ≡ Ok (Some entry, new)
    → entry_from version count (behind rest more) ≡ Ok (Some entry, behind new more)
unfolding entry_from
entry_reads more version count rest new entry = go (next_record (between version rest)) (next_record (between version (behind rest more))) (between_reads more version rest)
  where
    chosen_by : (last : Bool) (first : Fields) (left : Rest) → cond last (end_by count rest.number first left) (entry_by version rest.number first left) ≡ Ok (Some entry, new)
        → cond last (end_by count rest.number first (behind left more)) (entry_by version rest.number first (behind left more)) ≡ Ok (Some entry, behind new more)
    chosen_by true first left is = let no = rw is at (end_ends count rest.number first left) in cc no
    chosen_by false first left is = let again = rw is at ((entry_by_reads more version rest.number first left).same) in again

    go : (read again : Read Fields) → Reads more read again
        → (read >>= λ first. cond (is_end first.0) (end_by count rest.number first.0 first.1) (entry_by version rest.number first.0 first.1)) ≡ Ok (Some entry, new)
        → (again >>= λ first. cond (is_end first.0) (end_by count rest.number first.0 first.1) (entry_by version rest.number first.0 first.1)) ≡ Ok (Some entry, behind new more)
    go (Ok first) again reads is = rw reads.same (chosen_by (is_end first.0) first.0 first.1 is)
    go (Err fault) again reads is = cc is
