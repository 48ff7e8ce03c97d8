-- An entry takes a record at least, so more turns than there are records are enough for all entries.
use Rattle.dn_history.proofs.Words.{Bool, Call, Entry, Err, Fields, HistoryVersion, IsFaultOf, List, None, Ok, Option, ReplayFault, Rest, Result, Some, [], ap, arith, before, between, call_of}
use Rattle.dn_history.proofs.Words.{caller_of, carried, cond, delivered_from, end_by, entries_from, entry_by, entry_from, false, first_record, has_remarks, in_record, item_from, items_from}
use Rattle.dn_history.proofs.Words.{length, next_record, nothing_in, refl, reply_by, reply_from, status_from, suc, true, zero, ℕ, ⊤, ◌+◌, ◌<◌, ◌>>=◌, ◌∷◌, ◌≡◌, ◌≤◌}
use Rattle.dn_files.specs.declared.replay_fault.ReplayFault.TheVariants.{Read as ReadFailed, Write, OutOfMemory}
use Rattle.dn_history.specs.RecordsLeft.{Read}
use Rattle.dn_history.proofs.Remarks.{ahead_le}

abbrev AreBelow : {A : Type 0} → ℕ → Read A → Type 0
AreBelow n (Ok read) = length read.1.records < n
AreBelow n (Err fault) = ⊤

-- Fewer records than this are left behind what is read.
record Leaves {A : Type 0} (n : ℕ) (r : Read A) : Type 0 where
  fits : AreBelow n r

bound : {A B : Type 0} (m n : ℕ) (first : Read A) (rest : A × Rest → Read B) → Leaves m first → ((p : A × Rest) → length p.1.records < m → Leaves n (rest p)) → Leaves n (first >>= rest)
bound m n (Ok p) rest fewer more = more p fewer.fits
bound m n (Err fault) rest fewer more = record { fits = tt }

after_value : {A B : Type 0} (n : ℕ) (first : Result A ReplayFault) (rest : A → Read B) → ((x : A) → Leaves n (rest x)) → Leaves n (first >>= rest)
after_value n (Ok x) rest more = more x
after_value n (Err fault) rest more = record { fits = tt }

chosen : {A : Type 0} (n : ℕ) (b : Bool) (x y : Read A) → Leaves n x → Leaves n y → Leaves n (cond b x y)
chosen n true x y p q = p
chosen n false x y p q = q

ready : {A : Type 0} (n : ℕ) (value : A) (rest : Rest) → length rest.records < n → Leaves n (Ok (value, rest))
ready n value rest fewer = record { fits = fewer }

first_leaves : (number : ℕ) (records : List Fields) → Leaves (length records) (first_record number records)
first_leaves number [] = record { fits = tt }
first_leaves number (fields ∷ records) = record { fits = omega arith }

next_leaves : (rest : Rest) → Leaves (length rest.records) (next_record rest)
unfolding next_record
next_leaves rest = first_leaves rest.number rest.records

item_leaves : {A : Type 0} (item : Fields → Result A ℕ) (n : ℕ) (rest : Rest) → length rest.records < n → Leaves n (item_from item rest)
unfolding item_from
item_leaves item n rest few = bound (length rest.records) n _ _ (next_leaves rest) (λ first fewer. after_value n _ _ (λ value. ready n value first.1 (omega arith)))

items_leave : {A : Type 0} (item : Fields → Result A ℕ) (count n : ℕ) (rest : Rest) → length rest.records < n → Leaves n (items_from item count rest)
unfolding items_from
items_leave item zero n rest few = record { fits = few }
items_leave item (suc count) n rest few = bound n n _ _ (item_leaves item n rest few) (λ first fewer. bound n n _ _ (items_leave item count n first.1 fewer) (λ more left. ready n _ more.1 left))

delivered_leaves : (number : ℕ) (fields : Fields) (n : ℕ) (rest : Rest) → length rest.records < n → Leaves n (delivered_from number fields rest)
unfolding delivered_from
delivered_leaves number fields n rest few = after_value n _ _ (λ head. bound n n _ _ (items_leave _ head.1 n rest few) (λ list left. ready n _ list.1 left))

status_leaves : (version : HistoryVersion) (number : ℕ) (fields : Fields) (n : ℕ) (rest : Rest) → length rest.records < n → Leaves n (status_from version number fields rest)
unfolding status_from
status_leaves version number fields n rest few = after_value n _ _ (λ count. bound n n _ _ (items_leave _ count n rest few) (λ list left. ready n _ list.1 left))

reply_leaves : (version : HistoryVersion) (n : ℕ) (rest : Rest) → length rest.records < n → Leaves n (reply_from version rest)
unfolding reply_from reply_by
reply_leaves version n rest few = bound (length rest.records) n _ _ (next_leaves rest) (λ first fewer.
    let less : length first.1.records < n = omega arith in
    chosen n _ _ _ (delivered_leaves rest.number first.0 n first.1 less) (chosen n _ _ _ (status_leaves version rest.number first.0 n first.1 less)
    (after_value n _ _ (λ reply. ready n reply first.1 less))))

entry_by_leaves : (version : HistoryVersion) (number : ℕ) (fields : Fields) (n : ℕ) (rest : Rest) → length rest.records < n → Leaves n (entry_by version number fields rest)
unfolding entry_by
entry_by_leaves version number fields n rest few = after_value {A = ℕ} n (in_record number (caller_of fields)) _ (λ caller. after_value {A = Call} n (call_of version number fields) _
    (λ call. bound n n _ (λ reply. Ok (Some (record { caller = caller; call = call; reply = reply.0 }), reply.1)) (reply_leaves version n rest few) (λ reply left. record { fits = left })))

nothing_leaves : (n : ℕ) (rest : Rest) (records : List Fields) → length rest.records < n → Leaves n (nothing_in rest records)
nothing_leaves n rest [] few = record { fits = few }
nothing_leaves n rest (fields ∷ records) few = record { fits = tt }

end_leaves : (count number : ℕ) (fields : Fields) (n : ℕ) (rest : Rest) → length rest.records < n → Leaves n (end_by count number fields rest)
unfolding end_by
end_leaves count number fields n rest few = after_value n _ _ (λ told. nothing_leaves n rest rest.records few)

weaker : {A : Type 0} (m n : ℕ) (r : Read A) → m ≤ n → Leaves m r → Leaves n r
weaker m n (Ok read) le h = record { fits = omega (arith, h.fits) }
weaker m n (Err fault) le h = record { fits = tt }

next_between : (version : HistoryVersion) (rest : Rest) → Leaves (length rest.records) (next_record (between version rest))
next_between version rest = weaker _ _ _ (ahead_le (has_remarks version) rest.records) (next_leaves (between version rest))

entry_leaves : (version : HistoryVersion) (count : ℕ) (rest : Rest) → Leaves (length rest.records) (entry_from version count rest)
unfolding entry_from
entry_leaves version count rest = bound (length rest.records) (length rest.records) _ _ (next_between version rest) (λ first fewer.
    chosen (length rest.records) _ _ _ (end_leaves count rest.number first.0 (length rest.records) first.1 fewer) (entry_by_leaves version rest.number first.0 (length rest.records) first.1 fewer))

-- The entries don't depend on the count of turns, where that is above the count of records.
pub same_entries : (k m : ℕ) (version : HistoryVersion) (count : ℕ) (rest : Rest) → length rest.records < k → length rest.records < m
    → entries_from k version count rest ≡ entries_from m version count rest
unfolding entries_from
same_entries zero m version count rest lk lm = absurd (omega (arith, lk))
same_entries (suc k) zero version count rest lk lm = absurd (omega (arith, lm))
same_entries (suc k) (suc m) version count rest lk lm =
    read (λ new fewer. same_entries k m version (count + 1) new (omega (arith, lk, fewer)) (omega (arith, lm, fewer))) (entry_from version count rest) (entry_leaves version count rest)
  where
    next : ((new : Rest) → length new.records < length rest.records → entries_from k version (count + 1) new ≡ entries_from m version (count + 1) new)
        → (entry : Option Entry) (new : Rest) → length new.records < length rest.records → before entry (entries_from k version (count + 1) new) ≡ before entry (entries_from m version (count + 1) new)
    next same None new fewer = refl
    next same (Some entry) new fewer = ap (before (Some entry)) (same new fewer)

    read : ((new : Rest) → length new.records < length rest.records → entries_from k version (count + 1) new ≡ entries_from m version (count + 1) new)
        → (r : Read (Option Entry)) → Leaves (length rest.records) r → (r >>= λ first. before first.0 (entries_from k version (count + 1) first.1))
        ≡ (r >>= λ first. before first.0 (entries_from m version (count + 1) first.1))
    read same (Ok first) fewer = next same first.0 first.1 fewer.fits
    read same (Err fault) fewer = refl

-- What is left of the entries after a read of one.
pub entries_step : (version : HistoryVersion) (count : ℕ) (old new : Rest) (entry : Option Entry) → entry_from version count old ≡ Ok (entry, new)
    → length new.records < length old.records → entries_from (length old.records + 1) version count old ≡ before entry (entries_from (length new.records + 1) version (count + 1) new)
unfolding entries_from
entries_step version count old new entry is fewer = go (length old.records + 1) (omega arith)
  where
    go : (turns : ℕ) → length old.records < turns → entries_from turns version count old ≡ before entry (entries_from (length new.records + 1) version (count + 1) new)
    go zero few = absurd (omega (arith, few))
    go (suc turns) few = rw is (ap (before entry) (same_entries turns (length new.records + 1) version (count + 1) new (omega (arith, few, fewer)) (omega arith)))

-- The fault of the next entry is that of all that are left.
pub entries_fault : (version : HistoryVersion) (count : ℕ) (old : Rest) (fault : ReplayFault) → IsFaultOf (entry_from version count old) fault
    → IsFaultOf (entries_from (length old.records + 1) version count old) fault
unfolding entries_from
entries_fault version count old fault is = go (length old.records + 1) (omega arith)
  where
    go : (turns : ℕ) → length old.records < turns → IsFaultOf (entries_from turns version count old) fault
    go zero few = absurd (omega (arith, few))
    go (suc turns) few = carried (entry_from version count old) (entries_from (suc turns) version count old) fault (λ f e. rw e refl) is

-- The fault of a text is the fault of what fails by it.
pub own_fault : {A : Type 0} (read : Result A ReplayFault) (fault : ReplayFault) → IsFaultOf read fault → IsFaultOf {A = List Entry} (Err fault) fault
own_fault read OutOfMemory is = tt
own_fault read (ReadFailed source) is = absurd is
own_fault read (Write source) is = absurd is
own_fault read fault is = refl
