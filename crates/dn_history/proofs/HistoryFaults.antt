-- The faults that a history file can have of its own: it is too long, or a record is bad.
use Rattle.dn_history.proofs.Words.{BadRecord, Bool, Command, Entry, Err, Fields, History, HistoryVersion, IsHistoryFault, IsRefusal, List, None, Ok, Option, OutOfMemory, ReplayFault, Rest}
use Rattle.dn_history.proofs.Words.{Result, Rule, Some, TooLong, Write, [], before, between, call_of, command_by, cond, delivered_from, end_by, entries_from, entry_by, entry_from, false}
use Rattle.dn_history.proofs.Words.{first_record, history_file, history_from, history_in, history_limit, in_record, item_from, items_from, length, nat_le, next_record, nothing_in, refl, reply_by}
use Rattle.dn_history.proofs.Words.{reply_from, status_from, suc, true, within_limit, zero, ℕ, ⊤, ◌+◌, ◌>>=◌, ◌∷◌, ◌≡◌}
use Rattle.dn_files.specs.declared.replay_fault.ReplayFault.TheVariants.{Read}

abbrev HasFileFault : {A : Type 0} → Result A ReplayFault → Type 0
HasFileFault (Ok value) = ⊤
HasFileFault (Err fault) = IsHistoryFault fault

-- The fault, if there is one, is among those.
record IsGood {A : Type 0} (r : Result A ReplayFault) : Type 0 where
  fits : HasFileFault r

bound : {A B : Type 0} (first : Result A ReplayFault) (rest : A → Result B ReplayFault) → IsGood first → ((x : A) → IsGood (rest x)) → IsGood (first >>= rest)
bound (Ok x) rest good more = more x
bound (Err fault) rest good more = record { fits = good.fits }

value_good : {A : Type 0} (value : A) → IsGood (Ok value)
value_good value = record { fits = tt }

record_good : {A : Type 0} (number : ℕ) → IsGood {A = A} (Err (BadRecord number))
record_good number = record { fits = tt }

chosen : {A : Type 0} (b : Bool) (x y : Result A ReplayFault) → IsGood x → IsGood y → IsGood (cond b x y)
chosen true x y p q = p
chosen false x y p q = q

in_one : {A : Type 0} (number : ℕ) (r : Result A ℕ) → IsGood (in_record number r)
in_one number (Ok value) = record { fits = tt }
in_one number (Err place) = record { fits = tt }

first_good : (number : ℕ) (records : List Fields) → IsGood (first_record number records)
first_good number [] = record { fits = tt }
first_good number (fields ∷ records) = record { fits = tt }

next_good : (rest : Rest) → IsGood (next_record rest)
unfolding next_record
next_good rest = first_good rest.number rest.records

command_good : (version : HistoryVersion) (number : ℕ) (r : Result (Option Command) ReplayFault) → IsGood (command_by version number r)
command_good version number (Ok None) = record { fits = tt }
command_good version number (Ok (Some command)) = chosen _ _ _ (record_good number) (value_good command)
command_good version number (Err OutOfMemory) = record { fits = tt }
command_good version number (Err fault) = record { fits = tt }

call_good : (version : HistoryVersion) (number : ℕ) (fields : Fields) → IsGood (call_of version number fields)
unfolding call_of
call_good version number fields = chosen _ _ _ (bound _ _ (command_good version number _) (λ command. value_good _)) (in_one number _)

item_good : {A : Type 0} (item : Fields → Result A ℕ) (rest : Rest) → IsGood (item_from item rest)
unfolding item_from
item_good item rest = bound _ _ (next_good rest) (λ first. bound _ _ (in_one rest.number _) (λ value. value_good _))

items_good : {A : Type 0} (item : Fields → Result A ℕ) (count : ℕ) (rest : Rest) → IsGood (items_from item count rest)
unfolding items_from
items_good item zero rest = record { fits = tt }
items_good item (suc count) rest = bound _ _ (item_good item rest) (λ first. bound _ _ (items_good item count first.1) (λ more. value_good _))

delivered_good : (number : ℕ) (fields : Fields) (rest : Rest) → IsGood (delivered_from number fields rest)
unfolding delivered_from
delivered_good number fields rest = bound _ _ (in_one number _) (λ head. bound _ _ (items_good _ head.1 rest) (λ list. value_good _))

status_good : (version : HistoryVersion) (number : ℕ) (fields : Fields) (rest : Rest) → IsGood (status_from version number fields rest)
unfolding status_from
status_good version number fields rest = bound _ _ (in_one number _) (λ count. bound _ _ (items_good _ count rest) (λ list. value_good _))

reply_good : (version : HistoryVersion) (rest : Rest) → IsGood (reply_from version rest)
unfolding reply_from reply_by
reply_good version rest = bound _ _ (next_good rest) (λ first. chosen _ _ _ (delivered_good rest.number first.0 first.1)
    (chosen _ _ _ (status_good version rest.number first.0 first.1) (bound _ _ (in_one rest.number _) (λ reply. value_good _))))

entry_good : (version : HistoryVersion) (number : ℕ) (fields : Fields) (rest : Rest) → IsGood (entry_by version number fields rest)
unfolding entry_by
entry_good version number fields rest = bound _ _ (in_one number _) (λ caller. bound _ _ (call_good version number fields) (λ call. bound _ _ (reply_good version rest) (λ reply. value_good _)))

nothing_good : (rest : Rest) (records : List Fields) → IsGood (nothing_in rest records)
nothing_good rest [] = record { fits = tt }
nothing_good rest (fields ∷ records) = record { fits = tt }

end_good : (count number : ℕ) (fields : Fields) (rest : Rest) → IsGood (end_by count number fields rest)
unfolding end_by
end_good count number fields rest = bound _ _ (in_one number _) (λ told. nothing_good rest rest.records)

next_entry_good : (version : HistoryVersion) (count : ℕ) (rest : Rest) → IsGood (entry_from version count rest)
unfolding entry_from
next_entry_good version count rest = bound _ _ (next_good (between version rest)) (λ first. chosen _ _ _ (end_good count rest.number first.0 first.1) (entry_good version rest.number first.0 first.1))

before_good : (entry : Option Entry) (entries : Result (List Entry) ReplayFault) → IsGood entries → IsGood (before entry entries)
before_good None entries good = record { fits = tt }
before_good (Some entry) entries good = bound _ _ good (λ more. value_good _)

entries_good : (turns : ℕ) (version : HistoryVersion) (count : ℕ) (rest : Rest) → IsGood (entries_from turns version count rest)
unfolding entries_from
entries_good zero version count rest = record { fits = tt }
entries_good (suc turns) version count rest = bound _ _ (next_entry_good version count rest) (λ first. before_good first.0 _ (entries_good turns version (count + 1) first.1))

history_good : (rest : Rest) → IsGood (history_from rest)
unfolding history_from
history_good rest = bound _ _ (next_good rest) (λ first. bound _ _ (in_one rest.number _) (λ version. bound _ _ (entries_good _ version 0 first.1) (λ entries. value_good _)))

limit_good : (b : Bool) (text : List ℕ) → IsGood (cond b (Ok text) (Err (TooLong History)))
limit_good true text = record { fits = tt }
limit_good false text = record { fits = refl }

-- What a text of at most so many bytes is read as.
abbrev file_within : ℕ → List ℕ → Result (Rule × List Entry) ReplayFault
file_within limit text = within_limit limit History text >>= history_in

file_good : (limit : ℕ) (text : List ℕ) → IsGood (file_within limit text)
file_good limit text = bound _ _ (limit_good (nat_le (length text) limit) text) (λ whole. history_good _)

of_file : (limit : ℕ) (text : List ℕ) (fault : ReplayFault) → file_within limit text ≡ Err fault → IsHistoryFault fault
of_file limit text fault is = (rw is at (file_good limit text)).fits

-- Why a history file isn't read.
pub of_reading_within : (limit : ℕ) (known : Option (List ℕ)) (failed : Bool) (fault : ReplayFault) → IsRefusal History (file_within limit) known failed fault → IsHistoryFault fault
of_reading_within limit known failed (Read what) h = h.0
of_reading_within limit known failed (Write what) h = absurd h
of_reading_within limit known failed OutOfMemory h = tt
of_reading_within limit known failed fault h = of_file limit h.1.0 fault h.1.2

-- The same with the limit of a history file.
pub of_reading : (known : Option (List ℕ)) (failed : Bool) (fault : ReplayFault) → IsRefusal History history_file known failed fault → IsHistoryFault fault
of_reading known failed fault h = of_reading_within history_limit known failed fault h
