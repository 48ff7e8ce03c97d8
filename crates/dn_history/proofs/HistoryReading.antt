-- Reading the records of a history one after the other.
use Rattle.dn_history.proofs.Words.{BadRecord, Config, Entry, Err, Fields, IsFaultOf, List, None, Ok, Option, ReplayFault, Rest, Result, Some, StartRecord, TakesFront, [], ap, append-nil}
use Rattle.dn_history.proofs.Words.{append_assoc, arith, before, carried, default_config, false, item_from, items_from, length, length-take, narrow_record, nat_lt, nat_tests, next_record}
use Rattle.dn_history.proofs.Words.{records_from, records_next, records_of, refl, strip_bom, suc, sym, take_all, too_many, true, zero, ℕ, ◌++◌, ◌+◌, ◌-◌, ◌<◌, ◌>>=◌, ◌∙◌, ◌∷◌, ◌≡◌, ◌≤◌}
use Rattle.csv.specs.Machine.{Read as ReadOff, next_record as next_read}
use Rattle.csv.specs.declared.parser.State.{State}

-- The records of a text are no more than its turns, and so few that they can be numbered.
records_le : (config : Config) (turns : ℕ) (s : State) (text : List ℕ) → length (records_from config turns s text) ≤ turns
unfolding records_from
records_le config zero s text = omega arith
records_le config (suc turns) s text = go (λ read. records_le config turns read.1 read.2) (next_read config s [] [] text)
  where
    go : ((read : ReadOff) → length (records_from config turns read.1 read.2) ≤ turns) → (o : Option ReadOff) → length (records_next (records_from config turns) o) ≤ suc turns
    go few None = omega arith
    go few (Some read) = let le = few read in omega (arith, le)

bom_le : (text : List ℕ) → length (strip_bom text) ≤ length text
unfolding strip_bom
bom_le [] = omega arith
bom_le (a ∷ []) = omega arith
bom_le (a ∷ b ∷ []) = omega arith
bom_le (a ∷ b ∷ c ∷ rest) = grind arith

pub numbered : (text : List ℕ) → length (records_of text) ≤ length text + 1
numbered text =
    let le = records_le default_config (length (strip_bom text) + 1) StartRecord (strip_bom text) in
    let shorter = bom_le text in
    omega (arith, le, shorter)

-- One record more, one that has too many fields, and none.
pub took : (number : ℕ) (old new : List Fields) (fields : Fields) → TakesFront too_many old new true fields → length fields < too_many
    → next_record (record { number = number; records = old }) ≡ Ok (fields, record { number = number + 1; records = new })
unfolding next_record
took number [] new fields takes few = let no = takes.0 in cc
took number (first ∷ rest) new fields takes few =
    let count = ap (length {A = List ℕ}) takes.1 in
    let whole : fields ≡ first = takes.1 ∙ take_all too_many first (omega (arith, count, length-take too_many first, few)) in
    rw (whole, takes.2) refl

pub wide : (number : ℕ) (old new : List Fields) (fields : Fields) → TakesFront too_many old new true fields → too_many ≤ length fields
    → narrow_record (record { number = number; records = old }) ≡ Err (BadRecord number)
unfolding narrow_record next_record
wide number [] new fields takes many = let no = takes.0 in cc
wide number (first ∷ rest) new fields takes many =
    let count = ap (length {A = List ℕ}) takes.1 in
    let long : too_many ≤ length first = omega (arith, count, length-take too_many first, many) in
    let no : nat_lt (length first) too_many ≡ false = grind (arith, nat_tests) in
    rw no refl

pub missing : (number : ℕ) (old new : List Fields) (fields : Fields) → TakesFront too_many old new false fields
    → narrow_record (record { number = number; records = old }) ≡ Err (BadRecord number)
unfolding narrow_record next_record
missing number [] new fields takes = refl
missing number (first ∷ rest) new fields takes = let no = takes.0 in cc

pub emptied : (most : ℕ) (old new : List Fields) (fields : Fields) → TakesFront most old new false fields → length new ≤ length old
emptied most [] new fields takes = rw takes.1 (omega arith)
emptied most (first ∷ rest) new fields takes = let no = takes.0 in cc

-- A list of items, of which a front was read.
abbrev pub with_front : {A : Type 0} → List A → Result (List A × Rest) ReplayFault → Result (List A × Rest) ReplayFault
with_front front read = read >>= λ p. Ok (front ++ p.0, p.1)

pub starts : {A : Type 0} (read : Result (List A × Rest) ReplayFault) → with_front [] read ≡ read
starts (Ok p) = refl
starts (Err fault) = refl

regroup : {A : Type 0} (front : List A) (value : A) (read : Result (List A × Rest) ReplayFault)
    → with_front front (read >>= λ more. Ok (value ∷ more.0, more.1)) ≡ with_front (front ++ value ∷ []) read
regroup {A} front value (Ok p) = ap (λ (list : List A). Ok (list, p.1)) (simp append_assoc)
regroup front value (Err fault) = refl

pub one_more : {A : Type 0} (item : Fields → Result A ℕ) (front : List A) (count : ℕ) (old new : Rest) (value : A) (whole : Result (List A × Rest) ReplayFault)
    → 0 < count → item_from item old ≡ Ok (value, new) → with_front front (items_from item count old) ≡ whole → with_front (front ++ value ∷ []) (items_from item (count - 1) new) ≡ whole
unfolding items_from
one_more item front zero old new value whole some is so_far = absurd (omega (arith, some))
one_more item front (suc count) old new value whole some is so_far =
    let here = rw is at so_far in
    let less : suc count - 1 ≡ count = omega arith in
    rw less (sym (regroup front value (items_from item count new)) ∙ here)

pub all_read : {A : Type 0} (item : Fields → Result A ℕ) (front : List A) (count : ℕ) (rest : Rest) (whole : Result (List A × Rest) ReplayFault)
    → count ≡ 0 → with_front front (items_from item count rest) ≡ whole → whole ≡ Ok (front, rest)
unfolding items_from
all_read {A} item front count rest whole none so_far =
    let here = rw none at so_far in
    sym here ∙ ap (λ (list : List A). Ok (list, rest)) (append-nil front)

pub bad_item : {A : Type 0} (item : Fields → Result A ℕ) (front : List A) (count : ℕ) (old : Rest) (fault : ReplayFault) (whole : Result (List A × Rest) ReplayFault)
    → 0 < count → IsFaultOf (item_from item old) fault → with_front front (items_from item count old) ≡ whole → IsFaultOf whole fault
unfolding items_from
bad_item item front zero old fault whole some is so_far = absurd (omega (arith, some))
bad_item item front (suc count) old fault whole some is so_far =
    carried (item_from item old) whole fault (λ f e. let here = rw e at so_far in sym here) is

-- The entries, of which a front was read.
abbrev pub after_front : List Entry → Result (List Entry) ReplayFault → Result (List Entry) ReplayFault
after_front front read = read >>= λ entries. Ok (front ++ entries)

pub begins : (read : Result (List Entry) ReplayFault) → after_front [] read ≡ read
begins (Ok entries) = refl
begins (Err fault) = refl

joined : (front : List Entry) (entry : Entry) (read : Result (List Entry) ReplayFault) → after_front front (before (Some entry) read) ≡ after_front (front ++ entry ∷ []) read
joined front entry (Ok entries) = ap (λ (es : List Entry). Ok es) (simp append_assoc)
joined front entry (Err fault) = refl

-- One entry more, none, and a fault.
pub entry_read : (front : List Entry) (old new : Result (List Entry) ReplayFault) (entry : Entry) (whole : Result (List Entry) ReplayFault)
    → old ≡ before (Some entry) new → after_front front old ≡ whole → after_front (front ++ entry ∷ []) new ≡ whole
entry_read front old new entry whole is so_far = let here = rw is at so_far in sym (joined front entry new) ∙ here

pub end_read : (front : List Entry) (old whole : Result (List Entry) ReplayFault) → old ≡ Ok [] → after_front front old ≡ whole → whole ≡ Ok front
end_read front old whole is so_far = let here = rw is at so_far in sym here ∙ ap (λ (es : List Entry). Ok es) (append-nil front)

pub bad_entry : (front : List Entry) (old : Result (List Entry) ReplayFault) (fault : ReplayFault) (whole : Result (List Entry) ReplayFault)
    → IsFaultOf old fault → after_front front old ≡ whole → IsFaultOf whole fault
bad_entry front old fault whole is so_far = carried old whole fault (λ f e. let here = rw e at so_far in sym here) is
