-- Why a call was answered so, in words.
use Rattle.std.specs.Prelude.{ℕ, List, [], ◌∷◌, ◌++◌, codes, cond, decimal, get_or, nat_eq}
use Rattle.dn_config.specs.Faults.{fault_name, named_at}
use Rattle.dn_config.specs.declared.fault.LineFault.TheVariants.{UnknownWord, MissingValue, BadNumber, OutOfRange, LeftOut, NeedsPipe, OutOfMemory}
use Rattle.hingetulip_c.specs.declared.records.c_fault.CFault.{CFault}

-- The words for each kind of a fault, from 0 on, and for another number.
abbrev pub faults : List (List ℕ)
faults = codes "not UTF-8" ∷ fault_name (UnknownWord 0) ∷ fault_name (MissingValue 0) ∷ fault_name (BadNumber 0)
    ∷ fault_name (OutOfRange 0) ∷ fault_name (LeftOut 0) ∷ fault_name (NeedsPipe 0) ∷ fault_name OutOfMemory ∷ []

abbrev pub fault_words : ℕ → List ℕ
fault_words kind = get_or faults kind (codes "fault " ++ decimal kind)

-- The words for each status, from 0 on, and for another number.
abbrev pub statuses : List (List ℕ)
statuses =
    codes "done" ∷ codes "the shaper answered 2^62 calls before" ∷ codes "no such pipe" ∷ codes "pipe has queues" ∷ codes "no such queue" ∷
    codes "the handle is closed" ∷ codes "out of memory" ∷ codes "the room is too short" ∷ codes "the line is no command" ∷
    codes "a moment isn't in 0 to 2^62 ns" ∷ codes "no rule" ∷ codes "a kind that is neither 0, for a pipe, nor 1, for a queue" ∷
    codes "the number of a pipe or queue isn't in 1 to 65535" ∷ codes "a length isn't in 1 to 65535 bytes" ∷
    codes "a reserved field that isn't 0" ∷ codes "another caller was in a call" ∷ codes "the number of callers isn't in 1 to 15" ∷
    codes "an entry waits to be written" ∷ codes "no entry waits to be written" ∷ codes "the packet's flow is new" ∷
    codes "the number of a history's caller isn't in 0 to 15" ∷ codes "an outcome that is none" ∷ codes "a row of a packet file that is none" ∷
    codes "history too long" ∷ codes "a record of a history that is none" ∷ []

abbrev pub status_words : ℕ → List ℕ
status_words status = get_or statuses status (codes "status " ++ decimal status)

-- The words for a fault, at its word if it has one.
abbrev pub fault_reason : CFault → List ℕ
fault_reason f = cond (nat_eq f.word 0) (fault_words f.kind) (named_at f.word (fault_words f.kind))

-- Why a call was answered so: under DN_LINE what is wrong with the line.
abbrev pub reason : ℕ → CFault → List ℕ
reason status f = cond (nat_eq status 8) (fault_reason f) (status_words status)
