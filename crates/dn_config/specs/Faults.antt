-- Where the fault of a line is, and the words for it.
use Rattle.std.specs.Prelude.{ℕ, List, Option, Some, None, ◌++◌, codes, decimal, unwrap_or}
use Rattle.dn_config.specs.declared.fault.LineFault.{LineFault}
use Rattle.dn_config.specs.declared.fault.LineFault.TheVariants.{UnknownWord, MissingValue, BadNumber, OutOfRange, LeftOut, NeedsPipe, OutOfMemory}

-- The position of the word that a fault concerns, from 1; as a number, 0 where there is none.
abbrev pub position_of : LineFault → Option ℕ
position_of (UnknownWord at) = Some at
position_of (MissingValue at) = Some at
position_of (BadNumber at) = Some at
position_of (OutOfRange at) = Some at
position_of (LeftOut at) = Some at
position_of (NeedsPipe at) = Some at
position_of OutOfMemory = None

abbrev pub word_of : LineFault → ℕ
word_of fault = unwrap_or (position_of fault) 0

-- What a fault is called.
abbrev pub fault_name : LineFault → List ℕ
fault_name (UnknownWord at) = codes "unknown word"
fault_name (MissingValue at) = codes "missing value"
fault_name (BadNumber at) = codes "bad number"
fault_name (OutOfRange at) = codes "out of range"
fault_name (LeftOut at) = codes "left out"
fault_name (NeedsPipe at) = codes "needs a pipe"
fault_name OutOfMemory = codes "out of memory"

-- The words for a fault of this name at this word, and those for a fault.
abbrev pub named_at : ℕ → List ℕ → List ℕ
named_at word name = codes "word " ++ decimal word ++ codes ": " ++ name

abbrev pub fault_text : LineFault → List ℕ
fault_text fault = named_at (word_of fault) (fault_name fault)
