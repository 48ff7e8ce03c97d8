-- The records in a line, as they are read.
use Rattle.dn_live.proofs.Words.{Bool, Fields, IsRead, List, Takes, [], ap, false, has_none, not, refl, true, ◌∷◌, ◌≡◌}

-- The line has no record.
pub none_read : (old new : List Fields) (row fields : Fields) → Takes old new false row → fields ≡ [] → IsRead old true fields
none_read [] new row fields takes e = (refl, e)
none_read (first ∷ rest) new row fields takes e = let no = takes.0 in cc

-- It has one, and maybe more.
pub first_read : (old rest : List Fields) (fields : Fields) (none : Bool) → Takes old rest true fields → none ≡ has_none rest → IsRead old none fields
first_read [] rest fields none takes is = let no = takes.0 in cc
first_read (f ∷ []) rest fields none takes is = (rw takes.2 at is, takes.1)
first_read (f ∷ g ∷ more) rest fields none takes is = (rw takes.2 at is, takes.1)

-- Whether one was there tells whether there was none.
pub none_left : (old new : List Fields) (fields : Fields) (found : Bool) → Takes old new found fields → not found ≡ has_none old
none_left [] new fields found takes = ap not takes.0
none_left (first ∷ rest) new fields found takes = ap not takes.0
