-- Records are taken one by one, and remarks are passed over where they may be.
use Rattle.dn_history.proofs.Words.{Bool, Fields, List, TakesFront, [], ahead, arith, cases_Bool, false, field_at, inl, inr, is_remark, length, past_remarks, refl, sym, take, too_many, true, ◌&&◌}
use Rattle.dn_history.proofs.Words.{◌∙◌, ◌∷◌, ◌≡◌, ◌≤◌}

-- A remark is known by its first field.
front-remark : (fields : Fields) → is_remark (take too_many fields) ≡ is_remark fields
unfolding field_at
front-remark [] = refl
front-remark (first ∷ fields) = refl

-- A record that is passed over.
pub passed_over : (remarks : Bool) (old new whole : List Fields) (fields : Fields) → TakesFront too_many old new true fields → (remarks && is_remark fields) ≡ true → ahead remarks whole ≡ ahead remarks old
    → ahead remarks whole ≡ ahead remarks new
passed_over remarks [] new whole fields takes over same = let no = takes.0 in cc
passed_over false (first ∷ rest) new whole fields takes over same = cc over
passed_over true (first ∷ rest) new whole fields takes over same =
    let is : is_remark first ≡ true = sym (front-remark first) ∙ rw takes.1 at over in
    same ∙ (rw (is, takes.2) refl)

-- A record that counts.
pub found_plain : (remarks : Bool) (old new whole : List Fields) (fields : Fields) → TakesFront too_many old new true fields → (remarks && is_remark fields) ≡ false → ahead remarks whole ≡ ahead remarks old
    → TakesFront too_many (ahead remarks whole) new true fields
found_plain remarks [] new whole fields takes plain same = let no = takes.0 in cc
found_plain false (first ∷ rest) new whole fields takes plain same = rw same (refl, takes.1, takes.2)
found_plain true (first ∷ rest) new whole fields takes plain same =
    let is : is_remark first ≡ false = sym (front-remark first) ∙ rw takes.1 at plain in
    let first_is : past_remarks (first ∷ rest) ≡ first ∷ rest = rw is refl in
    rw (same ∙ first_is) (refl, takes.1, takes.2)

-- No record is left.
pub none_left : (remarks : Bool) (old new whole : List Fields) (fields : Fields) → TakesFront too_many old new false fields → ahead remarks whole ≡ ahead remarks old → TakesFront too_many (ahead remarks whole) new false fields
none_left remarks (first ∷ rest) new whole fields takes same = let no = takes.0 in cc
none_left true [] new whole fields takes same = rw same (refl, takes.1)
none_left false [] new whole fields takes same = rw same (refl, takes.1)

-- They are no more than all records.
past_le : (records : List Fields) → length (past_remarks records) ≤ length records
past_le [] = omega arith
past_le (first ∷ rest) =
    let le = past_le rest in
    elim (cases_Bool (is_remark first)) [ inl remark ↦ rw remark (omega (arith, le)) | inr plain ↦ rw plain (omega arith) ]

pub ahead_le : (remarks : Bool) (records : List Fields) → length (ahead remarks records) ≤ length records
ahead_le true records = past_le records
ahead_le false records = omega arith

-- A record that is no remark is the next one, whether remarks may come before it or not.
pub ahead_plain : (remarks : Bool) (first : Fields) (rest : List Fields) → is_remark first ≡ false → ahead remarks (first ∷ rest) ≡ first ∷ rest
ahead_plain true first rest plain = rw plain refl
ahead_plain false first rest plain = refl
