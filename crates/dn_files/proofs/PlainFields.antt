-- Fields that are written as they are, without quotes.
use Rattle.dn_files.proofs.Words.{BeginsFields, Fields, FiveTuple, List, Ok, Opens, Some, Target, Writes, [], address_of, default_writer, field_text, number_within, target_at, tuple_at, ℕ, ◌++◌}
use Rattle.dn_files.proofs.Words.{◌∷◌, ◌≡◌, ◌⊎◌}

-- A field that is written as it is.
abbrev pub IsPlain : List ℕ → Type 0
IsPlain field = field_text default_writer field ≡ field

-- Each of some fields is written as it is.
abbrev pub AllPlain : Fields → Type 0
AllPlain [] = Unit {0}
AllPlain (field ∷ fields) = IsPlain field × AllPlain fields

-- What a text ends with behind its fields: a last one, and the end of its line.
abbrev pub EndsIn : List ℕ → List ℕ → List ℕ → Type 0
EndsIn text field rest = (text ≡ field ++ 10 ∷ rest) ⊎ (text ≡ field ++ 13 ∷ 10 ∷ rest)

-- A text begins with the field of a number of a range.
pub record BeginsNumber (text : List ℕ) (least greatest n : ℕ) (rest : List ℕ) : Type 0 where
  pub field : List ℕ
  pub fields : BeginsFields text (field ∷ []) rest
  pub opens : Opens text
  pub says : number_within least greatest field ≡ Ok n

-- A text begins with the last field of a line, a number of a range, and with the end of that line.
pub record EndsNumber (text : List ℕ) (least greatest n : ℕ) (rest : List ℕ) : Type 0 where
  pub written : List ℕ
  pub field : List ℕ
  pub ends : EndsIn text written rest
  pub writes : Writes written field
  pub says : number_within least greatest field ≡ Ok n

-- A text begins with the field of an address.
pub record BeginsAddress (text : List ℕ) (a : ℕ) (rest : List ℕ) : Type 0 where
  pub field : List ℕ
  pub fields : BeginsFields text (field ∷ []) rest
  pub says : address_of field ≡ Some a

-- A text begins with the two fields of a target, which are the second and the third of a row.
pub record BeginsTarget (text : List ℕ) (target : Target) (rest : List ℕ) : Type 0 where
  pub kind : List ℕ
  pub number : List ℕ
  pub fields : BeginsFields text (kind ∷ number ∷ []) rest
  pub says : (first : List ℕ) (others : Fields) → target_at 2 (first ∷ kind ∷ number ∷ others) ≡ Ok target

-- A text begins with the five fields of a tuple, which are the fourth of a row and those behind it.
pub record BeginsTuple (text : List ℕ) (tuple : FiveTuple) (rest : List ℕ) : Type 0 where
  pub src : List ℕ
  pub dst : List ℕ
  pub proto : List ℕ
  pub sport : List ℕ
  pub dport : List ℕ
  pub fields : BeginsFields text (src ∷ dst ∷ proto ∷ sport ∷ dport ∷ []) rest
  pub says : (a b c : List ℕ) (others : Fields) → tuple_at 4 (a ∷ b ∷ c ∷ src ∷ dst ∷ proto ∷ sport ∷ dport ∷ others) ≡ Ok tuple
