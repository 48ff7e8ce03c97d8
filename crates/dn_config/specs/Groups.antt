-- The option groups of a line: which words belong together, and what each group says.
use Rattle.std.specs.Prelude.{ℕ, zero, suc, ◌+◌, Bool, true, false, cond, List, [], ◌∷◌, length, take, Option, Some, None, Result, Ok, Err}
use Rattle.dn_config.specs.Keywords.{option_of, field_of, is_left_out_word}
use Rattle.dn_config.specs.Values.{pipe_or_queue_at, weight_at, buckets_at, delay_at, limit_at, bandwidth_at, loss_at, bits_at}
use Rattle.dn_config.specs.Masks.{no_bits, greatest_of, with_fields}
use Rattle.dn_config.specs.declared.option_group.Setting.{Setting}
use Rattle.dn_config.specs.declared.option_group.Setting.TheVariants as set
use Rattle.dn_config.specs.declared.fault.LineFault.{LineFault}
use Rattle.dn_config.specs.declared.fault.LineFault.TheVariants.{UnknownWord, MissingValue, LeftOut}
use Rattle.dn_config.specs.declared.option_group.OptionWord.{OptionWord}
use Rattle.dn_config.specs.declared.option_group.OptionWord.TheVariants as o
use Rattle.dn_config.specs.declared.option_group.Parameter.{Parameter}
use Rattle.dn_config.specs.declared.option_group.Parameter.TheVariants as p
use Rattle.dn_config.specs.declared.mask_field.MaskWord.{MaskWord}
use Rattle.dn_config.specs.declared.mask_field.MaskWord.TheVariants as m
use Rattle.dn_config.specs.declared.kind.Kind.{Kind}
use Rattle.dn_config.specs.declared.kind.Kind.TheVariants as kind
use Rattle.dn_types.specs.declared.mask.Mask.{Mask}

-- The second where the first has no fault.
infixl 10 ◌>>=◌
abbrev pub ◌>>=◌ : {A B : Type 0} → Result A LineFault → (A → Result B LineFault) → Result B LineFault
(Ok x) >>= f = f x
(Err e) >>= f = Err e

-- A mask field goes on for one word, and one with a value for two. A word that is no mask field ends the mask, unless it is left out.
abbrev pub field_goes_on : Option MaskWord → Bool → ℕ → ℕ → ℕ
field_goes_on None left_out behind_one behind_two = cond left_out 1 0
field_goes_on (Some m.All) left_out behind_one behind_two = suc behind_one
field_goes_on (Some (m.Valued f)) left_out behind_one behind_two = suc behind_two

-- How many of the words belong to a mask, the first k of them to a field before.
abbrev pub mask_len_after : ℕ → List (List ℕ) → ℕ
mask_len_after k [] = 0
mask_len_after (suc k) (w ∷ ws) = suc (mask_len_after k ws)
mask_len_after zero (w ∷ ws) = field_goes_on (field_of w) (is_left_out_word w) (mask_len_after 0 ws) (mask_len_after 1 ws)

-- How many of the words behind `mask` belong to it.
unfoldable pub mask_len : List (List ℕ) → ℕ
mask_len ws = mask_len_after 0 ws

-- How many of the words behind a word belong to its group: the fields of a mask, the value of another option, nothing else.
abbrev pub group_len : Option OptionWord → List (List ℕ) → ℕ
group_len None ws = 0
group_len (Some o.Mask) ws = mask_len ws
group_len (Some (o.Valued p)) ws = length (take 1 ws)

-- An option with what belongs to it, and its position.
pub record Group : Type 0 where
  pub at : ℕ
  pub name : List ℕ
  pub rest : List (List ℕ)

-- The groups that the words fall into, the first k of them left out, since they belong to a group before.
abbrev pub groups_after : ℕ → ℕ → List (List ℕ) → List Group
groups_after k at [] = []
groups_after (suc k) at (w ∷ ws) = groups_after k (at + 1) ws
groups_after zero at (w ∷ ws) =
    record { at = at; name = w; rest = take (group_len (option_of w) ws) ws } ∷ groups_after (group_len (option_of w) ws) (at + 1) ws

-- The groups that the words fall into, the first word at the position `at`.
unfoldable pub groups : ℕ → List (List ℕ) → List Group
groups at ws = groups_after 0 at ws

-- A part of a mask that has a word behind it, and the fields that follow: what follows a field without a value, and what follows one with a value.
abbrev pub field_then : ℕ → Option MaskWord → List ℕ → Result (List (MaskWord × ℕ)) LineFault → Result (List (MaskWord × ℕ)) LineFault → Result (List (MaskWord × ℕ)) LineFault
field_then at None v behind_one behind_two = Err (LeftOut at)
field_then at (Some m.All) v behind_one behind_two = behind_one >>= λ more. Ok ((m.All, 0) ∷ more)
field_then at (Some (m.Valued f)) v behind_one behind_two = bits_at (at + 1) (greatest_of f) v >>= λ n. behind_two >>= λ more. Ok ((m.Valued f, n) ∷ more)

-- A part of a mask that ends the line.
abbrev pub last_field : ℕ → Option MaskWord → Result (List (MaskWord × ℕ)) LineFault
last_field at None = Err (LeftOut at)
last_field at (Some m.All) = Ok ((m.All, 0) ∷ [])
last_field at (Some (m.Valued f)) = Err (MissingValue at)

-- The fields of a mask with their values.
abbrev pub fields_at : ℕ → List (List ℕ) → Result (List (MaskWord × ℕ)) LineFault
fields_at at [] = Ok []
fields_at at (w ∷ []) = last_field at (field_of w)
fields_at at (w ∷ v ∷ ws) = field_then at (field_of w) v (fields_at (at + 1) (v ∷ ws)) (fields_at (at + 2) ws)

-- The mask of the words behind `mask`, which stands at the position `at`.
abbrev pub mask_at : ℕ → List (List ℕ) → Result Mask LineFault
mask_at at [] = Err (MissingValue at)
mask_at at (w ∷ ws) = fields_at (at + 1) (w ∷ ws) >>= λ fs. Ok (with_fields no_bits fs)

-- The setting that an option makes of its value, which stands at the position `at`.
abbrev pub value_of : ℕ → Parameter → List ℕ → Result Setting LineFault
value_of at p.Bandwidth v = bandwidth_at at v >>= λ n. Ok (set.Bandwidth n)
value_of at p.Delay v = delay_at at v >>= λ n. Ok (set.Delay n)
value_of at p.Queue v = limit_at at v >>= λ n. Ok (set.Limit n)
value_of at p.Loss v = loss_at at v >>= λ n. Ok (set.Loss n)
value_of at p.Buckets v = buckets_at at v >>= λ n. Ok (set.Buckets n)
value_of at p.Weight v = weight_at at v >>= λ n. Ok (set.Weight n)
value_of at p.Pipe v = pipe_or_queue_at at v >>= λ n. Ok (set.Pipe n)

-- The setting of an option with one value.
abbrev pub parameter_at : ℕ → Parameter → List (List ℕ) → Result Setting LineFault
parameter_at at p [] = Err (MissingValue at)
parameter_at at p (v ∷ vs) = value_of (at + 1) p v

-- The option is one of such lines.
abbrev pub belongs : Kind → Parameter → Bool
belongs kind.Pipe p.Bandwidth = true
belongs kind.Pipe p.Delay = true
belongs kind.Pipe p.Weight = false
belongs kind.Pipe p.Pipe = false
belongs kind.Queue p.Bandwidth = false
belongs kind.Queue p.Delay = false
belongs kind.Queue p.Weight = true
belongs kind.Queue p.Pipe = true
belongs k p.Queue = true
belongs k p.Loss = true
belongs k p.Buckets = true

-- What a group says on a line of this kind, or its first fault.
abbrev pub option_at : Kind → ℕ → Option OptionWord → Bool → List (List ℕ) → Result Setting LineFault
option_at k at None left_out rest = Err (cond left_out (LeftOut at) (UnknownWord at))
option_at k at (Some o.Mask) left_out rest = mask_at at rest >>= λ m. Ok (set.Mask m)
option_at k at (Some (o.Valued p)) left_out rest = cond (belongs k p) (parameter_at at p rest) (Err (UnknownWord at))

-- What a group says on a line of this kind, or its first fault.
unfoldable pub setting_of : Kind → Group → Result Setting LineFault
setting_of k g = option_at k g.at (option_of g.name) (is_left_out_word g.name) g.rest

-- What all groups say, or the first fault.
abbrev pub group_settings : Kind → List Group → Result (List Setting) LineFault
group_settings k [] = Ok []
group_settings k (g ∷ gs) = setting_of k g >>= λ s. group_settings k gs >>= λ ss. Ok (s ∷ ss)
