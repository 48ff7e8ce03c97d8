-- What is read from a position on: the value, and then the position and the words behind it.
use Rattle.std.specs.Prelude.{◌≡◌, ℕ, Bool, ◌+◌, ◌≤◌, List, [], ◌∷◌, take, drop, length, MatchResult, Option, Result, Ok, Err}
use Rattle.dn_types.specs.declared.mask.Mask.{Mask}
use Rattle.dn_config.specs.Tokens.Words.{words_of}
use Rattle.dn_config.specs.Values.{bits_at}
use Rattle.dn_config.specs.Settings.{filled}
use Rattle.dn_config.specs.Masks.{set_field, all_bits, greatest_of, with_fields}
use Rattle.dn_config.specs.Groups.{◌>>=◌, mask_len, group_len, groups, fields_at, mask_at, group_settings, option_at}
use Rattle.dn_config.specs.declared.option_group.OptionWord.{OptionWord}
use Rattle.dn_config.specs.declared.tokens.words.Words.{Words}
use Rattle.dn_config.specs.declared.fault.LineFault.{LineFault}
use Rattle.dn_config.specs.declared.fault.LineFault.TheVariants.{MissingValue}
use Rattle.dn_config.specs.declared.mask_field.MaskWord.{MaskWord}
use Rattle.dn_config.specs.declared.mask_field.MaskWord.TheVariants as m
use Rattle.dn_config.specs.declared.kind.Kind.{Kind}
use Rattle.dn_config.specs.declared.option_group.Setting.{Setting}
use Rattle.dn_config.specs.declared.options.Options.{Options}

-- The words that are left.
abbrev pub left : Words → List (List ℕ)
left words = words_of words.rest.now

-- As much is read as the position has gone on, or more.
abbrev pub GoesOn : Words → Words → Type 0
GoesOn from to = (length to.rest.now ≤ length from.rest.now) × (to.position + length to.rest.now ≤ from.position + length from.rest.now)

-- A function answered the value and the rest that reading gives, or its fault.
abbrev pub ReadsWords : {X : Type 0} → Result (X × Words) LineFault → Result (X × (ℕ × List (List ℕ))) LineFault → Type 0
ReadsWords r read = MatchResult r (λ x. read ≡ Ok (x.0, (x.1.position, left x.1))) (λ e. read ≡ Err e)

-- One field of a mask; `at` is its position, and ws are the words behind it.
abbrev pub read_field : Mask → ℕ → MaskWord → List (List ℕ) → Result (Mask × (ℕ × List (List ℕ))) LineFault
read_field mask at m.All ws = Ok (all_bits, (at + 1, ws))
read_field mask at (m.Valued f) [] = Err (MissingValue at)
read_field mask at (m.Valued f) (v ∷ ws) = bits_at (at + 1) (greatest_of f) v >>= λ n. Ok (set_field mask (m.Valued f) n, (at + 2, ws))

-- The fields of a mask from a position on, over those before.
unfoldable pub read_fields : Mask → ℕ → List (List ℕ) → Result (Mask × (ℕ × List (List ℕ))) LineFault
read_fields mask at ws = fields_at at (take (mask_len ws) ws) >>= λ fs. Ok (with_fields mask fs, (at + mask_len ws, drop (mask_len ws) ws))

-- The mask whose name stands at the position `at`.
unfoldable pub read_mask : ℕ → List (List ℕ) → Result (Mask × (ℕ × List (List ℕ))) LineFault
read_mask at ws = mask_at at (take (mask_len ws) ws) >>= λ mask. Ok (mask, (at + 1 + mask_len ws, drop (mask_len ws) ws))

-- The option at the position `at`, by what its word means.
unfoldable pub read_named : Kind → ℕ → Option OptionWord → Bool → List (List ℕ) → Result (Setting × (ℕ × List (List ℕ))) LineFault
read_named k at name left_out ws =
    option_at k at name left_out (take (group_len name ws) ws) >>= λ s. Ok (s, (at + 1 + group_len name ws, drop (group_len name ws) ws))

-- All options from a position on, over those before.
unfoldable pub read_options : Kind → Options → ℕ → List (List ℕ) → Result Options LineFault
read_options k o at ws = group_settings k (groups at ws) >>= λ ss. Ok (filled o ss)
