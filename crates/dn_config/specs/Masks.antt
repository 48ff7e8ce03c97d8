-- Masks and the fields that set them.
use Rattle.std.specs.Prelude.{ℕ, ◌-◌, ◌^◌, ◌==◌, ◌&&◌, Bool, List, [], ◌∷◌}
use Rattle.dn_types.specs.declared.mask.Mask.{Mask}
use Rattle.dn_config.specs.declared.mask_field.MaskField.{MaskField}
use Rattle.dn_config.specs.declared.mask_field.MaskField.TheVariants as f
use Rattle.dn_config.specs.declared.mask_field.MaskWord.{MaskWord}
use Rattle.dn_config.specs.declared.mask_field.MaskWord.TheVariants as m

-- The greatest value of a mask field.
abbrev pub greatest_of : MaskField → ℕ
greatest_of f.DstIp = 2 ^ 32 - 1
greatest_of f.SrcIp = 2 ^ 32 - 1
greatest_of f.DstPort = 65535
greatest_of f.SrcPort = 65535
greatest_of f.Proto = 255

-- The mask that every packet passes as one flow.
abbrev pub no_bits : Mask
no_bits = record { src = 0; dst = 0; proto = 0; sport = 0; dport = 0 }

-- Every bit of every field.
abbrev pub all_bits : Mask
all_bits = record { src = 2 ^ 32 - 1; dst = 2 ^ 32 - 1; proto = 255; sport = 65535; dport = 65535 }

-- The mask with one field set, or with every bit of every field.
abbrev pub set_field : Mask → MaskWord → ℕ → Mask
set_field mask m.All n = all_bits
set_field mask (m.Valued f.DstIp) n = record mask { dst = n }
set_field mask (m.Valued f.SrcIp) n = record mask { src = n }
set_field mask (m.Valued f.DstPort) n = record mask { dport = n }
set_field mask (m.Valued f.SrcPort) n = record mask { sport = n }
set_field mask (m.Valued f.Proto) n = record mask { proto = n }

-- The mask with its fields applied from left to right.
abbrev pub with_fields : Mask → List (MaskWord × ℕ) → Mask
with_fields mask [] = mask
with_fields mask (f ∷ fs) = with_fields (set_field mask f.0 f.1) fs

-- Whether the mask has every bit.
abbrev pub has_all_bits : Mask → Bool
has_all_bits m = m.dst == 2 ^ 32 - 1 && (m.src == 2 ^ 32 - 1 && (m.dport == 65535 && (m.sport == 65535 && m.proto == 255)))

-- Whether the mask has no bit.
abbrev pub has_no_bits : Mask → Bool
has_no_bits m = m.dst == 0 && (m.src == 0 && (m.dport == 0 && (m.sport == 0 && m.proto == 0)))
