-- The mask of a canonical text, read back.
use Rattle.dn_config.proofs.Vocabulary.{Bool, IsMask, Kind, List, Mask, MaskField, Ok, Options, Some, [], all_bits, and_from, and_parts, ap, append-nil, append_assoc, arith, codes, cond, eqb-true}
use Rattle.dn_config.proofs.Vocabulary.{false, field_of, field_words, fields_words, greatest_of, has_all_bits, has_no_bits, is_left_out_word, is_some, mask_words, no_bits, read_fields, read_options}
use Rattle.dn_config.proofs.Vocabulary.{refl, set_field, set_option, suc, sym, true, zero_padded, ℕ, ◌++◌, ◌+◌, ◌-◌, ◌<◌, ◌==◌, ◌^◌, ◌||◌, ◌∙◌, ◌∷◌, ◌≡◌, ◌≤◌}
use Rattle.dn_config.specs.declared.mask_field.MaskField.TheVariants as f
use Rattle.dn_config.specs.declared.mask_field.MaskWord.TheVariants as m
use Rattle.dn_config.specs.declared.option_group.Setting.TheVariants as set
use Rattle.dn_config.proofs.MaskSteps.{fields_step, fields_nil, mask_begins}
use Rattle.dn_config.proofs.OptionSteps.{options_nil}
use Rattle.dn_config.proofs.OptionsBack.{reads_mask}
use Rattle.dn_config.proofs.ValuesBack.{bits_back}

-- the words, wherever they stand in a mask, make this mask of the one before, and reading goes on behind them
abbrev FieldsGive : Mask → List (List ℕ) → Mask → Type 0
FieldsGive before ws after = (at : ℕ) (rest : List (List ℕ)) → (place : ℕ) × (read_fields before at (ws ++ rest) ≡ read_fields after place rest)

fields_append : (a b c : Mask) (xs ys : List (List ℕ)) → FieldsGive a xs b → FieldsGive b ys c → FieldsGive a (xs ++ ys) c
fields_append a b c xs ys g h at rest =
    let first = g at (ys ++ rest) in
    let second = h first.0 rest in
    (second.0, ap (read_fields a at) (append_assoc xs ys rest) ∙ first.1 ∙ second.1)

gives_set : (before : Mask) (name : List ℕ) (field : MaskField) (k n : ℕ) → field_of name ≡ Some (m.Valued field) → n ≤ greatest_of field → n < 16 ^ suc k
    → FieldsGive before (name ∷ (codes "0x" ++ zero_padded 16 (suc k) n) ∷ []) (set_field before (m.Valued field) n)
gives_set before name field k n e l b at rest = (
  at + 2,
  fields_step before at name (m.Valued field) ((codes "0x" ++ zero_padded 16 (suc k) n) ∷ rest) e ∙ rw (bits_back (at + 1) (greatest_of field) k n l b) refl,
)

gives_unless : (before after : Mask) (ws : List (List ℕ)) (b : Bool) → (b ≡ true → before ≡ after) → FieldsGive before ws after → FieldsGive before (cond b [] ws) after
gives_unless before after ws true same g = λ at rest. (at, ap (λ (x : Mask). read_fields x at rest) (same refl))
gives_unless before after ws false same g = g

-- a field, where it isn't 0
gives_field : (before : Mask) (name : List ℕ) (field : MaskField) (k n : ℕ) → field_of name ≡ Some (m.Valued field) → n ≤ greatest_of field → n < 16 ^ suc k
    → before ≡ set_field before (m.Valued field) 0 → FieldsGive before (field_words name (suc k) n) (set_field before (m.Valued field) n)
gives_field before name field k n e l b same =
    gives_unless before (set_field before (m.Valued field) n) (name ∷ (codes "0x" ++ zero_padded 16 (suc k) n) ∷ []) (n == 0)
    (λ test. same ∙ ap (λ (x : ℕ). set_field before (m.Valued field) x) (sym (eqb-true n 0 test))) (gives_set before name field k n e l b)

-- what the words of a mask name
dst_ip_named : field_of (codes "dst-ip") ≡ Some (m.Valued f.DstIp)
unfolding field_of
dst_ip_named = refl

src_ip_named : field_of (codes "src-ip") ≡ Some (m.Valued f.SrcIp)
unfolding field_of
src_ip_named = refl

dst_port_named : field_of (codes "dst-port") ≡ Some (m.Valued f.DstPort)
unfolding field_of
dst_port_named = refl

src_port_named : field_of (codes "src-port") ≡ Some (m.Valued f.SrcPort)
unfolding field_of
src_port_named = refl

proto_named : field_of (codes "proto") ≡ Some (m.Valued f.Proto)
unfolding field_of
proto_named = refl

all_named : field_of (codes "all") ≡ Some m.All
unfolding field_of
all_named = refl

abbrev with_addresses : ℕ → ℕ → Mask
with_addresses dst src = record { src = src; dst = dst; proto = 0; sport = 0; dport = 0 }

gives_fields : (mask : Mask) → IsMask mask → FieldsGive no_bits (fields_words mask) mask
gives_fields mask h =
    let a = with_addresses mask.dst 0 in
    let b = with_addresses mask.dst mask.src in
    let c = record b { dport = mask.dport } in
    let d = record c { sport = mask.sport } in
    fields_append no_bits a mask (field_words (codes "dst-ip") 8 mask.dst) _ (gives_field no_bits (codes "dst-ip") f.DstIp 7 mask.dst dst_ip_named (omega (arith, h.dst)) (omega (arith, h.dst)) refl)
    (fields_append a b mask (field_words (codes "src-ip") 8 mask.src) _ (gives_field a (codes "src-ip") f.SrcIp 7 mask.src src_ip_named (omega (arith, h.src)) (omega (arith, h.src)) refl)
    (fields_append b c mask (field_words (codes "dst-port") 4 mask.dport) _
    (gives_field b (codes "dst-port") f.DstPort 3 mask.dport dst_port_named (omega (arith, h.dport)) (omega (arith, h.dport)) refl)
    (fields_append c d mask (field_words (codes "src-port") 4 mask.sport) _
    (gives_field c (codes "src-port") f.SrcPort 3 mask.sport src_port_named (omega (arith, h.sport)) (omega (arith, h.sport)) refl)
    (gives_field d (codes "proto") f.Proto 1 mask.proto proto_named (omega (arith, h.proto)) (omega (arith, h.proto)) refl))))

gives_all : FieldsGive no_bits (codes "all" ∷ []) all_bits
gives_all at rest = (at + 1, fields_step no_bits at (codes "all") m.All rest all_named)

-- the first word, if there is one, goes on with a mask
abbrev begins_mask : List (List ℕ) → Bool
begins_mask [] = true
begins_mask (w ∷ ws) = is_some (field_of w) || is_left_out_word w

begins_append : (xs ys : List (List ℕ)) → begins_mask xs ≡ true → begins_mask ys ≡ true → begins_mask (xs ++ ys) ≡ true
begins_append [] ys h e = e
begins_append (x ∷ xs) ys h e = h

begins_field : (name : List ℕ) (field : MaskField) (width n : ℕ) → field_of name ≡ Some (m.Valued field) → begins_mask (field_words name width n) ≡ true
begins_field name field width n e = by_test (n == 0)
  where
    by_test : (b : Bool) → begins_mask (cond b [] (name ∷ (codes "0x" ++ zero_padded 16 width n) ∷ [])) ≡ true
    by_test true = refl
    by_test false = rw e refl

begins_fields : (mask : Mask) → begins_mask (fields_words mask) ≡ true
begins_fields mask =
    begins_append (field_words (codes "dst-ip") 8 mask.dst) _ (begins_field (codes "dst-ip") f.DstIp 8 mask.dst dst_ip_named)
    (begins_append (field_words (codes "src-ip") 8 mask.src) _ (begins_field (codes "src-ip") f.SrcIp 8 mask.src src_ip_named)
    (begins_append (field_words (codes "dst-port") 4 mask.dport) _ (begins_field (codes "dst-port") f.DstPort 4 mask.dport dst_port_named)
    (begins_append (field_words (codes "src-port") 4 mask.sport) _ (begins_field (codes "src-port") f.SrcPort 4 mask.sport src_port_named)
    (begins_field (codes "proto") f.Proto 2 mask.proto proto_named))))

-- where no field is written, the mask has no bits
append_empty : (xs ys : List (List ℕ)) → xs ++ ys ≡ [] → (xs ≡ []) × (ys ≡ [])
append_empty [] ys e = (refl, e)
append_empty (x ∷ xs) ys e = absurd (cc)

empty_field : (name : List ℕ) (width n : ℕ) → field_words name width n ≡ [] → n == 0 ≡ true
empty_field name width n e = by_test (n == 0) e
  where
    by_test : (b : Bool) → cond b [] (name ∷ (codes "0x" ++ zero_padded 16 width n) ∷ []) ≡ [] → b ≡ true
    by_test true e = refl
    by_test false e = absurd (cc)

empty_is_clear : (mask : Mask) → fields_words mask ≡ [] → has_no_bits mask ≡ true
empty_is_clear mask e =
    let a = append_empty (field_words (codes "dst-ip") 8 mask.dst) _ e in
    let b = append_empty (field_words (codes "src-ip") 8 mask.src) _ a.1 in
    let c = append_empty (field_words (codes "dst-port") 4 mask.dport) _ b.1 in
    let d = append_empty (field_words (codes "src-port") 4 mask.sport) _ c.1 in
    and_from _ _ (empty_field (codes "dst-ip") 8 mask.dst a.0) (and_from _ _ (empty_field (codes "src-ip") 8 mask.src b.0) (and_from _ _ (empty_field (codes "dst-port") 4 mask.dport c.0)
    (and_from _ _ (empty_field (codes "src-port") 4 mask.sport d.0) (empty_field (codes "proto") 2 mask.proto d.1))))

-- a mask of fields
fields_back : (k : Kind) (before : Options) (at : ℕ) (mask : Mask) (ws : List (List ℕ)) → begins_mask ws ≡ true → (ws ≡ [] → ⊥) → FieldsGive no_bits ws mask
    → read_options k before at (codes "mask" ∷ ws) ≡ Ok (set_option before (set.Mask mask))
fields_back k before at mask [] h some g = absurd (some refl)
fields_back k before at mask (w ∷ ws) h some g =
    let read = g (at + 1) [] in
    reads_mask k before at read.0 mask (w ∷ ws) (mask_begins at w ws h ∙ ap (read_fields no_bits (at + 1)) (sym (append-nil (w ∷ ws))) ∙ read.1 ∙ fields_nil mask read.0)

clear_is : (mask : Mask) → has_no_bits mask ≡ true → mask ≡ no_bits
clear_is mask h =
    let a = and_parts (mask.dst == 0) _ h in
    let b = and_parts (mask.src == 0) _ a.1 in
    let c = and_parts (mask.dport == 0) _ b.1 in
    let d = and_parts (mask.sport == 0) _ c.1 in
    same mask.src mask.dst mask.proto mask.sport mask.dport (eqb-true _ _ b.0) (eqb-true _ _ a.0) (eqb-true _ _ d.1) (eqb-true _ _ d.0) (eqb-true _ _ c.0)
  where
    same : (src dst proto sport dport : ℕ) → src ≡ 0 → dst ≡ 0 → proto ≡ 0 → sport ≡ 0 → dport ≡ 0 → record { src = src; dst = dst; proto = proto; sport = sport; dport = dport } ≡ no_bits
    same src dst proto sport dport a b c d e = rw (a, b, c, d, e) refl

full_is : (mask : Mask) → has_all_bits mask ≡ true → mask ≡ all_bits
full_is mask h =
    let a = and_parts (mask.dst == 2 ^ 32 - 1) _ h in
    let b = and_parts (mask.src == 2 ^ 32 - 1) _ a.1 in
    let c = and_parts (mask.dport == 65535) _ b.1 in
    let d = and_parts (mask.sport == 65535) _ c.1 in
    same mask.src mask.dst mask.proto mask.sport mask.dport (eqb-true _ _ b.0) (eqb-true _ _ a.0) (eqb-true _ _ d.1) (eqb-true _ _ d.0) (eqb-true _ _ c.0)
  where
    same : (src dst proto sport dport : ℕ) → src ≡ 2 ^ 32 - 1 → dst ≡ 2 ^ 32 - 1 → proto ≡ 255 → sport ≡ 65535 → dport ≡ 65535
        → record { src = src; dst = dst; proto = proto; sport = sport; dport = dport } ≡ all_bits
    same src dst proto sport dport a b c d e = rw (a, b, c, d, e) refl

-- the mask of a canonical text
pub mask_back : (k : Kind) (before : Options) (mask : Mask) → IsMask mask → before ≡ set_option before (set.Mask no_bits) → (at : ℕ)
    → read_options k before at (mask_words mask) ≡ Ok (set_option before (set.Mask mask))
mask_back k before mask h same at = by_clear (has_no_bits mask) refl
  where
    by_full : (b : Bool) → has_all_bits mask ≡ b → has_no_bits mask ≡ false
        → read_options k before at (codes "mask" ∷ cond b (codes "all" ∷ []) (fields_words mask)) ≡ Ok (set_option before (set.Mask mask))
    by_full true e some = rw (full_is mask e) (fields_back k before at all_bits (codes "all" ∷ []) (rw all_named refl) (λ z. absurd (cc)) gives_all)
    by_full false e some =
        fields_back k before at mask (fields_words mask) (begins_fields mask) (λ z. let clear = empty_is_clear mask z in absurd (cc)) (gives_fields mask h)

    by_clear : (b : Bool) → has_no_bits mask ≡ b
        → read_options k before at (cond b [] (codes "mask" ∷ cond (has_all_bits mask) (codes "all" ∷ []) (fields_words mask))) ≡ Ok (set_option before (set.Mask mask))
    by_clear true e = options_nil k before at ∙ ap Ok (same ∙ ap (λ (x : Mask). set_option before (set.Mask x)) (sym (clear_is mask e)))
    by_clear false e = by_full (has_all_bits mask) refl e
