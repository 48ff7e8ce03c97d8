-- How a mask is read from one field to the next.
use Rattle.dn_config.proofs.Vocabulary.{Err, LeftOut, LineFault, List, Mask, MaskField, MaskWord, MissingValue, None, Ok, Option, Result, Some, [], add-zero, all_bits, ap, arith, bits_at, drop, false}
use Rattle.dn_config.proofs.Vocabulary.{field_of, fields_at, greatest_of, is_left_out_word, is_some, mask_len, mask_len_after, no_bits, read_field, read_fields, read_mask, refl, set_field, suc, sym}
use Rattle.dn_config.proofs.Vocabulary.{take, true, with_fields, zero, ℕ, ◌+◌, ◌||◌, ◌∙◌, ◌∷◌, ◌≡◌}
use Rattle.dn_config.specs.Groups.{◌>>=◌}
use Rattle.dn_config.specs.declared.mask_field.MaskWord.TheVariants as m

-- where no word is left
pub fields_nil : (mask : Mask) (at : ℕ) → read_fields mask at [] ≡ Ok (mask, (at, []))
unfolding read_fields mask_len
fields_nil mask at = rw add-zero refl

-- where the word is no mask field
pub fields_end : (mask : Mask) (at : ℕ) (w : List ℕ) (ws : List (List ℕ)) → field_of w ≡ None → is_left_out_word w ≡ false
    → read_fields mask at (w ∷ ws) ≡ Ok (mask, (at, w ∷ ws))
unfolding read_fields mask_len
fields_end mask at w ws e f = rw (e, f, add-zero) refl

fault_first : (mask : Mask) (at : ℕ) (w : List ℕ) (ws : List (List ℕ)) (x : ℕ × List (List ℕ)) → field_of w ≡ None
    → ◌>>=◌ {B = Mask × (ℕ × List (List ℕ))} (fields_at at (w ∷ ws)) (λ fs. Ok (with_fields mask fs, x)) ≡ Err (LeftOut at)
fault_first mask at w [] x e = rw e refl
fault_first mask at w (v ∷ ws) x e = rw e refl

-- where it is left out
pub fields_out : (mask : Mask) (at : ℕ) (w : List ℕ) (ws : List (List ℕ)) → field_of w ≡ None → is_left_out_word w ≡ true
    → read_fields mask at (w ∷ ws) ≡ Err (LeftOut at)
unfolding read_fields mask_len
fields_out mask at w ws e f = rw (e, f) (fault_first mask at w [] _ e)

goes_on : (mask : Mask) (f : MaskWord) (n : ℕ) (r : Result (List (MaskWord × ℕ)) LineFault) (x y : ℕ × List (List ℕ)) → x ≡ y
    → ◌>>=◌ {B = Mask × (ℕ × List (List ℕ))} (◌>>=◌ {B = List (MaskWord × ℕ)} r (λ more. Ok ((f, n) ∷ more))) (λ fs. Ok (with_fields mask fs, x))
    ≡ ◌>>=◌ {B = Mask × (ℕ × List (List ℕ))} r (λ fs. Ok (with_fields (set_field mask f n) fs, y))
goes_on mask f n (Ok fs) x y e = ap (λ z. Ok (with_fields (set_field mask f n) fs, z)) e
goes_on mask f n (Err e) x y h = refl

all_step : (mask : Mask) (at : ℕ) (w : List ℕ) (ws : List (List ℕ)) → field_of w ≡ Some m.All
    → read_fields mask at (w ∷ ws) ≡ read_fields all_bits (at + 1) ws
unfolding read_fields mask_len
all_step mask at w [] e = rw (e, e) (ap (λ n. Ok (all_bits, (n, []))) (omega arith))
all_step mask at w (v ∷ ws) e = rw e (all_more (mask_len_after 0 (v ∷ ws)) refl)
  where
    all_more : (n : ℕ) → n ≡ mask_len_after 0 (v ∷ ws)
        → ◌>>=◌ {B = Mask × (ℕ × List (List ℕ))} (fields_at at (w ∷ take n (v ∷ ws))) (λ fs. Ok (with_fields mask fs, (at + suc n, drop n (v ∷ ws))))
        ≡ ◌>>=◌ {B = Mask × (ℕ × List (List ℕ))} (fields_at (at + 1) (take n (v ∷ ws))) (λ fs. Ok (with_fields all_bits fs, (at + 1 + n, drop n (v ∷ ws))))
    all_more zero h = rw e (ap (λ n. Ok (all_bits, (n, v ∷ ws))) (omega arith))
    all_more (suc n) h = rw e (goes_on mask m.All 0 (fields_at (at + 1) (v ∷ take n ws)) _ _ (ap (λ k. (k, drop n ws)) (omega arith)))

valued_end : (mask : Mask) (at : ℕ) (w : List ℕ) (f : MaskField) → field_of w ≡ Some (m.Valued f)
    → read_fields mask at (w ∷ []) ≡ Err (MissingValue at)
unfolding read_fields mask_len
valued_end mask at w f e = rw (e, e) refl

valued_bind : (mask : Mask) (f : MaskField) (b : Result ℕ LineFault) (r : Result (List (MaskWord × ℕ)) LineFault) (x y : ℕ × List (List ℕ)) → x ≡ y
    → ◌>>=◌ {B = Mask × (ℕ × List (List ℕ))} (b >>= λ n. ◌>>=◌ {B = List (MaskWord × ℕ)} r (λ more. Ok ((m.Valued f, n) ∷ more))) (λ fs. Ok (with_fields mask fs, x))
    ≡ ◌>>=◌ {B = Mask × (ℕ × List (List ℕ))} b (λ n. ◌>>=◌ {B = Mask × (ℕ × List (List ℕ))} r (λ fs. Ok (with_fields (set_field mask (m.Valued f) n) fs, y)))
valued_bind mask f (Ok n) r x y h = goes_on mask (m.Valued f) n r x y h
valued_bind mask f (Err e) r x y h = refl

valued_step : (mask : Mask) (at : ℕ) (w : List ℕ) (f : MaskField) (v : List ℕ) (ws : List (List ℕ)) → field_of w ≡ Some (m.Valued f)
    → read_fields mask at (w ∷ v ∷ ws) ≡ (bits_at (at + 1) (greatest_of f) v >>= λ n. read_fields (set_field mask (m.Valued f) n) (at + 2) ws)
unfolding read_fields mask_len
valued_step mask at w f v ws e = rw (e, e)
    (valued_bind mask f (bits_at (at + 1) (greatest_of f) v) (fields_at (at + 2) (take (mask_len_after 0 ws) ws)) _ _ (ap (λ k. (k, drop (mask_len_after 0 ws) ws)) (omega arith)))

then_fields : (mask : Mask) (at : ℕ) (f : MaskField) (b : Result ℕ LineFault) (ws : List (List ℕ))
    → (b >>= λ n. read_fields (set_field mask (m.Valued f) n) (at + 2) ws)
    ≡ ◌>>=◌ {B = Mask × (ℕ × List (List ℕ))} (◌>>=◌ {B = Mask × (ℕ × List (List ℕ))} b (λ n. Ok (set_field mask (m.Valued f) n, (at + 2, ws)))) (λ x. read_fields x.0 x.1.0 x.1.1)
then_fields mask at f (Ok n) ws = refl
then_fields mask at f (Err e) ws = refl

-- where the word is a mask field
pub fields_step : (mask : Mask) (at : ℕ) (w : List ℕ) (f : MaskWord) (ws : List (List ℕ)) → field_of w ≡ Some f
    → read_fields mask at (w ∷ ws) ≡ (read_field mask at f ws >>= λ x. read_fields x.0 x.1.0 x.1.1)
fields_step mask at w m.All ws e = all_step mask at w ws e
fields_step mask at w (m.Valued f) [] e = valued_end mask at w f e
fields_step mask at w (m.Valued f) (v ∷ ws) e = valued_step mask at w f v ws e ∙ then_fields mask at f (bits_at (at + 1) (greatest_of f) v) ws

-- what the loop over the fields of a mask keeps, at each of its ends
module _ (whole : Result (Mask × (ℕ × List (List ℕ))) LineFault) (mask : Mask) (at : ℕ) (now : List (List ℕ)) (so_far : whole ≡ read_fields mask at now) where
  pub fields_ok : (w : List ℕ) (ws : List (List ℕ)) (f : MaskWord) (x : Mask) (y : ℕ) (z : List (List ℕ)) → now ≡ w ∷ ws → Some f ≡ field_of w → read_field mask at f ws ≡ Ok (x, (y, z))
      → whole ≡ read_fields x y z
  fields_ok w ws f x y z e g h = so_far ∙ ap (read_fields mask at) e ∙ fields_step mask at w f ws (sym g) ∙ rw h refl

  pub fields_err : (w : List ℕ) (ws : List (List ℕ)) (f : MaskWord) (x : LineFault) → now ≡ w ∷ ws → Some f ≡ field_of w → read_field mask at f ws ≡ Err x → whole ≡ Err x
  fields_err w ws f x e g h = so_far ∙ ap (read_fields mask at) e ∙ fields_step mask at w f ws (sym g) ∙ rw h refl

  pub fields_stop : (w : List ℕ) (ws : List (List ℕ)) → now ≡ w ∷ ws → None ≡ field_of w → is_left_out_word w ≡ false → whole ≡ Ok (mask, (at, now))
  fields_stop w ws e g h = so_far ∙ rw e (fields_end mask at w ws (sym g) h)

  pub fields_left : (w : List ℕ) (ws : List (List ℕ)) → now ≡ w ∷ ws → None ≡ field_of w → is_left_out_word w ≡ true → whole ≡ Err (LeftOut at)
  fields_left w ws e g h = so_far ∙ rw e (fields_out mask at w ws (sym g) h)

  pub fields_done : now ≡ [] → whole ≡ Ok (mask, (at, now))
  fields_done e = so_far ∙ rw e (fields_nil mask at)

-- a mask has a field or a word that is left out
mask_first : (at : ℕ) (w : List ℕ) (ws : List (List ℕ)) (n : ℕ) → mask_len (w ∷ ws) ≡ suc n → read_mask at (w ∷ ws) ≡ read_fields no_bits (at + 1) (w ∷ ws)
unfolding read_mask read_fields
mask_first at w ws n e = rw e (regroup (fields_at (at + 1) (w ∷ take n ws)))
  where
    regroup : (r : Result (List (MaskWord × ℕ)) LineFault)
        → ◌>>=◌ {B = Mask × (ℕ × List (List ℕ))} (◌>>=◌ {B = Mask} r (λ fs. Ok (with_fields no_bits fs))) (λ mask. Ok (mask, (at + 1 + suc n, drop n ws)))
        ≡ ◌>>=◌ {B = Mask × (ℕ × List (List ℕ))} r (λ fs. Ok (with_fields no_bits fs, (at + 1 + suc n, drop n ws)))
    regroup (Ok fs) = refl
    regroup (Err x) = refl

pub mask_nil : (at : ℕ) → read_mask at [] ≡ Err (MissingValue at)
unfolding read_mask mask_len
mask_nil at = refl

pub mask_missing : (at : ℕ) (w : List ℕ) (ws : List (List ℕ)) → field_of w ≡ None → is_left_out_word w ≡ false → read_mask at (w ∷ ws) ≡ Err (MissingValue at)
unfolding read_mask mask_len
mask_missing at w ws e f = rw (e, f) refl

mask_len_suc : (w : List ℕ) (ws : List (List ℕ)) (o : Option MaskWord) → field_of w ≡ o → is_some o || is_left_out_word w ≡ true → (n : ℕ) × (mask_len (w ∷ ws) ≡ suc n)
unfolding mask_len
mask_len_suc w ws None e h = (0, rw (e, h) refl)
mask_len_suc w ws (Some m.All) e h = (mask_len_after 0 ws, rw e refl)
mask_len_suc w ws (Some (m.Valued f)) e h = (mask_len_after 1 ws, rw e refl)

pub mask_begins : (at : ℕ) (w : List ℕ) (ws : List (List ℕ)) → is_some (field_of w) || is_left_out_word w ≡ true → read_mask at (w ∷ ws) ≡ read_fields no_bits (at + 1) (w ∷ ws)
mask_begins at w ws h = let n = mask_len_suc w ws (field_of w) refl h in mask_first at w ws n.0 n.1

pub mask_goes : (at place : ℕ) (now : List (List ℕ)) (w : List ℕ) (ws : List (List ℕ)) → now ≡ w ∷ ws → place ≡ at + 1 → is_some (field_of w) || is_left_out_word w ≡ true
    → read_mask at now ≡ read_fields no_bits place now
mask_goes at place now w ws e f h = rw (e, f) (mask_begins at w ws h)

mask_none : (at : ℕ) (w : List ℕ) (ws : List (List ℕ)) (o : Option MaskWord) → field_of w ≡ o → is_some o || is_left_out_word w ≡ false → read_mask at (w ∷ ws) ≡ Err (MissingValue at)
mask_none at w ws None e h = mask_missing at w ws e h
mask_none at w ws (Some f) e h = absurd (cc)

pub mask_stops : (at : ℕ) (now : List (List ℕ)) (w : List ℕ) (ws : List (List ℕ)) → now ≡ w ∷ ws → is_some (field_of w) || is_left_out_word w ≡ false → read_mask at now ≡ Err (MissingValue at)
mask_stops at now w ws e h = rw e (mask_none at w ws (field_of w) refl h)
