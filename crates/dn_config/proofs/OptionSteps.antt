-- How the options are read from one to the next.
use Rattle.dn_config.proofs.Vocabulary.{Bool, Err, Kind, LeftOut, LineFault, List, Mask, MissingValue, None, Ok, Option, OptionWord, Options, Parameter, Result, Setting, Some, UnknownWord, []}
use Rattle.dn_config.proofs.Vocabulary.{add-zero, ap, arith, belongs, drop, false, filled, group_len, group_settings, groups, groups_after, is_left_out_word, mask_at, mask_len, option_at, option_of}
use Rattle.dn_config.proofs.Vocabulary.{read_mask, read_named, read_options, refl, set_option, setting_of, suc, take, true, value_of, zero, ℕ, ◌+◌, ◌∙◌, ◌∷◌, ◌≡◌}
use Rattle.dn_config.specs.Groups.{◌>>=◌}
use Rattle.dn_config.specs.declared.option_group.Setting.TheVariants as set
use Rattle.dn_config.specs.declared.option_group.OptionWord.TheVariants as o

-- groups behind a group
groups_skip : (k at : ℕ) (ws : List (List ℕ)) → groups_after k at ws ≡ groups_after 0 (at + k) (drop k ws)
groups_skip zero at ws = rw add-zero refl
groups_skip (suc k) at [] = refl
groups_skip (suc k) at (w ∷ ws) = groups_skip k (at + 1) ws ∙ ap (λ n. groups_after 0 n (drop k ws)) (omega arith)

one_more : (o : Options) (r : Result (List Setting) LineFault) (s : Setting)
    → ◌>>=◌ {B = Options} (◌>>=◌ {B = List Setting} r (λ ss. Ok (s ∷ ss))) (λ ss. Ok (filled o ss)) ≡ ◌>>=◌ {B = Options} r (λ ss. Ok (filled (set_option o s) ss))
one_more o (Ok ss) s = refl
one_more o (Err x) s = refl

settings_behind : (k : Kind) (o : Options) (r : Result Setting LineFault) (n at : ℕ) (ws : List (List ℕ))
    → ◌>>=◌ {B = Options} (r >>= λ s. ◌>>=◌ {B = List Setting} (group_settings k (groups_after n (at + 1) ws)) (λ ss. Ok (s ∷ ss))) (λ ss. Ok (filled o ss))
    ≡ ◌>>=◌ {B = Options} (◌>>=◌ {B = Setting × (ℕ × List (List ℕ))} r (λ s. Ok (s, (at + 1 + n, drop n ws)))) (λ x. read_options k (set_option o x.0) x.1.0 x.1.1)
unfolding read_options groups
settings_behind k o (Ok s) n at ws = rw (groups_skip n (at + 1) ws) (one_more o (group_settings k (groups_after 0 (at + 1 + n) (drop n ws))) s)
settings_behind k o (Err x) n at ws = refl

-- where a word is left
pub options_step : (k : Kind) (o : Options) (at : ℕ) (w : List ℕ) (ws : List (List ℕ)) (name : Option OptionWord) (left_out : Bool) → name ≡ option_of w → left_out ≡ is_left_out_word w
    → read_options k o at (w ∷ ws) ≡ (read_named k at name left_out ws >>= λ x. read_options k (set_option o x.0) x.1.0 x.1.1)
unfolding read_options read_named groups setting_of
options_step k o at w ws name left_out e f =
    rw (e, f) (settings_behind k o (option_at k at (option_of w) (is_left_out_word w) (take (group_len (option_of w) ws) ws)) (group_len (option_of w) ws) at ws)

pub options_nil : (k : Kind) (o : Options) (at : ℕ) → read_options k o at [] ≡ Ok o
unfolding read_options groups
options_nil k o at = refl

-- what the loop over the options keeps
module _ (whole : Result Options LineFault) (k : Kind) (o : Options) (at : ℕ) (now : List (List ℕ)) (so_far : whole ≡ read_options k o at now) where
  pub options_ok : (w : List ℕ) (ws : List (List ℕ)) (name : Option OptionWord) (left_out : Bool) (s : Setting) (y : ℕ) (z : List (List ℕ)) → now ≡ w ∷ ws → name ≡ option_of w
      → left_out ≡ is_left_out_word w
      → read_named k at name left_out ws ≡ Ok (s, (y, z)) → whole ≡ read_options k (set_option o s) y z
  options_ok w ws name left_out s y z e f g h = so_far ∙ ap (read_options k o at) e ∙ options_step k o at w ws name left_out f g ∙ rw h refl

  pub options_err : (w : List ℕ) (ws : List (List ℕ)) (name : Option OptionWord) (left_out : Bool) (x : LineFault) → now ≡ w ∷ ws → name ≡ option_of w → left_out ≡ is_left_out_word w
      → read_named k at name left_out ws ≡ Err x → whole ≡ Err x
  options_err w ws name left_out x e f g h = so_far ∙ ap (read_options k o at) e ∙ options_step k o at w ws name left_out f g ∙ rw h refl

  pub options_done : now ≡ [] → whole ≡ Ok o
  options_done e = so_far ∙ ap (read_options k o at) e ∙ options_nil k o at

-- one option
pub option_unknown : (k : Kind) (at : ℕ) (name : Option OptionWord) (left_out : Bool) (ws : List (List ℕ)) → name ≡ None → left_out ≡ false → read_named k at name left_out ws ≡ Err (UnknownWord at)
unfolding read_named
option_unknown k at name left_out ws e h = rw (e, h) refl

pub option_left : (k : Kind) (at : ℕ) (name : Option OptionWord) (left_out : Bool) (ws : List (List ℕ)) → name ≡ None → left_out ≡ true → read_named k at name left_out ws ≡ Err (LeftOut at)
unfolding read_named
option_left k at name left_out ws e h = rw (e, h) refl

pub option_foreign : (k : Kind) (at : ℕ) (name : Option OptionWord) (left_out : Bool) (ws : List (List ℕ)) (p : Parameter) → name ≡ Some (o.Valued p) → belongs k p ≡ false
    → read_named k at name left_out ws ≡ Err (UnknownWord at)
unfolding read_named
option_foreign k at name left_out ws p e h = rw (e, h) refl

pub option_missing : (k : Kind) (at : ℕ) (name : Option OptionWord) (left_out : Bool) (ws : List (List ℕ)) (p : Parameter) → name ≡ Some (o.Valued p) → belongs k p ≡ true → ws ≡ []
    → read_named k at name left_out ws ≡ Err (MissingValue at)
unfolding read_named
option_missing k at name left_out ws p e h f = rw (e, h, f) refl

module _ (k : Kind) (at : ℕ) (name : Option OptionWord) (left_out : Bool) (now : List (List ℕ)) (v : List ℕ) (ws : List (List ℕ)) (p : Parameter) (e : name ≡ Some (o.Valued p))
    (h : belongs k p ≡ true) (f : now ≡ v ∷ ws) where
  pub option_valued : (s : Setting) (place : ℕ) → place ≡ at + 1 + 1 → value_of (at + 1) p v ≡ Ok s → read_named k at name left_out now ≡ Ok (s, (place, ws))
  unfolding read_named
  option_valued s place a b = rw (e, h, f, b, a) refl

  pub option_bad : (x : LineFault) → value_of (at + 1) p v ≡ Err x → read_named k at name left_out now ≡ Err x
  unfolding read_named
  option_bad x b = rw (e, h, f, b) refl

mask_regroup : (r : Result Mask LineFault) (y : ℕ × List (List ℕ))
    → ◌>>=◌ {B = Setting × (ℕ × List (List ℕ))} (◌>>=◌ {B = Setting} r (λ m. Ok (set.Mask m))) (λ s. Ok (s, y))
    ≡ ◌>>=◌ {B = Setting × (ℕ × List (List ℕ))} (◌>>=◌ {B = Mask × (ℕ × List (List ℕ))} r (λ mask. Ok (mask, y))) (λ x. Ok (set.Mask x.0, x.1))
mask_regroup (Ok m) y = refl
mask_regroup (Err x) y = refl

option_mask : (k : Kind) (at : ℕ) (left_out : Bool) (ws : List (List ℕ))
    → read_named k at (Some o.Mask) left_out ws ≡ (read_mask at ws >>= λ x. Ok (set.Mask x.0, x.1))
unfolding read_named read_mask
option_mask k at left_out ws = mask_regroup (mask_at at (take (mask_len ws) ws)) (at + 1 + mask_len ws, drop (mask_len ws) ws)

pub option_mask_ok : (k : Kind) (at : ℕ) (name : Option OptionWord) (left_out : Bool) (ws : List (List ℕ)) (m : Mask) (y : ℕ × List (List ℕ)) → name ≡ Some o.Mask → read_mask at ws ≡ Ok (m, y)
    → read_named k at name left_out ws ≡ Ok (set.Mask m, y)
option_mask_ok k at name left_out ws m y e h = rw e (option_mask k at left_out ws ∙ rw h refl)

pub option_mask_err : (k : Kind) (at : ℕ) (name : Option OptionWord) (left_out : Bool) (ws : List (List ℕ)) (x : LineFault) → name ≡ Some o.Mask → read_mask at ws ≡ Err x
    → read_named k at name left_out ws ≡ Err x
option_mask_err k at name left_out ws x e h = rw e (option_mask k at left_out ws ∙ rw h refl)
