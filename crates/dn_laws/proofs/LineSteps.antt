-- What an option at the end of a line does: the options before it are read as without it.
use Rattle.dn_laws.proofs.Words.{Bool, Err, Kind, LineFault, List, Mask, MaskField, MaskWord, None, Ok, Option, OptionWord, Options, Parameter, Result, Setting, Some, [], all_bits, arith, belongs}
use Rattle.dn_laws.proofs.Words.{bits_at, false, field_of, fields_end, fields_nil, fields_out, fields_step, greatest_of, is_left_out_word, is_some, length, mask_begins, mask_nil, mask_stops}
use Rattle.dn_laws.proofs.Words.{option_bad, option_foreign, option_left, option_mask_err, option_mask_ok, option_missing, option_of, option_unknown, option_valued, options_nil, options_step}
use Rattle.dn_laws.proofs.Words.{read_fields, read_mask, read_named, read_options, refl, set_field, set_option, suc, sym, true, value_of, zero, ℕ, ◌++◌, ◌+◌, ◌||◌, ◌∙◌, ◌∷◌, ◌≡◌, ◌≤◌}
use Rattle.dn_config.specs.Masks.{no_bits}
use Rattle.dn_config.specs.declared.mask_field.MaskWord.TheVariants as m
use Rattle.dn_config.specs.declared.option_group.OptionWord.TheVariants as o
use Rattle.dn_config.specs.declared.option_group.Setting.TheVariants as set

-- what begins with a word that is no mask field ends a mask
pub record EndsMasks (more : List (List ℕ)) : Type 0 where
  pub name : List ℕ
  pub rest : List (List ℕ)
  pub begins : more ≡ name ∷ rest
  pub no_field : field_of name ≡ None
  pub is_known : is_left_out_word name ≡ false

-- what is read of a mask, and where
abbrev Mark : Type 0
Mark = Mask × (ℕ × List (List ℕ))

module _ (more : List (List ℕ)) (ends : EndsMasks more) where
  -- what is read of a mask is the same before more words, which are left behind it
  abbrev Stays : (List (List ℕ) → Result Mark LineFault) → List (List ℕ) → Type 0
  Stays read ws = (x : Mark) → read ws ≡ Ok x → (read (ws ++ more) ≡ Ok (x.0, (x.1.0, x.1.1 ++ more))) × (length x.1.1 ≤ length ws)

  mask-ends : (mask : Mask) (at : ℕ) → read_fields mask at more ≡ Ok (mask, (at, more))
  mask-ends mask at = rw ends.begins (fields_end mask at ends.name ends.rest ends.no_field ends.is_known)

  no-words : (mask : Mask) (at : ℕ) → Stays (read_fields mask at) []
  no-words mask at x h =
      let nil = fields_nil mask at in
      let same : (mask, (at, [])) ≡ x = cc in
      rw (← same) (mask-ends mask at, omega arith)

  no-field : (mask : Mask) (at : ℕ) (w : List ℕ) (ws : List (List ℕ)) (b : Bool) → is_left_out_word w ≡ b → field_of w ≡ None → Stays (read_fields mask at) (w ∷ ws)
  no-field mask at w ws true g f x h = let out = fields_out mask at w ws f g in absurd (cc)
  no-field mask at w ws false g f x h =
      let end = fields_end mask at w ws f g in
      let same : (mask, (at, w ∷ ws)) ≡ x = cc in
      rw (← same) (fields_end mask at w (ws ++ more) f g, omega arith)

  module _ (fuel : ℕ) (ih : (mask : Mask) (at : ℕ) (ws : List (List ℕ)) → length ws ≤ fuel → Stays (read_fields mask at) ws) (mask : Mask) (at : ℕ) (w : List ℕ) where
    all-fields : (ws : List (List ℕ)) → length ws ≤ fuel → field_of w ≡ Some m.All → Stays (read_fields mask at) (w ∷ ws)
    all-fields ws l f x h =
        let rest = ih all_bits (at + 1) ws l x (sym (fields_step mask at w m.All ws f) ∙ h) in
        (fields_step mask at w m.All (ws ++ more) f ∙ rest.0, omega (arith, rest.1))

    one-value : (f : MaskField) (v : List ℕ) (ws : List (List ℕ)) (r : Result ℕ LineFault) → bits_at (at + 1) (greatest_of f) v ≡ r → length ws ≤ fuel → field_of w ≡ Some (m.Valued f)
        → Stays (read_fields mask at) (w ∷ v ∷ ws)
    one-value f v ws (Err fault) b l g x h = let step = rw b at (fields_step mask at w (m.Valued f) (v ∷ ws) g) in absurd (cc)
    one-value f v ws (Ok n) b l g x h =
        let step = rw b at (fields_step mask at w (m.Valued f) (v ∷ ws) g) in
        let more' = rw b at (fields_step mask at w (m.Valued f) (v ∷ ws ++ more) g) in
        let rest = ih (set_field mask (m.Valued f) n) (at + 2) ws l x (sym step ∙ h) in
        (more' ∙ rest.0, omega (arith, rest.1))

    valued : (f : MaskField) (ws : List (List ℕ)) → length ws ≤ fuel → field_of w ≡ Some (m.Valued f) → Stays (read_fields mask at) (w ∷ ws)
    valued f [] l g x h = let step = fields_step mask at w (m.Valued f) [] g in absurd (cc)
    valued f (v ∷ ws) l g x h = one-value f v ws (bits_at (at + 1) (greatest_of f) v) refl (omega (arith, l)) g x h

    by-field : (ws : List (List ℕ)) (f : Option MaskWord) → length ws ≤ fuel → field_of w ≡ f → Stays (read_fields mask at) (w ∷ ws)
    by-field ws None l e = no-field mask at w ws (is_left_out_word w) refl e
    by-field ws (Some m.All) l e = all-fields ws l e
    by-field ws (Some (m.Valued f)) l e = valued f ws l e

  fields-stay : (fuel : ℕ) (mask : Mask) (at : ℕ) (ws : List (List ℕ)) → length ws ≤ fuel → Stays (read_fields mask at) ws
  fields-stay fuel mask at [] l = no-words mask at
  fields-stay zero mask at (w ∷ ws) l = absurd (omega arith)
  fields-stay (suc fuel) mask at (w ∷ ws) l = by-field fuel (fields-stay fuel) mask at w ws (field_of w) (omega arith) refl

  mask-stays : (at : ℕ) (ws : List (List ℕ)) → Stays (read_mask at) ws
  mask-stays at [] x h = let nil = mask_nil at in absurd (cc)
  mask-stays at (w ∷ ws) x h = by-first (is_some (field_of w) || is_left_out_word w) refl
    where
      by-first : (b : Bool) → is_some (field_of w) || is_left_out_word w ≡ b
          → (read_mask at (w ∷ ws ++ more) ≡ Ok (x.0, (x.1.0, x.1.1 ++ more))) × (length x.1.1 ≤ length (w ∷ ws))
      by-first false e = let stop = mask_stops at (w ∷ ws) w ws refl e in absurd (cc)
      by-first true e =
          let stays = fields-stay (suc (length ws)) no_bits (at + 1) (w ∷ ws) (omega arith) x (sym (mask_begins at w ws e) ∙ h) in
          (mask_begins at w (ws ++ more) e ∙ stays.0, stays.1)

module _ (k : Kind) (more : List (List ℕ)) (ends : EndsMasks more) where
  -- an option is read the same before more words
  abbrev NamedStays : ℕ → Option OptionWord → Bool → List (List ℕ) → Type 0
  NamedStays at name left_out ws = (x : Setting × (ℕ × List (List ℕ))) → read_named k at name left_out ws ≡ Ok x
      → (read_named k at name left_out (ws ++ more) ≡ Ok (x.0, (x.1.0, x.1.1 ++ more))) × (length x.1.1 ≤ length ws)

  no-name : (at : ℕ) (b : Bool) (ws : List (List ℕ)) → NamedStays at None b ws
  no-name at true ws x h = let left = option_left k at None true ws refl refl in absurd (cc)
  no-name at false ws x h = let unknown = option_unknown k at None false ws refl refl in absurd (cc)

  mask-named : (at : ℕ) (b : Bool) (ws : List (List ℕ)) (r : Result Mark LineFault) → read_mask at ws ≡ r → NamedStays at (Some o.Mask) b ws
  mask-named at b ws (Err fault) e x h = let bad = option_mask_err k at (Some o.Mask) b ws fault refl e in absurd (cc)
  mask-named at b ws (Ok mark) e x h =
      let good = option_mask_ok k at (Some o.Mask) b ws mark.0 mark.1 refl e in
      let same : (set.Mask mark.0, mark.1) ≡ x = cc in
      let stays = mask-stays more ends at ws mark e in
      rw (← same) (option_mask_ok k at (Some o.Mask) b (ws ++ more) mark.0 (mark.1.0, mark.1.1 ++ more) refl stays.0, stays.1)

  one-valued : (at : ℕ) (b : Bool) (p : Parameter) (v : List ℕ) (ws : List (List ℕ)) (r : Result Setting LineFault) → value_of (at + 1) p v ≡ r → belongs k p ≡ true
      → NamedStays at (Some (o.Valued p)) b (v ∷ ws)
  one-valued at b p v ws (Err fault) e own x h = let bad = option_bad k at (Some (o.Valued p)) b (v ∷ ws) v ws p refl own refl fault e in absurd (cc)
  one-valued at b p v ws (Ok s) e own x h =
      let good = option_valued k at (Some (o.Valued p)) b (v ∷ ws) v ws p refl own refl s (at + 1 + 1) refl e in
      let same : (s, (at + 1 + 1, ws)) ≡ x = cc in
      rw (← same) (option_valued k at (Some (o.Valued p)) b (v ∷ ws ++ more) v (ws ++ more) p refl own refl s (at + 1 + 1) refl e, omega arith)

  value-named : (at : ℕ) (b : Bool) (p : Parameter) (ws : List (List ℕ)) (t : Bool) → belongs k p ≡ t → NamedStays at (Some (o.Valued p)) b ws
  value-named at b p ws false own x h = let foreign = option_foreign k at (Some (o.Valued p)) b ws p refl own in absurd (cc)
  value-named at b p [] true own x h = let missing = option_missing k at (Some (o.Valued p)) b [] p refl own refl in absurd (cc)
  value-named at b p (v ∷ ws) true own x h = one-valued at b p v ws (value_of (at + 1) p v) refl own x h

  pub named-stays : (at : ℕ) (name : Option OptionWord) (b : Bool) (ws : List (List ℕ)) → NamedStays at name b ws
  named-stays at None b ws = no-name at b ws
  named-stays at (Some o.Mask) b ws = mask-named at b ws (read_mask at ws) refl
  named-stays at (Some (o.Valued p)) b ws = value-named at b p ws (belongs k p) refl

  -- what the last words set is set after all before them
  module _ (s : Setting) (last : (before : Options) (at : ℕ) → read_options k before at more ≡ Ok (set_option before s)) where
    abbrev Adds : Options → ℕ → List (List ℕ) → Type 0
    Adds before at ws = (after : Options) → read_options k before at ws ≡ Ok after → read_options k before at (ws ++ more) ≡ Ok (set_option after s)

    last-adds : (before : Options) (at : ℕ) → Adds before at []
    last-adds before at after h =
        let nil = options_nil k before at in
        let same : before ≡ after = cc in
        rw (← same) (last before at)

    step-adds : (fuel : ℕ) → ((before : Options) (at : ℕ) (ws : List (List ℕ)) → length ws ≤ fuel → Adds before at ws)
        → (before : Options) (at : ℕ) (w : List ℕ) (ws : List (List ℕ)) (r : Result (Setting × (ℕ × List (List ℕ))) LineFault)
        → read_named k at (option_of w) (is_left_out_word w) ws ≡ r → length ws ≤ fuel → Adds before at (w ∷ ws)
    step-adds fuel ih before at w ws (Err fault) e l after h =
        let step = rw e at (options_step k before at w ws (option_of w) (is_left_out_word w) refl refl) in absurd (cc)
    step-adds fuel ih before at w ws (Ok x) e l after h =
        let stays = named-stays at (option_of w) (is_left_out_word w) ws x e in
        let step = rw e at (options_step k before at w ws (option_of w) (is_left_out_word w) refl refl) in
        let step' = rw stays.0 at (options_step k before at w (ws ++ more) (option_of w) (is_left_out_word w) refl refl) in
        step' ∙ ih (set_option before x.0) x.1.0 x.1.1 (omega (arith, stays.1)) after (sym step ∙ h)

    adds : (fuel : ℕ) (before : Options) (at : ℕ) (ws : List (List ℕ)) → length ws ≤ fuel → Adds before at ws
    adds fuel before at [] l = last-adds before at
    adds zero before at (w ∷ ws) l = absurd (omega arith)
    adds (suc fuel) before at (w ∷ ws) l = step-adds fuel (adds fuel) before at w ws (read_named k at (option_of w) (is_left_out_word w) ws) refl (omega arith)

    pub options-add : (before : Options) (at : ℕ) (ws : List (List ℕ)) → Adds before at ws
    options-add before at ws = adds (length ws) before at ws (omega arith)

-- an option with a value, at the end of a line
pub valued-last : (k : Kind) (name v : List ℕ) (p : Parameter) (s : Setting) → option_of name ≡ Some (o.Valued p) → belongs k p ≡ true → ((at : ℕ) → value_of at p v ≡ Ok s)
    → (before : Options) (at : ℕ) → read_options k before at (name ∷ v ∷ []) ≡ Ok (set_option before s)
valued-last k name v p s named own value before at =
    let read = option_valued k at (option_of name) (is_left_out_word name) (v ∷ []) v [] p named own refl s (at + 1 + 1) refl (value (at + 1)) in
    rw read at (options_step k before at name (v ∷ []) (option_of name) (is_left_out_word name) refl refl) ∙ options_nil k (set_option before s) (at + 1 + 1)
