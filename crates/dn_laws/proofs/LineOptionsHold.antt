-- The laws of what is refused behind good options hold.
use Rattle.dn_laws.proofs.Words.{AreGood, Bool, Command, Err, Has, Kind, Lacks, LeftOut, LeftOutIsTold, LineFault, List, MaskWord, MissingValue, NeedsPipe, None, Ok, Option, OptionWord, Options}
use Rattle.dn_laws.proofs.Words.{OptionsAreRefused, OtherWordsAreRefused, Parameter, PipesAreNeeded, Result, Says, Setting, Some, UnknownWord, [], ap, arith, at_word, belongs, bytes_eq}
use Rattle.dn_laws.proofs.Words.{bytes_eq-Decides, codes, command_of, command_with, cond, config_err, config_ok, decimal, defaults, drop, false, field_goes_on, field_of, fields, filled, group_len}
use Rattle.dn_laws.proofs.Words.{group_settings, groups, inl, inr, is_among, is_left_out_word, left_out, length, length-drop, mask_len, mask_len_after, mask_nil, number_of, numeral_of, option_at}
use Rattle.dn_laws.proofs.Words.{option_foreign, option_left, option_mask_err, option_missing, option_of, option_unknown, option_valued, options, options_nil, options_of, options_step}
use Rattle.dn_laws.proofs.Words.{parameter_at, pipe_or_queue_at, read_named, read_options, refl, set_option, slice_index, subst, suc, sym, take, true, value_of, within, zero, ℕ, ⊎_elim, ◌++◌, ◌+◌}
use Rattle.dn_laws.proofs.Words.{◌-◌, ◌||◌, ◌∙◌, ◌∷◌, ◌≡◌, ◌≢◌, ◌≤◌, ◌⊎◌}
use Rattle.dn_config.specs.Groups.{◌>>=◌}
use Rattle.dn_config.specs.declared.kind.Kind.TheVariants as kind
use Rattle.dn_config.specs.declared.mask_field.MaskWord.TheVariants as m
use Rattle.dn_config.specs.declared.option_group.OptionWord.TheVariants as o
use Rattle.dn_config.specs.declared.option_group.Parameter.TheVariants as p
use Rattle.dn_config.specs.declared.option_group.Setting.TheVariants as set
use Rattle.dn_laws.proofs.LineLawsHold.{name-of, by-options, head, mask-word, word-of}
use Rattle.dn_laws.proofs.LinePrefixHolds.{settings-later}
use Rattle.dn_laws.proofs.LineSteps.{EndsMasks, named-stays}

-- ---- How many words an option takes

goes-on-le : (f : Option MaskWord) (b : Bool) (one two n : ℕ) → one ≤ n → two ≤ n → field_goes_on f b one two ≤ suc n
goes-on-le None true one two n h g = omega arith
goes-on-le None false one two n h g = omega arith
goes-on-le (Some m.All) b one two n h g = omega (arith, h)
goes-on-le (Some (m.Valued f)) b one two n h g = omega (arith, g)

mask-le : (k : ℕ) (ws : List (List ℕ)) → mask_len_after k ws ≤ length ws
mask-le k [] = omega arith
mask-le (suc k) (w ∷ ws) = omega (arith, mask-le k ws)
mask-le zero (w ∷ ws) = goes-on-le (field_of w) (is_left_out_word w) (mask_len_after 0 ws) (mask_len_after 1 ws) (length ws) (mask-le 0 ws) (mask-le 1 ws)

first-le : (ws : List (List ℕ)) → length (take 1 ws) ≤ length ws
first-le [] = omega arith
first-le (w ∷ ws) = omega arith

group-le : (name : Option OptionWord) (ws : List (List ℕ)) → group_len name ws ≤ length ws
unfolding mask_len
group-le None ws = omega arith
group-le (Some o.Mask) ws = mask-le 0 ws
group-le (Some (o.Valued p)) ws = first-le ws

-- an option that is read, and what is left behind it
pub record Takes (k : Kind) (at : ℕ) (name : Option OptionWord) (b : Bool) (ws : List (List ℕ)) (x : Setting × (ℕ × List (List ℕ))) : Type 0 where
  pub many : ℕ
  pub few : many ≤ length ws
  pub place : x.1.0 ≡ at + 1 + many
  pub behind : x.1.1 ≡ drop many ws
  pub says : option_at k at name b (take many ws) ≡ Ok x.0

takes : (k : Kind) (at : ℕ) (name : Option OptionWord) (b : Bool) (ws : List (List ℕ)) (x : Setting × (ℕ × List (List ℕ))) → read_named k at name b ws ≡ Ok x → Takes k at name b ws x
unfolding read_named
takes k at name b ws x h = by-option (option_at k at name b (take (group_len name ws) ws)) refl h
  where
    by-option : (r : Result Setting LineFault) → option_at k at name b (take (group_len name ws) ws) ≡ r
        → ◌>>=◌ {B = Setting × (ℕ × List (List ℕ))} r (λ s. Ok (s, (at + 1 + group_len name ws, drop (group_len name ws) ws))) ≡ Ok x → Takes k at name b ws x
    by-option (Err fault) e g = absurd (cc)
    by-option (Ok s) e g =
        let same : (s, (at + 1 + group_len name ws, drop (group_len name ws) ws)) ≡ x = cc in
        rw (← same) (record { many = group_len name ws; few = group-le name ws; place = refl; behind = refl; says = e })

left-length : (k : Kind) (at : ℕ) (name : Option OptionWord) (b : Bool) (ws : List (List ℕ)) (x : Setting × (ℕ × List (List ℕ))) → Takes k at name b ws x
    → (x.1.0 + length x.1.1 ≡ at + 1 + length ws) × (length x.1.1 ≤ length ws)
left-length k at name b ws x t =
    let short : length (drop t.many ws) ≡ length ws - t.many = length-drop t.many ws in
    rw (t.place, t.behind, short) (omega (arith, t.few), omega arith)

-- ---- The first fault is that of a word behind good options

module _ (k : Kind) (w : List ℕ) (ws : List (List ℕ)) (ends-masks : EndsMasks (w ∷ ws)) (fault : ℕ → LineFault)
    (bad : (at : ℕ) → read_named k at (option_of w) (is_left_out_word w) ws ≡ Err (fault at)) where
  abbrev Fails : Options → ℕ → List (List ℕ) → Type 0
  Fails before at front = (after : Options) → read_options k before at front ≡ Ok after → read_options k before at (front ++ w ∷ ws) ≡ Err (fault (at + length front))

  fails-first : (before : Options) (at : ℕ) → Fails before at []
  fails-first before at after h =
      let none : at + 0 ≡ at = omega arith in
      rw none (rw (bad at) at (options_step k before at w ws (option_of w) (is_left_out_word w) refl refl))

  step-fails : (fuel : ℕ) → ((before : Options) (at : ℕ) (front : List (List ℕ)) → length front ≤ fuel → Fails before at front)
      → (before : Options) (at : ℕ) (v : List ℕ) (front : List (List ℕ)) (r : Result (Setting × (ℕ × List (List ℕ))) LineFault)
      → read_named k at (option_of v) (is_left_out_word v) front ≡ r → length front ≤ fuel → Fails before at (v ∷ front)
  step-fails fuel ih before at v front (Err f) e l after h =
      let step = rw e at (options_step k before at v front (option_of v) (is_left_out_word v) refl refl) in absurd (cc)
  step-fails fuel ih before at v front (Ok x) e l after h =
      let stays = named-stays k (w ∷ ws) ends-masks at (option_of v) (is_left_out_word v) front x e in
      let place = left-length k at (option_of v) (is_left_out_word v) front x (takes k at (option_of v) (is_left_out_word v) front x e) in
      let step = rw e at (options_step k before at v front (option_of v) (is_left_out_word v) refl refl) in
      let step' = rw stays.0 at (options_step k before at v (front ++ w ∷ ws) (option_of v) (is_left_out_word v) refl refl) in
      let rest = ih (set_option before x.0) x.1.0 x.1.1 (omega (arith, place.1)) after (sym step ∙ h) in
      let same : x.1.0 + length x.1.1 ≡ at + suc (length front) = omega (arith, place.0) in
      step' ∙ rest ∙ ap (λ n. Err (fault n)) same

  fails : (fuel : ℕ) (before : Options) (at : ℕ) (front : List (List ℕ)) → length front ≤ fuel → Fails before at front
  fails fuel before at [] l = fails-first before at
  fails zero before at (v ∷ front) l = absurd (omega arith)
  fails (suc fuel) before at (v ∷ front) l = step-fails fuel (fails fuel) before at v front (read_named k at (option_of v) (is_left_out_word v) front) refl (omega arith)

  pub options-fail : (before : Options) (at : ℕ) (front : List (List ℕ)) → Fails before at front
  options-fail before at front = fails (length front) before at front (omega arith)

-- ---- Options that are good behind a pipe are good without it

read-again : (k : Kind) (a b o : Options) (at : ℕ) (ws : List (List ℕ)) → read_options k a (at + 1) ws ≡ Ok o → (after : Options) × (read_options k b at ws ≡ Ok after)
unfolding read_options groups
read-again k a b o at ws h = by-settings (group_settings k (groups at ws)) refl
  where
    by-settings : (r : Result (List Setting) LineFault) → group_settings k (groups at ws) ≡ r → (after : Options) × (read_options k b at ws ≡ Ok after)
    by-settings (Ok ss) e = (filled b ss, rw e refl)
    by-settings (Err fault) e = let bad = rw (settings-later k 0 at ws, e) at h in absurd (cc)

pipe-word : (option_of (codes "pipe") ≡ Some (o.Valued p.Pipe)) × (pipe_or_queue_at 5 (codes "1") ≡ Ok 1)
unfolding option_of number_of numeral_of within
pipe-word = (refl, refl)

behind-pipe : (o : Options) (ws : List (List ℕ)) → read_options kind.Queue defaults 4 (codes "pipe" ∷ codes "1" ∷ ws) ≡ Ok o
    → read_options kind.Queue (set_option defaults (set.Pipe 1)) 6 ws ≡ Ok o
behind-pipe o ws h =
    let value : value_of 5 p.Pipe (codes "1") ≡ Ok (set.Pipe 1) = rw pipe-word.1 refl in
    let read = option_valued kind.Queue 4 (option_of (codes "pipe")) (is_left_out_word (codes "pipe")) (codes "1" ∷ ws) (codes "1") ws p.Pipe pipe-word.0 refl refl (set.Pipe 1) 6 refl value in
    let step = rw read at (options_step kind.Queue defaults 4 (codes "pipe") (codes "1" ∷ ws) (option_of (codes "pipe")) (is_left_out_word (codes "pipe")) refl refl) in
    sym step ∙ h

abbrev Read : Kind → List (List ℕ) → Type 0
Read k ws = (o : Options) × (read_options k defaults 4 ws ≡ Ok o)

module _ (n : ℕ) (low : 1 ≤ n) (high : n ≤ 65535) where
  good-pipe : (options : List (List ℕ)) (command : Command) → Says (codes "pipe") n options command → Read kind.Pipe options
  good-pipe options command h = let from = by-options n low high options kind.Pipe command (read_options kind.Pipe defaults 4 options) refl h in (from.0, from.1)

  good-queue : (options : List (List ℕ)) (command : Command) → Says (codes "queue") n (codes "pipe" ∷ codes "1" ∷ options) command → Read kind.Queue options
  good-queue options command h =
      let all = codes "pipe" ∷ codes "1" ∷ options in
      let from = by-options n low high all kind.Queue command (read_options kind.Queue defaults 4 all) refl h in
      let six = behind-pipe from.0 options from.1 in
      let five = read-again kind.Queue (set_option defaults (set.Pipe 1)) defaults from.0 5 options six in
      read-again kind.Queue defaults defaults five.0 4 options five.1

  good : (k : Kind) (options : List (List ℕ)) → AreGood (name-of k) n options → Read k options
  good kind.Pipe options (start, command, has, says) =
      ⊎_elim (λ e. let none : [] ≡ start = ap (λ x. x.1) e in good-pipe options command (rw (← none) at says))
      (λ h. ⊎_elim (λ e. let bad : 113 ≡ 112 = ap (λ x. slice_index x.0 0) e in absurd (omega (arith, bad))) (λ h. absurd h) h) has
  good kind.Queue options (start, command, has, says) =
      ⊎_elim (λ e. let bad : 112 ≡ 113 = ap (λ x. slice_index x.0 0) e in absurd (omega (arith, bad)))
      (λ h. ⊎_elim (λ e. let two : codes "pipe" ∷ codes "1" ∷ [] ≡ start = ap (λ x. x.1) e in good-queue options command (rw (← two) at says)) (λ h. absurd h) h) has

  -- a line whose options have a fault
  fault-says : (k : Kind) (ws : List (List ℕ)) (fault : LineFault) → read_options k defaults 4 ws ≡ Err fault → command_of (name-of k ∷ decimal n ∷ codes "config" ∷ ws) ≡ Err fault
  fault-says k ws fault e = let config = sym (config_err k 1 n 4 ws fault refl (sym e)) in head n low high ws k ∙ rw config refl

  refuses : (k : Kind) (front : List (List ℕ)) → AreGood (name-of k) n front → (w : List ℕ) (ws : List (List ℕ)) → field_of w ≡ None → is_left_out_word w ≡ false
      → (fault : ℕ → LineFault) → ((at : ℕ) → read_named k at (option_of w) (is_left_out_word w) ws ≡ Err (fault at))
      → command_of (name-of k ∷ decimal n ∷ codes "config" ∷ front ++ w ∷ ws) ≡ Err (fault (length front + 4))
  refuses k front h w ws free known fault bad =
      let read = good k front h in
      let ends-masks : EndsMasks (w ∷ ws) = record { name = w; rest = ws; begins = refl; no_field = free; is_known = known } in
      let fails = options-fail k w ws ends-masks fault bad defaults 4 front read.0 read.1 in
      let turned : 4 + length front ≡ length front + 4 = omega arith in
      fault-says k (front ++ w ∷ ws) (fault (length front + 4)) (fails ∙ ap (λ n. Err (fault n)) turned)

-- ---- Words that are in no table

other : (w text : List ℕ) → w ≢ text → bytes_eq w text ≡ false
other w text h = by-test (bytes_eq w text) refl
  where
    by-test : (b : Bool) → bytes_eq w text ≡ b → bytes_eq w text ≡ false
    by-test false e = e
    by-test true e = absurd (h ((bytes_eq-Decides w text).0 e))

among : (texts : List (List ℕ)) (w : List ℕ) → (Has texts w → ⊥) → is_among texts w ≡ false
among [] w h = refl
among (text ∷ texts) w h = rw (other w text (λ e. h (inl (sym e))), among texts w (λ g. h (inr g))) refl

is-in : (texts : List (List ℕ)) (w : List ℕ) → Has texts w → is_among texts w ≡ true
is-in [] w h = absurd h
is-in (text ∷ texts) w h = ⊎_elim (λ e. rw ((bytes_eq-Decides w text).1 (sym e)) refl) (λ g. rw (is-in texts w g) (or-true (bytes_eq w text))) h
  where
    or-true : (b : Bool) → b || true ≡ true
    or-true true = refl
    or-true false = refl

no-field : (w : List ℕ) → (Has fields w → ⊥) → field_of w ≡ None
unfolding field_of
no-field w h =
    rw (
      other w (codes "dst-ip") (λ e. h (inl (sym e))),
      other w (codes "src-ip") (λ e. h (inr (inl (sym e)))),
      other w (codes "dst-port") (λ e. h (inr (inr (inl (sym e))))),
      other w (codes "src-port") (λ e. h (inr (inr (inr (inl (sym e)))))),
      other w (codes "proto") (λ e. h (inr (inr (inr (inr (inl (sym e))))))),
      other w (codes "all") (λ e. h (inr (inr (inr (inr (inr (inl (sym e)))))))),
    ) refl

not-left-out : (w : List ℕ) → (Has left_out w → ⊥) → is_left_out_word w ≡ false
unfolding is_left_out_word
not-left-out w h = among left_out w h

is-left-out : (w : List ℕ) → Has left_out w → is_left_out_word w ≡ true
unfolding is_left_out_word
is-left-out w h = is-in left_out w h

-- ---- The laws

-- the words of a kind, by the table, are its options with a value
abbrev own-words : Kind → List (List ℕ)
own-words kind.Pipe = codes "bw" ∷ codes "delay" ∷ codes "queue" ∷ codes "plr" ∷ codes "buckets" ∷ []
own-words kind.Queue = codes "weight" ∷ codes "pipe" ∷ codes "queue" ∷ codes "plr" ∷ codes "buckets" ∷ []

-- an option of this kind with a value, and no mask field
abbrev IsOwn : Kind → List ℕ → Type 0
IsOwn k w = (q : Parameter) × (option_of w ≡ Some (o.Valued q)) × (belongs k q ≡ true) × (field_of w ≡ None) × (is_left_out_word w ≡ false)

is-own : (k : Kind) (w : List ℕ) → Has (own-words k) w → IsOwn k w
unfolding option_of field_of is_left_out_word
is-own kind.Pipe w h = ⊎_elim (λ e. rw (← e) (p.Bandwidth, refl, refl, refl, refl)) (λ h. ⊎_elim (λ e. rw (← e) (p.Delay, refl, refl, refl, refl))
    (λ h. ⊎_elim (λ e. rw (← e) (p.Queue, refl, refl, refl, refl)) (λ h. ⊎_elim (λ e. rw (← e) (p.Loss, refl, refl, refl, refl))
    (λ h. ⊎_elim (λ e. rw (← e) (p.Buckets, refl, refl, refl, refl)) (λ h. absurd h) h) h) h) h) h
is-own kind.Queue w h = ⊎_elim (λ e. rw (← e) (p.Weight, refl, refl, refl, refl)) (λ h. ⊎_elim (λ e. rw (← e) (p.Pipe, refl, refl, refl, refl))
    (λ h. ⊎_elim (λ e. rw (← e) (p.Queue, refl, refl, refl, refl)) (λ h. ⊎_elim (λ e. rw (← e) (p.Loss, refl, refl, refl, refl))
    (λ h. ⊎_elim (λ e. rw (← e) (p.Buckets, refl, refl, refl, refl)) (λ h. absurd h) h) h) h) h) h

-- what a row of a table gives a word
found-step : {X : Type 0} (row : List ℕ × X) (rows : List (List ℕ × X)) (w : List ℕ) (x : X) (b : Bool) → bytes_eq w row.0 ≡ b → (at_word rows w ≡ Some x → Has rows (w, x))
    → at_word (row ∷ rows) w ≡ Some x → Has (row ∷ rows) (w, x)
found-step row rows w x true e ih h =
    let g = rw e at h in
    let value : row.1 ≡ x = cc in
    let name : row.0 ≡ w = sym ((bytes_eq-Decides w row.0).0 e) in
    inl (rw (← name, ← value) refl)
found-step row rows w x false e ih h = inr (ih (rw e at h))

found : {X : Type 0} (rows : List (List ℕ × X)) (w : List ℕ) (x : X) → at_word rows w ≡ Some x → Has rows (w, x)
found [] w x h = absurd (cc)
found (row ∷ rows) w x h = found-step row rows w x (bytes_eq w row.0) refl (found rows w x) h

mask-is-mask : (w : List ℕ) → option_of w ≡ Some o.Mask → w ≡ codes "mask"
unfolding option_of
mask-is-mask w h = by-row (found options w o.Mask h)
  where
    other-row : (v : List ℕ) (r : Parameter) → ◌≡◌ {A = List ℕ × OptionWord} (v, o.Valued r) (w, o.Mask) → w ≡ codes "mask"
    other-row v r e = let value : o.Valued r ≡ o.Mask = ap (λ x. x.1) e in absurd (cc)

    by-row : Has options (w, o.Mask) → w ≡ codes "mask"
    by-row g = ⊎_elim (other-row _ _) (λ g. ⊎_elim (other-row _ _) (λ g. ⊎_elim (other-row _ _) (λ g. ⊎_elim (other-row _ _) (λ g. ⊎_elim (other-row _ _)
        (λ g. ⊎_elim (other-row _ _) (λ g. ⊎_elim (other-row _ _) (λ g. ⊎_elim (λ e. sym (ap (λ x. x.0) e)) (λ g. absurd g) g) g) g) g) g) g) g) g

-- the word of each parameter
valued-word : (q : Parameter) (w : List ℕ) → option_of w ≡ Some (o.Valued q) → w ≡ word-of q
unfolding option_of
valued-word q w h = by-row (found options w (o.Valued q) h)
  where
    same : (r : Parameter) (v : List ℕ) → v ≡ word-of r → ◌≡◌ {A = List ℕ × OptionWord} (v, o.Valued r) (w, o.Valued q) → w ≡ word-of q
    same r v f e =
        let name : v ≡ w = ap (λ x. x.0) e in
        let value : o.Valued r ≡ o.Valued q = ap (λ x. x.1) e in
        let parameter : r ≡ q = cc in
        sym name ∙ f ∙ ap word-of parameter

    mask-row : ◌≡◌ {A = List ℕ × OptionWord} (codes "mask", o.Mask) (w, o.Valued q) → w ≡ word-of q
    mask-row e = let value : o.Mask ≡ o.Valued q = ap (λ x. x.1) e in absurd (cc)

    by-row : Has options (w, o.Valued q) → w ≡ word-of q
    by-row g = ⊎_elim (same p.Bandwidth _ refl) (λ g. ⊎_elim (same p.Delay _ refl) (λ g. ⊎_elim (same p.Queue _ refl) (λ g. ⊎_elim (same p.Loss _ refl) (λ g. ⊎_elim (same p.Buckets _ refl)
        (λ g. ⊎_elim (same p.Weight _ refl) (λ g. ⊎_elim (same p.Pipe _ refl) (λ g. ⊎_elim (λ e. mask-row e) (λ g. absurd g) g) g) g) g) g) g) g) g

belongs-own : (k : Kind) (q : Parameter) → belongs k q ≡ true → Has (own-words k) (word-of q)
belongs-own kind.Pipe p.Bandwidth h = inl refl
belongs-own kind.Pipe p.Delay h = inr (inl refl)
belongs-own kind.Pipe p.Queue h = inr (inr (inl refl))
belongs-own kind.Pipe p.Loss h = inr (inr (inr (inl refl)))
belongs-own kind.Pipe p.Buckets h = inr (inr (inr (inr (inl refl))))
belongs-own kind.Pipe p.Weight h = absurd (cc)
belongs-own kind.Pipe p.Pipe h = absurd (cc)
belongs-own kind.Queue p.Bandwidth h = absurd (cc)
belongs-own kind.Queue p.Delay h = absurd (cc)
belongs-own kind.Queue p.Queue h = inr (inr (inl refl))
belongs-own kind.Queue p.Loss h = inr (inr (inr (inl refl)))
belongs-own kind.Queue p.Buckets h = inr (inr (inr (inr (inl refl))))
belongs-own kind.Queue p.Weight h = inl refl
belongs-own kind.Queue p.Pipe h = inr (inl refl)

-- what begins no option of a kind
unknown-named : (k : Kind) (w : List ℕ) (name : Option OptionWord) → option_of w ≡ name → (Has (own-words k) w → ⊥) → w ≢ codes "mask" → is_left_out_word w ≡ false → (ws : List (List ℕ)) (at : ℕ)
    → read_named k at (option_of w) (is_left_out_word w) ws ≡ Err (UnknownWord at)
unknown-named k w None e own mask known ws at = option_unknown k at (option_of w) (is_left_out_word w) ws e known
unknown-named k w (Some o.Mask) e own mask known ws at = absurd (mask (mask-is-mask w e))
unknown-named k w (Some (o.Valued q)) e own mask known ws at = by-kind (belongs k q) refl
  where
    by-kind : (b : Bool) → belongs k q ≡ b → read_named k at (option_of w) (is_left_out_word w) ws ≡ Err (UnknownWord at)
    by-kind false g = option_foreign k at (option_of w) (is_left_out_word w) ws q e g
    by-kind true g = absurd (own (subst (Has (own-words k)) (sym (valued-word q w e)) (belongs-own k q g)))

mask-missing : (k : Kind) (at : ℕ) → read_named k at (option_of (codes "mask")) (is_left_out_word (codes "mask")) [] ≡ Err (MissingValue at)
mask-missing k at = option_mask_err k at (option_of (codes "mask")) (is_left_out_word (codes "mask")) [] (MissingValue at) mask-word.0 (mask_nil at)

refused : (k : Kind) (n : ℕ) (front : List (List ℕ)) → 1 ≤ n → n ≤ 65535 → AreGood (name-of k) n front → OptionsAreRefused (name-of k) n front (own-words k)
refused k n front low high h = record {
  unknown = λ w ws own field out mask. refuses n low high k front h w ws (no-field w field) (not-left-out w out) UnknownWord
      (unknown-named k w (option_of w) refl own mask (not-left-out w out) ws);
  missing = λ w has. let own = is-own k w has in refuses n low high k front h w [] own.3 own.4 MissingValue
      (λ at. option_missing k at (option_of w) (is_left_out_word w) [] own.0 own.1 own.2 refl);
  open_mask = refuses n low high k front h (codes "mask") [] mask-word.1 mask-word.2 MissingValue (mask-missing k);
}

pub other-words-are-refused : OtherWordsAreRefused
other-words-are-refused name n front own low high row h = by-row row
  where
    at-pipe : ◌≡◌ {A = List ℕ × List (List ℕ)} (codes "pipe", own-words kind.Pipe) (name, own) → OptionsAreRefused name n front own
    at-pipe e =
        let f : codes "pipe" ≡ name = ap (λ x. x.0) e in
        let g : own-words kind.Pipe ≡ own = ap (λ x. x.1) e in
        rw (← f, ← g) (refused kind.Pipe n front low high (rw (← f) at h))

    at-queue : ◌≡◌ {A = List ℕ × List (List ℕ)} (codes "queue", own-words kind.Queue) (name, own) → OptionsAreRefused name n front own
    at-queue e =
        let f : codes "queue" ≡ name = ap (λ x. x.0) e in
        let g : own-words kind.Queue ≡ own = ap (λ x. x.1) e in
        rw (← f, ← g) (refused kind.Queue n front low high (rw (← f) at h))

    by-row : Has options_of (name, own) → OptionsAreRefused name n front own
    by-row r = ⊎_elim at-pipe (λ r. ⊎_elim at-queue (λ r. absurd r) r) r

no-option : (w : List ℕ) → Has left_out w → option_of w ≡ None
unfolding option_of
no-option w h = left-out-case (λ w. at_word options w ≡ None) refl refl refl refl refl refl refl refl refl refl refl refl refl refl w h
  where
    left-out-case : (P : List ℕ → Type 0) → P (codes "red") → P (codes "gred") → P (codes "ecn") → P (codes "codel") → P (codes "pie") → P (codes "fq_codel") → P (codes "fq_pie") → P (codes "sched")
        → P (codes "burst") → P (codes "profile") → P (codes "noerror") → P (codes "src-ip6") → P (codes "dst-ip6") → P (codes "flow-id") → (w : List ℕ) → Has left_out w → P w
    left-out-case P a b c d e f g h i j k l m n w x =
        ⊎_elim (λ q. subst P q a) (λ x. ⊎_elim (λ q. subst P q b) (λ x. ⊎_elim (λ q. subst P q c) (λ x. ⊎_elim (λ q. subst P q d) (λ x. ⊎_elim (λ q. subst P q e) (λ x. ⊎_elim (λ q. subst P q f)
        (λ x. ⊎_elim (λ q. subst P q g) (λ x. ⊎_elim (λ q. subst P q h) (λ x. ⊎_elim (λ q. subst P q i) (λ x. ⊎_elim (λ q. subst P q j) (λ x. ⊎_elim (λ q. subst P q k) (λ x. ⊎_elim (λ q. subst P q l)
        (λ x. ⊎_elim (λ q. subst P q m) (λ x. ⊎_elim (λ q. subst P q n) (λ x. absurd x) x) x) x) x) x) x) x) x) x) x) x) x) x) x

left-out-first : (k : Kind) (n : ℕ) (w : List ℕ) (ws : List (List ℕ)) → 1 ≤ n → n ≤ 65535 → Has left_out w → command_of (name-of k ∷ decimal n ∷ codes "config" ∷ w ∷ ws) ≡ Err (LeftOut 4)
left-out-first k n w ws low high h =
    let named = option_left k 4 (option_of w) (is_left_out_word w) ws (no-option w h) (is-left-out w h) in
    fault-says n low high k (w ∷ ws) (LeftOut 4) (rw named at (options_step k defaults 4 w ws (option_of w) (is_left_out_word w) refl refl))

pub left-out-is-told : LeftOutIsTold
left-out-is-told name n w ws has low high h =
    ⊎_elim (λ e. rw (← e) (left-out-first kind.Pipe n w ws low high h)) (λ has. ⊎_elim (λ e. rw (← e) (left-out-first kind.Queue n w ws low high h)) (λ has. absurd has) has) has

-- ---- No group but that of `pipe` sets the pipe

lacks-drop : (word : List ℕ) (n : ℕ) (ws : List (List ℕ)) → Lacks word ws → Lacks word (drop n ws)
lacks-drop word zero ws h = h
lacks-drop word (suc n) [] h = h
lacks-drop word (suc n) (w ∷ ws) h = lacks-drop word n ws h.1

abbrev Keeps : Options → Setting → Type 0
Keeps before s = (set_option before s).pipe ≡ before.pipe

made : {A : Type 0} (r : Result A LineFault) (f : A → Setting) (s : Setting) (before : Options) → ◌>>=◌ {B = Setting} r (λ n. Ok (f n)) ≡ Ok s → ((n : A) → Keeps before (f n)) → Keeps before s
made (Ok n) f s before e h = let same : f n ≡ s = cc in subst (Keeps before) same (h n)
made (Err fault) f s before e h = absurd (cc)

value-keeps : (q : Parameter) (at : ℕ) (v : List ℕ) (s : Setting) (before : Options) → q ≢ p.Pipe → value_of at q v ≡ Ok s → Keeps before s
value-keeps p.Bandwidth at v s before other-one e = made _ set.Bandwidth s before e (λ n. refl)
value-keeps p.Delay at v s before other-one e = made _ set.Delay s before e (λ n. refl)
value-keeps p.Queue at v s before other-one e = made _ set.Limit s before e (λ n. refl)
value-keeps p.Loss at v s before other-one e = made _ set.Loss s before e (λ n. refl)
value-keeps p.Buckets at v s before other-one e = made _ set.Buckets s before e (λ n. refl)
value-keeps p.Weight at v s before other-one e = made _ set.Weight s before e (λ n. refl)
value-keeps p.Pipe at v s before other-one e = absurd (other-one refl)

option-keeps : (k : Kind) (at : ℕ) (name : Option OptionWord) (b : Bool) (ws : List (List ℕ)) (s : Setting) (before : Options) → (name ≡ Some (o.Valued p.Pipe) → ⊥) → option_at k at name b ws ≡ Ok s → Keeps before s
option-keeps k at None b ws s before other e = absurd (cc)
option-keeps k at (Some o.Mask) b ws s before other e = made _ set.Mask s before e (λ n. refl)
option-keeps k at (Some (o.Valued q)) b ws s before other e = by-kind (belongs k q) ws refl e
  where
    by-kind : (t : Bool) (ws : List (List ℕ)) → belongs k q ≡ t → cond (belongs k q) (parameter_at at q ws) (Err (UnknownWord at)) ≡ Ok s → Keeps before s
    by-kind false ws g e = let bad = rw g at e in absurd (cc)
    by-kind true [] g e = let bad = rw g at e in absurd (cc)
    by-kind true (v ∷ vs) g e = value-keeps q (at + 1) v s before (λ f. other (rw f refl)) (rw g at e)

abbrev Unpiped : Options → ℕ → List (List ℕ) → Type 0
Unpiped before at ws = (after : Options) → Lacks (codes "pipe") ws → read_options kind.Queue before at ws ≡ Ok after → after.pipe ≡ before.pipe

step-unpiped : (fuel : ℕ) → ((before : Options) (at : ℕ) (ws : List (List ℕ)) → length ws ≤ fuel → Unpiped before at ws)
    → (before : Options) (at : ℕ) (w : List ℕ) (ws : List (List ℕ)) (r : Result (Setting × (ℕ × List (List ℕ))) LineFault)
    → read_named kind.Queue at (option_of w) (is_left_out_word w) ws ≡ r → length ws ≤ fuel → Unpiped before at (w ∷ ws)
step-unpiped fuel ih before at w ws (Err f) e l after lacks h =
    let step = rw e at (options_step kind.Queue before at w ws (option_of w) (is_left_out_word w) refl refl) in absurd (cc)
step-unpiped fuel ih before at w ws (Ok x) e l after lacks h =
    let t = takes kind.Queue at (option_of w) (is_left_out_word w) ws x e in
    let place = left-length kind.Queue at (option_of w) (is_left_out_word w) ws x t in
    let keeps = option-keeps kind.Queue at (option_of w) (is_left_out_word w) (take t.many ws) x.0 before (λ f. lacks.0 (valued-word p.Pipe w f)) t.says in
    let step = rw e at (options_step kind.Queue before at w ws (option_of w) (is_left_out_word w) refl refl) in
    let rest : Lacks (codes "pipe") x.1.1 = rw t.behind (lacks-drop (codes "pipe") t.many ws lacks.1) in
    ih (set_option before x.0) x.1.0 x.1.1 (omega (arith, place.1)) after rest (sym step ∙ h) ∙ keeps

none-unpiped : (before : Options) (at : ℕ) → Unpiped before at []
none-unpiped before at after lacks h =
    let nil = options_nil kind.Queue before at in
    let same : before ≡ after = cc in
    ap (λ o. o.pipe) (sym same)

unpiped : (fuel : ℕ) (before : Options) (at : ℕ) (ws : List (List ℕ)) → length ws ≤ fuel → Unpiped before at ws
unpiped fuel before at [] l = none-unpiped before at
unpiped zero before at (w ∷ ws) l = absurd (omega arith)
unpiped (suc fuel) before at (w ∷ ws) l = step-unpiped fuel (unpiped fuel) before at w ws (read_named kind.Queue at (option_of w) (is_left_out_word w) ws) refl (omega arith)

pub pipes-are-needed : PipesAreNeeded
pipes-are-needed n front low high h lacks =
    let read = good n low high kind.Queue front h in
    let none : read.0.pipe ≡ None = unpiped (length front) defaults 4 front (omega arith) read.0 lacks read.1 in
    let command : command_with kind.Queue 1 n read.0 ≡ Err (NeedsPipe 1) = rw none refl in
    let config = config_ok kind.Queue 1 n 4 front read.0 refl (sym read.1) in
    head n low high front kind.Queue ∙ rw (sym config ∙ command) refl
