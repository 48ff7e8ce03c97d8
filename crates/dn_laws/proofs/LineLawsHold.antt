-- The laws of configuration lines hold.
use Rattle.dn_laws.proofs.Words.{Bool, Command, DefaultsAreKnown, Err, Has, IsMask, Kind, Limit, LineFault, List, Mask, MaskField, None, Ok, Option, OptionWord, Options, OthersAreRefused}
use Rattle.dn_laws.proofs.Words.{OutOfRange, Parameter, PipesAreSet, QueuesAreSet, Result, Says, Setting, Slots, Some, [], all_bits, and_parts, ap, append-nil, arith, ascii_digits, behind_kind}
use Rattle.dn_laws.proofs.Words.{belongs, bits_at, bits_of, bytes_eq, codes, command_of, command_with, cond, config_at, config_err, config_ok, decimal, decimal_is_IsNumeral, defaults, drop, false}
use Rattle.dn_laws.proofs.Words.{field_of, fields_nil, fields_step, greatest_of, inl, inr, is_ascii_digit, is_left_out_word, length, list_all, mask_begins, nat_eq, nat_tests, number_back}
use Rattle.dn_laws.proofs.Words.{numeral_of, ok_within, option_bad, option_mask_ok, option_of, options_nil, options_step, placed, ranged_back, ranges, read_mask, read_options, refl, set_field}
use Rattle.dn_laws.proofs.Words.{set_option, slice_index, subst, sym, true, value_of, with_bits, within, ℕ, ⊎_elim, ◌&&◌, ◌++◌, ◌+◌, ◌<◌, ◌==◌, ◌^◌, ◌∙◌, ◌∷◌, ◌≡◌, ◌≤◌, ◌⊎◌}
use Rattle.dn_types.specs.declared.command.Command.TheVariants.{Pipe, Queue}
use Rattle.dn_config.specs.Groups.{◌>>=◌}
use Rattle.dn_config.specs.declared.kind.Kind.TheVariants as kind
use Rattle.dn_config.specs.declared.option_group.Parameter.TheVariants as p
use Rattle.dn_config.specs.declared.mask_field.MaskField.TheVariants as f
use Rattle.dn_config.specs.declared.mask_field.MaskWord.TheVariants as m
use Rattle.dn_config.specs.declared.option_group.OptionWord.TheVariants as o
use Rattle.dn_config.specs.declared.option_group.Setting.TheVariants as set
use Rattle.dn_laws.proofs.LineSteps.{EndsMasks, options-add, valued-last}
use Rattle.dn_laws.proofs.LineValues.{rate-is, delay-is, limit-is, loss-is, number-out, rate-out, delay-out, slots-out, kbytes-out, loss-out}
use Rattle.dn_laws.specs.LineLaws.{no_bits}

abbrev pub name-of : Kind → List ℕ
name-of kind.Pipe = codes "pipe"
name-of kind.Queue = codes "queue"

pub no-word : (w : List ℕ) (c : ℕ) (cs : List ℕ) → 57 < c → list_all is_ascii_digit w ≡ true → bytes_eq w (c ∷ cs) ≡ false
no-word [] c cs l h = refl
no-word (d ∷ ds) c cs l h = let other = other-byte d c l (and_parts (is_ascii_digit d) (list_all is_ascii_digit ds) h).0 in rw other refl
  where
    other-byte : (d c : ℕ) → 57 < c → is_ascii_digit d ≡ true → nat_eq d c ≡ false
    other-byte d c l h = grind (arith, nat_tests)

module _ (k : Kind) (n : ℕ) (low : 1 ≤ n) (high : n ≤ 65535) where
  behind-number : (ws : List (List ℕ)) → behind_kind k 1 (decimal n ∷ codes "config" ∷ ws) ≡ config_at k 1 n ws
  behind-number ws =
      let digits = ascii_digits (decimal n) (decimal_is_IsNumeral n (omega arith)).0.1 in
      let number = ranged_back 1 65535 n (omega arith) low high in
      rw (no-word (decimal n) 100 _ (omega arith) digits, no-word (decimal n) 115 _ (omega arith) digits, no-word (decimal n) 108 _ (omega arith) digits, number) refl

module _ (n : ℕ) (low : 1 ≤ n) (high : n ≤ 65535) (ws : List (List ℕ)) where
  pub head : (k : Kind) → command_of (name-of k ∷ decimal n ∷ codes "config" ∷ ws) ≡ ◌>>=◌ {B = Option Command} (config_at k 1 n ws) (λ c. Ok (Some c))
  head kind.Pipe = ap (λ (r : Result Command LineFault). ◌>>=◌ {B = Option Command} r (λ c. Ok (Some c))) (behind-number kind.Pipe n low high ws)
  head kind.Queue = ap (λ (r : Result Command LineFault). ◌>>=◌ {B = Option Command} r (λ c. Ok (Some c))) (behind-number kind.Queue n low high ws)

  -- what a line says is what its options say
  abbrev FromOptions : Kind → Command → Type 0
  FromOptions k command = (o : Options) × (read_options k defaults 4 ws ≡ Ok o) × (command_with k 1 n o ≡ Ok command)

  by-config : (k : Kind) (command : Command) (r : Result Command LineFault) → config_at k 1 n ws ≡ r → Says (name-of k) n ws command → r ≡ Ok command
  by-config k command (Err fault) e h = let line = rw e at (head k) in absurd (cc)
  by-config k command (Ok c) e h =
      let line = rw e at (head k) in
      let same : c ≡ command = cc in
      ap Ok same

  pub by-options : (k : Kind) (command : Command) (r : Result Options LineFault) → read_options k defaults 4 ws ≡ r → Says (name-of k) n ws command → FromOptions k command
  by-options k command (Err fault) e h =
      let config = by-config k command (config_at k 1 n ws) refl h in
      let bad = config_err k 1 n 4 ws fault refl (sym e) in absurd (cc)
  by-options k command (Ok o) e h = (o, e, config_ok k 1 n 4 ws o refl (sym e) ∙ by-config k command (config_at k 1 n ws) refl h)

  says-so : (k : Kind) (command : Command) (o : Options) → read_options k defaults 4 ws ≡ Ok o → command_with k 1 n o ≡ Ok command → Says (name-of k) n ws command
  says-so k command o e h = head k ∙ rw (sym (config_ok k 1 n 4 ws o refl (sym e)) ∙ h) refl

abbrev pub word-of : Parameter → List ℕ
word-of p.Bandwidth = codes "bw"
word-of p.Delay = codes "delay"
word-of p.Queue = codes "queue"
word-of p.Loss = codes "plr"
word-of p.Buckets = codes "buckets"
word-of p.Weight = codes "weight"
word-of p.Pipe = codes "pipe"

abbrev IsOption : List ℕ → OptionWord → Type 0
IsOption w name = (option_of w ≡ Some name) × (field_of w ≡ None) × (is_left_out_word w ≡ false)

word-is : (p : Parameter) → IsOption (word-of p) (o.Valued p)
unfolding option_of field_of is_left_out_word
word-is p.Bandwidth = (refl, refl, refl)
word-is p.Delay = (refl, refl, refl)
word-is p.Queue = (refl, refl, refl)
word-is p.Loss = (refl, refl, refl)
word-is p.Buckets = (refl, refl, refl)
word-is p.Weight = (refl, refl, refl)
word-is p.Pipe = (refl, refl, refl)

pub mask-word : IsOption (codes "mask") o.Mask
unfolding option_of field_of is_left_out_word
mask-word = (refl, refl, refl)

no-prefix : (w : List ℕ) → 0 < length w → list_all is_ascii_digit w ≡ true → (slice_index w 0 == 47 ≡ false) × (slice_index w 1 == 120 ≡ false) × (slice_index w 1 == 88 ≡ false)
no-prefix [] l h = absurd (omega arith)
no-prefix (d ∷ []) l h = (no-byte d 47 (and_parts (is_ascii_digit d) true h).0 (inl refl), refl, refl)
  where
    no-byte : (d c : ℕ) → is_ascii_digit d ≡ true → (c ≡ 47) ⊎ (57 < c) → d == c ≡ false
    no-byte d c h l = grind (arith, nat_tests)
no-prefix (d ∷ x ∷ w) l h =
    let first = and_parts (is_ascii_digit d) (list_all is_ascii_digit (x ∷ w)) h in
    let second = and_parts (is_ascii_digit x) (list_all is_ascii_digit w) first.1 in
    (no-byte d 47 first.0 (inl refl), no-byte x 120 second.0 (inr (omega arith)), no-byte x 88 second.0 (inr (omega arith)))
  where
    no-byte : (d c : ℕ) → is_ascii_digit d ≡ true → (c ≡ 47) ⊎ (57 < c) → d == c ≡ false
    no-byte d c h l = grind (arith, nat_tests)

bits-is : (at most n : ℕ) → n ≤ most → n < 2 ^ 64 → bits_at at most (decimal n) ≡ Ok n
unfolding bits_at bits_of
bits-is at most n l small =
    let is = decimal_is_IsNumeral n small in
    let no = no-prefix (decimal n) is.0.0 (ascii_digits (decimal n) is.0.1) in
    rw (no.0, no.1, no.2, number_back n small) (and-false (slice_index (decimal n) 0 == 48))
  where
    and-false : (b : Bool) → placed at (within 0 most (cond (b && false) (numeral_of 16 (drop 2 (decimal n))) (Some n))) ≡ Ok n
    and-false true = rw (ok_within 0 most n (omega arith) l) refl
    and-false false = rw (ok_within 0 most n (omega arith) l) refl

module _ (k : Kind) (before : Options) (at : ℕ) where
  one-mask : (words : List (List ℕ)) (m : Mask) (place : ℕ) → read_mask at words ≡ Ok (m, (place, [])) → read_options k before at (codes "mask" ∷ words) ≡ Ok (set_option before (set.Mask m))
  one-mask words m place e =
      let named = option_mask_ok k at (option_of (codes "mask")) (is_left_out_word (codes "mask")) words m (place, []) mask-word.0 e in
      rw named at (options_step k before at (codes "mask") words (option_of (codes "mask")) (is_left_out_word (codes "mask")) refl refl) ∙ options_nil k (set_option before (set.Mask m)) place

  field-last : (name : List ℕ) (f : MaskField) (n : ℕ) → field_of name ≡ Some (m.Valued f) → n ≤ greatest_of f → n < 2 ^ 64
      → read_options k before at (codes "mask" ∷ name ∷ decimal n ∷ []) ≡ Ok (set_option before (set.Mask (set_field no_bits (m.Valued f) n)))
  field-last name f n e l small =
      let first = mask_begins at name (decimal n ∷ []) (rw e refl) in
      let step = rw (bits-is (at + 1 + 1) (greatest_of f) n l small) at (fields_step no_bits (at + 1) name (m.Valued f) (decimal n ∷ []) e) in
      one-mask (name ∷ decimal n ∷ []) (set_field no_bits (m.Valued f) n) (at + 1 + 2) (first ∙ step ∙ fields_nil (set_field no_bits (m.Valued f) n) (at + 1 + 2))

  -- each row of the laws' table
  abbrev SetsBits : ℕ → List ℕ × ℕ × Mask → Type 0
  SetsBits n row = n < row.1 → read_options k before at (codes "mask" ∷ row.0 ∷ decimal n ∷ []) ≡ Ok (set_option before (set.Mask row.2))

fields-are : (field_of (codes "dst-ip") ≡ Some (m.Valued f.DstIp)) × (field_of (codes "src-ip") ≡ Some (m.Valued f.SrcIp)) × (field_of (codes "dst-port") ≡ Some (m.Valued f.DstPort))
    × (field_of (codes "src-port") ≡ Some (m.Valued f.SrcPort)) × (field_of (codes "proto") ≡ Some (m.Valued f.Proto)) × (field_of (codes "all") ≡ Some m.All)
unfolding field_of
fields-are = (refl, refl, refl, refl, refl, refl)

row-sets : (k : Kind) (before : Options) (at n : ℕ) (row : List ℕ × ℕ × Mask) → Has (with_bits n) row → SetsBits k before at n row
row-sets k before at n row h =
    ⊎_elim (λ e. subst (SetsBits k before at n) e (λ l. field-last k before at (codes "dst-ip") f.DstIp n fields-are.0 (omega arith) (omega arith)))
    (λ h. ⊎_elim (λ e. subst (SetsBits k before at n) e (λ l. field-last k before at (codes "src-ip") f.SrcIp n fields-are.1 (omega arith) (omega arith)))
    (λ h. ⊎_elim (λ e. subst (SetsBits k before at n) e (λ l. field-last k before at (codes "dst-port") f.DstPort n fields-are.2 (omega arith) (omega arith)))
    (λ h. ⊎_elim (λ e. subst (SetsBits k before at n) e (λ l. field-last k before at (codes "src-port") f.SrcPort n fields-are.3 (omega arith) (omega arith)))
    (λ h. ⊎_elim (λ e. subst (SetsBits k before at n) e (λ l. field-last k before at (codes "proto") f.Proto n fields-are.4 (omega arith) (omega arith))) (λ h. absurd h) h) h) h) h) h

all-last : (k : Kind) (before : Options) (at : ℕ) → read_options k before at (codes "mask" ∷ codes "all" ∷ []) ≡ Ok (set_option before (set.Mask all_bits))
all-last k before at =
    let first = mask_begins at (codes "all") [] (rw fields-are.5 refl) in
    one-mask k before at (codes "all" ∷ []) all_bits (at + 1 + 1) (first ∙ fields_step no_bits (at + 1) (codes "all") m.All [] fields-are.5 ∙ fields_nil all_bits (at + 1 + 1))

mask-last : (k : Kind) (words : List (List ℕ)) (m : Mask) → IsMask words m → (before : Options) (at : ℕ) → read_options k before at (codes "mask" ∷ words) ≡ Ok (set_option before (set.Mask m))
mask-last k words m h before at = ⊎_elim (λ is. rw (is.0, is.1) (all-last k before at))
    (λ is. rw is.3 (row-sets k before at is.1 (is.0, is.2, m) is.4 is.5)) h

module _ (n : ℕ) (low : 1 ≤ n) (high : n ≤ 65535) (ws : List (List ℕ)) (k : Kind) (old : Command) (says : Says (name-of k) n ws old) where
  -- an option that makes the new command of the old one's options
  more-says : (more : List (List ℕ)) → EndsMasks more → (s : Setting) → ((before : Options) (at : ℕ) → read_options k before at more ≡ Ok (set_option before s)) → (new : Command)
      → ((o : Options) → command_with k 1 n o ≡ Ok old → command_with k 1 n (set_option o s) ≡ Ok new) → Says (name-of k) n (ws ++ more) new
  more-says more ends s last new turns =
      let from = by-options n low high ws k old (read_options k defaults 4 ws) refl says in
      says-so n low high (ws ++ more) k new (set_option from.0 s) (options-add k more ends s last defaults 4 ws from.0 from.1) (turns from.0 from.2)

  value-says : (v : List ℕ) (p : Parameter) (s : Setting) → belongs k p ≡ true → ((at : ℕ) → value_of at p v ≡ Ok s) → (new : Command)
      → ((o : Options) → command_with k 1 n o ≡ Ok old → command_with k 1 n (set_option o s) ≡ Ok new) → Says (name-of k) n (ws ++ word-of p ∷ v ∷ []) new
  value-says v p s own value new turns =
      let is = word-is p in
      more-says (word-of p ∷ v ∷ []) (record { name = word-of p; rest = v ∷ []; begins = refl; no_field = is.1; is_known = is.2 }) s (valued-last k (word-of p) v p s is.0 own value) new turns

  mask-says : (words : List (List ℕ)) (m : Mask) → IsMask words m → (new : Command)
      → ((o : Options) → command_with k 1 n o ≡ Ok old → command_with k 1 n (set_option o (set.Mask m)) ≡ Ok new) → Says (name-of k) n (ws ++ codes "mask" ∷ words) new
  mask-says words m is new turns =
      let word = mask-word in
      more-says (codes "mask" ∷ words) (record { name = codes "mask"; rest = words; begins = refl; no_field = word.1; is_known = word.2 }) (set.Mask m) (mask-last k words m is) new turns

pub defaults-are-known : DefaultsAreKnown
defaults-are-known = record {
  pipe = λ n low high. says-so n low high [] kind.Pipe (Pipe n 0 0 (Slots 50) 0 None no_bits) defaults (options_nil kind.Pipe defaults 4) refl;
  queue = λ n to low high a b. says-so n low high (codes "pipe" ∷ decimal to ∷ []) kind.Queue (Queue n to 1 (Slots 50) 0 None no_bits) (set_option defaults (set.Pipe to))
      (valued-last kind.Queue (codes "pipe") (decimal to) p.Pipe (set.Pipe to) (word-is p.Pipe).0 refl (λ at. rw (ranged_back 1 65535 to (omega arith) a b) refl) defaults 4) refl;
}

pub pipes-are-set : PipesAreSet
pipes-are-set n rate wait lost most count bits ws low high says =
    let value = value-says n low high ws kind.Pipe (Pipe n rate wait most lost count bits) says in
    record {
      bw = λ v k is l. value v p.Bandwidth (set.Bandwidth k) refl (λ at. rw (rate-is v k is l at) refl) (Pipe n k wait most lost count bits) (λ o h. cc);
      delay = λ k u is l. value (decimal k ++ u) p.Delay (set.Delay k) refl (λ at. rw (delay-is k u is l at) refl) (Pipe n rate k most lost count bits) (λ o h. cc);
      queue = λ v l is. value v p.Queue (set.Limit l) refl (λ at. rw (limit-is v l is at) refl) (Pipe n rate wait l lost count bits) (λ o h. cc);
      plr = λ v k is. value v p.Loss (set.Loss k) refl (λ at. rw (loss-is v k is at) refl) (Pipe n rate wait most k count bits) (λ o h. cc);
      buckets = λ k a b. value (decimal k) p.Buckets (set.Buckets k) refl (λ at. rw (ranged_back 16 65536 k (omega arith) a b) refl) (Pipe n rate wait most lost (Some k) bits) (λ o h. cc);
      mask = λ words m is. mask-says n low high ws kind.Pipe (Pipe n rate wait most lost count bits) says words m is (Pipe n rate wait most lost count m) (λ o h. cc);
    }

-- a queue's line names its pipe
names-pipe : (n carrier share lost : ℕ) (most : Limit) (count : Option ℕ) (bits : Mask) (o : Options) (r : Option ℕ) → o.pipe ≡ r
    → command_with kind.Queue 1 n o ≡ Ok (Queue n carrier share most lost count bits) → o.pipe ≡ Some carrier
names-pipe n carrier share lost most count bits o None e h = let bad = rw e at h in absurd (cc)
names-pipe n carrier share lost most count bits o (Some p) e h = let good = rw e at h in cc

pub queues-are-set : QueuesAreSet
queues-are-set n carrier share lost most count bits ws low high says =
    let value = value-says n low high ws kind.Queue (Queue n carrier share most lost count bits) says in
    let names = names-pipe n carrier share lost most count bits in
    record {
      pipe = λ k a b. value (decimal k) p.Pipe (set.Pipe k) refl (λ at. rw (ranged_back 1 65535 k (omega arith) a b) refl) (Queue n k share most lost count bits)
          (λ o h. let e = names o o.pipe refl h in let good = rw e at h in cc);
      weight = λ k a b. value (decimal k) p.Weight (set.Weight k) refl (λ at. rw (ranged_back 1 100 k (omega arith) a b) refl) (Queue n carrier k most lost count bits)
          (λ o h. let e = names o o.pipe refl h in let good = rw e at h in rw e (cc));
      queue = λ v l is. value v p.Queue (set.Limit l) refl (λ at. rw (limit-is v l is at) refl) (Queue n carrier share l lost count bits)
          (λ o h. let e = names o o.pipe refl h in let good = rw e at h in rw e (cc));
      plr = λ v k is. value v p.Loss (set.Loss k) refl (λ at. rw (loss-is v k is at) refl) (Queue n carrier share most k count bits)
          (λ o h. let e = names o o.pipe refl h in let good = rw e at h in rw e (cc));
      buckets = λ k a b. value (decimal k) p.Buckets (set.Buckets k) refl (λ at. rw (ranged_back 16 65536 k (omega arith) a b) refl) (Queue n carrier share most lost (Some k) bits)
          (λ o h. let e = names o o.pipe refl h in let good = rw e at h in rw e (cc));
      mask = λ words m is. mask-says n low high ws kind.Queue (Queue n carrier share most lost count bits) says words m is (Queue n carrier share most lost count m)
          (λ o h. let e = names o o.pipe refl h in let good = rw e at h in rw e (cc));
    }

module _ (n : ℕ) (low : 1 ≤ n) (high : n ≤ 65535) where
  bad-says : (k : Kind) (p : Parameter) (v : List ℕ) → belongs k p ≡ true → value_of 5 p v ≡ Err (OutOfRange 5)
      → command_of (name-of k ∷ decimal n ∷ codes "config" ∷ word-of p ∷ v ∷ []) ≡ Err (OutOfRange 5)
  bad-says k p v own bad =
      let is = word-is p in
      let named = option_bad k 4 (option_of (word-of p)) (is_left_out_word (word-of p)) (v ∷ []) v [] p is.0 own refl (OutOfRange 5) bad in
      let options = rw named at (options_step k defaults 4 (word-of p) (v ∷ []) (option_of (word-of p)) (is_left_out_word (word-of p)) refl refl) in
      let config = sym (config_err k 1 n 4 (word-of p ∷ v ∷ []) (OutOfRange 5) refl (sym options)) in
      head n low high (word-of p ∷ v ∷ []) k ∙ rw config refl

  abbrev Refuses : ℕ → List ℕ × List ℕ × List ℕ × ℕ × ℕ → Type 0
  Refuses k row = k < 2 ^ 64 → (k < row.3) ⊎ (row.4 < k) → command_of (row.0 ∷ decimal n ∷ codes "config" ∷ row.1 ∷ (decimal k ++ row.2) ∷ []) ≡ Err (OutOfRange 5)

  above : (k most : ℕ) → (k < 0) ⊎ (most < k) → most < k
  above k most (inl none) = absurd (omega (arith, none))
  above k most (inr more) = more

  row-refuses : (k : ℕ) (row : List ℕ × List ℕ × List ℕ × ℕ × ℕ) → Has ranges row → Refuses k row
  row-refuses k row h =
      ⊎_elim (λ e. subst (Refuses k) e (λ l out. bad-says kind.Pipe p.Bandwidth (decimal k ++ codes "") refl (rw (rate-out k 5 l (above k (10 ^ 12) out)) refl)))
      (λ h. ⊎_elim (λ e. subst (Refuses k) e (λ l out. bad-says kind.Pipe p.Delay (decimal k ++ codes "") refl (rw (delay-out k 5 l (above k 3600000 out)) refl)))
      (λ h. ⊎_elim (λ e. subst (Refuses k) e (λ l out. bad-says kind.Pipe p.Queue (decimal k ++ codes "") refl (rw (slots-out k 5 l out) refl)))
      (λ h. ⊎_elim (λ e. subst (Refuses k) e (λ l out. bad-says kind.Pipe p.Queue (decimal k ++ codes "K") refl (rw (kbytes-out k 5 l out) refl)))
      (λ h. ⊎_elim (λ e. subst (Refuses k) e (λ l out. bad-says kind.Pipe p.Buckets (decimal k ++ codes "") refl (rw (append-nil (decimal k), number-out k 5 l 16 65536 out) refl)))
      (λ h. ⊎_elim (λ e. subst (Refuses k) e (λ l out. bad-says kind.Queue p.Weight (decimal k ++ codes "") refl (rw (append-nil (decimal k), number-out k 5 l 1 100 out) refl)))
      (λ h. ⊎_elim (λ e. subst (Refuses k) e (λ l out. bad-says kind.Queue p.Pipe (decimal k ++ codes "") refl (rw (append-nil (decimal k), number-out k 5 l 1 65535 out) refl))) (λ h. absurd h) h) h) h) h) h) h) h

pub others-are-refused : OthersAreRefused
others-are-refused n low high = record {
  numbers = λ k row h. row-refuses n low high k row h;
  losses = λ whole places digits some few fewer above. bad-says n low high kind.Pipe p.Loss (whole ++ 46 ∷ places) refl (rw (loss-out whole places digits some few fewer above 5) refl);
}
