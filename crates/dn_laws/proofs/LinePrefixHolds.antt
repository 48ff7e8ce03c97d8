-- The law of the word `ipfw` before a line holds: all positions are one greater, and nothing else changes.
use Rattle.dn_laws.proofs.Words.{Bool, Command, Err, Kbytes, Kind, LeftOut, Limit, LineFault, List, MaskWord, None, NumberFault, Ok, Option, OptionWord, Options, Parameter, PrefixSaysNothing}
use Rattle.dn_laws.proofs.Words.{Range, Result, Setting, Shape, Slots, Some, UnknownWord, [], ap, arith, bandwidth_at, behind_kind, behind_point, belongs, bits_at, bits_of, bytes_eq}
use Rattle.dn_laws.proofs.Words.{bytes_eq-Decides, codes, command_from, command_of, command_with, cond, config_at, defaults, delay_at, delete_at, deletes, false, field_of, field_then, fields_at}
use Rattle.dn_laws.proofs.Words.{filled, greatest_of, group_len, group_settings, groups, groups_after, is_among, is_ascii_alphabetic, is_left_out_word, is_query, kept, last_field, later, limit_at}
use Rattle.dn_laws.proofs.Words.{limited, loss_at, lower, mask_at, number_of, number_within, option_at, option_of, parameter_at, placed, queue_with, rate_of, rate_parts_of, rated, refl}
use Rattle.dn_laws.proofs.Words.{setting_of, slice_index, suc, take, true, unit, value_of, verb_at, whole_at, within, zero, ℕ, ◌+◌, ◌==◌, ◌^◌, ◌∙◌, ◌∷◌, ◌≡◌, ◌≢◌}
use Rattle.dn_config.specs.Tokens.Numbers.{digits}
use Rattle.dn_config.specs.Groups.{◌>>=◌}
use Rattle.dn_config.specs.Values.{times}
use Rattle.dn_config.specs.declared.kind.Kind.TheVariants as kind
use Rattle.dn_config.specs.declared.mask_field.MaskWord.TheVariants as m
use Rattle.dn_config.specs.declared.option_group.OptionWord.TheVariants as o
use Rattle.dn_config.specs.declared.option_group.Parameter.TheVariants as p

-- ---- A value at a position and at the next

both-later : {A B : Type 0} (r s : Result A LineFault) (f g : A → Result B LineFault) → s ≡ later r → ((x : A) → g x ≡ later (f x)) → ◌>>=◌ {B = B} s g ≡ later (◌>>=◌ {B = B} r f)
both-later (Ok x) s f g e h = rw e (h x)
both-later (Err fault) s f g e h = rw e refl

cond-later : {A : Type 0} (b : Bool) (r s t u : Result A LineFault) → t ≡ later r → u ≡ later s → cond b t u ≡ later (cond b r s)
cond-later true r s t u e f = e
cond-later false r s t u e f = f

placed-later : (at : ℕ) (r : Result ℕ NumberFault) → placed (at + 1) r ≡ later (placed at r)
placed-later at (Ok n) = refl
placed-later at (Err Shape) = refl
placed-later at (Err Range) = refl

limited-later : (f : ℕ → Limit) (r s : Result ℕ LineFault) → s ≡ later r → limited f s ≡ later (limited f r)
limited-later f (Ok n) s e = rw e refl
limited-later f (Err fault) s e = rw e refl

kept-later : (r s : Result ℕ LineFault) → s ≡ later r → kept s ≡ later (kept r)
kept-later (Ok n) s e = rw e refl
kept-later (Err fault) s e = rw e refl

rated-later : (at : ℕ) (k count : Option ℕ) → rated (at + 1) k count ≡ later (rated at k count)
rated-later at None count = refl
rated-later at (Some k) count = placed-later at (within 0 1000000000000 (times k count))

delay-later : (at : ℕ) (w : List ℕ) → delay_at (at + 1) w ≡ later (delay_at at w)
unfolding delay_at
delay-later at w = cond-later (is_among (codes "" ∷ codes "ms" ∷ []) (unit w)) _ _ _ _ (placed-later at (number_within 0 3600000 (digits w))) refl

limit-later : (at : ℕ) (w : List ℕ) → limit_at (at + 1) w ≡ later (limit_at at w)
unfolding limit_at
limit-later at w =
    cond-later (is_among (codes "" ∷ []) (unit w)) _ _ _ _ (limited-later Slots _ _ (placed-later at (number_within 1 10000 (digits w))))
    (cond-later (is_among (codes "k" ∷ codes "kb" ∷ codes "kbyte" ∷ codes "kbytes" ∷ []) (lower (unit w))) _ _ _ _ (limited-later Kbytes _ _ (placed-later at (number_within 1 1024 (digits w)))) refl)

bandwidth-later : (at : ℕ) (w : List ℕ) → bandwidth_at (at + 1) w ≡ later (bandwidth_at at w)
unfolding bandwidth_at
bandwidth-later at w = cond-later (is_ascii_alphabetic (slice_index w 0)) _ _ _ _ refl (rated-later at (rate_of (lower (unit w))) (number_of (digits w)))

loss-later : (at : ℕ) (w : List ℕ) → loss_at (at + 1) w ≡ later (loss_at at w)
unfolding loss_at
loss-later at w = kept-later _ _ (placed-later at (within 0 (10 ^ 18) (rate_parts_of (digits w) (behind_point (unit w)))))

bits-later : (at greatest : ℕ) (w : List ℕ) → bits_at (at + 1) greatest w ≡ later (bits_at at greatest w)
unfolding bits_at
bits-later at greatest w = cond-later (slice_index w 0 == 47) _ _ _ _ refl (placed-later at (within 0 greatest (bits_of w)))

value-later : (at : ℕ) (q : Parameter) (v : List ℕ) → value_of (at + 1) q v ≡ later (value_of at q v)
value-later at p.Bandwidth v = both-later _ _ _ _ (bandwidth-later at v) (λ x. refl)
value-later at p.Delay v = both-later _ _ _ _ (delay-later at v) (λ x. refl)
value-later at p.Queue v = both-later _ _ _ _ (limit-later at v) (λ x. refl)
value-later at p.Loss v = both-later _ _ _ _ (loss-later at v) (λ x. refl)
value-later at p.Buckets v = both-later _ _ _ _ (placed-later at (number_within 16 65536 v)) (λ x. refl)
value-later at p.Weight v = both-later _ _ _ _ (placed-later at (number_within 1 100 v)) (λ x. refl)
value-later at p.Pipe v = both-later _ _ _ _ (placed-later at (number_within 1 65535 v)) (λ x. refl)

-- ---- The options

abbrev Fields : Type 0
Fields = Result (List (MaskWord × ℕ)) LineFault

field-later : (at : ℕ) (f : Option MaskWord) (v : List ℕ) (a b c d : Fields) → c ≡ later a → d ≡ later b → field_then (at + 1) f v c d ≡ later (field_then at f v a b)
field-later at None v a b c d e g = refl
field-later at (Some m.All) v a b c d e g = both-later _ _ _ _ e (λ x. refl)
field-later at (Some (m.Valued f)) v a b c d e g = both-later _ _ _ _ (bits-later (at + 1) (greatest_of f) v) (λ x. both-later _ _ _ _ g (λ y. refl))

last-later : (at : ℕ) (f : Option MaskWord) → last_field (at + 1) f ≡ later (last_field at f)
last-later at None = refl
last-later at (Some m.All) = refl
last-later at (Some (m.Valued f)) = refl

fields-later : (at : ℕ) (ws : List (List ℕ)) → fields_at (at + 1) ws ≡ later (fields_at at ws)
fields-later at [] = refl
fields-later at (w ∷ []) = last-later at (field_of w)
fields-later at (w ∷ v ∷ ws) =
    let two : at + 1 + 2 ≡ at + 2 + 1 = omega arith in
    field-later at (field_of w) v _ _ _ _ (fields-later (at + 1) (v ∷ ws)) (ap (λ n. fields_at n ws) two ∙ fields-later (at + 2) ws)

mask-later : (at : ℕ) (ws : List (List ℕ)) → mask_at (at + 1) ws ≡ later (mask_at at ws)
mask-later at [] = refl
mask-later at (w ∷ ws) = both-later _ _ _ _ (fields-later (at + 1) (w ∷ ws)) (λ x. refl)

left-later : (at : ℕ) (b : Bool) → ◌≡◌ {A = Result Setting LineFault} (Err (cond b (LeftOut (at + 1)) (UnknownWord (at + 1)))) (later (Err (cond b (LeftOut at) (UnknownWord at))))
left-later at true = refl
left-later at false = refl

parameter-later : (at : ℕ) (q : Parameter) (ws : List (List ℕ)) → parameter_at (at + 1) q ws ≡ later (parameter_at at q ws)
parameter-later at q [] = refl
parameter-later at q (v ∷ vs) = value-later (at + 1) q v

option-later : (k : Kind) (at : ℕ) (name : Option OptionWord) (b : Bool) (ws : List (List ℕ)) → option_at k (at + 1) name b ws ≡ later (option_at k at name b ws)
option-later k at None b ws = left-later at b
option-later k at (Some o.Mask) b ws = both-later _ _ _ _ (mask-later at ws) (λ x. refl)
option-later k at (Some (o.Valued q)) b ws = cond-later (belongs k q) _ _ _ _ (parameter-later at q ws) refl

pub settings-later : (k : Kind) (j at : ℕ) (ws : List (List ℕ)) → group_settings k (groups_after j (at + 1) ws) ≡ later (group_settings k (groups_after j at ws))
unfolding setting_of
settings-later k j at [] = refl
settings-later k (suc j) at (w ∷ ws) = settings-later k j (at + 1) ws
settings-later k zero at (w ∷ ws) =
    both-later _ _ _ _ (option-later k at (option_of w) (is_left_out_word w) (take (group_len (option_of w) ws) ws))
    (λ s. both-later _ _ _ _ (settings-later k (group_len (option_of w) ws) (at + 1) ws) (λ ss. refl))

-- ---- The line

queue-later : (n : ℕ) (o : Options) (q : Option ℕ) → queue_with 2 n o q ≡ later (queue_with 1 n o q)
queue-later n o None = refl
queue-later n o (Some p) = refl

command-later : (k : Kind) (n : ℕ) (o : Options) → command_with k 2 n o ≡ later (command_with k 1 n o)
command-later kind.Pipe n o = refl
command-later kind.Queue n o = queue-later n o o.pipe

config-later : (k : Kind) (n : ℕ) (ws : List (List ℕ)) → config_at k 2 n ws ≡ later (config_at k 1 n ws)
unfolding groups
config-later k n ws = both-later _ _ _ _ (settings-later k 0 4 ws) (λ ss. command-later k n (filled defaults ss))

whole-later : (at : ℕ) (ws : List (List ℕ)) (command : Command) → whole_at (at + 1) ws command ≡ later (whole_at at ws command)
whole-later at [] command = refl
whole-later at (w ∷ ws) command = refl

verb-later : (k : Kind) (n : ℕ) (ws : List (List ℕ)) → verb_at k 2 n ws ≡ later (verb_at k 1 n ws)
verb-later k n [] = refl
verb-later k n (w ∷ ws) =
    cond-later (bytes_eq w (codes "config")) _ _ _ _ (config-later k n ws)
    (cond-later (bytes_eq w (codes "delete")) _ _ _ _ (whole-later 4 ws (deletes k n)) (cond-later (is_query w) _ _ _ _ refl refl))

delete-later : (k : Kind) (ws : List (List ℕ)) → delete_at k 2 ws ≡ later (delete_at k 1 ws)
delete-later k [] = refl
delete-later k (w ∷ ws) = both-later _ _ _ _ (placed-later 3 (number_within 1 65535 w)) (λ n. whole-later 4 ws (deletes k n))

kind-later : (k : Kind) (ws : List (List ℕ)) → behind_kind k 2 ws ≡ later (behind_kind k 1 ws)
kind-later k [] = refl
kind-later k (w ∷ ws) =
    cond-later (bytes_eq w (codes "delete")) _ _ _ _ (delete-later k ws)
    (cond-later (is_query w) _ _ _ _ refl (both-later _ _ _ _ (placed-later 2 (number_within 1 65535 w)) (λ n. verb-later k n ws)))

from-later : (w : List ℕ) (ws : List (List ℕ)) → command_from 2 (w ∷ ws) ≡ later (command_from 1 (w ∷ ws))
from-later w ws =
    cond-later (bytes_eq w (codes "pipe")) _ _ _ _ (kind-later kind.Pipe ws)
    (cond-later (bytes_eq w (codes "queue")) _ _ _ _ (kind-later kind.Queue ws) (cond-later (bytes_eq w (codes "sched")) _ _ _ _ refl refl))

no-prefix : (w : List ℕ) (ws : List (List ℕ)) (b : Bool) → bytes_eq w (codes "ipfw") ≡ b → w ≢ codes "ipfw" → command_of (codes "ipfw" ∷ w ∷ ws) ≡ later (command_of (w ∷ ws))
no-prefix w ws true e h = absurd (h ((bytes_eq-Decides w (codes "ipfw")).0 e))
no-prefix w ws false e h = rw e (both-later {B = Option Command} (command_from 1 (w ∷ ws)) (command_from 2 (w ∷ ws)) _ _ (from-later w ws) (λ c. refl))

pub prefix-says-nothing : PrefixSaysNothing
prefix-says-nothing = record { alone = refl; twice = λ ws. refl; before = λ w ws h. no-prefix w ws (bytes_eq w (codes "ipfw")) refl h }
