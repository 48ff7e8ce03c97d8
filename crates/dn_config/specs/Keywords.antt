-- What the words of a line mean, by their place.
use Rattle.std.specs.Prelude.{ℕ, Bool, false, ◌||◌, List, [], ◌∷◌, codes, bytes_eq, cond, Option, Some, None}
use Rattle.dn_config.specs.declared.option_group.OptionWord.{OptionWord}
use Rattle.dn_config.specs.declared.option_group.OptionWord.TheVariants as o
use Rattle.dn_config.specs.declared.option_group.Parameter.TheVariants as p
use Rattle.dn_config.specs.declared.mask_field.MaskWord.{MaskWord}
use Rattle.dn_config.specs.declared.mask_field.MaskWord.TheVariants as m
use Rattle.dn_config.specs.declared.mask_field.MaskField.TheVariants as f

-- What a table gives a word.
abbrev pub at_word : {X : Type 0} → List (List ℕ × X) → List ℕ → Option X
at_word [] w = None
at_word (row ∷ rows) w = cond (bytes_eq w row.0) (Some row.1) (at_word rows w)

-- Whether the word is one of these.
abbrev pub is_among : List (List ℕ) → List ℕ → Bool
is_among [] w = false
is_among (text ∷ texts) w = bytes_eq w text || is_among texts w

-- The options of both kinds of line.
abbrev pub options : List (List ℕ × OptionWord)
options = (codes "bw", o.Valued p.Bandwidth) ∷ (codes "delay", o.Valued p.Delay) ∷ (codes "queue", o.Valued p.Queue) ∷ (codes "plr", o.Valued p.Loss)
    ∷ (codes "buckets", o.Valued p.Buckets) ∷ (codes "weight", o.Valued p.Weight) ∷ (codes "pipe", o.Valued p.Pipe) ∷ (codes "mask", o.Mask) ∷ []

-- The parts of a mask.
abbrev pub fields : List (List ℕ × MaskWord)
fields = (codes "dst-ip", m.Valued f.DstIp) ∷ (codes "src-ip", m.Valued f.SrcIp) ∷ (codes "dst-port", m.Valued f.DstPort)
    ∷ (codes "src-port", m.Valued f.SrcPort) ∷ (codes "proto", m.Valued f.Proto) ∷ (codes "all", m.All) ∷ []

-- The words of ipfw(8) that are left out in the place of an option or of a mask field.
abbrev pub left_out_words : List (List ℕ)
left_out_words = codes "red" ∷ codes "gred" ∷ codes "ecn" ∷ codes "codel" ∷ codes "pie" ∷ codes "fq_codel" ∷ codes "fq_pie"
    ∷ codes "sched" ∷ codes "burst" ∷ codes "profile" ∷ codes "noerror" ∷ codes "src-ip6" ∷ codes "dst-ip6" ∷ codes "flow-id" ∷ []

-- The option that a word begins.
unfoldable pub option_of : List ℕ → Option OptionWord
option_of w = at_word options w

-- The part of a mask that a word names.
unfoldable pub field_of : List ℕ → Option MaskWord
field_of w = at_word fields w

-- Whether the word is left out in the place of an option or of a mask field.
unfoldable pub is_left_out_word : List ℕ → Bool
is_left_out_word w = is_among left_out_words w

-- Whether the word asks for a listing. Such words are left out in the second and the third place.
abbrev pub is_query : List ℕ → Bool
is_query w = is_among (codes "show" ∷ codes "list" ∷ []) w
