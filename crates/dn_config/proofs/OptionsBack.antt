-- The options of a canonical text, read back one after the other.
use Rattle.dn_config.proofs.Vocabulary.{Bool, IsBetween, IsBuckets, IsLimit, Kbytes, Kind, Limit, List, Mask, None, Ok, Option, Options, Parameter, Setting, Slots, Some, [], ap, append-nil}
use Rattle.dn_config.proofs.Vocabulary.{append_assoc, belongs, buckets_words, codes, cond, decimal, defaults, eqb-true, false, is_left_out_word, limit_text, limit_words, link_words, loss_text}
use Rattle.dn_config.proofs.Vocabulary.{loss_words, number_words, option_of, read_mask, read_options, refl, set_option, share_words, sym, true, value_of, ℕ, ◌++◌, ◌+◌, ◌==◌, ◌∙◌, ◌∷◌, ◌≡◌, ◌≤◌}
use Rattle.dn_config.specs.declared.kind.Kind.TheVariants as kind
use Rattle.dn_config.specs.declared.option_group.OptionWord.TheVariants as o
use Rattle.dn_config.specs.declared.option_group.Parameter.TheVariants as p
use Rattle.dn_config.specs.declared.option_group.Setting.TheVariants as set
use Rattle.dn_config.proofs.OptionSteps.{options_step, options_nil, option_valued, option_mask_ok}
use Rattle.dn_config.proofs.ValuesBack.{number_value_back, weight_back, buckets_back, delay_back, bandwidth_back, limit_back, loss_back}

-- the words, wherever they stand, make these options of those before, and reading goes on behind them
abbrev pub Gives : Kind → Options → List (List ℕ) → Options → Type 0
Gives k before ws after = (at : ℕ) (rest : List (List ℕ)) → (place : ℕ) × (read_options k before at (ws ++ rest) ≡ read_options k after place rest)

gives_append : (k : Kind) (a b c : Options) (xs ys : List (List ℕ)) → Gives k a xs b → Gives k b ys c → Gives k a (xs ++ ys) c
gives_append k a b c xs ys g h at rest =
    let first = g at (ys ++ rest) in
    let second = h first.0 rest in
    (second.0, ap (read_options k a at) (append_assoc xs ys rest) ∙ first.1 ∙ second.1)

gives_cond : (k : Kind) (before after : Options) (ws : List (List ℕ)) (b : Bool) → (b ≡ true → before ≡ after) → Gives k before ws after → Gives k before (cond b [] ws) after
gives_cond k before after ws true same g at rest = (at, ap (λ (x : Options). read_options k x at rest) (same refl))
gives_cond k before after ws false same g at rest = g at rest

gives_option : (k : Kind) (before : Options) (name v : List ℕ) (p : Parameter) (s : Setting) → option_of name ≡ Some (o.Valued p) → belongs k p ≡ true
    → ((at : ℕ) → value_of at p v ≡ Ok s) → Gives k before (name ∷ v ∷ []) (set_option before s)
gives_option k before name v p s e b back at rest = (
  at + 1 + 1,
  options_step k before at name (v ∷ rest) (option_of name) (is_left_out_word name) refl refl
      ∙ rw (option_valued k at (option_of name) (is_left_out_word name) (v ∷ rest) v rest p e b refl s (at + 1 + 1) refl (back (at + 1))) refl,
)

-- an option with a number, where it differs from its default
gives_number : (k : Kind) (before : Options) (name unit : List ℕ) (default n : ℕ) (p : Parameter) (make : ℕ → Setting) → option_of name ≡ Some (o.Valued p) → belongs k p ≡ true
    → ((at : ℕ) → value_of at p (decimal n ++ unit) ≡ Ok (make n)) → before ≡ set_option before (make default)
    → Gives k before (number_words name unit default n) (set_option before (make n))
gives_number k before name unit default n p make e b back same =
    gives_cond k before (set_option before (make n)) (name ∷ (decimal n ++ unit) ∷ []) (n == default)
    (λ test. same ∙ ap (λ (x : ℕ). set_option before (make x)) (sym (eqb-true n default test)))
    (gives_option k before name (decimal n ++ unit) p (make n) e b back)

-- what the keywords of options name
bw_named : option_of (codes "bw") ≡ Some (o.Valued p.Bandwidth)
unfolding option_of
bw_named = refl

delay_named : option_of (codes "delay") ≡ Some (o.Valued p.Delay)
unfolding option_of
delay_named = refl

queue_named : option_of (codes "queue") ≡ Some (o.Valued p.Queue)
unfolding option_of
queue_named = refl

plr_named : option_of (codes "plr") ≡ Some (o.Valued p.Loss)
unfolding option_of
plr_named = refl

buckets_named : option_of (codes "buckets") ≡ Some (o.Valued p.Buckets)
unfolding option_of
buckets_named = refl

weight_named : option_of (codes "weight") ≡ Some (o.Valued p.Weight)
unfolding option_of
weight_named = refl

pipe_named : option_of (codes "pipe") ≡ Some (o.Valued p.Pipe)
unfolding option_of
pipe_named = refl

mask_named : option_of (codes "mask") ≡ Some o.Mask
unfolding option_of
mask_named = refl

queue_belongs : (k : Kind) → belongs k p.Queue ≡ true
queue_belongs kind.Pipe = refl
queue_belongs kind.Queue = refl

loss_belongs : (k : Kind) → belongs k p.Loss ≡ true
loss_belongs kind.Pipe = refl
loss_belongs kind.Queue = refl

buckets_belongs : (k : Kind) → belongs k p.Buckets ≡ true
buckets_belongs kind.Pipe = refl
buckets_belongs kind.Queue = refl

-- the options that both kinds of line have but the mask
gives_limit_value : (k : Kind) (before : Options) (limit : Limit) → IsLimit limit → Gives k before (codes "queue" ∷ limit_text limit ∷ []) (set_option before (set.Limit limit))
gives_limit_value k before limit h =
    gives_option k before (codes "queue") (limit_text limit) p.Queue (set.Limit limit) queue_named (queue_belongs k) (λ at. rw (limit_back at limit h) refl)

pub gives_limit : (k : Kind) (before : Options) (limit : Limit) → IsLimit limit → before ≡ set_option before (set.Limit (Slots 50))
    → Gives k before (limit_words limit) (set_option before (set.Limit limit))
gives_limit k before (Slots n) h same =
    gives_cond k before (set_option before (set.Limit (Slots n))) (codes "queue" ∷ limit_text (Slots n) ∷ []) (n == 50)
    (λ test. same ∙ ap (λ (x : ℕ). set_option before (set.Limit (Slots x))) (sym (eqb-true n 50 test))) (gives_limit_value k before (Slots n) h)
gives_limit k before (Kbytes n) h same = gives_limit_value k before (Kbytes n) h

pub gives_loss : (k : Kind) (before : Options) (t : ℕ) → t ≤ 2147483648 → before ≡ set_option before (set.Loss 0) → Gives k before (loss_words t) (set_option before (set.Loss t))
gives_loss k before t h same =
    gives_cond k before (set_option before (set.Loss t)) (codes "plr" ∷ loss_text t ∷ []) (t == 0)
    (λ test. same ∙ ap (λ (x : ℕ). set_option before (set.Loss x)) (sym (eqb-true t 0 test)))
    (gives_option k before (codes "plr") (loss_text t) p.Loss (set.Loss t) plr_named (loss_belongs k) (λ at. rw (loss_back at t h) refl))

pub gives_buckets : (k : Kind) (before : Options) (buckets : Option ℕ) → IsBuckets buckets → before ≡ record before { buckets = None }
    → Gives k before (buckets_words buckets) (record before { buckets = buckets })
gives_buckets k before None h same = λ at rest. (at, ap (λ (x : Options). read_options k x at rest) same)
gives_buckets k before (Some n) h same =
    gives_option k before (codes "buckets") (decimal n) p.Buckets (set.Buckets n) buckets_named (buckets_belongs k) (λ at. rw (buckets_back at n h.0 h.1) refl)

-- the options of a pipe's line, and those of a queue's, before those that both kinds have
abbrev pub linked : ℕ → ℕ → Options
linked bw delay = record defaults { bw = bw; delay = delay }

abbrev pub sharing : ℕ → ℕ → Options
sharing pipe weight = record defaults { pipe = Some pipe; weight = weight }

pub gives_link : (bw delay : ℕ) → bw ≤ 1000000000000 → delay ≤ 3600000 → Gives kind.Pipe defaults (link_words bw delay) (linked bw delay)
unfolding link_words
gives_link bw delay a b =
    gives_append kind.Pipe defaults (linked bw 0) (linked bw delay) (number_words (codes "bw") (codes "bit/s") 0 bw) (number_words (codes "delay") [] 0 delay)
    (gives_number kind.Pipe defaults (codes "bw") (codes "bit/s") 0 bw p.Bandwidth (λ n. set.Bandwidth n) bw_named refl (λ at. rw (bandwidth_back at bw a) refl) refl)
    (gives_number kind.Pipe (linked bw 0) (codes "delay") [] 0 delay p.Delay (λ n. set.Delay n) delay_named refl (λ at. rw (delay_back at delay b) refl) refl)

weight_alone : (at n : ℕ) → 1 ≤ n → n ≤ 100 → value_of at p.Weight (decimal n ++ []) ≡ Ok (set.Weight n)
weight_alone at n a b = rw (append-nil, weight_back at n a b) refl

pub gives_share : (pipe weight : ℕ) → IsBetween 1 65535 pipe → IsBetween 1 100 weight → Gives kind.Queue defaults (share_words pipe weight) (sharing pipe weight)
unfolding share_words
gives_share pipe weight a b =
    gives_append kind.Queue defaults (sharing pipe 1) (sharing pipe weight) (codes "pipe" ∷ decimal pipe ∷ []) (number_words (codes "weight") [] 1 weight)
    (gives_option kind.Queue defaults (codes "pipe") (decimal pipe) p.Pipe (set.Pipe pipe) pipe_named refl (λ at. rw (number_value_back at pipe a.0 a.1) refl))
    (gives_number kind.Queue (sharing pipe 1) (codes "weight") [] 1 weight p.Weight (λ n. set.Weight n) weight_named refl (λ at. weight_alone at weight b.0 b.1) refl)

-- a mask is the last option
pub reads_mask : (k : Kind) (before : Options) (at place : ℕ) (mask : Mask) (ws : List (List ℕ)) → read_mask at ws ≡ Ok (mask, (place, []))
    → read_options k before at (codes "mask" ∷ ws) ≡ Ok (set_option before (set.Mask mask))
reads_mask k before at place mask ws e =
    options_step k before at (codes "mask") ws (Some o.Mask) (is_left_out_word (codes "mask")) (sym mask_named) refl
    ∙ rw (option_mask_ok k at (Some o.Mask) (is_left_out_word (codes "mask")) ws mask (place, []) refl e) (options_nil k (set_option before (set.Mask mask)) place)
