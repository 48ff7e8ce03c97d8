-- The canonical text of a command is a line whose command it is.
use Rattle.dn_config.proofs.Vocabulary.{AreShared, Command, IsBetween, IsTyped, Kind, Limit, LineFault, List, Mask, None, Ok, Option, Options, Result, Slots, Some, [], and_parts, answer, ap, arith}
use Rattle.dn_config.proofs.Vocabulary.{behind_kind, both_words, buckets_words, bytes_eq, codes, command_of, config_at, decimal, decimal_is_IsNumeral, deletes, false, is_ascii_digit, link_words}
use Rattle.dn_config.proofs.Vocabulary.{list_all, loss_words, mask_words, nat_eq, nat_tests, no_bits, read_options, refl, share_words, sym, text, text_words, true, ℕ, ◌++◌, ◌+◌, ◌<◌, ◌∙◌, ◌∷◌, ◌≡◌}
use Rattle.dn_config.proofs.Vocabulary.{◌≤◌}
use Rattle.dn_types.specs.declared.command.Command.TheVariants as c
use Rattle.dn_config.specs.declared.kind.Kind.TheVariants as kind
use Rattle.dn_config.proofs.Back.{words_back}
use Rattle.dn_config.proofs.Config.{config_ok}
use Rattle.dn_config.proofs.MaskBack.{mask_back}
use Rattle.dn_config.proofs.OptionsBack.{gives_limit, gives_loss, gives_buckets, gives_link, gives_share}
use Rattle.dn_config.proofs.Plain.{text_plain}
use Rattle.dn_config.proofs.ValuesBack.{number_value_back}
use Rattle.dn_config.proofs.NumbersBack.{ascii_digits}

-- all that the options of a line say
abbrev said : ℕ → ℕ → Option ℕ → ℕ → Limit → ℕ → Option ℕ → Mask → Options
said bw delay pipe weight limit loss buckets mask = record { bw = bw; delay = delay; limit = limit; loss = loss; buckets = buckets; weight = weight; pipe = pipe; mask = mask }

-- the options that both kinds of line have, behind those of one kind
both_back : (k : Kind) (bw delay : ℕ) (pipe : Option ℕ) (weight : ℕ) (limit : Limit) (loss : ℕ) (buckets : Option ℕ) (mask : Mask) → AreShared limit loss buckets mask → (at : ℕ)
    → read_options k (said bw delay pipe weight (Slots 50) 0 None no_bits) at (both_words limit loss buckets mask) ≡ Ok (said bw delay pipe weight limit loss buckets mask)
both_back k bw delay pipe weight limit loss buckets mask h at =
    let a = gives_limit k (said bw delay pipe weight (Slots 50) 0 None no_bits) limit h.limit_in_range refl at (loss_words loss ++ (buckets_words buckets ++ mask_words mask)) in
    let b = gives_loss k (said bw delay pipe weight limit 0 None no_bits) loss h.loss_in_range refl a.0 (buckets_words buckets ++ mask_words mask) in
    let c = gives_buckets k (said bw delay pipe weight limit loss None no_bits) buckets h.buckets_in_range refl b.0 (mask_words mask) in
    a.1 ∙ b.1 ∙ c.1 ∙ mask_back k (said bw delay pipe weight limit loss buckets no_bits) mask h.mask_in_range refl c.0

-- a number is no keyword
no_keyword : (w : List ℕ) (c : ℕ) (cs : List ℕ) → 57 < c → list_all is_ascii_digit w ≡ true → bytes_eq w (c ∷ cs) ≡ false
no_keyword [] c cs l h = refl
no_keyword (d ∷ ds) c cs l h =
    let both = and_parts (is_ascii_digit d) (list_all is_ascii_digit ds) h in
    let other : nat_eq d c ≡ false = other_byte d c l both.0 in
    rw other refl
  where
    other_byte : (d c : ℕ) → 57 < c → is_ascii_digit d ≡ true → nat_eq d c ≡ false
    other_byte d c l h = grind (arith, nat_tests)

-- the head of a line whose second word is a number
head_back : (k : Kind) (at n : ℕ) (ws : List (List ℕ)) (r : Result Command LineFault) → IsBetween 1 65535 n → config_at k at n ws ≡ r → behind_kind k at (decimal n ∷ codes "config" ∷ ws) ≡ r
head_back k at n ws r h e =
    let digits = ascii_digits (decimal n) (decimal_is_IsNumeral n (omega (arith, h))).0.1 in
    rw (no_keyword (decimal n) 100 _ (omega arith) digits, no_keyword (decimal n) 115 _ (omega arith) digits, no_keyword (decimal n) 108 _ (omega arith) digits, number_value_back (at + 1) n h.0 h.1) e

delete_back : (k : Kind) (n : ℕ) → IsBetween 1 65535 n → behind_kind k 1 (codes "delete" ∷ decimal n ∷ []) ≡ Ok (deletes k n)
delete_back k n h = rw (number_value_back 3 n h.0 h.1) refl

pipe_back : (n bw delay : ℕ) (limit : Limit) (loss : ℕ) (buckets : Option ℕ) (mask : Mask) → IsBetween 1 65535 n → bw ≤ 1000000000000 → delay ≤ 3600000 → AreShared limit loss buckets mask
    → behind_kind kind.Pipe 1 (decimal n ∷ codes "config" ∷ (link_words bw delay ++ both_words limit loss buckets mask)) ≡ Ok (c.Pipe n bw delay limit loss buckets mask)
pipe_back n bw delay limit loss buckets mask h a b s =
    let ws = link_words bw delay ++ both_words limit loss buckets mask in
    let link = gives_link bw delay a b 4 (both_words limit loss buckets mask) in
    let options = link.1 ∙ both_back kind.Pipe bw delay None 1 limit loss buckets mask s link.0 in
    head_back kind.Pipe 1 n ws (Ok (c.Pipe n bw delay limit loss buckets mask)) h
    (sym (config_ok kind.Pipe 1 n 4 ws (said bw delay None 1 limit loss buckets mask) refl (sym options)))

queue_back : (n pipe weight : ℕ) (limit : Limit) (loss : ℕ) (buckets : Option ℕ) (mask : Mask) → IsBetween 1 65535 n → IsBetween 1 65535 pipe → IsBetween 1 100 weight
    → AreShared limit loss buckets mask
    → behind_kind kind.Queue 1 (decimal n ∷ codes "config" ∷ (share_words pipe weight ++ both_words limit loss buckets mask)) ≡ Ok (c.Queue n pipe weight limit loss buckets mask)
queue_back n pipe weight limit loss buckets mask h a b s =
    let ws = share_words pipe weight ++ both_words limit loss buckets mask in
    let share = gives_share pipe weight a b 4 (both_words limit loss buckets mask) in
    let options = share.1 ∙ both_back kind.Queue 0 0 (Some pipe) weight limit loss buckets mask s share.0 in
    head_back kind.Queue 1 n ws (Ok (c.Queue n pipe weight limit loss buckets mask)) h
    (sym (config_ok kind.Queue 1 n 4 ws (said 0 0 (Some pipe) weight limit loss buckets mask) refl (sym options)))

words_command : (command : Command) → IsTyped command → command_of (text_words command) ≡ Ok (Some command)
unfolding text_words
words_command (c.Pipe n bw delay limit loss buckets mask) h = rw (pipe_back n bw delay limit loss buckets mask h.0 h.1 h.2 h.3) refl
words_command (c.Queue n pipe weight limit loss buckets mask) h = rw (queue_back n pipe weight limit loss buckets mask h.0 h.1 h.2 h.3) refl
words_command (c.DeletePipe n) h = rw (delete_back kind.Pipe n h) refl
words_command (c.DeleteQueue n) h = rw (delete_back kind.Queue n h) refl

-- the law
pub text_back : (command : Command) → IsTyped command → answer (text command) ≡ Ok (Some command)
unfolding answer text
text_back command h = ap command_of (words_back (text_words command) (text_plain command h).plain) ∙ words_command command h
