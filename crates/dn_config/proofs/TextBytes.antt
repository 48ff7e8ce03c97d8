-- A canonical text is ASCII, and so UTF-8.
use Rattle.dn_config.proofs.Vocabulary.{Command, IsAscii, IsAscii-append, IsAscii-cons, IsAscii-nil, IsTyped, IsUtf8, IsUtf8-from_ascii, List, [], and_parts, arith, behind_spaces, is_hash, is_nonempty}
use Rattle.dn_config.proofs.Vocabulary.{is_separator, list_all, ltb-true, nat_lt, not, spaced, text, text_words, true, ℕ, ◌&&◌, ◌++◌, ◌<◌, ◌∷◌, ◌≡◌}
use Rattle.dn_config.proofs.Back.{all_plain, is_plain, is_plain_byte}
use Rattle.dn_config.proofs.Plain.{text_plain}

byte_ascii : (b : ℕ) → is_plain_byte b ≡ true → b < 128
byte_ascii b h = ltb-true _ _ (and_parts (nat_lt b 128) (not (is_separator b) && not (is_hash b)) h).0

bytes_ascii : (w : List ℕ) → list_all is_plain_byte w ≡ true → IsAscii w
bytes_ascii [] h = IsAscii-nil
bytes_ascii (b ∷ w) h =
    let both = and_parts (is_plain_byte b) (list_all is_plain_byte w) h in
    IsAscii-cons b w (byte_ascii b both.0) (bytes_ascii w both.1)

word_ascii : (w : List ℕ) → is_plain w ≡ true → IsAscii w
word_ascii w h = bytes_ascii w (and_parts (is_nonempty w) (list_all is_plain_byte w) h).1

behind_ascii : (ws : List (List ℕ)) → all_plain ws ≡ true → IsAscii (behind_spaces ws)
behind_ascii [] h = IsAscii-nil
behind_ascii (w ∷ ws) h =
    let plain = and_parts (is_plain w) (all_plain ws) h in
    let rest = IsAscii-append w (behind_spaces ws) (word_ascii w plain.0) (behind_ascii ws plain.1) in
    IsAscii-cons 32 (w ++ behind_spaces ws) (omega arith) rest

spaced_ascii : (ws : List (List ℕ)) → all_plain ws ≡ true → IsAscii (spaced ws)
spaced_ascii [] h = IsAscii-nil
spaced_ascii (w ∷ ws) h =
    let plain = and_parts (is_plain w) (all_plain ws) h in
    IsAscii-append w (behind_spaces ws) (word_ascii w plain.0) (behind_ascii ws plain.1)

-- the canonical text of each command
pub text_utf8 : (command : Command) → IsTyped command → IsUtf8 (text command)
unfolding text
text_utf8 command h = IsUtf8-from_ascii (spaced (text_words command)) (spaced_ascii (text_words command) (text_plain command h).plain)
