-- Commands and their canonical texts, computed from the definition.
use Rattle.dn_config.proofs.Vocabulary.{Kbytes, Slots, Some, all_bits, codes, defaults, link_words, refl, share_words, text, text_words, zero_padded, ◌≡◌}
use Rattle.std.specs.Fmt.{digits}
use Rattle.dn_types.specs.declared.command.Command.TheVariants as c
use Rattle.dn_config.proofs.LineExamples.{pipe, queue, canonical}

canonical_printed : text canonical ≡ codes "pipe 7 config bw 8000000bit/s queue 20Kbytes plr 0.099999999627470971 mask dst-ip 0x000000ff proto 0xff"
unfolding text text_words link_words share_words zero_padded digits
canonical_printed = refl

defaults_printed : text (pipe 1 defaults) ≡ codes "pipe 1 config"
unfolding text text_words link_words share_words zero_padded digits
defaults_printed = refl

weight_printed : text (queue 2 1 (record defaults { weight = 100 })) ≡ codes "queue 2 config pipe 1 weight 100"
unfolding text text_words link_words share_words zero_padded digits
weight_printed = refl

half_printed : text (pipe 1 (record defaults { loss = 1073741824 })) ≡ codes "pipe 1 config plr 0.500000000000000000"
unfolding text text_words link_words share_words zero_padded digits
half_printed = refl

whole_loss_printed : text (pipe 1 (record defaults { loss = 2147483648 })) ≡ codes "pipe 1 config plr 1"
unfolding text text_words link_words share_words zero_padded digits
whole_loss_printed = refl

all_bits_printed : text (pipe 1 (record defaults { mask = all_bits })) ≡ codes "pipe 1 config mask all"
unfolding text text_words link_words share_words zero_padded digits
all_bits_printed = refl

slots_in_kbytes_printed : text (pipe 1 (record defaults { limit = Kbytes 50 })) ≡ codes "pipe 1 config queue 50Kbytes"
unfolding text text_words link_words share_words zero_padded digits
slots_in_kbytes_printed = refl

buckets_printed : text (queue 1 2 (record defaults { buckets = Some 64; limit = Slots 51 })) ≡ codes "queue 1 config pipe 2 queue 51 buckets 64"
unfolding text text_words link_words share_words zero_padded digits
buckets_printed = refl

delete_printed : text (c.DeletePipe 1) ≡ codes "pipe delete 1"
unfolding text text_words link_words share_words zero_padded digits
delete_printed = refl

queue_delete_printed : text (c.DeleteQueue 65535) ≡ codes "queue delete 65535"
unfolding text text_words link_words share_words zero_padded digits
queue_delete_printed = refl
