use Rattle.dn_config.proofs.Vocabulary.{GoesOn, left, length, no_bits, read_fields, ◌+◌, ◌<◌, ◌^◌, ◌≡◌}
use Rattle.dn_config.proofs.mask.fields.Given as goal

abbrev pub invariant-loop-word : goal.invariant-loop-word
invariant-loop-word l = (read_fields no_bits l.fn.words.position (left l.fn.words) ≡ read_fields l.mask l.words.position (left l.words)) × GoesOn l.fn.words l.words ×
    (l.words.position + length l.words.rest.now < 2 ^ 64)

abbrev pub decreases-loop-word : goal.decreases-loop-word
decreases-loop-word l = length l.words.rest.now
