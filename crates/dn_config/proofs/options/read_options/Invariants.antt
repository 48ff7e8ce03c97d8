use Rattle.dn_config.proofs.Vocabulary.{defaults, left, length, read_options, ◌+◌, ◌<◌, ◌^◌, ◌≡◌}
use Rattle.dn_config.proofs.options.read_options.Given as goal

abbrev pub invariant-loop-word : goal.invariant-loop-word
invariant-loop-word l = (read_options l.kind defaults l.fn.words.position (left l.fn.words) ≡ read_options l.kind l.options l.words.position (left l.words)) ×
    (l.words.position + length l.words.rest.now < 2 ^ 64)

abbrev pub decreases-loop-word : goal.decreases-loop-word
decreases-loop-word l = length l.words.rest.now
