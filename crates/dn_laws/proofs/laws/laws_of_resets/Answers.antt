-- Each law is a lemma over the definitions.
use Rattle.dn_laws.proofs.Resets.{tags-begin-afresh, queue-delete-resets, pipe-delete-resets, dropped-changes-nothing}
use Rattle.dn_laws.proofs.Tags.{busy-periods-begin}
use Rattle.dn_laws.proofs.Tags.{tags-are-kept}
use Rattle.dn_laws.proofs.laws.laws_of_resets.Goals as goal

pub returns : goal.returns
returns c = record {
  afresh = tags-begin-afresh;
  queue_delete = queue-delete-resets;
  pipe_delete = pipe-delete-resets;
  dropped = dropped-changes-nothing;
  begins = busy-periods-begin;
  kept = tags-are-kept;
}
