use Rattle.dn_replay.proofs.Words.{◌∙◌}
use Rattle.dn_replay.proofs.Deliveries.{more}
use Rattle.dn_replay.proofs.report.delivered.note_all.Goals as goal

pub loop-delivery-preserved : goal.loop-delivery-preserved
loop-delivery-preserved c = record {
  len = c.note.ensures.len ∙ c.loop-delivery.invariant.len;
  noted = λ packet below.
      let one = c.note.ensures.noted packet (rw c.loop-delivery.invariant.len below) in
      (rw (c.loop-delivery.invariant.noted packet below) at one) ∙ more c.args.list.now c.loop-delivery.delivery-index packet _ _ c.loop-delivery-test.true;
}
