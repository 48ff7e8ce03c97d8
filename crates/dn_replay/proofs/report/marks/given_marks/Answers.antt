use Rattle.dn_replay.proofs.Words.{arith, length, rules, take_all, ◌≡◌}
use Rattle.dn_replay.proofs.AllGiven.{all-given}
use Rattle.dn_replay.proofs.KeptReport.{are-given}
use Rattle.dn_replay.proofs.MarkSteps.{mark-more, no-marks}
use Rattle.dn_replay.proofs.report.marks.given_marks.Goals as goal

pub returns-then-given-count : goal.returns-then-given-count
returns-then-given-count c =
    let count : length c.args.given.now ≡ length c.args.kept.now.accepted.items = omega (arith, c.if-given-count.true, c.len-count.ensures, c.args.kept.now.accepted.ok.0) in
    rw c.new.ensures.items (all-given (length c.args.kept.now.accepted.items) c.args.given.now (are-given c.args.kept.now c.args.given.now c.requires.0 c.requires.1) count)

pub loop-delivery-init : goal.loop-delivery-init
loop-delivery-init c =
    let count : c.len-count.result ≡ length c.args.kept.now.accepted.items = omega (arith, c.len-count.ensures, c.args.kept.now.accepted.ok.0) in
    let empty = c.in_ok-marks.ensures.items_if_clones_equal (search rules) in
    no-marks (length c.args.kept.now.accepted.items) _ (rw count at empty)

pub loop-delivery-preserved : goal.loop-delivery-preserved
loop-delivery-preserved c =
    mark-more c.loop-delivery.marks.items c.mark.new.marks.items (length c.args.kept.now.accepted.items) c.loop-delivery.delivery-index c.args.given.now _
    c.loop-delivery-test.true c.loop-delivery.invariant c.mark.ensures.len c.mark.ensures.marked

pub returns : goal.returns
returns c = let all = rw (take_all c.loop-delivery.delivery-index c.args.given.now c.loop-delivery-test.false) at c.loop-delivery.invariant in all.marked
