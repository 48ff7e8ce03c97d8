use Rattle.dn_history.proofs.Words.{arith, delivery_item, is_ok, items_from, true, ◌≡◌}
use Rattle.dn_history.proofs.HistoryReading.{all_read, bad_item, one_more}
use Rattle.dn_history.proofs.read.items.read_deliveries.Goals as goal

pub loop-left-preserved : goal.loop-left-preserved
loop-left-preserved c =
    let good : is_ok c.push.result ≡ true = c.if-is_err.ensures.negation in
    record {
      so_far = rw (rw good at c.push.ensures.items) (one_more delivery_item c.loop-left.list.items c.loop-left.left c.loop-left.records c.next_delivery.new.records c.in-Ok.delivery
          (items_from delivery_item c.args.count c.args.records.now) c.loop-left-test.true c.in-Ok.ensures.ok c.loop-left.invariant.so_far);
      fewer = omega (arith, c.in-Ok.ensures.fewer, c.loop-left.invariant.fewer);
    }

pub returns-clause-ok : goal.returns-clause-ok
returns-clause-ok c =
    let none : c.loop-left.left ≡ 0 = omega (arith, c.loop-left-test.false) in
    all_read delivery_item c.loop-left.list.items c.loop-left.left c.loop-left.records (items_from delivery_item c.args.count c.args.records.now) none c.loop-left.invariant.so_far

pub returns-in-Err-clause-err : goal.returns-in-Err-clause-err
returns-in-Err-clause-err c =
    bad_item delivery_item c.loop-left.list.items c.loop-left.left c.loop-left.records c.in-Err.fault (items_from delivery_item c.args.count c.args.records.now)
    c.loop-left-test.true c.in-Err.ensures.err c.loop-left.invariant.so_far
