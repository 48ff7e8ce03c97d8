use Rattle.dn_replay.proofs.Words.{Delivery, List, ap, arith, delivery_line, drop, get_or, line_fields, line_of, map, on_err, take, take_all, text-none, text_of, ◌++◌, ◌+◌}
use Rattle.dn_replay.proofs.PartSteps.{line-added, outs-more, outs-rest, same-text}
use Rattle.dn_replay.proofs.report.outs.write_outs.Goals as goal

pub add_delivery-requires : goal.add_delivery-requires
add_delivery-requires g c = record {
  room = omega (arith, c.loop-delivery.invariant.room, c.loop-delivery.invariant.short);
  known = rw c.as_slice.ensures.value (c.requires.known c.loop-delivery.delivery-index (record { due = 0; packet = 0; flow = 0; start = 0 }) c.loop-delivery-test.true);
}

pub loop-delivery-init : goal.loop-delivery-init
loop-delivery-init g c = record {
  under_way = λ start before h. same-text start _ _ before _ (text-none before) h;
  room = c.requires.room;
  short = c.requires.short;
  sound = c.requires.sound;
}

pub loop-delivery-preserved : goal.loop-delivery-preserved
loop-delivery-preserved g c = record {
  under_way = λ start before h.
      let line = delivery_line c.args.kept.now.accepted.items in
      let given = c.args.given.now in
      let i = c.loop-delivery.delivery-index in
      let d = get_or c.args.given.now c.loop-delivery.delivery-index (record { due = 0; packet = 0; flow = 0; start = 0 }) in
      let items = rw c.as_slice.ensures.value at c.add_delivery.ensures.items in
      let added = line-added start (g.O.Outlet.contents c.loop-delivery.out) c.loop-delivery.text.items c.add_delivery.new.text.items
      (before ++ text_of (map line_fields (map line (take i given)))) (line_of (line_fields (line d)))
      items (c.loop-delivery.invariant.under_way start before h) in
      let more = outs-more line line_fields before given i (record { due = 0; packet = 0; flow = 0; start = 0 }) c.loop-delivery-test.true in
      c.in_ok-write_full_part.ensures.ok start (before ++ text_of (map line_fields (map line (take (i + 1) given))))
      (same-text start (g.O.Outlet.contents c.loop-delivery.out) c.add_delivery.new.text.items _ (before ++ text_of (map line_fields (map line (take (i + 1) given)))) more added);
  room = omega (arith, c.loop-delivery.invariant.room, c.add_delivery.ensures.capacity, c.in_ok-write_full_part.ensures.capacity);
  short = c.in_ok-write_full_part.ensures.short;
  sound = c.in_ok-write_full_part.ensures.sound;
}

pub returns-clause-ok : goal.returns-clause-ok
returns-clause-ok g c = λ start before h.
    let line = delivery_line c.args.kept.now.accepted.items in
    let all = ap (λ (ds : List Delivery). before ++ text_of (map line_fields (map line ds))) (take_all c.loop-delivery.delivery-index c.args.given.now c.loop-delivery-test.false) in
    same-text start (g.O.Outlet.contents c.loop-delivery.out) c.loop-delivery.text.items _
    (before ++ text_of (map line_fields (map line c.args.given.now))) all (c.loop-delivery.invariant.under_way start before h)

pub returns-in_err-write_full_part-clause-part : goal.returns-in_err-write_full_part-clause-part
returns-in_err-write_full_part-clause-part g c = on_err c.from_residual.result (λ start before rest h.
    let line = delivery_line c.args.kept.now.accepted.items in
    let given = c.args.given.now in
    let i = c.loop-delivery.delivery-index in
    let d = get_or c.args.given.now c.loop-delivery.delivery-index (record { due = 0; packet = 0; flow = 0; start = 0 }) in
    let items = rw c.as_slice.ensures.value at c.add_delivery.ensures.items in
    let added = line-added start (g.O.Outlet.contents c.loop-delivery.out) c.loop-delivery.text.items c.add_delivery.new.text.items
    (before ++ text_of (map line_fields (map line (take i given)))) (line_of (line_fields (line d)))
    items (c.loop-delivery.invariant.under_way start before h) in
    let more = outs-more line line_fields before given i (record { due = 0; packet = 0; flow = 0; start = 0 }) c.loop-delivery-test.true in
    let failed = c.in_err-write_full_part.ensures.part start (before ++ text_of (map line_fields (map line (take (i + 1) given)))) (text_of (map line_fields (map line (drop (i + 1) given))) ++ rest)
    (same-text start (g.O.Outlet.contents c.loop-delivery.out) c.add_delivery.new.text.items _ (before ++ text_of (map line_fields (map line (take (i + 1) given)))) more added) in
    rw (outs-rest line line_fields before rest given (i + 1)) at failed)
