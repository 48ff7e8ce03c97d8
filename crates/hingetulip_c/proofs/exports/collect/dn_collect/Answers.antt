-- The list has the reply's items.
use Rattle.hingetulip_c.proofs.Words.{Collect, ap, deliveries_of, length, refl}
use Rattle.hingetulip_c.proofs.Answering.{listed}
use Rattle.hingetulip_c.proofs.Rooms.{roomy_through}
use Rattle.hingetulip_c.proofs.exports.collect.dn_collect.Goals as goal

pub returns-in-Ok-clause-list : goal.returns-in-Ok-clause-list
returns-in-Ok-clause-list c is rule calls stands =
    let room = c.in-Some-room_for_deliveries in
    listed deliveries_of rule calls (Collect c.args.moment) (Collect c.in-Some.moment) c.args.handle.now.held c.room_for_deliveries.new.self.held c.collect.new.self.held c.in-Ok.reply
    room.room (length c.args.list.now) c.put_deliveries-status.new.list room.ensures.same (ap Collect c.in-Some.ensures.value) c.in-Ok.ensures.ok (room.ensures.fits c.args.moment rule calls stands)
    c.if-list-room.false c.put_deliveries-status.ensures.list stands

pub returns-in-Ok-clause-leaves : goal.returns-in-Ok-clause-leaves
returns-in-Ok-clause-leaves c =
    roomy_through c.args.handle.now.held c.room_for_deliveries.new.self.held c.collect.new.self.held c.take_back.new.self.held
    c.in-Some-room_for_deliveries.ensures.same c.in-Ok.ensures.leaves c.take_back.ensures

pub returns-in-Err-clause-leaves : goal.returns-in-Err-clause-leaves
returns-in-Err-clause-leaves c =
    roomy_through c.args.handle.now.held c.room_for_deliveries.new.self.held c.collect.new.self.held c.collect.new.self.held
    c.in-Some-room_for_deliveries.ensures.same c.in-Err.ensures.leaves refl
