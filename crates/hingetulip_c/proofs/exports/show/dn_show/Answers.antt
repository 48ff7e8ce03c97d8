-- The list has the reply's items.
use Rattle.hingetulip_c.proofs.Words.{Show, flows_of, inr, length, refl}
use Rattle.hingetulip_c.proofs.Answering.{listed}
use Rattle.hingetulip_c.proofs.Rooms.{roomy_through}
use Rattle.hingetulip_c.proofs.exports.show.dn_show.Goals as goal

pub returns-in-Ok-clause-list : goal.returns-in-Ok-clause-list
returns-in-Ok-clause-list c is rule calls stands =
    listed flows_of rule calls Show Show c.args.handle.now.held c.room_for_flows.new.self.held c.apply.new.self.held c.in-Ok.reply c.in-Some.room
    (length c.args.list.now) c.put_flows.new.list c.in-Some.ensures.same refl c.in-Ok.ensures.ok
    (c.in-Some.ensures.fits rule calls stands) c.if-list-room.false c.put_flows.ensures.list stands

pub returns-in-Ok-clause-leaves : goal.returns-in-Ok-clause-leaves
returns-in-Ok-clause-leaves c =
    roomy_through c.args.handle.now.held c.room_for_flows.new.self.held c.apply.new.self.held c.apply.new.self.held
    c.in-Some.ensures.same (c.in-Ok.ensures.leaves 0 (inr refl)) refl

pub returns-in-Err-clause-leaves : goal.returns-in-Err-clause-leaves
returns-in-Err-clause-leaves c =
    roomy_through c.args.handle.now.held c.room_for_flows.new.self.held c.apply.new.self.held c.apply.new.self.held
    c.in-Some.ensures.same (c.in-Err.ensures.leaves 0 (inr refl)) refl
