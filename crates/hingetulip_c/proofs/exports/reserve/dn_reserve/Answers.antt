-- What the handle says of the packet's submit is said of the packet.
use Rattle.hingetulip_c.proofs.Words.{Call, IsOfNewFlow, Submit, subst, sym, true≢false}
use Rattle.hingetulip_c.proofs.Rooms.{room_of_alike, room_of_call}
use Rattle.hingetulip_c.proofs.exports.reserve.dn_reserve.Goals as goal

pub returns-in-Ok-true-clause-room : goal.returns-in-Ok-true-clause-room
returns-in-Ok-true-clause-room c zero p alike =
    let sent = c.in-Ok.sent in
    room_of_alike (Submit sent.target sent.packet sent.moment) c.args.packet.now p c.reserve.new.self.held c.in-Ok.ensures.ok.0 alike (c.in-Ok-true.ensures.room c.in-Ok-true.field-0-test sent.moment)

pub returns-in-Ok-false-clause-new_flow : goal.returns-in-Ok-false-clause-new_flow
returns-in-Ok-false-clause-new_flow c is rule calls stands few =
    subst (λ (call : Call). IsOfNewFlow call calls) c.in-Ok.ensures.ok.0 (c.in-Ok-false.ensures.new_flow c.in-Ok-false.field-0-test rule calls stands few c.in-Ok.sent.moment)

pub returns-in-Err-reserve-clause-succeeds : goal.returns-in-Err-reserve-clause-succeeds
returns-in-Err-reserve-clause-succeeds c room six =
    let sent = c.in-Ok.sent in
    true≢false (sym (c.in-Err-reserve.ensures.succeeds sent.moment (room_of_call (Submit sent.target sent.packet sent.moment) c.args.packet.now c.args.handle.now.held c.in-Ok.ensures.ok.0 room)))
