-- No row was read off the front of the text, so none begins it, or the list has no place.
use Rattle.hingetulip_c.proofs.Words.{length}
use Rattle.hingetulip_c.proofs.PacketRows.{none_at_front}
use Rattle.hingetulip_c.proofs.exports.read_packets.dn_read_packets.Goals as goal

pub returns-then-front-eq0-clause-in_parts : goal.returns-then-front-eq0-clause-in_parts
returns-then-front-eq0-clause-in_parts c = λ begins some.
    let front = c.in-Ok.front in
    let none = none_at_front c.args.text.now front.used (length c.args.packets.now) front.rows.items c.in-Ok.ensures.begins c.in-Ok.ensures.stops c.if-front-eq0.true some in
    let other = rw none at begins in cc other
