-- Only room was made.
use Rattle.dn_shaper.proofs.Words.{State, refl}
use Rattle.dn_shaper.proofs.Preparing.{parts-sound}
use Rattle.dn_shaper.proofs.Reserved.{reserves-ready}
use Rattle.dn_shaper.proofs.Rooms.{keeps-room}
use Rattle.dn_shaper.proofs.Sending.{still-stands}
use Rattle.dn_shaper.proofs.room.reserve_packet.reserve_packet.Goals as goal

pub returns-in-Some-clause-still : goal.returns-in-Some-clause-still
returns-in-Some-clause-still c =
    let old = c.args.state.now in
    let new : State = record { parts = c.reserve_for.new.parts; heap = old.heap; shared = old.shared; configured = old.configured; now = old.now; calls = old.calls } in
    still-stands old new (record { rule = c.reserve_for.ensures.only.rule; configured = refl; now = refl; calls = refl }) c.reserve_for.ensures.only

pub returns-in-Some-clause-leaves : goal.returns-in-Some-clause-leaves
returns-in-Some-clause-leaves c =
    let old = c.args.state.now in
    let new : State = record { parts = c.reserve_for.new.parts; heap = old.heap; shared = old.shared; configured = old.configured; now = old.now; calls = old.calls } in
    keeps-room old new refl c.reserve_for.ensures.only.keys (reserves-ready old.parts new.parts c.reserve_for.ensures.only c.reserve_for.ensures.placed)

pub returns-in-Some-clause-sound : goal.returns-in-Some-clause-sound
returns-in-Some-clause-sound c = parts-sound c.args.state.now c.reserve_for.new.parts c.reserve_for.ensures.only c.reserve_for.ensures.placed c.requires.sound
