use Rattle.dn_files.proofs.PacketParts.{fed}
use Rattle.dn_files.proofs.packet_reader.PacketReader.feed.Goals as goal

pub returns-clause-ok : goal.returns-clause-ok
returns-clause-ok c =
    let inside = c.self.inside in
    fed c.extend_from_slice.result inside.number inside.start inside.text.items c.extend_from_slice.new.self.items c.args.part.now c.args.self.now c.forget_read.new.self
    c.extend_from_slice.ensures.items c.self.invariant.within c.self.view_is c.forget_read.ensures
