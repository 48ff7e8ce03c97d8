use Rattle.dn_files.proofs.PacketNext.{next_given}
use Rattle.dn_files.proofs.packet_reader.PacketReader.next.Goals as goal

pub returns-clause-gives : goal.returns-clause-gives
returns-clause-gives c =
    next_given c.args.self.now.number c.args.self.now.text c.take_header.new.self c.take_row.new.self c.take_row.result c.take_header.ensures.first c.take_header.ensures.later c.take_row.ensures.gives
