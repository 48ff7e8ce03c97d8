use Rattle.dn_files.proofs.PacketParts.{fresh}
use Rattle.dn_files.proofs.packet_reader.PacketReader.of_text.Goals as goal

pub returns-clause-read : goal.returns-clause-read
returns-clause-read c = fresh c.args.text.items
