use Rattle.dn_config.proofs.CommandsBack.{text_back}
use Rattle.dn_config.proofs.read_back.each_text_reads_back.Goals as goal

pub returns : goal.returns
returns c = text_back
