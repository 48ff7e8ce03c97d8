use Rattle.dn_laws.proofs.Determines.{laws-determine}
use Rattle.dn_laws.proofs.determined.laws_determine.Goals as goal

pub returns : goal.returns
returns c = laws-determine
