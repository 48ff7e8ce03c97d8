use Rattle.dn_laws.proofs.LawsHold.{laws-hold}
use Rattle.dn_laws.proofs.determined.laws_hold.Goals as goal

pub returns : goal.returns
returns c = laws-hold
