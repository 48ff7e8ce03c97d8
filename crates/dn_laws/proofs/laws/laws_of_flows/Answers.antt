-- Each law is a lemma over the definitions.
use Rattle.dn_laws.proofs.Words.{keys-stay}
use Rattle.dn_laws.proofs.Masks.{flows-have-their-keys, flows-are-by-mask}
use Rattle.dn_laws.proofs.Readings.{targets-are-treated}
use Rattle.dn_laws.proofs.laws.laws_of_flows.Goals as goal

pub returns : goal.returns
returns c = record {
  keys = flows-have-their-keys;
  stay = keys-stay;
  masks = flows-are-by-mask;
  treated = targets-are-treated;
}
