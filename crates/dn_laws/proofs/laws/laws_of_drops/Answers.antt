-- Each law is a lemma over the definitions.
use Rattle.dn_laws.proofs.DropLaws.{drops-are-explained, none-unconfigured}
use Rattle.dn_laws.proofs.laws.laws_of_drops.Goals as goal

pub returns : goal.returns
returns c = record {
  explained = drops-are-explained;
  unconfigured = none-unconfigured;
}
