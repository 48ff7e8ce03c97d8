-- Each law is a lemma over the definitions.
use Rattle.dn_laws.proofs.ByWeight.{shares-by-weight}
use Rattle.dn_laws.proofs.Fair.{shares-fairly}
use Rattle.dn_laws.proofs.Shares.{tags-by-weight, pick-is-fair, pick-is-least, raises-to-the-least, grows-by-work}
use Rattle.dn_laws.proofs.laws.laws_of_shares.Goals as goal

pub returns : goal.returns
returns c = record {
  tags = tags-by-weight;
  least = pick-is-least;
  fair = pick-is-fair;
  raised = raises-to-the-least;
  grows = grows-by-work;
  stretch = shares-fairly;
  bytes = shares-by-weight;
}
