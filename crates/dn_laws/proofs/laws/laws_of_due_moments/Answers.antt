-- Each law is a lemma over the definitions.
use Rattle.dn_laws.proofs.Words.{due-is-last, due-moments-never-fall, transmission-is-least}
use Rattle.dn_laws.proofs.laws.laws_of_due_moments.Goals as goal

pub returns : goal.returns
returns c = record {
  transmission = transmission-is-least;
  due_is_last = due-is-last;
  never_fall = due-moments-never-fall;
}
