-- Each law is a lemma over the definitions.
use Rattle.dn_laws.proofs.Words.{arith, bounded-bytes, bounded-moments, due-moments-bounded}
use Rattle.dn_laws.proofs.BoundedCounts.{bounded-counts}
use Rattle.dn_laws.proofs.laws.laws_of_bounds.Goals as goal

pub returns : goal.returns
returns c = record {
  moments = bounded-moments;
  dues = due-moments-bounded;
  bytes = bounded-bytes;
  counts = bounded-counts;
  calls = record {
    packets = λ target packet moment l m. (omega (arith, l), m);
    moments = λ moment m. (m, m);
    limits = λ n on other loss count buckets mask. (λ l. l, λ l. l);
    delays = λ n bw delay loss count buckets mask d. (λ l. (d, l), λ l. (d, l));
  };
}
