-- Each law is a lemma over the definitions.
use Rattle.dn_laws.proofs.Words.{counts-up-to-the-limit, exhausted-changes-nothing, lawful-more, lawful-replies, own-entries-begin, own-entries-grow, replies-by-standing}
use Rattle.dn_laws.proofs.laws.laws_of_histories.Goals as goal

pub returns : goal.returns
returns c = record {
  replies = lawful-replies;
  grow = λ rule. (tt, lawful-more rule);
  counts = counts-up-to-the-limit;
  exhausted = exhausted-changes-nothing;
  own = own-entries-grow;
  none = own-entries-begin;
  standing = replies-by-standing;
}
