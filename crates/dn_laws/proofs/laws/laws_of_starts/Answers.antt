-- Each law is a lemma over the definitions.
use Rattle.dn_laws.proofs.Words.{sends-one-at-a-time, settled-ends, starts-in-order, starts-once}
use Rattle.dn_laws.proofs.Readings.{starts-are-due, links-are-told-apart, queues-are-read}
use Rattle.dn_laws.proofs.laws.laws_of_starts.Goals as goal

pub returns : goal.returns
returns c = record {
  settles = settled-ends;
  on_time = starts-are-due;
  apart = links-are-told-apart;
  queues = queues-are-read;
  one_at_a_time = sends-one-at-a-time;
  in_order = starts-in-order;
  once = starts-once;
}
