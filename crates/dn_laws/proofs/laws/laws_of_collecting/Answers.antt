-- Each law is a lemma over the definitions.
use Rattle.dn_laws.proofs.Words.{gives-once, gives-started, gives-what-is-due, leaves-what-is-not-due, trace_of}
use Rattle.dn_laws.proofs.Readings.{packets-are-counted}
use Rattle.dn_laws.proofs.laws.laws_of_collecting.Goals as goal

pub returns : goal.returns
returns c = record {
  as_started = λ rule number calls. gives-started rule number (trace_of calls);
  once = gives-once;
  due = gives-what-is-due;
  none_left = leaves-what-is-not-due;
  counted = packets-are-counted;
}
