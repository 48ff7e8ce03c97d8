-- Each law is a lemma over the definitions.
use Rattle.dn_laws.proofs.Words.{conserves-work}
use Rattle.dn_laws.proofs.{ConfiguredRate.keeps-the-configured-rate, Delays.delays-are-explained, Rates.starts-apart, Rates.keeps-the-rate, StartLaws.starts-at-once, StartLaws.starts-the-next}
use Rattle.dn_laws.proofs.{StartLaws.starts-as-configured, Kept.links-are-kept, Kept.virtual-time-is-kept}
use Rattle.dn_laws.proofs.laws.laws_of_links.Goals as goal

pub returns : goal.returns
returns c = record {
  at_once = starts-at-once;
  never_idle = conserves-work;
  next = starts-the-next;
  configured = starts-as-configured;
  apart = starts-apart;
  rate = keeps-the-rate;
  configured_rate = keeps-the-configured-rate;
  delay = delays-are-explained;
  kept = links-are-kept;
  virtual_time = virtual-time-is-kept;
}
