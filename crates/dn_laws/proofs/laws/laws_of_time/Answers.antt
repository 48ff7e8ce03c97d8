-- Each law is a lemma over the definitions.
use Rattle.dn_laws.proofs.Words.{gives-in-order, unlimited-takes-no-time}
use Rattle.dn_laws.proofs.Sums.{delays-add-up, delivered-delays-add-up}
use Rattle.dn_laws.proofs.Timely.{events-stay, starts-in-time, none-starts-early}
use Rattle.dn_laws.proofs.Exactly.{waits-for-its-link, starts-behind}
use Rattle.dn_laws.proofs.laws.laws_of_time.Goals as goal

pub returns : goal.returns
returns c = record {
  stay = events-stay;
  in_time = starts-in-time;
  not_early = none-starts-early;
  exactly = waits-for-its-link;
  behind = starts-behind;
  unlimited = unlimited-takes-no-time;
  sum = delays-add-up;
  delivered = delivered-delays-add-up;
  in_order = gives-in-order;
}
