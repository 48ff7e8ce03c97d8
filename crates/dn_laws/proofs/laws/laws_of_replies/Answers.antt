-- Each law is a lemma over the definitions.
use Rattle.dn_laws.proofs.{Delivered.queued-packets-are-delivered, ToldCommands.limit-is-counted, ToldCommands.replies-tell-the-clock, ToldCommands.clock-is-the-greatest}
use Rattle.dn_laws.proofs.{ToldCommands.commands-are-told, ToldCounts.packets-are-numbered, ToldDeliveries.collects-are-told, ToldDeliveries.told-once, ToldDeliveries.told-when-due}
use Rattle.dn_laws.proofs.{Obeyed.obeys-as-told, Obeyed.clock-follows, Obeyed.starts-are-counted, AtHome.shows-are-told, Fates.queued-packets-stay, Seen.flows-were-told, Readings.moments-are-named}
use Rattle.dn_laws.proofs.{Readings.commands-are-answered}
use Rattle.dn_laws.proofs.laws.laws_of_replies.Goals as goal

pub returns : goal.returns
returns c = record {
  limit = limit-is-counted;
  clock = replies-tell-the-clock;
  greatest = clock-is-the-greatest;
  named = moments-are-named;
  follows = clock-follows;
  obeyed = obeys-as-told;
  answered = commands-are-answered;
  commands = commands-are-told;
  numbers = packets-are-numbered;
  collects = collects-are-told;
  once = told-once;
  due = told-when-due;
  stay = queued-packets-stay;
  delivered = queued-packets-are-delivered;
  shows = shows-are-told;
  starts = starts-are-counted;
  flows = flows-were-told;
}
