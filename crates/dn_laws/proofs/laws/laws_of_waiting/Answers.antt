-- Each law is a lemma over the definitions.
use Rattle.dn_laws.proofs.DelayBound.{slots-bound-the-delay, kbytes-bound-the-delay}
use Rattle.dn_laws.proofs.Pauses.{links-make-no-pause}
use Rattle.dn_laws.proofs.WaitBounds.{slots-bound-the-wait, kbytes-bound-the-wait}
use Rattle.dn_laws.proofs.Waits.{waits-for-those-ahead, wait-is-known}
use Rattle.dn_laws.proofs.laws.laws_of_waiting.Goals as goal

pub returns : goal.returns
returns c = record {
  those_ahead = waits-for-those-ahead;
  no_pause = links-make-no-pause;
  known = wait-is-known;
  slots = slots-bound-the-wait;
  kbytes = kbytes-bound-the-wait;
  delay = slots-bound-the-delay;
  kbytes_delay = kbytes-bound-the-delay;
}
