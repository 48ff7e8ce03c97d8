-- Each law is a lemma over the definitions.
use Rattle.dn_laws.proofs.{Advances.advances-are-no-more, AloneReplies.parts-are-alone, PartCalls.other-links-change-nothing, PartReplays.agreeing-calls-agree, PartReplays.replays-fall-apart}
use Rattle.dn_laws.proofs.{PartReplies.other-links-change-no-reply, PartsAlone.parts-happen-alone, PartSettings.commands-act-by-force, PartSettings.parts-rest-on-their-pipe}
use Rattle.dn_laws.proofs.{PartsWhole.parts-are-whole}
use Rattle.dn_laws.proofs.laws.laws_of_parts.Goals as goal

pub returns : goal.returns
returns c = record {
  trace = other-links-change-nothing;
  replies = other-links-change-no-reply;
  agree = agreeing-calls-agree;
  advances = advances-are-no-more;
  replays = replays-fall-apart;
  whole = parts-are-whole;
  settings = parts-rest-on-their-pipe;
  force = commands-act-by-force;
  happens = parts-happen-alone;
  alone = parts-are-alone;
}
