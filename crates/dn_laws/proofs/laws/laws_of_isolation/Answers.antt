-- Each law is a lemma over the definitions.
use Rattle.dn_laws.proofs.Words.{refl}
use Rattle.dn_laws.proofs.Elsewhere.{other-pipes-change-nothing}
use Rattle.dn_laws.proofs.Isolation.{pipe-delete-empties, queue-delete-empties, queue-delete-spares, pipe-delete-spares, commands-move-nothing}
use Rattle.dn_laws.proofs.Isolation.{commands-count, only-commands-count, packets-keep-apart, queues-have-pipes}
use Rattle.dn_laws.proofs.Spares.{packets-spare-tags, clock-spares-tags}
use Rattle.dn_laws.proofs.Readings.{subjects-are-named}
use Rattle.dn_laws.proofs.laws.laws_of_isolation.Goals as goal

pub returns : goal.returns
returns c = record {
  pipe_delete = pipe-delete-empties;
  queue_delete = queue-delete-empties;
  queue_spares = queue-delete-spares;
  pipe_spares = pipe-delete-spares;
  commands = commands-move-nothing;
  commands_count = commands-count;
  subjects = subjects-are-named;
  only_commands = λ target. (refl, λ calls d. only-commands-count calls d target);
  queues = queues-have-pipes;
  packets = packets-keep-apart;
  other_pipes = other-pipes-change-nothing;
  packet_tags = packets-spare-tags;
  clock_tags = clock-spares-tags;
}
