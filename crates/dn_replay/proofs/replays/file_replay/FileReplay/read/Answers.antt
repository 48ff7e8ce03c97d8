use Rattle.dn_replay.proofs.Words.{IfErr-weaker, on_ok_weaker, refl}
use Rattle.dn_replay.proofs.replays.file_replay.FileReplay.read.Goals as goal

pub returns-clause-ok : goal.returns-clause-ok
returns-clause-ok g c = on_ok_weaker c.feed_all.result
    (λ came. let (text, is, come) = came in (
      text,
      is,
      λ records config first. (come (record { records = records; config = config; limit = c.args.self.now.limit }) (first, refl)).0,
    )) c.feed_all.ensures.ok

pub returns-clause-err : goal.returns-clause-err
returns-clause-err g c = IfErr-weaker c.feed_all.result _ _
    (λ fault refused records config first. refused (record { records = records; config = config; limit = c.args.self.now.limit }) (first, refl)) c.feed_all.ensures.err

pub returns-clause-limit : goal.returns-clause-limit
returns-clause-limit g c = on_ok_weaker c.feed_all.result
    (λ came. let (text, is, come) = came in λ records config first. (come (record { records = records; config = config; limit = c.args.self.now.limit }) (first, refl)).1) c.feed_all.ensures.ok
