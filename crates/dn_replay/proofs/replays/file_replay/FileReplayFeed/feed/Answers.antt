use Rattle.dn_replay.proofs.Words.{IfErr-weaker}
use Rattle.dn_replay.proofs.replays.file_replay.FileReplayFeed.feed.Goals as goal

pub returns-clause-err : goal.returns-clause-err
returns-clause-err c = IfErr-weaker c.feed.result _ _ (λ fault bad known text more come. rw come.1 at (bad known.records known.config text more come.0)) c.feed.ensures.err
