use Rattle.dn_replay.proofs.Words.{MatchOption-at_some, on_ok_weaker, ◌≡◌}
use Rattle.dn_replay.proofs.Past.{passes}
use Rattle.dn_replay.proofs.replays.passing.collect_in_passing.Goals as goal

pub returns-then-submits-eq0 : goal.returns-then-submits-eq0
returns-then-submits-eq0 c =
    let none : c.unwrap.result ≡ 0 = MatchOption-at_some _ _ _ c.unwrap.ensures c.new.ensures.value in
    on_ok_weaker c.collect.result
    (λ collected. passes c.args.shaper.now c.collect.new.shaper c.args.given.now.items c.collect.new.given.items (rw none at collected)) c.collect.ensures
