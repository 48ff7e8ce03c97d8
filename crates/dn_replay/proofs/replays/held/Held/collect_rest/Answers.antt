use Rattle.dn_replay.proofs.Words.{MatchOption-at_some, on_ok_weaker, refl, ◌^◌, ◌≡◌}
use Rattle.dn_replay.proofs.PassSteps.{can_report}
use Rattle.dn_replay.proofs.replays.held.Held.collect_rest.Goals as goal

pub returns-in-Entries : goal.returns-in-Entries
returns-in-Entries c =
    let last : c.unwrap-last.result ≡ 2 ^ 62 = MatchOption-at_some _ _ _ c.unwrap-last.ensures c.new.ensures.value in
    on_ok_weaker c.make.result (λ one kept calls before few.
    let (made, has) = rw c.in-Entries.is at before in
    rw c.in-Entries.is (refl, (rw last at (one calls made), has))) c.make.ensures

pub returns-in-Given : goal.returns-in-Given
returns-in-Given c =
    let last : c.unwrap-last.result ≡ 2 ^ 62 = MatchOption-at_some _ _ _ c.unwrap-last.ensures c.new.ensures.value in
    on_ok_weaker c.collect.result (λ collected kept calls before few.
    let noted = rw c.in-Given.is at before in
    rw c.in-Given.is (
      refl,
      can_report c.args.run.now.shaper kept c.in-Given.given.items c.collect.new.given.items calls noted few c.unwrap-last.result last (λ made stands. (collected made stands).1),
    )) c.collect.ensures
