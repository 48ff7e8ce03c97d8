use Rattle.dn_replay.proofs.Words.{Coming, IfErr-weaker, IfOk-weaker, NoneFailed, ap, calls_asked, has_entries, sym, ◌∙◌, ◌≡◌}
use Rattle.dn_replay.proofs.InputSteps.{answered_through, asked_within, unanswered_through}
use Rattle.dn_replay.proofs.PartsCome.{few-taken}
use Rattle.dn_replay.proofs.replays.file_replay.FileReplay.finish.Goals as goal

pub finish-answer-requires-clause-taken : goal.finish-answer-requires-clause-taken
finish-answer-requires-clause-taken g c = let (records, config, text, come) = c.self.invariant in (records, come.asked, text, come.taken, few-taken records _ config text come)

pub returns-clause-ok : goal.returns-clause-ok
returns-clause-ok g c =
    IfOk-weaker c.finish-answer.result _ _ (λ both told records config text has.
    let come = rw (← c.self.view_is) at has in
    let within = ap (λ (replay : Coming). calls_asked replay.limit config text) (sym c.self.view_is) in
    answered_through (λ r. come.asked text ≡ r) (λ r. calls_asked c.args.self.limit config text ≡ r) (g.O.Outlet.contents c.args.out.now) (g.O.Outlet.contents c.finish-answer.new.out)
    (λ r e. within ∙ (asked_within _ config come.asked text come.asks come.short ∙ e)) records both.0.items both.1.untargeted
    (told records come.asked text come.taken (few-taken records _ config text come))) c.finish-answer.ensures.ok

pub returns-clause-unasked : goal.returns-clause-unasked
returns-clause-unasked g c =
    let same = ap (λ (replay : Coming). has_entries replay.pass.held) c.self.view_is in
    IfOk-weaker c.finish-answer.result _ _ (λ both none unasked. none (same ∙ unasked)) c.finish-answer.ensures.unasked

pub returns-clause-err : goal.returns-clause-err
returns-clause-err g c =
    IfErr-weaker c.finish-answer.result _ _ (λ fault untold records config text has.
    let come = rw (← c.self.view_is) at has in
    let within = ap (λ (replay : Coming). calls_asked replay.limit config text) (sym c.self.view_is) in
    unanswered_through (λ r. come.asked text ≡ r) (λ r. calls_asked c.args.self.limit config text ≡ r) (g.O.Outlet.contents c.args.out.now) (g.O.Outlet.contents c.finish-answer.new.out)
    (λ r e. within ∙ (asked_within _ config come.asked text come.asks come.short ∙ e)) NoneFailed NoneFailed (λ what none. none) (g.O.Outlet.has_failed c.finish-answer.new.out) fault
    (untold records come.asked text come.taken (few-taken records _ config text come))) c.finish-answer.ensures.err
