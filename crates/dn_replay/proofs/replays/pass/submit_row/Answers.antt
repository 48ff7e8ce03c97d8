use Rattle.dn_replay.proofs.Words.{Ordered, on_ok_weaker}
use Rattle.dn_replay.proofs.PassSteps.{unheld}
use Rattle.dn_replay.proofs.replays.pass.submit_row.Goals as goal

pub returns : goal.returns
returns c =
    on_ok_weaker c.hold.result (λ holds calls before. holds calls
    (unheld c.args.run.now c.args.kept.now calls c.args.row.now c.apply.new.self c.in_ok-reply.reply
    (λ made stands. rw c.submit-call.ensures at (c.in_ok-reply.ensures.ok Ordered made stands)) c.note.new.self
    (λ kept is. c.in_ok-note.ensures calls c.args.row.now.target c.args.row.now.packet c.args.row.now.moment kept is) c.args.held.now before)) (rw c.submit-call.ensures at c.hold.ensures)
