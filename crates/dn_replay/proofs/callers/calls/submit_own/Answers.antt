use Rattle.dn_replay.proofs.Words.{HasSubmitted, arith, subst, sym, take, ◌+◌, ◌∙◌}
use Rattle.dn_replay.proofs.CallerRows.{nothing_submitted, submitted_other, submitted_own}
use Rattle.dn_replay.proofs.callers.calls.submit_own.Goals.{then-place-n+in_ok-call, else-place-n}
use Rattle.dn_replay.proofs.callers.calls.submit_own.Goals as goal

pub loop-place-init : goal.loop-place-init
loop-place-init g c = (omega arith, nothing_submitted c.args.n c.args.caller)

pub loop-place-preserved : goal.loop-place-preserved
loop-place-preserved g c =
    let n = c.args.n in let place = c.loop-place.place in let rows = c.args.rows.now in let was = c.loop-place.invariant in
    elim c.if-place-n.branch [
      | then-place-n+in_ok-call w ↦ let few = was.0 in let turn = w.turn-is in (
        omega arith,
        subst (λ x. HasSubmitted n (take (place + 1) rows) c.args.caller x) (sym w.caller-is)
            (submitted_own n place rows w.index-rows-place.result c.args.caller c.loop-place.caller c.loop-place-test.true w.index-rows-place.is was.1 w.call.new.self _
            (w.if-place-n.true ∙ c.number-number.ensures) w.call.ensures.same_caller (rw w.submit.ensures at w.in_ok-call.ensures.ok)),
      )
      | else-place-n w ↦ let few = was.0 in let turn = w.turn-is in (
        omega arith,
        subst (λ x. HasSubmitted n (take (place + 1) rows) c.args.caller x) (sym w.caller-is)
            (submitted_other n place rows c.args.caller c.loop-place.caller c.loop-place-test.true was.1 (λ e. w.if-place-n.false (e ∙ sym c.number-number.ensures))),
      )
    ]
