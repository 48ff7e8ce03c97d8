-- Where memory is refused, the last flow is out and only room was made.
use Rattle.dn_shaper.proofs.Words.{List, Waiting, ap, length, sym, ◌∙◌}
use Rattle.dn_shaper.proofs.Preparing.{err-of, forgets}
use Rattle.dn_shaper.proofs.room.make.house_last.Goals as goal

pub returns-then-is_err-clause-err : goal.returns-then-is_err-clause-err
returns-then-is_err-clause-err c =
    forgets c.args.state.now c.make_home.new.state
    (err-of c.make_home.result (sym c.is_err.ensures.value ∙ c.if-is_err.true) c.make_home.ensures.err) c.forget_last.new.self c.forget_last.ensures.keys c.forget_last.ensures.flows
    (ap (λ (ws : List Waiting). length ws) c.requires.unused.0) c.requires.placeless
