-- All parts are empty.
use Rattle.dn_shaper.proofs.Words.{refl}
use Rattle.dn_shaper.proofs.Beginning.{begins, begins-sound}
use Rattle.dn_shaper.proofs.state.new_state.Goals as goal

pub returns-clause-stands : goal.returns-clause-stands
returns-clause-stands c = begins _ refl c.with_key.ensures.keys c.with_key.ensures.flows c.new.ensures.items refl c.new-4.ensures
    c.new-2.ensures.pending c.new-2.ensures.pushed c.new-3.ensures.empty c.new-3.ensures.no_moves c.new-5.ensures.none refl refl c.args.rule refl

pub returns-clause-sound : goal.returns-clause-sound
returns-clause-sound c = begins-sound _ refl c.with_key.ensures.keys c.with_key.ensures.flows c.new.ensures.items refl c.new-4.ensures
    c.new-2.ensures.pending c.new-2.ensures.pushed c.new-3.ensures.empty c.new-3.ensures.no_moves c.new-5.ensures.none refl refl
