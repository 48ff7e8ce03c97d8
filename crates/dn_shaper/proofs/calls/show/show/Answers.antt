-- The flows are told, and one call more is counted.
use Rattle.dn_shaper.proofs.Words.{◌∙◌}
use Rattle.dn_shaper.proofs.Showing.{shows, shows-sound}
use Rattle.dn_shaper.proofs.calls.show.show.Goals as goal

pub returns-clause-does : goal.returns-clause-does
returns-clause-does c = shows c.args.state.now c.from_vec.result (c.from_vec.ensures ∙ c.in_ok-list.ensures)

pub returns-clause-sound : goal.returns-clause-sound
returns-clause-sound c = shows-sound c.args.state.now c.requires.sound
