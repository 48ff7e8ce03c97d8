-- What is left in the heap counts.
use Rattle.dn_shaper.proofs.LeftSteps.{cleared, cleared-kept}
use Rattle.dn_shaper.proofs.links.leaving.drop_all.Goals as goal

pub returns-clause-kept : goal.returns-clause-kept
returns-clause-kept c =
    cleared-kept c.args.heap.now c.keep_counting.new.heap c.args.emptied.now c.clear.new.self c.requires.kept
    c.keep_counting.ensures.keys c.keep_counting.ensures.room c.clear.ensures.none c.clear.ensures.places c.clear.ensures.count

pub returns-clause-keeps : goal.returns-clause-keeps
returns-clause-keeps c =
    cleared c.args.heap.now c.keep_counting.new.heap c.args.emptied.now c.clear.new.self c.requires.kept
    c.keep_counting.ensures.keys c.keep_counting.ensures.room c.clear.ensures.none c.clear.ensures.places c.clear.ensures.count
    c.keep_counting.ensures.keeps_moves
