-- Where no start is due, all are made already.
use Rattle.dn_shaper.proofs.Words.{settings_of}
use Rattle.dn_shaper.proofs.Settles.{none-starts, only-none, reaches-none, reaches-start}
use Rattle.dn_shaper.proofs.links.settle.settle.Goals as goal

pub returns-else-is_due-clause-only : goal.returns-else-is_due-clause-only
returns-else-is_due-clause-only c = only-none c.args.parts.now c.args.heap.now

pub returns-else-is_due-clause-settled : goal.returns-else-is_due-clause-settled
returns-else-is_due-clause-settled c =
    let settings = settings_of c.args.configured.now in
    reaches-none settings c.args.at c.args.parts.now c.args.parts.now (reaches-start settings c.args.at c.args.parts.now)
    (none-starts settings c.requires.kept (c.is_due.ensures.late c.if-is_due.false))
