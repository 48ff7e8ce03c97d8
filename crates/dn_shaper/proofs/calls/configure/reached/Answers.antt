-- A command that is no delete reaches no flow.
use Rattle.dn_shaper.proofs.Words.{Command, ap, reaches, refl, sym, ◌∙◌}
use Rattle.dn_shaper.proofs.calls.configure.reached.Goals as goal

pub returns-in-Pipe-clause-none : goal.returns-in-Pipe-clause-none
returns-in-Pipe-clause-none c = λ flow key there holds. let fails = ap (λ (command : Command). reaches command key) c.in-Pipe.is in absurd (let both = sym holds ∙ fails in cc)

pub returns-in-Queue-clause-none : goal.returns-in-Queue-clause-none
returns-in-Queue-clause-none c = λ flow key there holds. let fails = ap (λ (command : Command). reaches command key) c.in-Queue.is in absurd (let both = sym holds ∙ fails in cc)
