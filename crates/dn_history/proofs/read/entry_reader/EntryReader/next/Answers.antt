use Rattle.dn_history.proofs.EntryTurns.{entries_fault, entries_step}
use Rattle.dn_history.proofs.read.entry_reader.EntryReader.next.Goals as goal

pub returns-in-Failed-clause-err : goal.returns-in-Failed-clause-err
returns-in-Failed-clause-err c = let own = rw c.in-Failed.is at c.self.invariant in rw (← c.self.view_is, c.in-Failed.is) own

pub returns-in-Ok-Some-clause-ok : goal.returns-in-Ok-Some-clause-ok
returns-in-Ok-Some-clause-ok c =
    let read = rw c.in-Ok-Some.field-0-is at c.in-Ok-Some.ensures.ok in
    rw (← c.self.view_is, c.in-Reading.is) (entries_step _ _ _ _ _ read c.in-Ok-Some.ensures.fewer)

pub returns-in-Ok-None-clause-ok : goal.returns-in-Ok-None-clause-ok
returns-in-Ok-None-clause-ok c =
    let read = rw c.in-Ok-None.field-0-is at c.in-Ok-None.ensures.ok in
    rw (← c.self.view_is, c.in-Reading.is) (entries_step _ _ _ _ _ read c.in-Ok-None.ensures.fewer)

pub returns-in-Err-clause-err : goal.returns-in-Err-clause-err
returns-in-Err-clause-err c = rw (← c.self.view_is, c.in-Reading.is) (entries_fault _ _ _ _ c.in-Err.ensures.err)
