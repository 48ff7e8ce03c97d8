use Rattle.hingetulip_c.proofs.Words.{lists_in, refl}
use Rattle.hingetulip_c.proofs.EntryLists.{all_told, bad_entry}
use Rattle.hingetulip_c.proofs.entry_lists.lists_left.Goals as goal

pub loop-entry-init : goal.loop-entry-init
loop-entry-init c = rw c.new-lists.ensures (refl, refl)

pub loop-entry-smaller : goal.loop-entry-smaller
loop-entry-smaller c = (rw c.in-Ok-Some.field-0-is at c.in-Ok-Some.ensures.after).1

pub returns-in-Ok-None-clause-ok : goal.returns-in-Ok-None-clause-ok
returns-in-Ok-None-clause-ok c =
    let ended = rw c.in-Ok-None.field-0-is at c.in-Ok-None.ensures.ok in
    all_told (lists_in c.loop-entry.lists) c.loop-entry.reader.entries c.args.reader.now.entries ended c.loop-entry.invariant.0

pub returns-in-Err-clause-err : goal.returns-in-Err-clause-err
returns-in-Err-clause-err c =
    bad_entry (lists_in c.loop-entry.lists) c.loop-entry.reader.entries c.args.reader.now.entries c.in-Err.fault c.in-Err.ensures.err c.loop-entry.invariant.0
