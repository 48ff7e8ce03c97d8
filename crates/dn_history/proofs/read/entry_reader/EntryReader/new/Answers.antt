use Rattle.dn_history.proofs.Words.{Rest, ap, arith, length}
use Rattle.dn_history.proofs.HistoryReading.{numbered}
use Rattle.dn_history.proofs.NarrowRecords.{narrow-history}
use Rattle.dn_history.proofs.read.entry_reader.EntryReader.new.Goals as goal

pub invariant_of-result : goal.invariant_of-result
invariant_of-result c =
    let few = numbered c.args.text.now in
    let first = ap (λ (rest : Rest). length rest.records) c.from-records.ensures in
    let fewer = c.in-Ok.ensures.fewer in
    omega (arith, few, first, fewer)

pub returns-in-Err-clause-err : goal.returns-in-Err-clause-err
returns-in-Err-clause-err c = rw (← c.from-records.ensures) (narrow-history c.from-records.result c.in-Err.fault c.in-Err.ensures.err)
