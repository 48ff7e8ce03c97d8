use Rattle.dn_history.proofs.Words.{Rest, ap, arith, length}
use Rattle.dn_history.proofs.HistoryReading.{numbered}
use Rattle.dn_history.proofs.read.entry_reader.EntryReader.from.Goals as goal

pub invariant_of-result : goal.invariant_of-result
invariant_of-result c =
    let few = numbered c.args.text.now in
    let first = ap (λ (rest : Rest). length rest.records) c.from.ensures in
    omega (arith, few, first, c.requires)
