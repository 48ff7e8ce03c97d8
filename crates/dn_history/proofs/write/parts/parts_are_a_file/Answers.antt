use Rattle.dn_history.proofs.Words.{ap, entry_records, flat_map, flat_map-append, sym, text-append, text_of, ◌∙◌}
use Rattle.dn_history.proofs.HistorySteps.{history_is}
use Rattle.dn_history.proofs.write.parts.parts_are_a_file.Goals as goal

pub returns-clause-file : goal.returns-clause-file
returns-clause-file c = history_is c.args.first.now

pub returns-clause-joins : goal.returns-clause-joins
returns-clause-joins c =
    sym (text-append (flat_map entry_records c.args.first.now) (flat_map entry_records c.args.second.now))
    ∙ ap text_of (sym (flat_map-append entry_records c.args.first.now c.args.second.now))
