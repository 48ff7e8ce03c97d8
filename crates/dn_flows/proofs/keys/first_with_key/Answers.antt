use Rattle.dn_flows.proofs.Words.{sym, ◌∙◌}
use Rattle.dn_flows.proofs.Found.{found}
use Rattle.dn_flows.proofs.keys.first_with_key.Goals as goal

pub returns-then-has_key-clause-number : goal.returns-then-has_key-clause-number
returns-then-has_key-clause-number c = (found c.args.key.now c.args.table_key.now c.requires.same c.args.keys.now.keys c.in_ok-first.first c.requires.distinct
    (sym c.has_key.ensures ∙ c.if-has_key.true)).number

pub returns-then-has_key-clause-known : goal.returns-then-has_key-clause-known
returns-then-has_key-clause-known c = (found c.args.key.now c.args.table_key.now c.requires.same c.args.keys.now.keys c.in_ok-first.first c.requires.distinct
    (sym c.has_key.ensures ∙ c.if-has_key.true)).known

pub returns-then-has_key-clause-within : goal.returns-then-has_key-clause-within
returns-then-has_key-clause-within c = (found c.args.key.now c.args.table_key.now c.requires.same c.args.keys.now.keys c.in_ok-first.first c.requires.distinct
    (sym c.has_key.ensures ∙ c.if-has_key.true)).within
