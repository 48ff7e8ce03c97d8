use Rattle.dn_heap.proofs.Words.{ap, arith, is_lt, refl, sym, ◌∙◌}
use Rattle.dn_heap.proofs.Runs.{at_least, none_greater}
use Rattle.dn_heap.proofs.run.can_join.Goals as goal

pub returns-in-Some : goal.returns-in-Some
returns-in-Some g c =
    let last = c.in-Some.ensures in
    record {
      in_order = λ e.
          let not_less = ap is_lt (sym c.cmp.ensures) ∙ at_least _ (sym c.is_ge.ensures ∙ e) in
          none_greater g.met.K.Ord.total _ _ _ _ (omega (arith, last.variant.0 refl, c.args.run.now.ok.0)) last.lookup not_less c.requires;
    }
