-- What isn't active is taken out of the list, until a flow is or none is left.
use Rattle.dn_flows.proofs.Words.{FlowQueue, List, ap, arith, slice_get, sym, ◌∙◌}
use Rattle.dn_flows.proofs.Entries.{keep-let, keep-more, lets-go, none-active}
use Rattle.dn_flows.proofs.listed.last_active.Goals as goal

pub entries-preserved : goal.entries-preserved
entries-preserved c =
    let before = c.entries.invariant in
    let queues = c.entries.queues.items in
    let go = c.let_go.ensures.lets_go in
    record {
      listed = lets-go c.args.target.now c.args.keys.now.keys queues c.let_go.new.queues.items c.entries.members c.take_out.new.self c.in-Some.flow before.listed c.take_out.ensures.keeps
          c.take_out.ensures.others go (λ q key there. c.is_active_at.ensures.no c.if-is_active_at.false q key
          (ap (λ (qs : List FlowQueue). slice_get qs c.in-Some.flow) c.deref.ensures.value ∙ there));
      counted = c.let_go.ensures.counted;
      fewer = omega arith;
      keeps = keep-more c.args.queues.now.items queues c.let_go.new.queues.items before.keeps (keep-let c.args.target.now c.in-Some.flow queues c.let_go.new.queues.items go);
    }

pub returns-clause-none : goal.returns-clause-none
returns-clause-none c =
    none-active c.args.target.now c.args.keys.now.keys c.entries.queues.items c.entries.members c.entries.invariant.listed (sym c.last.ensures ∙ c.in_default.is)
