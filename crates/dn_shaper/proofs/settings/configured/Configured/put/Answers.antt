-- The command takes the place of what was in force for its subject, and a queue moves from one pipe's count to another's.
use Rattle.dn_shaper.proofs.Words.{Configured, Err, InForce, IsAnswered, Ok, OnErr, Result, Some, ap, arith, at_number, named_pipe, settings_of, subst, sym, ◌<◌, ◌∙◌, ◌≡◌}
use Rattle.dn_types.specs.declared.target.Target.TheVariants.{Pipe as ToPipe}
use Rattle.dn_shaper.proofs.Putting.{counted-before, counts-queue, few, not-in-force, pipe-there, place-for}
use Rattle.dn_shaper.proofs.settings.configured.Configured.put.Goals.{After-named_pipe}
use Rattle.dn_shaper.proofs.settings.configured.Configured.put.Goals as goal

on-err : {A E P : Type 0} (result : Result A E) → P → OnErr result P
on-err (Ok a) p = tt
on-err (Err e) p = p

pub returns-in_err-extend-in-Pipe-clause-only_new : goal.returns-in_err-extend-in-Pipe-clause-only_new
returns-in_err-extend-in-Pipe-clause-only_new c =
    let old : InForce = record { pipes = c.self.inside.pipes; queues = c.self.inside.queues } in
    on-err c.from_residual.result
    (ap (settings_of c.args.self.now) (sym c.in-Pipe.ensures) ∙ ap (λ (v : InForce). settings_of v (ToPipe c.in-Pipe.number)) (sym c.self.view_is)
    ∙ not-in-force old c.self.inside.counts c.self.invariant c.in-Pipe.number c.in_err-extend-in-Pipe.ensures.only_new)

-- What the queue's command was leaves its pipe's count.
module _ (c : After-named_pipe) where
  abbrev before : InForce
  before = record { pipes = c.self.inside.pipes; queues = c.self.inside.queues }

  small : c.in-Queue.number < 65536
  small = omega (arith, c.get-number.ensures.value, c.get-number.ensures.in_range)

  left-is : c.named_pipe.result ≡ named_pipe (at_number c.self.inside.queues c.in-Queue.number)
  left-is = c.named_pipe.ensures ∙ ap named_pipe (c.as_ref.ensures.value ∙ c.in_ok-replaced-in-Queue.ensures.replaced)

pub discount-requires : goal.discount-requires
discount-requires c =
    let w = (goal.at.discount-requires c).After-named_pipe in
    record {
      counted = counted-before c.in-Queue.number (small w) (Some c.args.command.now) (before w) c.put-in-Queue.new.self c.self.inside.counts c.self.invariant
          c.in_ok-replaced-in-Queue.ensures.puts c.named_pipe.result (left-is w);
    }

pub count-requires-clause-place : goal.count-requires-clause-place
count-requires-clause-place c =
    let old = before (goal.at.count-requires-clause-place c).After-named_pipe in
    let answered = subst (λ (v : InForce). IsAnswered (settings_of v) c.args.command.now Configured) (sym c.self.view_is) c.requires.accepted in
    place-for old c.self.inside.counts c.discount.new.self c.self.invariant c.discount.ensures.places (named_pipe (Some c.args.command.now)) c.named_pipe-in-Queue.result
    c.named_pipe-in-Queue.ensures (pipe-there c.args.command.now old answered)

pub count-requires-clause-few : goal.count-requires-clause-few
count-requires-clause-few c =
    let w = (goal.at.count-requires-clause-few c).After-named_pipe in
    few c.in-Queue.number (small w) (Some c.args.command.now) (before w) c.put-in-Queue.new.self c.self.inside.counts c.self.invariant
    c.in_ok-replaced-in-Queue.ensures.puts c.named_pipe.result (left-is w) c.discount.new.self c.discount.ensures.counts c.discount.ensures.places

pub invariant_of-self-in-Queue : goal.invariant_of-self-in-Queue
invariant_of-self-in-Queue c =
    let w = (goal.at.invariant_of-self-in-Queue c).After-named_pipe in
    counts-queue c.in-Queue.number (small w) (Some c.args.command.now) (before w) c.put-in-Queue.new.self c.self.inside.counts c.self.invariant
    c.in_ok-replaced-in-Queue.ensures.puts c.named_pipe.result (left-is w) c.discount.new.self c.discount.ensures.counts c.discount.ensures.places
    c.named_pipe-in-Queue.result c.named_pipe-in-Queue.ensures c.count.new.self c.count.ensures.counts c.count.ensures.places
