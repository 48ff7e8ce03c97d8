-- A pipe that is in force is deleted unless a queue names it.
use Rattle.dn_shaper.proofs.Words.{Bool, Deleted, NoSuchPipe, PipeHasQueues, Reply, ap, command_reply, cond, false, has_queues, is_some, settings_of, sym, true, ◌∙◌, ◌≡◌}
use Rattle.dn_types.specs.declared.target.Target.TheVariants.{Pipe as ToPipe}
use Rattle.dn_shaper.proofs.settings.configured.Configured.reply.Goals as goal

pub returns-then-has_queues : goal.returns-then-has_queues
returns-then-has_queues c queues lists =
    let old = settings_of c.args.self.now in
    let number = c.in-DeletePipe.number in
    let has : is_some (old (ToPipe number)) ≡ true = sym c.has-in-DeletePipe.ensures ∙ c.if-not-has.false in
    let named : has_queues old queues number ≡ true = sym (c.has_queues.ensures queues lists) ∙ c.if-has_queues.true in
    sym
    (ap (command_reply old queues) c.in-DeletePipe.is
    ∙ ap (λ (b : Bool). cond {A = Reply} b (cond (has_queues old queues number) PipeHasQueues Deleted) NoSuchPipe) has
    ∙ ap (λ (b : Bool). cond {A = Reply} b PipeHasQueues Deleted) named)

pub returns-else-has_queues : goal.returns-else-has_queues
returns-else-has_queues c queues lists =
    let old = settings_of c.args.self.now in
    let number = c.in-DeletePipe.number in
    let has : is_some (old (ToPipe number)) ≡ true = sym c.has-in-DeletePipe.ensures ∙ c.if-not-has.false in
    let named : has_queues old queues number ≡ false = sym (c.has_queues.ensures queues lists) ∙ c.if-has_queues.false in
    sym
    (ap (command_reply old queues) c.in-DeletePipe.is
    ∙ ap (λ (b : Bool). cond {A = Reply} b (cond (has_queues old queues number) PipeHasQueues Deleted) NoSuchPipe) has
    ∙ ap (λ (b : Bool). cond {A = Reply} b PipeHasQueues Deleted) named)
