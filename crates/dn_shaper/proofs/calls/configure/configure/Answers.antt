-- The command is answered and obeyed, and counts.
use Rattle.dn_shaper.proofs.Words.{Reply, State, on_err_always, subst, sym, ◌∙◌}
use Rattle.dn_shaper.proofs.Configuring.{Obeys, obeys-put, obeys-delete, obeys-refused, configured-does, configured-sound}
use Rattle.dn_shaper.proofs.calls.configure.configure.Goals as goal
use Rattle.dn_shaper.proofs.calls.configure.configure.Goals.{Joined-reply, in-Configured+in_ok-put-in-Configured, in-Deleted, in_default}

pub put-requires : goal.put-requires
put-requires c = record { accepted = λ queues lists. sym c.in-Configured.is ∙ c.reply-reply.ensures queues lists }

pub returns-in_err-put-in-Configured-clause-err : goal.returns-in_err-put-in-Configured-clause-err
returns-in_err-put-in-Configured-clause-err c = on_err_always c.from_residual.result _
    (λ rule calls s. record {
      rule_is = s.rule_is;
      calls_are = s.calls_are;
      now_is = s.now_is;
      settings_are = c.in_err-put-in-Configured.ensures.err ∙ s.settings_are;
      keys_are = s.keys_are;
      agrees = s.agrees;
    })

pub returns-in_err-put-in-Configured-clause-only_accepted : goal.returns-in_err-put-in-Configured-clause-only_accepted
returns-in_err-put-in-Configured-clause-only_accepted c = on_err_always c.from_residual.result _ (λ queues lists. sym c.in-Configured.is ∙ c.reply-reply.ensures queues lists)

-- What became of the command.
obeys : (c : Joined-reply) → Obeys c.args.command.now c.reply-reply.result c.args.state.now c.match-reply.state
obeys c = elim c.match-reply.branch [
  | in-Configured+in_ok-put-in-Configured w ↦ subst (λ (x : Reply × State). Obeys c.args.command.now x.0 c.args.state.now x.1)
      (λ i. (sym w.in-Configured.is i, sym w.state-is i))
      (obeys-put c.args.command.now c.args.state.now c.requires.sound w.put.new.self w.in_ok-put-in-Configured.ensures.puts)
  | in-Deleted w ↦
      let gone = w.discard_reached.ensures in
      subst (λ (x : Reply × State). Obeys c.args.command.now x.0 c.args.state.now x.1) (λ i. (sym w.in-Deleted.is i, sym w.state-is i))
      (obeys-delete c.args.command.now c.args.state.now c.requires.sound w.remove.new.self w.discard_reached.new.parts w.discard_reached.new.heap
      w.remove.ensures gone.keeps gone.discards gone.kept gone.within gone.moves)
  | in_default w ↦ subst (λ (s : State). Obeys c.args.command.now c.reply-reply.result c.args.state.now s) (sym w.state-is)
      (obeys-refused c.args.command.now c.args.state.now c.requires.sound c.reply-reply.result w.in_default.not-Configured w.in_default.not-Deleted)
]

pub returns-clause-does : goal.returns-clause-does
returns-clause-does c =
    configured-does c.args.command.now c.reply-reply.result c.args.state.now c.match-reply.state c.reply-reply.ensures (obeys (goal.at.returns-clause-does c).Joined-reply)

pub returns-clause-sound : goal.returns-clause-sound
returns-clause-sound c =
    configured-sound c.args.command.now c.reply-reply.result c.args.state.now c.match-reply.state c.reply-reply.ensures (obeys (goal.at.returns-clause-sound c).Joined-reply)
    c.requires.sound
