-- Which calls can be refused memory, by what is in force.
use Rattle.dn_shaper.proofs.Words.{Call, CanNeedMemory, Command, Configure, Configured, Err, IsAnswered, List, Lists, None, Ok, OnErr, Packet, Reply, Result, Rule, Settings, StandsAt, State}
use Rattle.dn_shaper.proofs.Words.{Submit, Target, ap, command_reply, is_some, queue_numbers, reply_to_command, settings_of, subject, subst, sym, treatment, true, ℕ, ◌∙◌, ◌≡◌}
use Rattle.dn_shaper.proofs.Commands.{numbers-listed}

-- The reply by what is in force is that after the calls.
pub answered-after : (command : Command) (reply : Reply) (s : State) (rule : Rule) (calls : List Call) → StandsAt rule s calls →
    IsAnswered (settings_of s.configured) command reply → reply ≡ reply_to_command calls command
answered-after command reply s rule calls stands answered =
    answered (queue_numbers calls) (subst (λ (f : Settings). Lists f (queue_numbers calls)) (sym stands.settings_are) (numbers-listed calls))
    ∙ ap (λ (f : Settings). command_reply f (queue_numbers calls) command) stands.settings_are

module _ {E : Type 0} where
  pub configure-needs : (command : Command) (s : State) (result : Result Reply E) → OnErr result (settings_of s.configured (subject command) ≡ None) →
      OnErr result (IsAnswered (settings_of s.configured) command Configured)
      → OnErr result ((rule : Rule) (calls : List Call) → StandsAt rule s calls → CanNeedMemory calls (Configure command))
  configure-needs command s (Ok r) new answered = tt
  configure-needs command s (Err e) new answered = λ rule calls stands. (
    sym (ap (λ (f : Settings). f (subject command)) stands.settings_are) ∙ new,
    sym (answered-after command Configured s rule calls stands answered),
  )

  pub submit-needs : (target : Target) (packet : Packet) (moment : ℕ) (s : State) (result : Result Reply E) → OnErr result (is_some (treatment (settings_of s.configured target)) ≡ true)
      → OnErr result ((rule : Rule) (calls : List Call) → StandsAt rule s calls → CanNeedMemory calls (Submit target packet moment))
  submit-needs target packet moment s (Ok r) treated = tt
  submit-needs target packet moment s (Err e) treated = λ rule calls stands. ap (λ (f : Settings). is_some (treatment (f target))) (sym stands.settings_are) ∙ treated
