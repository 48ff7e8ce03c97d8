-- What is told of a command is what is in force, and the clock goes by the moments that calls name.
use Rattle.dn_laws.proofs.Words.{ClockFollows, List, ObeysAsTold, StartsAreCounted, [], arith, count-event, length, refl, sym, ◌<◌, ◌∙◌, ◌∷◌, ◌≡◌}
use Rattle.dn_laws.proofs.LawWords.{call_limit, reply_to_command, reply, opened, arrived, started, lost, refused, discarded, collected, is_start_of, Call, Configure, Command, Pipe, Queue, DeletePipe}
use Rattle.dn_laws.proofs.LawWords.{DeleteQueue, Rule}
use Rattle.dn_laws.proofs.DropLaws.{not-exhausted}
use Rattle.dn_laws.proofs.Isolation.{commands-count}

answered : (rule : Rule) (calls : List Call) (command : Command) → length calls < call_limit → reply_to_command calls command ≡ reply rule calls (Configure command)
answered rule calls command few = sym (not-exhausted rule calls (Configure command) few)

pub obeys-as-told : ObeysAsTold
obeys-as-told rule calls few = (
  λ number bw delay limit loss buckets mask e. (commands-count calls (Pipe number bw delay limit loss buckets mask)).0 (answered rule calls (Pipe number bw delay limit loss buckets mask) few ∙ e),
  λ number pipe weight limit loss buckets mask e. (commands-count calls (Queue number pipe weight limit loss buckets mask)).0
      (answered rule calls (Queue number pipe weight limit loss buckets mask) few ∙ e),
  λ number e. (commands-count calls (DeletePipe number)).1 (answered rule calls (DeletePipe number) few ∙ e),
  λ number e. (commands-count calls (DeleteQueue number)).1 (answered rule calls (DeleteQueue number) few ∙ e),
)

pub clock-follows : ClockFollows
clock-follows calls = (λ target packet moment. refl, λ moment. refl, λ moment. refl, λ command. omega arith, omega arith)

pub starts-are-counted : StartsAreCounted
starts-are-counted flow [] = refl
starts-are-counted flow (opened l ∷ t) = let rest = starts-are-counted flow t in let one = count-event (is_start_of flow) (opened l) t in omega (arith, rest, one)
starts-are-counted flow (arrived p ∷ t) = let rest = starts-are-counted flow t in let one = count-event (is_start_of flow) (arrived p) t in omega (arith, rest, one)
starts-are-counted flow (started s ∷ t) = let rest = starts-are-counted flow t in let one = count-event (is_start_of flow) (started s) t in omega (arith, rest, one)
starts-are-counted flow (lost l f ∷ t) = let rest = starts-are-counted flow t in let one = count-event (is_start_of flow) (lost l f) t in omega (arith, rest, one)
starts-are-counted flow (refused l f ∷ t) = let rest = starts-are-counted flow t in let one = count-event (is_start_of flow) (refused l f) t in omega (arith, rest, one)
starts-are-counted flow (discarded f ∷ t) = let rest = starts-are-counted flow t in let one = count-event (is_start_of flow) (discarded f) t in omega (arith, rest, one)
starts-are-counted flow (collected at ∷ t) = let rest = starts-are-counted flow t in let one = count-event (is_start_of flow) (collected at) t in omega (arith, rest, one)
