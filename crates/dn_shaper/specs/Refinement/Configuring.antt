-- What a Configure call asks of the commands in force, and what a delete does to the flows that it reaches.
use Rattle.std.specs.Prelude.{◌≡◌, ℕ, true, cond, List, Option, is_some, nat_eq}
use Rattle.std.specs.List.{list_any}
use Rattle.dn_types.specs.Calls.{discard_reached}
use Rattle.dn_types.specs.Configuration.{Settings, target_eq, subject, command_reply}
use Rattle.dn_types.specs.Trace.{Link, Event}
use Rattle.dn_types.specs.declared.command.Command.{Command}
use Rattle.dn_types.specs.declared.reply.Reply.{Reply}
use Rattle.dn_types.specs.declared.target.Target.{Target}
use Rattle.dn_types.specs.declared.target.Target.TheVariants.{Queue as ToQueue}
use Rattle.dn_shaper.specs.declared.links.parts.Parts.{Parts}
use Rattle.dn_shaper.specs.Refinement.Agreement.{AgreesWith}

-- The number of each configured queue is in the list.
abbrev pub Lists : Settings → List ℕ → Type 0
Lists settings queues = (q : ℕ) → is_some (settings (ToQueue q)) ≡ true → list_any (nat_eq q) queues ≡ true

-- The reply is how the command is answered where so much is in force.
abbrev pub IsAnswered : Settings → Command → Reply → Type 0
IsAnswered settings command reply =
    (queues : List ℕ) → Lists settings queues → reply ≡ command_reply settings queues command

-- So much is in force for the command's subject, and all else stays.
abbrev pub Puts : Command → Option Command → Settings → Settings → Type 0
Puts command setting old new = (target : Target) → new target ≡ cond (target_eq (subject command) target) setting (old target)

-- Whatever trace the parts agreed with, they agree with it and the flows discarded that the command reaches.
abbrev pub DiscardsReached : Command → Parts → Parts → Type 0
DiscardsReached command old new =
    (more : List Link) (trace : List Event) → AgreesWith old more trace →
    AgreesWith new more (discard_reached command 0 old.flows.keys trace)
