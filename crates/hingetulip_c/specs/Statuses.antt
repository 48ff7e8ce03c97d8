-- What a status says of a call, and which status a reply is.
use Rattle.std.specs.Prelude.{ℕ, ◌||◌, Bool, Option, nat_eq, nat_le, length, unwrap_or}
use Rattle.dn_types.specs.declared.reply.Reply.{Reply}
use Rattle.dn_types.specs.declared.reply.Reply.TheVariants.{Advanced, Configured, NoSuchPipe, Deleted, PipeHasQueues, NoSuchQueue, Delivered, Status}

-- The call was answered: 0, and 1 after the last call.
abbrev pub answered : ℕ → Bool
answered status = nat_eq status 0 || nat_eq status 1

-- The command was obeyed, or refused by what is configured.
abbrev pub taken : ℕ → Bool
taken status = nat_le status 4

-- The status that the reply to a command is.
abbrev pub configure_status : Reply → ℕ
configure_status Configured = 0
configure_status Deleted = 0
configure_status NoSuchPipe = 2
configure_status PipeHasQueues = 3
configure_status NoSuchQueue = 4
configure_status _ = 1

-- The status that an Advance's reply is, and where the clock stands.
abbrev pub clock_status : Reply → ℕ
clock_status (Advanced at) = 0
clock_status _ = 1

abbrev pub clock_of : ℕ → Reply → ℕ
clock_of old (Advanced at) = at
clock_of old _ = old

-- A moment that may never come, as C reads it: 2^64 - 1 for never.
abbrev pub told_moment : Option ℕ → ℕ
told_moment moment = unwrap_or moment 18446744073709551615

-- The status that a Collect's reply is, and how many packets it gives.
abbrev pub collect_status : Reply → ℕ
collect_status (Delivered at list) = 0
collect_status _ = 1

abbrev pub collect_count : ℕ → Reply → ℕ
collect_count old (Delivered at list) = length list
collect_count old _ = old

-- The same for a Show's.
abbrev pub show_status : Reply → ℕ
show_status (Status list) = 0
show_status _ = 1

abbrev pub show_count : ℕ → Reply → ℕ
show_count old (Status list) = length list
show_count old _ = old

-- The same for a call whose reply has a list, which a Collect and a Show are.
abbrev pub list_status : Reply → ℕ
list_status (Delivered at list) = 0
list_status (Status list) = 0
list_status _ = 1

abbrev pub list_count : ℕ → Reply → ℕ
list_count old (Delivered at list) = length list
list_count old (Status list) = length list
list_count old _ = old
