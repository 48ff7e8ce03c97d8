-- The laws that the definitions keep, as statements in the words of the subject.
use Rattle.std.specs.Prelude.{◌≡◌, ◌≤◌, ◌<◌, ◌+◌, ◌*◌, ◌^◌, ℕ, cond, List, [], ◌∷◌, ◌++◌, length, map, reverse, nat_eq, nat_le, true, false, is_some, Option, Some, None}
use Rattle.std.specs.List.{All, Contains, count_by}
use Rattle.dn_types.specs.Bounds.{IsInRange, HasBoundedMoments, HasBoundedBytes, HasBoundedCounts}
use Rattle.dn_types.specs.Calls.{trace_of}
use Rattle.dn_types.specs.Clock.{call_limit, counted, effective_moment}
use Rattle.dn_types.specs.Configuration.{Settings}
use Rattle.dn_types.specs.Deliveries.{delivery_of, given, undelivered}
use Rattle.dn_types.specs.Given.{accepted_since, started_since, is_packet, start_count, given_count}
use Rattle.dn_types.specs.History.{IsLawful, calls_of, own_entries}
use Rattle.dn_types.specs.Links.{free, last_due, transmission_time}
use Rattle.dn_types.specs.Replies.{replies, reply}
use Rattle.dn_types.specs.Standing.{standing}
use Rattle.dn_types.specs.Starts.{next_start, settled}
use Rattle.dn_types.specs.Trace.{Event, Link, Start, started, backlog}
use Rattle.dn_types.specs.Wf2q.{Stamped, pick, raised, goes_before}
use Rattle.dn_types.specs.declared.call.Call.{Call}
use Rattle.dn_types.specs.declared.call.Call.TheVariants.{Configure, Submit, Advance, Collect}
use Rattle.dn_types.specs.declared.command.Command.TheVariants.{Pipe, Queue}
use Rattle.dn_types.specs.declared.entry.Entry.{Entry}
use Rattle.dn_types.specs.declared.limit.Limit.TheVariants.{Slots, Kbytes}
use Rattle.dn_types.specs.declared.mask.Mask.{Mask}
use Rattle.dn_types.specs.declared.packet.Packet.{Packet}
use Rattle.dn_types.specs.declared.reply.Reply.TheVariants.{Exhausted}
use Rattle.dn_types.specs.declared.rule.Rule.{Rule}
use Rattle.dn_types.specs.declared.rule.Rule.TheVariants.{Ordered}
use Rattle.dn_types.specs.declared.target.Target.{Target}

-- After a settling no start is due on any link.
abbrev pub SettlingEnds : Type 0
SettlingEnds = (settings : Settings) (at : ℕ) (link : Link) (trace : List Event) → next_start settings at link (settled settings at trace) ≡ None

-- A pick finds a packet wherever a head is.
abbrev pub PickIsThere : Type 0
PickIsThere = (virtual_time : ℕ) (hs : List Stamped) → 0 < length hs → is_some (pick virtual_time hs) ≡ true

-- The packet is one of the heads, and the raised virtual time has reached its start tag. Of the heads whose start tag it has
-- reached, none goes before the packet.
pub record IsFirstEligible (virtual_time : ℕ) (hs : List Stamped) (h : Stamped) : Type 0 where
  pub is_head : Contains hs h
  pub may_go : h.start_tag ≤ raised virtual_time hs
  pub is_first : All (λ x. x.start_tag ≤ raised virtual_time hs → goes_before x h ≡ false) hs

abbrev pub PickIsFirst : Type 0
PickIsFirst = (virtual_time : ℕ) (hs : List Stamped) (h : Stamped) → pick virtual_time hs ≡ Some h → IsFirstEligible virtual_time hs h

-- What a flow's queue accepted since the last delete that reached it has started since, or waits, in this order.
abbrev pub StartsInOrder : Type 0
StartsInOrder = (calls : List Call) (link : Link) (flow : ℕ) → accepted_since link flow (trace_of calls) ≡ started_since link flow (trace_of calls) ++ backlog link flow (trace_of calls)

-- A link sends one packet at a time: none starts before the link is free of the one before it.
abbrev pub SendsOneAtATime : Type 0
SendsOneAtATime = (calls : List Call) (later earlier : List Event) (s : Start) → trace_of calls ≡ later ++ started s ∷ earlier → free s.packet.link earlier ≤ s.moment

-- No packet starts twice.
abbrev pub StartsOnce : Type 0
StartsOnce = (number : ℕ) (calls : List Call) → start_count number (trace_of calls) ≤ 1

-- A packet was given, or is still to be given, as often as it started. So no Collect gives one that an earlier one gave.
abbrev pub GivesStarted : Type 0
GivesStarted = (rule : Rule) (number : ℕ) (calls : List Call) →
    given_count rule number (trace_of calls) + count_by (is_packet number) (undelivered rule (trace_of calls)) ≡ start_count number (trace_of calls)

abbrev pub GivesOnce : Type 0
GivesOnce = (rule : Rule) (number : ℕ) (calls : List Call) → given_count rule number (trace_of calls) ≤ 1

-- A Collect gives nothing before it is due, and after it nothing that is due is left: the first Collect whose moment
-- reaches the due moment gives the packet.
abbrev pub GivesWhatIsDue : Type 0
GivesWhatIsDue = (rule : Rule) (at : ℕ) (trace : List Event) → All (λ d. d.due ≤ at) (given rule at trace)

abbrev pub LeavesWhatIsNotDue : Type 0
LeavesWhatIsNotDue = (rule : Rule) (moment : ℕ) (calls : List Call) → All (λ d. effective_moment (Collect moment ∷ calls) < d.due) (undelivered rule (trace_of (Collect moment ∷ calls)))

-- The transmission time is the least in which the bandwidth carries the packet's bits.
abbrev pub TransmissionIsLeast : Type 0
TransmissionIsLeast = (bandwidth len : ℕ) → 0 < bandwidth →
    (len * 8 * 10 ^ 9 ≤ transmission_time bandwidth len * bandwidth) × ((t : ℕ) → len * 8 * 10 ^ 9 ≤ t * bandwidth → transmission_time bandwidth len ≤ t)

-- Under Ordered the due moments of a link never fall: a packet's due moment is the last one of its link once it has
-- started, and that one only rises, whatever happens later.
abbrev pub DueIsLast : Type 0
DueIsLast = (rule : Rule) (s : Start) (trace : List Event) → (delivery_of rule s (last_due rule s.packet.link trace)).due ≡ last_due rule s.packet.link (started s ∷ trace)

abbrev pub DueMomentsNeverFall : Type 0
DueMomentsNeverFall = (link : Link) (later trace : List Event) → last_due Ordered link trace ≤ last_due Ordered link (later ++ trace)

-- The replies of a lawful history are those to its calls.
abbrev pub LawfulReplies : Type 0
LawfulReplies = (rule : Rule) (history : List Entry) → IsLawful rule history → replies rule (calls_of history) ≡ reverse (map (λ e. e.reply) history)

-- The empty history is lawful, and a lawful one stays so with an entry more whose reply is the one after its calls.
abbrev pub LawfulHistoriesGrow : Type 0
LawfulHistoriesGrow = (rule : Rule) → IsLawful rule []
    × ((history : List Entry) (e : Entry) → IsLawful rule history → e.reply ≡ reply rule (calls_of history) e.call → IsLawful rule (history ++ e ∷ []))

-- An entry more is its caller's own, and no other caller's.
abbrev pub OwnEntriesGrow : Type 0
OwnEntriesGrow = (caller : ℕ) (history : List Entry) (e : Entry) →
    own_entries caller (history ++ e ∷ []) ≡ cond (nat_eq e.caller caller) (own_entries caller history ++ e ∷ []) (own_entries caller history)

-- No entry is any caller's before the first.
abbrev pub OwnEntriesBegin : Type 0
OwnEntriesBegin = (caller : ℕ) → own_entries caller [] ≡ []

-- A call counts exactly where fewer calls than the limit were made before it.
abbrev pub CountsUpToTheLimit : Type 0
CountsUpToTheLimit = (c : Call) (calls : List Call) → counted (c ∷ calls) ≡ cond (nat_le call_limit (length calls)) (counted calls) (c ∷ calls)

-- A call after as many as the limit is answered Exhausted and changes nothing.
abbrev pub ExhaustedChangesNothing : Type 0
ExhaustedChangesNothing = (rule : Rule) (calls : List Call) (c : Call) → call_limit ≤ length calls → (reply rule calls c ≡ Exhausted) × (standing rule (c ∷ calls) ≡ standing rule calls)

-- Replies rest on the standing alone: where two lists of calls leave the emulator the same, one call more gets the same
-- reply after both, and leaves it the same again.
abbrev pub RepliesByStanding : Type 0
RepliesByStanding = (rule : Rule) (calls others : List Call) → standing rule calls ≡ standing rule others → (c : Call) →
    (reply rule calls c ≡ reply rule others c) × (standing rule (c ∷ calls) ≡ standing rule (c ∷ others))

-- After calls in range, the moments of a reply to one more are at most 2^62 ns.
abbrev pub MomentsAreBounded : Type 0
MomentsAreBounded = (rule : Rule) (calls : List Call) (c : Call) → All IsInRange calls → IsInRange c → HasBoundedMoments (reply rule calls c)

-- What is still to be given after calls in range has started by 2^62 ns and is due before 2^63 ns.
abbrev pub DueMomentsAreBounded : Type 0
DueMomentsAreBounded = (rule : Rule) (calls : List Call) → All IsInRange calls → All (λ d. (d.start ≤ 2 ^ 62) × (d.due < 2 ^ 63)) (undelivered rule (trace_of calls))

-- After calls in range, no queue holds 2^32 bytes.
abbrev pub BytesAreBounded : Type 0
BytesAreBounded = (rule : Rule) (calls : List Call) (c : Call) → All IsInRange calls → HasBoundedBytes (reply rule calls c)

-- No count of a reply and no number of a packet reaches 2^62, whatever the calls.
abbrev pub CountsAreBounded : Type 0
CountsAreBounded = (rule : Rule) (calls : List Call) (c : Call) → HasBoundedCounts (reply rule calls c)

-- A call is in range where its packet's length has 16 bits, its moment is at most 2^62 ns, a delay at most an hour, and a limit 10,000 packets
-- or 1,024 units.
pub record CallsAreInRange : Type 0 where
  pub packets : (target : Target) (packet : Packet) (moment : ℕ) → packet.len < 2 ^ 16 → moment ≤ 2 ^ 62 → IsInRange (Submit target packet moment)
  pub moments : (moment : ℕ) → moment ≤ 2 ^ 62 → IsInRange (Advance moment) × IsInRange (Collect moment)
  pub limits : (n on other loss count : ℕ) (buckets : Option ℕ) (mask : Mask) → (count ≤ 10000 → IsInRange (Configure (Queue n on other (Slots count) loss buckets mask)))
      × (count ≤ 1024 → IsInRange (Configure (Queue n on other (Kbytes count) loss buckets mask)))
  pub delays : (n bw delay loss count : ℕ) (buckets : Option ℕ) (mask : Mask) → delay ≤ 3600000 → (count ≤ 10000 → IsInRange (Configure (Pipe n bw delay (Slots count) loss buckets mask)))
      × (count ≤ 1024 → IsInRange (Configure (Pipe n bw delay (Kbytes count) loss buckets mask)))
