-- The laws that determine the emulator: whatever answers calls and meets them answers as `reply` does.
-- They name types of calls, replies and events, and no definition of dn_types.
use Rattle.std.specs.Prelude.{ℕ, ◌≡◌, ◌≢◌, ◌≤◌, ◌<◌, ◌%◌, ◌^◌, max, false, List, [], ◌∷◌, ◌++◌, map, length, Some, None, slice_get}
use Rattle.std.specs.List.{count_by}
use Rattle.dn_laws.specs.Explained.{IsJudgedBy, IsExplained}
use Rattle.dn_laws.specs.FlowLaws.{flow_told, IsMaskedBy, kept_by}
use Rattle.dn_laws.specs.ReplyLaws.{IsToldBy}
use Rattle.dn_laws.specs.Told.{moment_told, is_queued, IsCarriedBy}
use Rattle.dn_laws.specs.Determined.Emulators.{Emulator, answers, Has, Readings, AreReadings}
use Rattle.dn_laws.specs.Determined.Links.{Settles, Joins, discards}
use Rattle.dn_laws.specs.Determined.Reports.{link_to, IsGiven, IsStateBy}
use Rattle.dn_types.specs.Trace.{Link}
use Rattle.dn_types.specs.declared.call.Call.{Call}
use Rattle.dn_types.specs.declared.call.Call.TheVariants.{Configure, Submit, Advance, Collect, Show}
use Rattle.dn_types.specs.declared.command.Command.{Command}
use Rattle.dn_types.specs.declared.command.Command.TheVariants.{Pipe, Queue, DeletePipe, DeleteQueue}
use Rattle.dn_types.specs.declared.delivery.Delivery.{Delivery}
use Rattle.dn_types.specs.declared.flow_key.FlowKey.{FlowKey}
use Rattle.dn_types.specs.declared.flow_status.FlowStatus.{FlowStatus}
use Rattle.dn_types.specs.declared.limit.Limit.{Limit}
use Rattle.dn_types.specs.declared.mask.Mask.{Mask}
use Rattle.dn_types.specs.declared.packet.Packet.{Packet}
use Rattle.dn_types.specs.declared.reply.Reply.TheVariants.{Configured, Deleted, Queued, NoTarget, Advanced, Delivered, Status, Exhausted}
use Rattle.dn_types.specs.declared.rule.Rule.{Rule}
use Rattle.dn_types.specs.declared.target.Target.{Target}
use Rattle.dn_types.specs.declared.target.Target.TheVariants.{Pipe as ToPipe, Queue as ToQueue}

-- The pipe or the queue that a command is about.
abbrev pub about : Command → Target
about (Pipe number bw delay limit loss buckets mask) = ToPipe number
about (Queue number pipe weight limit loss buckets mask) = ToQueue number
about (DeletePipe number) = ToPipe number
about (DeleteQueue number) = ToQueue number

-- The key of a packet's flow, by the mask and the pipe of what is in force for its target.
abbrev pub key_by : Target → Packet → Mask → ℕ → FlowKey
key_by target packet mask carrier = record { target = target; pipe = carrier; mask = mask; tuple = kept_by mask packet.tuple }

-- The weight of a pipe's packets is 1, and that of a queue's is the queue's.
abbrev pub IsWeight : Command → ℕ → Type 0
IsWeight (Pipe number bw delay limit loss buckets mask) weight = weight ≡ 1
IsWeight (Queue number pipe own_weight limit loss buckets mask) weight = weight ≡ own_weight
IsWeight _ weight = ⊥

-- A packet, an Advance and a Collect move the clock to the moment that they name, where that is later. A packet and an Advance are
-- told it here, and a Collect with its deliveries.
pub record KeepsTheClock (e : Emulator) (calls : List Call) : Type 0 where
  pub submits : (target : Target) (packet : Packet) (moment : ℕ) → e.clock (Submit target packet moment ∷ calls) ≡ max (e.clock calls) moment
  pub advances : (moment : ℕ) → e.clock (Advance moment ∷ calls) ≡ max (e.clock calls) moment
  pub collects : (moment : ℕ) → e.clock (Collect moment ∷ calls) ≡ max (e.clock calls) moment
  pub configures : (command : Command) → e.clock (Configure command ∷ calls) ≡ e.clock calls
  pub shows : e.clock (Show ∷ calls) ≡ e.clock calls
  pub told : (target : Target) (packet : Packet) (moment : ℕ) → moment_told (e.told calls (Submit target packet moment)) ≡ Some (e.clock (Submit target packet moment ∷ calls))
  pub advanced : (moment : ℕ) → e.told calls (Advance moment) ≡ Advanced (e.clock (Advance moment ∷ calls))

-- A command is told what is in force, and obeyed as it is told. Nothing else changes what is in force.
pub record ObeysCommands (e : Emulator) (calls : List Call) : Type 0 where
  pub told : (command : Command) → IsToldBy (e.in_force calls) command (e.told calls (Configure command))
  pub configured : (command : Command) → e.told calls (Configure command) ≡ Configured → e.in_force (Configure command ∷ calls) (about command) ≡ Some command
  pub deleted : (command : Command) → e.told calls (Configure command) ≡ Deleted → e.in_force (Configure command ∷ calls) (about command) ≡ None
  pub refused : (command : Command) → e.told calls (Configure command) ≢ Configured → e.told calls (Configure command) ≢ Deleted →
      e.in_force (Configure command ∷ calls) (about command) ≡ e.in_force calls (about command)
  pub others : (command : Command) (target : Target) → target ≢ about command → e.in_force (Configure command ∷ calls) target ≡ e.in_force calls target
  pub only : (c : Call) (target : Target) → ((command : Command) → c ≢ Configure command) → e.in_force (c ∷ calls) target ≡ e.in_force calls target

-- A packet to a configured target is of the flow with its key, and is told the flow's number. A key that is new comes last.
pub record KeepsFlows (e : Emulator) (calls : List Call) : Type 0 where
  pub known : (target : Target) (packet : Packet) (moment : ℕ) (command : Command) (mask : Mask) (carrier : ℕ) →
      e.in_force calls target ≡ Some command → IsMaskedBy command mask carrier → Has (e.flows calls) (key_by target packet mask carrier) →
      e.flows (Submit target packet moment ∷ calls) ≡ e.flows calls
  pub new : (target : Target) (packet : Packet) (moment : ℕ) (command : Command) (mask : Mask) (carrier : ℕ) →
      e.in_force calls target ≡ Some command → IsMaskedBy command mask carrier → (Has (e.flows calls) (key_by target packet mask carrier) → ⊥) →
      e.flows (Submit target packet moment ∷ calls) ≡ e.flows calls ++ key_by target packet mask carrier ∷ []
  pub none : (target : Target) (packet : Packet) (moment : ℕ) → e.in_force calls target ≡ None → e.flows (Submit target packet moment ∷ calls) ≡ e.flows calls
  pub stay : (c : Call) → ((target : Target) (packet : Packet) (moment : ℕ) → c ≢ Submit target packet moment) → e.flows (c ∷ calls) ≡ e.flows calls
  pub told : (target : Target) (packet : Packet) (moment : ℕ) (command : Command) (mask : Mask) (carrier flow : ℕ) →
      e.in_force calls target ≡ Some command → IsMaskedBy command mask carrier → flow_told (e.told calls (Submit target packet moment)) ≡ Some flow →
      slice_get (e.flows (Submit target packet moment ∷ calls)) flow ≡ Some (key_by target packet mask carrier)

-- A packet without a target is told so. Any other is lost, refused or queued by the rate and the limit in force, and one that is
-- queued is told how many were before it.
pub record JudgesPackets (r : Readings) (e : Emulator) (calls : List Call) : Type 0 where
  pub no_target : (target : Target) (packet : Packet) (moment : ℕ) → e.in_force calls target ≡ None →
      e.told calls (Submit target packet moment) ≡ NoTarget (e.clock (Submit target packet moment ∷ calls))
  pub judged : (target : Target) (packet : Packet) (moment : ℕ) (command : Command) (rate : ℕ) (most : Limit) (carrier : ℕ) →
      e.in_force calls target ≡ Some command → IsJudgedBy command rate most carrier →
      IsExplained rate most (packet.word % 2 ^ 31)
      (λ flow. map (λ p. p.stamped.len) (r.queue (link_to target flow carrier) flow (e.happened (Advance moment ∷ calls) (link_to target flow carrier))))
      (e.told calls (Submit target packet moment))
  pub numbered : (target : Target) (packet : Packet) (moment at flow number : ℕ) → e.told calls (Submit target packet moment) ≡ Queued at flow number →
      number ≡ count_by is_queued (answers e calls)

-- The clock starts what is due. A packet that is queued joins its link, and a delete empties the queues that it reaches. Nothing
-- else happens.
pub record MovesPackets (r : Readings) (e : Emulator) (calls : List Call) : Type 0 where
  pub settles : (moment : ℕ) (link : Link) →
      Settles r (e.in_force calls) link (e.clock (Advance moment ∷ calls)) (e.happened calls link) (e.happened (Advance moment ∷ calls) link)
  pub collects : (moment : ℕ) (link : Link) → e.happened (Collect moment ∷ calls) link ≡ e.happened (Advance moment ∷ calls) link
  pub shows : (link : Link) → e.happened (Show ∷ calls) link ≡ e.happened calls link
  pub joins : (target : Target) (packet : Packet) (moment at flow number : ℕ) (command : Command) (weight : ℕ) (link : Link) →
      e.told calls (Submit target packet moment) ≡ Queued at flow number → e.in_force calls target ≡ Some command → IsWeight command weight → IsCarriedBy command flow link →
      Joins r (e.in_force calls) link at number flow packet.len weight (e.happened (Advance moment ∷ calls) link) (e.happened (Submit target packet moment ∷ calls) link)
  pub apart : (target : Target) (packet : Packet) (moment at flow number : ℕ) (command : Command) (link other : Link) →
      e.told calls (Submit target packet moment) ≡ Queued at flow number → e.in_force calls target ≡ Some command → IsCarriedBy command flow link → other ≢ link →
      e.happened (Submit target packet moment ∷ calls) other ≡ e.happened (Advance moment ∷ calls) other
  pub drops : (target : Target) (packet : Packet) (moment : ℕ) (link : Link) → is_queued (e.told calls (Submit target packet moment)) ≡ false →
      e.happened (Submit target packet moment ∷ calls) link ≡ e.happened (Advance moment ∷ calls) link
  pub deletes : (command : Command) (link : Link) → e.told calls (Configure command) ≡ Deleted →
      e.happened (Configure command ∷ calls) link ≡ discards command 0 (e.flows calls) (e.happened calls link)
  pub spares : (command : Command) (link : Link) → e.told calls (Configure command) ≢ Deleted → e.happened (Configure command ∷ calls) link ≡ e.happened calls link

-- A Collect is told what is due, and a Show the state of each flow.
pub record TellsWhatHappened (rule : Rule) (r : Readings) (e : Emulator) (calls : List Call) : Type 0 where
  pub gives : (moment : ℕ) → (list : List Delivery) × (e.told calls (Collect moment) ≡ Delivered (e.clock (Collect moment ∷ calls)) list) × IsGiven rule r e calls moment list
  pub states : (list : List FlowStatus) × (e.told calls Show ≡ Status list) × (length list ≡ length (e.flows calls))
      × ((flow : ℕ) (key : FlowKey) → slice_get (e.flows calls) flow ≡ Some key → (s : FlowStatus) × (slice_get list flow ≡ Some s) × IsStateBy r e calls flow key s)

-- Of one call more, after calls that are fewer than the limit.
pub record AnswersOneMore (rule : Rule) (r : Readings) (e : Emulator) (calls : List Call) : Type 0 where
  pub clock : KeepsTheClock e calls
  pub commands : ObeysCommands e calls
  pub flows : KeepsFlows e calls
  pub packets : JudgesPackets r e calls
  pub links : MovesPackets r e calls
  pub tells : TellsWhatHappened rule r e calls

-- The laws: they say what is so at the beginning, after one call more, and from the limit on.
pub record ObeysTheLaws (rule : Rule) (e : Emulator) : Type 0 where
  pub readings : Readings
  pub are_readings : AreReadings rule readings
  pub clock_begins : e.clock [] ≡ 0
  pub force_begins : (target : Target) → e.in_force [] target ≡ None
  pub flows_begin : e.flows [] ≡ []
  pub nothing_happened : (link : Link) → e.happened [] link ≡ []
  pub one_more : (calls : List Call) → length calls < 2 ^ 62 → AnswersOneMore rule readings e calls
  pub limit : (calls : List Call) (c : Call) → 2 ^ 62 ≤ length calls → e.told calls c ≡ Exhausted

-- Any two that obey the laws answer each call the same.
abbrev pub LawsDetermine : Type 0
LawsDetermine = (rule : Rule) (e f : Emulator) → ObeysTheLaws rule e → ObeysTheLaws rule f → (calls : List Call) (c : Call) → e.told calls c ≡ f.told calls c
