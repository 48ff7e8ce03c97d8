-- What a Collect delivers and what a Show tells of each flow, by what has happened.
use Rattle.std.specs.Prelude.{ℕ, ◌≡◌, ◌≢◌, ◌≤◌, ◌<◌, ◌+◌, ◌⊎◌, ⊤, cond, List, [], ◌∷◌, ◌++◌, map, sum, length, nat_eq}
use Rattle.std.specs.List.{All, count_by}
use Rattle.dn_laws.specs.Explained.{IsDueBy}
use Rattle.dn_laws.specs.Told.{is_queued_of, is_lost_of, is_full_of}
use Rattle.dn_laws.specs.Determined.Emulators.{Emulator, answers, Has, Readings}
use Rattle.dn_types.specs.Trace.{Link, own, shared, Start, Event, started}
use Rattle.dn_types.specs.declared.call.Call.{Call}
use Rattle.dn_types.specs.declared.call.Call.TheVariants.{Collect}
use Rattle.dn_types.specs.declared.delivery.Delivery.{Delivery}
use Rattle.dn_types.specs.declared.flow_key.FlowKey.{FlowKey}
use Rattle.dn_types.specs.declared.flow_status.FlowStatus.{FlowStatus}
use Rattle.dn_types.specs.declared.reply.Reply.{Reply}
use Rattle.dn_types.specs.declared.reply.Reply.TheVariants.{Delivered}
use Rattle.dn_types.specs.declared.rule.Rule.{Rule}
use Rattle.dn_types.specs.declared.target.Target.{Target}
use Rattle.dn_types.specs.declared.target.Target.TheVariants.{Pipe as ToPipe, Queue as ToQueue}

abbrev pub link_to : Target → ℕ → ℕ → Link
link_to (ToPipe number) flow carrier = own carrier flow
link_to (ToQueue number) flow carrier = shared carrier

-- A delivery of a packet that started: it tells its flow and its moments.
pub record IsGivenBy (rule : Rule) (r : Readings) (e : Emulator) (calls : List Call) (d : Delivery) : Type 0 where
  pub link : Link
  pub start : Start
  pub later : List Event
  pub earlier : List Event
  pub happened : e.happened calls link ≡ later ++ started start ∷ earlier
  pub number : d.packet ≡ start.packet.packet
  pub flow : d.flow ≡ start.packet.stamped.flow
  pub moment : d.start ≡ start.moment
  pub due : IsDueBy rule start (r.last_due link earlier) d.due

-- No reply delivers the packet.
abbrev pub GivesNot : ℕ → Reply → Type 0
GivesNot number (Delivered at list) = All (λ d. d.packet ≢ number) list
GivesNot number _ = ⊤

-- By due moment, and where two are equal by packet number.
abbrev pub ComesBefore : Delivery → Delivery → Type 0
ComesBefore d e = (d.due < e.due) ⊎ ((d.due ≡ e.due) × (d.packet < e.packet))

abbrev pub ComeInOrder : List Delivery → Type 0
ComeInOrder [] = ⊤
ComeInOrder (d ∷ list) = ((other : Delivery) → Has list other → ComesBefore d other) × ComeInOrder list

-- What a Collect gives: in order, all that have started, are due by the clock and were not given before, and no others.
pub record IsGiven (rule : Rule) (r : Readings) (e : Emulator) (calls : List Call) (moment : ℕ) (list : List Delivery) : Type 0 where
  pub in_order : ComeInOrder list
  pub are_due : (d : Delivery) → Has list d → IsGivenBy rule r e (Collect moment ∷ calls) d × (d.due ≤ e.clock (Collect moment ∷ calls)) × All (GivesNot d.packet) (answers e calls)
  pub all_due : (d : Delivery) → IsGivenBy rule r e (Collect moment ∷ calls) d → d.due ≤ e.clock (Collect moment ∷ calls) → All (GivesNot d.packet) (answers e calls) → Has list d

-- The starts of a flow.
abbrev pub starts_of : ℕ → List Event → ℕ
starts_of flow [] = 0
starts_of flow (started s ∷ trace) = cond (nat_eq s.packet.stamped.flow flow) 1 0 + starts_of flow trace
starts_of flow (_ ∷ trace) = starts_of flow trace

-- The state of a flow, by what was told and by what happened on its link.
pub record IsStateBy (r : Readings) (e : Emulator) (calls : List Call) (flow : ℕ) (key : FlowKey) (s : FlowStatus) : Type 0 where
  pub own_number : s.flow ≡ flow
  pub own_key : s.key ≡ key
  pub lost : s.lost ≡ count_by (is_lost_of flow) (answers e calls)
  pub full : s.full ≡ count_by (is_full_of flow) (answers e calls)
  pub started : s.started ≡ starts_of flow (e.happened calls (link_to key.target flow key.pipe))
  pub waiting : s.queued ≡ length (r.queue (link_to key.target flow key.pipe) flow (e.happened calls (link_to key.target flow key.pipe)))
  pub bytes : s.bytes ≡ sum (map (λ p. p.stamped.len) (r.queue (link_to key.target flow key.pipe) flow (e.happened calls (link_to key.target flow key.pipe))))
  pub discarded : count_by (is_queued_of flow) (answers e calls) ≡ s.started + s.queued + s.discarded
