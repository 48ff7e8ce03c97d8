-- The laws of room at examples: before the first call, and of an Advance.
use Rattle.dn_laws.proofs.Words.{Advance, CanNeedMemory, FlowKey, HasRoomFor, IsOfFlow, LeavesRoom, Ordered, Packet, StandsAfter, State, Submit, [], arith, refl}
use Rattle.dn_types.specs.declared.target.Target.TheVariants.{Pipe as ToPipe}
use Rattle.dn_laws.proofs.ReservationLawsHold.{changes-have-room, only-makers-lack-memory, room-stays}

nowhere-needs-none : (packet : Packet) → CanNeedMemory [] (Submit (ToPipe 1) packet 0) → ⊥
nowhere-needs-none packet needs = only-makers-lack-memory Ordered [] (Submit (ToPipe 1) packet 0) (omega arith) needs refl

nowhere-has-room : (s : State) (packet : Packet) → StandsAfter Ordered s [] → HasRoomFor (Submit (ToPipe 1) packet 0) s
nowhere-has-room s packet stands = (changes-have-room Ordered s [] stands).packet (ToPipe 1) packet 0 refl

advance-leaves-room : (old new : State) (key : FlowKey) (packet : Packet) → LeavesRoom (Advance 5) old new → IsOfFlow old key (Submit (ToPipe 1) packet 7)
    → HasRoomFor (Submit (ToPipe 1) packet 7) old → HasRoomFor (Submit (ToPipe 1) packet 7) new
advance-leaves-room old new key packet leaves its has = room-stays (Advance 5) old new key (ToPipe 1) packet 7 (λ command e. cc) leaves its (λ none. none) has
